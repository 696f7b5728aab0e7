-- What is claimed of the fast way: it takes a word only as the table of instruction words does.
use Rattle.std.specs.Prelude.{◌≡◌, Bool, true, false, List, ℕ, ◌/◌, ◌%◌, Some}
use Rattle.isa.specs.declared.instruction.Instruction.{Instruction}
use Rattle.isa.specs.declared.instruction.Instruction.TheVariants.{Hlt, In, Out, Jz, Reti, Nop, Jmp, Mov, Store, Compute, Not}
use Rattle.isa.specs.Words.{decoded, reading}
use Rattle.isa.specs.Cycles.{cycles_of, length_of}
use Rattle.alu.specs.Status.{zero}
use Rattle.layout.specs.declared.sections.Layout.{Layout}
use Rattle.definition.specs.Memory.{word_at}
use Rattle.definition.specs.Registers.{register, pc, sr}
use Rattle.effect.specs.declared.effect.Effect.{Effect}
use Rattle.effect.specs.Effect.{address_past, second_address, fast_effect}

-- with this status the instruction leads elsewhere than past itself
abbrev pub jumps : ℕ → Instruction → Bool
jumps status Hlt = false
jumps status (In d) = false
jumps status (Out s) = false
jumps status (Jz s) = zero status
jumps status Reti = true
jumps status Nop = false
jumps status (Jmp s) = true
jumps status (Mov o d) = false
jumps status (Store s d) = false
jumps status (Compute o s d) = false
jumps status (Not d) = false

-- the table reads an instruction in the words w and v at a; the effect takes its cycles, and leads past it unless it jumps
pub record ByTable (a status w v : ℕ) (e : Effect) : Type 0 where
  pub instruction : Instruction
  pub decodes : reading w v ≡ decoded instruction (length_of instruction)
  pub takes : e.cycles ≡ cycles_of instruction
  pub leads : jumps status instruction ≡ false → e.to ≡ address_past a instruction

-- so wherever the fast way takes a first word, of any registers and bytes
unfoldable pub EffectByTable : Type 0
EffectByTable =
    (L : Layout) (rs mem : List ℕ) (w : ℕ) (e : Effect)
    → fast_effect (pc rs) (sr rs) L mem (register rs (w / 256 % 16)) (register rs (w % 16)) w ≡ Some e
    → ByTable (pc rs) (sr rs) w (word_at mem (second_address (pc rs))) e
