-- The fast answer of any first word keeps its promise. Assumes nothing.
use Rattle.std.proofs.Common.{◌≡◌, subst, Bool, List, ℕ, ◌/◌, ◌%◌, ◌<◌, arith, Option, Some}
use Rattle.rows.specs.declared.row.Row.{Row}
use Rattle.rows.specs.declared.row.Row.TheVariants.{Hlt as HLT, In as IN, Out as OUT, Jz as JZ, Reti as RETI, Nop as NOP, Jmp as JMP, Mov as MOV, Load as LOAD, Store as STORE, Immediate as IMMEDIATE, Compute as COMPUTE, Not as NOT}
use Rattle.rows.specs.declared.read.Begun.{Begun}
use Rattle.rows.specs.Table.{s_digit, d_digit}
use Rattle.rows.specs.Words.{found, begun}
use Rattle.rows.proofs.Rows.{Begins, nothing, row, begun_begins}
use Rattle.layout.specs.declared.sections.Layout.{Layout}
use Rattle.effect.specs.declared.effect.Effect.{Effect}
use Rattle.definition.specs.Registers.{register, pc, sr}
use Rattle.effect.specs.Effect.{effect_of, effect_begun, fast_effect}
use Rattle.effect.proofs.FastRows.{Acting, EffectAgrees, nop_agrees, jmp_agrees, jz_agrees, mov_agrees, load_agrees, constant_agrees, compute_agrees, store_agrees}

module _ (L : Layout) (held : Bool) (rs mem : List ℕ) (w : ℕ) where
  -- the registers of the second and of the last digit
  abbrev x : ℕ
  x = register rs (w / 256 % 16)

  abbrev y : ℕ
  y = register rs (w % 16)

  low : w % 16 < 16
  low = omega arith

  -- a row keeps its promise, with the digits of its word
  by_row : (r : Row) → EffectAgrees L held rs mem (found r (s_digit r w) (d_digit r w)) x y
      (effect_of (pc rs) (sr rs) L mem x y (w / 256 % 16) (w % 16) r)
  by_row MOV = mov_agrees L held rs mem (w / 256 % 16) (w % 16) x y low
  by_row JMP = jmp_agrees L held rs mem (w / 256 % 16) 0 x y (omega arith)
  by_row NOP = nop_agrees L held rs mem 0 0 x y (omega arith)
  by_row IMMEDIATE = constant_agrees L held rs mem 0 (w % 16) x y low
  by_row (COMPUTE o) = compute_agrees L held rs mem (w / 256 % 16) (w % 16) x y low o
  by_row LOAD = load_agrees L held rs mem (w / 256 % 16) (w % 16) x y low
  by_row STORE = store_agrees L held rs mem (w / 256 % 16) (w % 16)
  by_row JZ = jz_agrees L held rs mem (w % 16) 0 x y (omega arith)
  by_row NOT = tt
  by_row IN = tt
  by_row OUT = tt
  by_row RETI = tt
  by_row HLT = tt

  by_begun : (b : Option Begun) → Begins w b
      → EffectAgrees L held rs mem b x y (effect_begun (pc rs) (sr rs) L mem x y (w / 256 % 16) (w % 16) b)
  by_begun b nothing = tt
  by_begun b (row r h) = by_row r

  -- whatever the word
  pub fast_agrees : EffectAgrees L held rs mem (begun w) x y (fast_effect (pc rs) (sr rs) L mem x y w)
  unfolding fast_effect
  fast_agrees = by_begun (begun w) (begun_begins w)

  -- the instruction behind an effect
  pub acting_behind : (e : Effect) → fast_effect (pc rs) (sr rs) L mem (register rs (w / 256 % 16)) (register rs (w % 16)) w ≡ Some e
      → Acting L held rs mem (begun w) (register rs (w / 256 % 16)) (register rs (w % 16)) e
  acting_behind e does = subst (EffectAgrees L held rs mem (begun w) x y) does fast_agrees
