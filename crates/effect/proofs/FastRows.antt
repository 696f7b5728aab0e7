-- What a fast answer promises, and that each row of instruction words keeps it. Assumes nothing.
use Rattle.std.proofs.Common.{◌≡◌, set-set, refl, sym, ◌∙◌, ap, Bool, true, false, not, true≢false, List, set, ℕ, ◌≤◌, ◌<◌, arith, ltb, eqb, Option, None, Some, Ok}
use Rattle.std.proofs.lemmas.Bool.{ltb-false, not-false}
use Rattle.base.specs.Test.{when◌then◌else◌}
use Rattle.base.specs.Word.{drop_bit0}
use Rattle.base.proofs.Tests.{choices, when_true, when_false, choose}
use Rattle.rows.specs.declared.row.Operation.{Operation}
use Rattle.rows.specs.declared.row.Operation.TheVariants.{Add, Sub, Cmp, And}
use Rattle.rows.specs.declared.row.Row.{Row}
use Rattle.rows.specs.declared.row.Row.TheVariants.{Jz as JZ, Nop as NOP, Jmp as JMP, Mov as MOV, Load as LOAD, Store as STORE, Immediate as IMMEDIATE, Compute as COMPUTE}
use Rattle.rows.specs.declared.read.Begun.{Begun}
use Rattle.rows.specs.Words.{found, two_words}
use Rattle.isa.specs.declared.instruction.Operand.TheVariants.{Register, Pointed, Constant}
use Rattle.isa.specs.declared.instruction.Instruction.{Instruction}
use Rattle.isa.specs.declared.instruction.Instruction.TheVariants.{Jz, Nop, Jmp, Mov, Store, Compute}
use Rattle.isa.specs.Words.{decoded, finished}
use Rattle.isa.specs.Cycles.{cycles_of, length_of}
use Rattle.alu.specs.Arithmetic.{computed}
use Rattle.alu.specs.Status.{gie, zero as zero_set}
use Rattle.alu.specs.Laws.{FlagsOnly}
use Rattle.alu.proofs.StatusBits.{flags_only}
use Rattle.layout.specs.declared.sections.Layout.{Layout}
use Rattle.layout.specs.declared.access.Right.TheVariants.{Read as read, Write as write}
use Rattle.layout.specs.Sections.{same_side}
use Rattle.layout.specs.Access.{may}
use Rattle.effect.specs.declared.effect.Effect.{Effect}
use Rattle.definition.specs.Memory.{word_at}
use Rattle.definition.specs.Registers.{register, pc, sr, write as write_register}
use Rattle.definition.specs.Judge.{reads, writes, all_may, privileged, is_reti, judge_act, judge_words, judge_second, judge_first}
use Rattle.definition.specs.Act.{past, registers_after, memory_after}
use Rattle.effect.specs.Effect.{affected, put_if, address_past, second_address, setting_pc, setting_register_in, leading_on, setting_on, computing, branching, moving, jumping, doing_nothing, immediate, loading, constant, storing}
use Rattle.effect.specs.Laws.{jumps}
use Rattle.definition.proofs.cause.JudgeLaws.{second_fails}
use Rattle.effect.proofs.FastSets.{pc_set, compared, moved, stored}

module _ (L : Layout) (held : Bool) (rs mem : List ℕ) where
  -- an instruction acts that is neither barred inside nor RETI
  acting : (i : Instruction) → privileged i ≡ false → is_reti i ≡ false → all_may L (pc rs) read (reads rs i) ≡ true
      → all_may L (pc rs) write (writes rs i) ≡ true → judge_act L held rs i ≡ Ok i
  unfolding judge_act
  acting i p r h k = grind (arith, choices, second_fails)

  -- what is begun acts, and the effect is what it does
  pub record Acting (b : Option Begun) (x y : ℕ) (e : Effect) : Type 0 where
    pub instruction : Instruction
    pub acts : judge_first L held rs mem b ≡ Ok instruction
    pub unbarred : privileged instruction ≡ false
    pub other : is_reti instruction ≡ false
    pub sets : (t : Bool) (device : ℕ) → registers_after t rs device mem instruction ≡ affected e rs
    pub puts : memory_after rs mem instruction ≡ put_if e.puts mem y x
    pub takes : cycles_of instruction ≡ e.cycles
    pub decodes : finished b (word_at mem (second_address (pc rs))) ≡ decoded instruction (length_of instruction)
    pub leads : jumps (sr rs) instruction ≡ false → e.to ≡ address_past (pc rs) instruction
    pub digit : e.number < 16
    pub general : 2 ≡ e.number → ⊥
    pub gie_kept : gie e.status ≡ gie (sr rs)

  -- nothing is promised of what is left to the step
  abbrev pub EffectAgrees : Option Begun → ℕ → ℕ → Option Effect → Type 0
  EffectAgrees b x y None = Unit {0}
  EffectAgrees b x y (Some e) = Acting b x y e

  -- what is fast only where a test fails, or holds
  pub unless : (b : Option Begun) (x y : ℕ) (t : Bool) (q : Option Effect) → (t ≡ false → EffectAgrees b x y q) → EffectAgrees b x y (when t then None else q)
  unfolding when◌then◌else◌
  unless b x y true q p = tt
  unless b x y false q p = p refl

  pub provided : (b : Option Begun) (x y : ℕ) (t : Bool) (q : Option Effect) → (t ≡ true → EffectAgrees b x y q) → EffectAgrees b x y (when t then q else None)
  unfolding when◌then◌else◌
  provided b x y true q p = p refl
  provided b x y false q p = tt

  module _ (s d x y : ℕ) (small : d < 16) where
    -- what is begun with these registers
    abbrev Fine : Row → Option Effect → Type 0
    Fine row q = EffectAgrees (found row s d) x y q

    pub nop_agrees : Fine NOP (doing_nothing (pc rs) (sr rs))
    unfolding judge_first judge_second judge_words two_words finished all_may registers_after memory_after past put_if when◌then◌else◌
    nop_agrees =
        record {
          instruction = Nop;
          acts = acting Nop refl refl refl refl;
          unbarred = refl;
          other = refl;
          sets = λ t device. pc_set rs _;
          puts = refl;
          takes = refl;
          decodes = refl;
          leads = λ e. refl;
          digit = omega arith;
          general = λ e. absurd (omega arith);
          gie_kept = refl;
        }

    pub jmp_agrees : Fine JMP (jumping (pc rs) (sr rs) (register rs s) s)
    unfolding judge_first judge_second judge_words two_words finished all_may registers_after memory_after past put_if write_register when◌then◌else◌
    jmp_agrees =
        record {
          instruction = Jmp s;
          acts = acting (Jmp s) refl refl refl refl;
          unbarred = refl;
          other = refl;
          sets = λ t device. set-set rs 0 _ _ ∙ pc_set rs _;
          puts = refl;
          takes = refl;
          decodes = refl;
          leads = λ e. absurd (true≢false e);
          digit = omega arith;
          general = λ e. absurd (omega arith);
          gie_kept = refl;
        }

    jz_acts : judge_first L held rs mem (found JZ s d) ≡ Ok (Jz s)
    unfolding judge_first judge_second judge_words two_words finished all_may when◌then◌else◌
    jz_acts = acting (Jz s) refl refl refl refl

    jz_decodes : finished (found JZ s d) (word_at mem (second_address (pc rs))) ≡ decoded (Jz s) (length_of (Jz s))
    unfolding finished
    jz_decodes = when_true _ _ _ refl

    jz_jumps : zero_set (sr rs) ≡ true → (t : Bool) (device : ℕ)
        → registers_after t rs device mem (Jz s) ≡ set (set (set rs 0 (drop_bit0 (register rs s))) 0 (drop_bit0 (register rs s))) 2 (sr rs)
    unfolding registers_after past write_register when◌then◌else◌
    jz_jumps h t device = when_true _ _ _ h ∙ (set-set rs 0 _ _ ∙ pc_set rs _)

    jz_passes : zero_set (sr rs) ≡ false → (t : Bool) (device : ℕ)
        → registers_after t rs device mem (Jz s) ≡ set (set (set rs 0 (address_past (pc rs) (Jz s))) 0 (address_past (pc rs) (Jz s))) 2 (sr rs)
    unfolding registers_after past
    jz_passes h t device = when_false _ _ _ h ∙ pc_set rs _

    pub jz_agrees : Fine JZ (branching (pc rs) (sr rs) (register rs s) s)
    unfolding branching memory_after put_if
    jz_agrees =
        choose (Fine JZ) (zero_set (sr rs))
        {a = setting_pc (Jz s) (drop_bit0 (register rs s)) (sr rs) false} {b = leading_on (pc rs) (Jz s) (sr rs) false}
        (λ h. record {
          instruction = Jz s;
          acts = jz_acts;
          unbarred = refl;
          other = refl;
          sets = jz_jumps h;
          puts = sym (when_false _ _ _ refl);
          takes = refl;
          decodes = jz_decodes;
          leads = λ e. absurd (true≢false (sym h ∙ e));
          digit = omega arith;
          general = λ e. absurd (omega arith);
          gie_kept = refl;
        })
        (λ h. record {
          instruction = Jz s;
          acts = jz_acts;
          unbarred = refl;
          other = refl;
          sets = jz_passes h;
          puts = sym (when_false _ _ _ refl);
          takes = refl;
          decodes = jz_decodes;
          leads = λ e. refl;
          digit = omega arith;
          general = λ e. absurd (omega arith);
          gie_kept = refl;
        })

    -- a row whose instruction sets a register above r3
    setting_agrees : (row : Row) (w status : ℕ) (i : Instruction) → judge_first L held rs mem (found row s d) ≡ Ok i
        → finished (found row s d) (word_at mem (second_address (pc rs))) ≡ decoded i (length_of i) → privileged i ≡ false → is_reti i ≡ false
        → (4 ≤ d → (t : Bool) (device : ℕ) → registers_after t rs device mem i ≡ set (set (set rs 0 (address_past (pc rs) i)) d w) 2 status)
        → memory_after rs mem i ≡ mem → gie status ≡ gie (sr rs) → Fine row (setting_on (pc rs) i d w status)
    unfolding setting_register_in put_if
    setting_agrees row w status i a f p r sets m q =
        unless (found row s d) x y (ltb d 4)
        (Some (record { to = address_past (pc rs) i; number = d; word = w; status = status; puts = false; cycles = cycles_of i }))
        (λ h. record {
          instruction = i;
          acts = a;
          unbarred = p;
          other = r;
          sets = sets (ltb-false d 4 h);
          puts = m ∙ sym (when_false _ _ _ refl);
          takes = refl;
          decodes = f;
          leads = λ e. refl;
          digit = small;
          general = λ e. let f = ltb-false d 4 h in absurd (omega arith);
          gie_kept = q;
        })

    pub mov_agrees : Fine MOV (moving (pc rs) (sr rs) (register rs s) s d)
    unfolding judge_first judge_second judge_words two_words finished all_may registers_after memory_after past when◌then◌else◌
    mov_agrees =
        let i : Instruction = Mov (Register s) d in
        setting_agrees MOV _ _ i (acting i refl refl refl refl) refl refl refl (λ h t device. moved rs _ t d _ h) refl refl

    pub load_agrees : Fine LOAD (loading (pc rs) (sr rs) L mem (register rs s) s d)
    unfolding loading judge_first judge_second judge_words two_words finished all_may registers_after memory_after past
    load_agrees =
        let i : Instruction = Mov (Pointed s) d in
        provided (found LOAD s d) x y (may L (pc rs) read (drop_bit0 (register rs s))) (setting_on (pc rs) i d (word_at mem (register rs s)) (sr rs))
        (λ k. setting_agrees LOAD _ _ i
        (when_false _ _ _ refl ∙ ap (judge_words L held rs) (when_true _ _ _ refl) ∙ acting i refl refl (when_true _ _ _ k) refl)
        (when_true _ _ _ refl) refl refl (λ h t device. moved rs _ t d _ h) refl refl)

    pub constant_agrees : Fine IMMEDIATE (constant (pc rs) (sr rs) L mem d)
    unfolding constant judge_first judge_second judge_words two_words finished all_may registers_after memory_after past
    constant_agrees =
        let w : ℕ = word_at mem (second_address (pc rs)) in
        let i : Instruction = Mov (Constant w) d in
        provided (found IMMEDIATE s d) x y (same_side L (pc rs) (second_address (pc rs))) (immediate (pc rs) (sr rs) w d)
        (λ k. setting_agrees IMMEDIATE _ _ i
        (when_true _ _ _ refl ∙ when_true _ _ _ k ∙ ap (judge_words L held rs) (when_true _ _ _ refl) ∙ acting i refl refl refl refl)
        (when_true _ _ _ refl) refl refl (λ h t device. moved rs _ t d _ h) refl refl)

    compute_acts : (o : Operation) → judge_first L held rs mem (found (COMPUTE o) s d) ≡ Ok (Compute o s d)
    unfolding judge_first judge_second judge_words two_words finished all_may when◌then◌else◌
    compute_acts o = acting (Compute o s d) refl refl refl refl

    pub compute_agrees : (o : Operation)
        → Fine (COMPUTE o) (computing (pc rs) (sr rs) o s d (computed o (register rs s) (register rs d)))
    unfolding finished registers_after memory_after past put_if FlagsOnly
    compute_agrees Add =
        setting_agrees (COMPUTE Add) _ _ (Compute Add s d) (compute_acts Add) (when_true _ _ _ refl) refl refl
        (λ h t device. stored rs _ t d _ h _) refl (flags_only (sr rs) _).1
    compute_agrees Sub =
        setting_agrees (COMPUTE Sub) _ _ (Compute Sub s d) (compute_acts Sub) (when_true _ _ _ refl) refl refl
        (λ h t device. stored rs _ t d _ h _) refl (flags_only (sr rs) _).1
    compute_agrees Cmp =
        record {
          instruction = Compute Cmp s d;
          acts = compute_acts Cmp;
          unbarred = refl;
          other = refl;
          sets = λ t device. compared rs _ _;
          puts = sym (when_false _ _ _ refl);
          takes = refl;
          decodes = when_true _ _ _ refl;
          leads = λ e. refl;
          digit = omega arith;
          general = λ e. absurd (omega arith);
          gie_kept = (flags_only (sr rs) _).1;
        }
    compute_agrees And =
        setting_agrees (COMPUTE And) _ _ (Compute And s d) (compute_acts And) (when_true _ _ _ refl) refl refl
        (λ h t device. stored rs _ t d _ h _) refl (flags_only (sr rs) _).1

  -- MOV s 0(d), which puts its source
  pub store_agrees : (s d : ℕ) → EffectAgrees (found STORE s d) (register rs s) (register rs d) (storing (pc rs) (sr rs) L mem (register rs d) s d)
  unfolding storing judge_first judge_second judge_words two_words finished all_may registers_after memory_after past put_if
  store_agrees s d =
      let done : Option Effect = leading_on (pc rs) (Store s d) (sr rs) true in
      let may-put : Bool = may L (pc rs) write (drop_bit0 (register rs d)) in
      let two : Option Effect = when may-put then done else None in
      let wrong : Bool = not (eqb (word_at mem (second_address (pc rs))) 0) in
      unless (found STORE s d) _ _ _ (when wrong then None else two)
      (λ k. unless (found STORE s d) _ _ wrong two
      (λ l. provided (found STORE s d) _ _ may-put done
      (λ h. record {
        instruction = Store s d;
        acts = when_true _ _ _ refl ∙ when_true _ _ _ (not-false _ k) ∙ ap (judge_words L held rs) (when_true _ _ _ (not-false _ l))
            ∙ acting (Store s d) refl refl refl (when_true _ _ _ h);
        unbarred = refl;
        other = refl;
        sets = λ t device. pc_set rs _;
        puts = sym (when_true _ _ _ refl);
        takes = refl;
        decodes = when_true _ _ _ (not-false _ l);
        leads = λ e. refl;
        digit = omega arith;
        general = λ e. absurd (omega arith);
        gie_kept = refl;
      })))
