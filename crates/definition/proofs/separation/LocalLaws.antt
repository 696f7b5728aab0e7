-- A step that begins outside is decided by what is seen from outside, or resumes the held module. Assumes nothing.
use Rattle.std.proofs.Common.{Option, None, Result, Ok, Err, Some, ◌≡◌, refl, sym, ◌∙◌, Bool, true, false, true≢false, List, ℕ}
use Rattle.answers.specs.declared.answer.Cause.{Cause}
use Rattle.base.specs.Test.{when◌then◌else◌}
use Rattle.base.specs.Word.{is_even}
use Rattle.base.proofs.Tests.{each, choose_both}
use Rattle.isa.specs.declared.instruction.Instruction.{Instruction}
use Rattle.layout.specs.Sections.{inside, outside}
use Rattle.layout.specs.Rules.{accepted}
use Rattle.layout.proofs.SectionLaws.{outside_not_inside}
use Rattle.definition.specs.Setting.{Setting}
use Rattle.definition.specs.declared.state.Time.{Time}
use Rattle.definition.specs.declared.state.SavedContext.{SavedContext}
use Rattle.definition.specs.declared.state.State.{State}
use Rattle.answers.specs.declared.answer.Outcome.TheVariants.{Ran}
use Rattle.definition.specs.Registers.{pc}
use Rattle.definition.specs.Time.{device_word}
use Rattle.definition.specs.State.{is_held, framed}
use Rattle.definition.specs.Judge.{judge}
use Rattle.definition.specs.Interrupt.{due}
use Rattle.definition.specs.Step.{executed, ordinary, performed, step_judged, step}
use Rattle.definition.specs.Laws.{OutsideLocal, SameOutside, SameStep, SeenAlike, alike}
use Rattle.definition.proofs.cause.JudgeLaws.{first_fails, second_fails, resuming, acts_touches}
use Rattle.definition.proofs.instruction.ActLaws.{registers_same}
use Rattle.definition.proofs.separation.JudgedAlike.{read_alike, stored_alike, judged_alike}
use Rattle.definition.proofs.separation.ServedAlike.{machine_of, given_alike, resumed_alike, reset_alike, interrupted_alike}

module _ (S : Setting) (fit : accepted S.layout ≡ true) (rs : List ℕ) (t : Time) (mem bytes : List ℕ) (s : SameOutside S mem bytes)
    (o : outside S.layout (pc rs) ≡ true) (p q : ℕ) (saved copy : List ℕ) where
  abbrev here : Option SavedContext → State
  here v = machine_of rs t false p v saved

  abbrev there : Option SavedContext → State
  there u = machine_of rs t false q u copy

  ordinary_alike : (v u : Option SavedContext) → is_held v ≡ is_held u → (i : Instruction) → judge S.layout (is_held v) rs mem p ≡ Ok i
      → resuming (is_held v) i ≡ false → SameStep S (ordinary S (here v) mem i) (ordinary S (there u) bytes i)
  unfolding ordinary executed due
  ordinary_alike v u h i e n =
      let k = read_alike S fit rs mem bytes s o _ (acts_touches S.layout _ rs mem p i e n).0 in
      let m = stored_alike S fit rs mem bytes s o i in
      rw (registers_same (inside S.layout (pc rs)) rs (device_word S t) mem bytes i k, outside_not_inside S.layout (pc rs) o)
      (choose_both (SameStep S) _ (λ f. given_alike S h m)
      (λ f. interrupted_alike S _ _ m fit _ _ _ _ v u h _ _ Ran _))

  performed_alike : (v u : Option SavedContext) → is_held v ≡ is_held u → (i : Instruction) → judge S.layout (is_held v) rs mem p ≡ Ok i
      → SeenAlike S (performed S (here v) mem v i) (performed S (there u) bytes u i)
  unfolding performed
  performed_alike None None h i e = alike (ordinary_alike None None h i e (first_fails _ _ refl))
  performed_alike None (Some _) h i e = absurd (true≢false (sym h))
  performed_alike (Some _) None h i e = absurd (true≢false h)
  performed_alike (Some _) (Some _) h i e =
      choose_both (SeenAlike S) _ (λ r. resumed_alike S mem bytes s _ _ _ _ _ saved copy _)
      (λ r. alike (ordinary_alike _ _ h i e (second_fails _ _ r)))

  judged_step_alike : (v u : Option SavedContext) → is_held v ≡ is_held u → (j : Result Instruction Cause) → judge S.layout (is_held v) rs mem p ≡ j
      → SeenAlike S (step_judged S (here v) mem j) (step_judged S (there u) bytes j)
  unfolding step_judged
  judged_step_alike v u h (Err c) e = alike (reset_alike S mem bytes s fit c _ _ refl)
  judged_step_alike v u h (Ok i) e = performed_alike v u h i e

  step_alike : (v u : Option SavedContext) → is_held v ≡ is_held u → is_even (pc rs) ≡ true
      → SeenAlike S (step S (here v) mem) (step S (there u) bytes)
  unfolding step when◌then◌else◌
  step_alike v u h e =
      rw (← h, ← judged_alike S fit rs mem bytes s o (is_held v) e p q) (judged_step_alike v u h _ refl)

-- two machines are equal where what is seen of them is, and the rest is one
seen_equal : {rs registers : List ℕ} {t time : Time} {b halted : Bool} (p : ℕ) (v : Option SavedContext) (saved : List ℕ)
    → rs ≡ registers → t ≡ time → b ≡ halted → machine_of rs t b p v saved ≡ machine_of registers time halted p v saved
seen_equal p v saved e f g = cc

pub outside_local : OutsideLocal
unfolding OutsideLocal framed
outside_local S w v fit f g r s o =
    let m : w.state ≡ machine_of _ _ false _ _ _ = seen_equal _ _ _ refl refl r in
    let n : v.state ≡ machine_of _ _ false _ _ _ = seen_equal _ _ _ (sym s.registers) (sym s.time) (sym s.halted ∙ r) in
    rw (m, n) (step_alike S fit _ _ _ _ s.memory o _ _ _ _ _ _ s.held (each _ (each _ f).0).0)
