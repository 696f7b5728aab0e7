-- Reset, a plain service and a return from a held visit go alike where they are seen alike. Assumes nothing.
use Rattle.std.proofs.Common.{Option, None, Some, ◌≡◌, refl, Bool, true, false, List, ℕ, arith}
use Rattle.base.proofs.Tests.{choose_both}
use Rattle.layout.specs.Rules.{accepted}
use Rattle.layout.proofs.SectionLaws.{section_outside}
use Rattle.layout.proofs.LayoutLaws.{vector_outside}
use Rattle.definition.specs.Setting.{Setting}
use Rattle.definition.specs.declared.state.Time.{Time}
use Rattle.definition.specs.declared.state.SavedContext.{SavedContext}
use Rattle.definition.specs.declared.state.State.{State}
use Rattle.answers.specs.declared.answer.Cause.{Cause}
use Rattle.answers.specs.declared.answer.Outcome.{Outcome}
use Rattle.answers.specs.declared.answer.Outcome.TheVariants.{Back}
use Rattle.definition.specs.State.{vector, reset_address, is_held}
use Rattle.definition.specs.Interrupt.{gives, reset, plain, padded, interrupted, chained, resumed}
use Rattle.definition.specs.Laws.{SameOutside, SameStep, is_resuming, SeenAlike, alike, resuming}
use Rattle.definition.proofs.separation.ViewLaws.{word_same, put_same}

-- a machine: its registers, time and whether it is halted are seen, its previous address and what it holds are not
abbrev pub machine_of : List ℕ → Time → Bool → ℕ → Option SavedContext → List ℕ → State
machine_of registers time halted previous context saved =
    record { registers = registers; previous = previous; time = time; context = context; saved = saved; halted = halted }

module _ (S : Setting) where
  -- two steps that give the same to see, and the same previous address and outcome
  pub given_alike : {rs saved copy : List ℕ} {t : Time} {b : Bool} {p : ℕ} {v u : Option SavedContext} {o : Outcome} {mem bytes : List ℕ}
      → is_held v ≡ is_held u → SameOutside S mem bytes
      → SameStep S (gives (machine_of rs t b p v saved) mem o) (gives (machine_of rs t b p u copy) bytes o)
  given_alike h s = grind arith

  -- the padded check after a return resumes the module whatever it finds
  pub back_resumes : (m : State) (mem : List ℕ) (d : Option ℕ)
      → is_resuming (interrupted S true Back m mem d).outcome ≡ true
  unfolding interrupted padded
  back_resumes m mem d = grind arith

  module _ (mem bytes : List ℕ) (s : SameOutside S mem bytes) where
    -- a return from a held visit chains, or resumes
    pub resumed_alike : (t : Time) (p q a b : ℕ) (saved copy : List ℕ) (d : Option ℕ)
        → SeenAlike S (resumed S t p a saved mem d) (resumed S t q b copy bytes d)
    unfolding resumed chained
    resumed_alike t p q a b saved copy None = resuming (back_resumes _ mem _) (back_resumes _ bytes _)
    resumed_alike t p q a b saved copy (Some stamp) = alike (given_alike refl s)

    -- the reset vector is outside
    pub reset_alike : accepted S.layout ≡ true → (c : Cause) (m n : State) → m.time ≡ n.time
        → SameStep S (reset S c m mem) (reset S c n bytes)
    unfolding reset reset_address
    reset_alike fit c m n e = grind (arith, word_same S fit vector s, section_outside S.layout vector, vector_outside S.layout vector fit)

    module _ (fit : accepted S.layout ≡ true) (rs : List ℕ) (t : Time) (b : Bool) (p : ℕ) (v u : Option SavedContext) (h : is_held v ≡ is_held u)
        (saved copy : List ℕ) where
      plain_alike : SameStep S (plain S (machine_of rs t b p v saved) mem)
          (plain S (machine_of rs t b p u copy) bytes)
      unfolding plain
      plain_alike =
          choose_both (SameStep S) _ (λ e. given_alike h (put_same S _ _ (put_same S _ _ s))) (λ e. reset_alike fit _ _ _ refl)

      pub interrupted_alike : (o : Outcome) (d : Option ℕ)
          → SameStep S (interrupted S false o (machine_of rs t b p v saved) mem d)
          (interrupted S false o (machine_of rs t b p u copy) bytes d)
      unfolding interrupted
      interrupted_alike o None = given_alike h s
      interrupted_alike o (Some stamp) = plain_alike
