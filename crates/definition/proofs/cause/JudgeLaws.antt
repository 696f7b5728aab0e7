-- What an instruction that acts has passed: none of the eight causes holds. Assumes nothing.
use Rattle.std.proofs.Common.{◌≡◌, Bool, true, false, List, [], ◌∷◌, ℕ, Option, Result, Ok, Err, arith}
use Rattle.base.specs.declared.refusal.Refusal.{Refusal}
use Rattle.base.specs.Test.{all}
use Rattle.base.specs.Word.{drop_bit0, sum16}
use Rattle.base.proofs.Tests.{choices}
use Rattle.rows.specs.declared.read.Begun.{Begun}
use Rattle.isa.specs.declared.instruction.Instruction.{Instruction}
use Rattle.isa.specs.declared.read.Decoded.{Decoded}
use Rattle.layout.specs.declared.sections.Layout.{Layout}
use Rattle.layout.specs.declared.access.Right.{Right}
use Rattle.layout.specs.declared.access.Right.TheVariants.{Execute as execute, Read as read, Write as write}
use Rattle.layout.specs.Sections.{inside}
use Rattle.layout.specs.Access.{may}
use Rattle.definition.specs.Registers.{pc}
use Rattle.definition.specs.Judge.{reads, writes, all_may, privileged, is_reti, judge_act, judge_words, judge_second, judge_first, judge}
use Rattle.isa.specs.Words.{finished}
use Rattle.rows.specs.Words.{begun}
use Rattle.definition.specs.Memory.{word_at}

-- two tests do not both hold where one fails
pub first_fails : (t u : Bool) → t ≡ false → all (t ∷ u ∷ []) ≡ false
unfolding all
first_fails t u e = grind (arith, choices)

pub second_fails : (t u : Bool) → u ≡ false → all (t ∷ u ∷ []) ≡ false
unfolding all
second_fails t u e = grind (arith, choices)

-- words that may all be touched, one by one
pub each_may : (L : Layout) (from : ℕ) (right : Right) (a : ℕ) (addresses : List ℕ) → all_may L from right (a ∷ addresses) ≡ true
    → (may L from right (drop_bit0 a) ≡ true) × (all_may L from right addresses ≡ true)
unfolding all_may
each_may L from right a addresses e = grind (arith, choices)

-- RETI while a visit is held
abbrev pub resuming : Bool → Instruction → Bool
resuming held i = all (held ∷ is_reti i ∷ [])

-- unless it returns to a held visit, an instruction may touch what it reads and writes
abbrev pub Touches : Layout → Bool → List ℕ → Instruction → Type 0
Touches L held rs i =
    resuming held i ≡ false → (all_may L (pc rs) read (reads rs i) ≡ true) × (all_may L (pc rs) write (writes rs i) ≡ true)

module _ (L : Layout) (held : Bool) (rs : List ℕ) where
  -- what acts is what is judged, and has passed the causes
  act_same : (i j : Instruction) → judge_act L held rs i ≡ Ok j → i ≡ j
  unfolding judge_act
  act_same i j e = grind (arith, choices)

  act_unprivileged : (i j : Instruction) → judge_act L held rs i ≡ Ok j → inside L (pc rs) ≡ true → privileged i ≡ false
  unfolding judge_act all
  act_unprivileged i j e h = grind (arith, choices)

  act_lawful : (i j : Instruction) → judge_act L held rs i ≡ Ok j → Touches L held rs i
  unfolding judge_act
  act_lawful i j e = grind (arith, choices)

  words_act : (r : Result Decoded Refusal) (i : Instruction) → judge_words L held rs r ≡ Ok i → judge_act L held rs i ≡ Ok i
  unfolding judge_words
  words_act (Err r) i e = cc
  words_act (Ok d) i e = let same = act_same d.instruction i e in cc

module _ (L : Layout) (held : Bool) (rs mem : List ℕ) (previous : ℕ) where
  second_act : (b : Option Begun) (i : Instruction) → judge_second L held rs mem b ≡ Ok i → judge_act L held rs i ≡ Ok i
  unfolding judge_second
  second_act b i e =
      let words = words_act L held rs in
      grind (arith, choices, words (finished b 0) i, words (finished b (word_at mem (sum16 (pc rs) 2))) i)

  -- an instruction that acts may be executed, does not enter the module again, and may do what it does
  module _ (i : Instruction) (e : judge L held rs mem previous ≡ Ok i) where
    passed : judge_act L held rs i ≡ Ok i
    unfolding judge judge_first
    passed = grind (arith, choices, second_act (begun (word_at mem (pc rs))) i)

    pub acts_executable : may L previous execute (pc rs) ≡ true
    unfolding judge
    acts_executable = grind (arith, choices)

    pub acts_unheld : inside L (pc rs) ≡ true → held ≡ false
    unfolding judge all
    acts_unheld h = grind (arith, choices)

    pub acts_unprivileged : inside L (pc rs) ≡ true → privileged i ≡ false
    acts_unprivileged = act_unprivileged L held rs i i passed

    pub acts_touches : Touches L held rs i
    acts_touches = act_lawful L held rs i i passed

    -- RETI writes no memory
    pub acts_writes : all_may L (pc rs) write (writes rs i) ≡ true
    unfolding all_may all
    acts_writes = grind (arith, choices, acts_touches)
