-- An instruction outside is judged, and acts, by what is seen from outside. Assumes nothing.
use Rattle.std.proofs.Common.{◌≡◌, Bool, true, List, [], ◌∷◌, ℕ, arith, Option}
use Rattle.std.proofs.lemmas.Bool.Decides.{nat_tests}
use Rattle.base.specs.Test.{all}
use Rattle.base.specs.Word.{drop_bit0, is_even, sum16}
use Rattle.base.proofs.Tests.{choices}
use Rattle.rows.specs.declared.read.Begun.{Begun}
use Rattle.isa.specs.declared.instruction.Instruction.{Instruction}
use Rattle.layout.specs.declared.access.Right.TheVariants.{Read as read}
use Rattle.layout.specs.Sections.{outside, same_side}
use Rattle.layout.specs.Rules.{accepted}
use Rattle.layout.proofs.SectionLaws.{section_outside, outside_not_inside, same_side_section, same_outside}
use Rattle.layout.proofs.AccessLaws.{elsewhere_touches_outside, outside_executed}
use Rattle.definition.specs.Setting.{Setting}
use Rattle.definition.specs.Memory.{word_at}
use Rattle.definition.specs.Registers.{pc}
use Rattle.definition.specs.Judge.{all_may, judge_second, judge_first, judge}
use Rattle.definition.specs.Act.{memory_after}
use Rattle.definition.specs.Laws.{SameOutside}
use Rattle.definition.proofs.separation.ViewLaws.{word_same, put_same}
use Rattle.definition.proofs.instruction.ActLaws.{SameWords, kept_or_stored}
use Rattle.definition.proofs.cause.JudgeLaws.{each_may}

module _ (S : Setting) (fit : accepted S.layout ≡ true) (rs mem bytes : List ℕ) (s : SameOutside S mem bytes) (o : outside S.layout (pc rs) ≡ true)
  where
    -- a word at an even address outside
    even_word : (a : ℕ) → drop_bit0 a ≡ a → outside S.layout a ≡ true → word_at mem a ≡ word_at bytes a
    even_word a e h = grind (arith, word_same S fit a s)

    -- the words that may be read, and what is stored
    pub read_alike : (addresses : List ℕ) → all_may S.layout (pc rs) read addresses ≡ true → SameWords mem bytes addresses
    read_alike [] e = tt
    read_alike (a ∷ addresses) e =
        let h = elsewhere_touches_outside S.layout (pc rs) (drop_bit0 a) read in
        grind (arith, each_may S.layout (pc rs) read a addresses, h, outside_not_inside S.layout, word_same S fit a s, section_outside S.layout, read_alike addresses)

    pub stored_alike : (i : Instruction) → SameOutside S (memory_after rs mem i) (memory_after rs bytes i)
    stored_alike i =
        kept_or_stored (λ (f : List ℕ → List ℕ). SameOutside S (f mem) (f bytes)) rs i s (λ a w k. put_same S a w s)

    module _ (held : Bool) (e : is_even (pc rs) ≡ true) where
      -- a second word is looked at only where it is outside too
      second_word : same_side S.layout (pc rs) (sum16 (pc rs) 2) ≡ true → word_at mem (sum16 (pc rs) 2) ≡ word_at bytes (sum16 (pc rs) 2)
      second_word h = grind (arith, nat_tests, even_word (sum16 (pc rs) 2), same_outside S.layout, same_side_section S.layout)

      second_alike : (b : Option Begun) → judge_second S.layout held rs mem b ≡ judge_second S.layout held rs bytes b
      unfolding judge_second
      second_alike b = grind (arith, choices, second_word)

      first_alike : (b : Option Begun) → judge_first S.layout held rs mem b ≡ judge_first S.layout held rs bytes b
      unfolding judge_first
      first_alike b = grind (arith, second_alike)

      pub judged_alike : (previous last : ℕ) → judge S.layout held rs mem previous ≡ judge S.layout held rs bytes last
      unfolding judge all
      judged_alike previous last = grind (arith, choices, nat_tests, outside_executed S.layout, outside_not_inside S.layout, first_alike, even_word (pc rs))
