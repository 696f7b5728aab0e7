-- The laws of the sections of a layout. Assumes nothing.
use Rattle.std.proofs.Common.{◌≡◌, true, arith}
use Rattle.std.proofs.lemmas.Bool.Decides.{nat_tests}
use Rattle.base.specs.Test.{all, any}
use Rattle.base.proofs.Tests.{choices}
use Rattle.layout.specs.declared.sections.Layout.{Layout}
use Rattle.layout.specs.declared.sections.Section.TheVariants.{Code}
use Rattle.layout.specs.Sections.{within, section, outside, entry}
use Rattle.layout.specs.Rules.{apart, accepted}
use Rattle.layout.specs.Laws.{WordInOneSection, VectorOutside, SectionsApart, ServiceOutside}
use Rattle.layout.proofs.SectionLaws.{same_section_lem}
use Rattle.layout.proofs.RuleLaws.{accepted_rules}

pub word_in_one_section : WordInOneSection
unfolding within all
word_in_one_section L a e =
    let r = accepted_rules L e in
    same_section_lem L _ _ (grind (arith, choices, nat_tests)) (grind (arith, choices, nat_tests))

pub vector_outside : VectorOutside
unfolding section within all
vector_outside L a e h = let r = accepted_rules L e in grind (arith, choices, nat_tests)

pub sections_apart : SectionsApart
unfolding within apart all any
sections_apart L a e h = let r = accepted_rules L e in grind (arith, choices, nat_tests)

pub service_outside : ServiceOutside
unfolding outside
service_outside L e = let r = accepted_rules L e in grind arith

-- the entry is inside
pub entry_section : (L : Layout) → accepted L ≡ true → section L (entry L) ≡ Code
unfolding section within all
entry_section L e = let r = accepted_rules L e in grind (arith, choices, nat_tests)
