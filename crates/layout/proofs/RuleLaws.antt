-- What an accepted layout keeps. Assumes nothing.
use Rattle.std.proofs.Common.{arith, ◌%◌, ◌≡◌, true}
use Rattle.std.proofs.lemmas.Bool.Decides.{nat_tests}
use Rattle.base.specs.Test.{all}
use Rattle.base.specs.FirstFailure.{first_failure}
use Rattle.base.proofs.Tests.{choices}
use Rattle.layout.specs.declared.sections.Layout.{Layout}
use Rattle.layout.specs.Sections.{outside}
use Rattle.layout.specs.Rules.{even_address, apart, all_even, all_filled, layout_fault, accepted}
use Rattle.layout.proofs.SpanLaws.{Proper, proper}

-- the rules, one by one
pub record Accepted (L : Layout) : Type 0 where
  pub code_proper : Proper L.code
  pub data_proper : Proper L.«data»
  pub sections_apart : apart L.code L.«data» ≡ true
  pub service_even : L.service % 2 ≡ 0
  pub service_outside : outside L L.service ≡ true

pub accepted_rules : (L : Layout) → accepted L ≡ true → Accepted L
unfolding accepted layout_fault all_even all_filled even_address all first_failure
accepted_rules L e =
    record {
      code_proper = proper L.code (grind (arith, choices)) (grind (arith, choices));
      data_proper = proper L.«data» (grind (arith, choices)) (grind (arith, choices));
      sections_apart = grind (arith, choices);
      service_even = grind (arith, choices, nat_tests);
      service_outside = grind (arith, choices);
    }
