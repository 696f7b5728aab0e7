-- The section that an address lies in, by its tests. Assumes nothing.
use Rattle.std.proofs.Common.{ℕ, ◌≡◌, true, false, arith}
use Rattle.layout.specs.declared.sections.Layout.{Layout}
use Rattle.layout.specs.declared.sections.Section.TheVariants.{Outside, Code, Data}
use Rattle.layout.specs.Sections.{within, section, inside, outside, same_side}

module _ (L : Layout) (a : ℕ) where
  -- in code is inside
  pub section_inside : section L a ≡ Code → inside L a ≡ true
  unfolding inside
  section_inside e = grind arith

  -- in neither section is outside
  pub section_outside : section L a ≡ Outside → outside L a ≡ true
  unfolding outside
  section_outside e = grind arith

  -- nothing is both
  pub outside_not_inside : outside L a ≡ true → inside L a ≡ false
  unfolding inside outside
  outside_not_inside e = grind arith

  pub inside_not_outside : inside L a ≡ true → outside L a ≡ false
  unfolding inside outside
  inside_not_outside e = grind arith

  -- data is not outside
  pub data_not_outside : section L a ≡ Data → outside L a ≡ false
  unfolding outside
  data_not_outside e = grind arith

module _ (L : Layout) (a b : ℕ) where
  -- two addresses are on one side where they are in one section
  pub same_side_section : same_side L a b ≡ true → section L a ≡ section L b
  unfolding same_side
  same_side_section e = grind arith

  -- in one section both are outside or neither is
  pub same_outside : section L a ≡ section L b → outside L a ≡ outside L b
  unfolding outside
  same_outside e = grind arith

  -- addresses that no section parts are in one section
  pub same_section_lem : within L.code a ≡ within L.code b → within L.«data» a ≡ within L.«data» b → section L a ≡ section L b
  unfolding section
  same_section_lem e f = grind arith
