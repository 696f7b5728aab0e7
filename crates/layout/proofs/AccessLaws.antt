-- The laws of the access table. Assumes nothing.
use Rattle.std.proofs.Common.{ℕ, ◌≡◌, true, false, arith}
use Rattle.std.proofs.lemmas.Bool.Decides.{nat_tests}
use Rattle.base.proofs.Tests.{choices}
use Rattle.layout.specs.declared.sections.Layout.{Layout}
use Rattle.layout.specs.declared.sections.Section.{Section}
use Rattle.layout.specs.declared.access.Right.TheVariants.{Execute}
use Rattle.layout.specs.Sections.{section, outside}
use Rattle.layout.specs.Access.{column_of, may}
use Rattle.layout.specs.Laws.{ElsewhereTouchesOutside, EnteredAtEntry, EntryOpen, InsideTouchesData, WordTouchedWhole}
use Rattle.layout.proofs.LayoutLaws.{word_in_one_section, entry_section}

pub elsewhere_touches_outside : ElsewhereTouchesOutside
unfolding may column_of
elsewhere_touches_outside L from a right i t e = grind (arith, choices)

pub inside_touches_data : InsideTouchesData
unfolding may column_of
inside_touches_data L from a right i t e = grind (arith, choices)

pub entered_at_entry : EnteredAtEntry
unfolding may column_of outside
entered_at_entry L from a i o e = grind (arith, choices, nat_tests)

pub entry_open : EntryOpen
unfolding may column_of
entry_open L from e = grind (arith, choices, entry_section, nat_tests)

pub word_touched_whole : WordTouchedWhole
unfolding may column_of
word_touched_whole L from a right e t = grind (arith, choices, word_in_one_section L a e)

-- what is outside may be executed from everywhere
pub outside_executed : (L : Layout) (from a : ℕ) → outside L a ≡ true → may L from Execute a ≡ true
unfolding may column_of outside
outside_executed L from a o = grind (arith, choices)

-- and data from nowhere
pub data_not_executed : (L : Layout) (from a : ℕ) → section L a ≡ Section.Data → may L from Execute a ≡ false
unfolding may column_of
data_not_executed L from a d = grind (arith, choices)
