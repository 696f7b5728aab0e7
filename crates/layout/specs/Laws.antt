-- What holds of every layout: the statements of the laws.
use Rattle.std.specs.Prelude.{ℕ, ◌+◌, ◌≤◌, ◌≡◌, true, false}
use Rattle.base.specs.Word.{drop_bit0}
use Rattle.layout.specs.declared.sections.Span.{Span}
use Rattle.layout.specs.declared.sections.Layout.{Layout}
use Rattle.layout.specs.declared.sections.Section.TheVariants.{Outside, Data}
use Rattle.layout.specs.declared.access.Right.{Right}
use Rattle.layout.specs.declared.access.Right.TheVariants.{Execute}
use Rattle.layout.specs.Sections.{within, section, entry, inside, outside}
use Rattle.layout.specs.Rules.{filled, apart, accepted}
use Rattle.layout.specs.Access.{touches, may}

-- the two bytes of a word lie in one section
abbrev pub WordInOneSection : Type 0
WordInOneSection = (L : Layout) (a : ℕ) → accepted L ≡ true → section L (drop_bit0 a + 1) ≡ section L (drop_bit0 a)

-- FFFE, FFFF and all above lie in no section
abbrev pub VectorOutside : Type 0
VectorOutside = (L : Layout) (a : ℕ) → accepted L ≡ true → 0xFFFE ≤ a → section L a ≡ Outside

-- no address is in both sections
abbrev pub SectionsApart : Type 0
SectionsApart = (L : Layout) (a : ℕ) → accepted L ≡ true → within L.code a ≡ true → within L.«data» a ≡ false

-- two sections that overlap have an address in common
abbrev pub OverlapMeets : Type 0
OverlapMeets =
    (s t : Span) → filled s ≡ true → filled t ≡ true → apart s t ≡ false
    → (a : ℕ) × (within s a ≡ true) × (within t a ≡ true)

-- the service address is outside
abbrev pub ServiceOutside : Type 0
ServiceOutside = (L : Layout) → accepted L ≡ true → section L L.service ≡ Outside

-- an instruction that is not inside may read and write no section
abbrev pub ElsewhereTouchesOutside : Type 0
ElsewhereTouchesOutside =
    (L : Layout) (from a : ℕ) (right : Right) → inside L from ≡ false → touches right ≡ true → may L from right a ≡ true
    → section L a ≡ Outside

-- from elsewhere nothing of a section may be executed but the entry
abbrev pub EnteredAtEntry : Type 0
EnteredAtEntry =
    (L : Layout) (from a : ℕ) → inside L from ≡ false → outside L a ≡ false → may L from Execute a ≡ true
    → a ≡ entry L

-- the entry may be executed from everywhere
abbrev pub EntryOpen : Type 0
EntryOpen = (L : Layout) (from : ℕ) → accepted L ≡ true → may L from Execute (entry L) ≡ true

-- an instruction inside may read and write only data
abbrev pub InsideTouchesData : Type 0
InsideTouchesData =
    (L : Layout) (from a : ℕ) (right : Right) → inside L from ≡ true → touches right ≡ true → may L from right a ≡ true
    → section L a ≡ Data

-- a word may be read or written whole or not at all
abbrev pub WordTouchedWhole : Type 0
WordTouchedWhole =
    (L : Layout) (from a : ℕ) (right : Right) → accepted L ≡ true → touches right ≡ true
    → may L from right (drop_bit0 a + 1) ≡ may L from right (drop_bit0 a)
