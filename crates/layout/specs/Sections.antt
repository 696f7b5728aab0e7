-- The sections of a layout: which addresses are code, which are data, and which are neither.
use Rattle.std.specs.Prelude.{ℕ, Bool, true, false, [], ◌∷◌, leb, ltb}
use Rattle.base.specs.Test.{when◌then◌else◌, all}
use Rattle.layout.specs.declared.sections.Span.{Span}
use Rattle.layout.specs.declared.sections.Layout.{Layout}
use Rattle.layout.specs.declared.sections.Section.{Section}
use Rattle.layout.specs.declared.sections.Section.TheVariants.{Outside, Code, Data}

-- the address is one of a section's; the end is exclusive
unfoldable pub within : Span → ℕ → Bool
within s a = all (leb s.start a ∷ ltb a s.end ∷ [])

-- the section that an address lies in
unfoldable pub section : Layout → ℕ → Section
section L a = when within L.code a then Code else when within L.«data» a then Data else Outside

-- the entry is code start
abbrev pub entry : Layout → ℕ
entry L = L.code.start

-- the section is code
abbrev pub is_code : Section → Bool
is_code Outside = false
is_code Code = true
is_code Data = false

-- the section is neither code nor data
abbrev pub is_outside : Section → Bool
is_outside Outside = true
is_outside Code = false
is_outside Data = false

-- the two are one of code, data, outside
abbrev pub same_section : Section → Section → Bool
same_section Outside Outside = true
same_section Outside Code = false
same_section Outside Data = false
same_section Code Outside = false
same_section Code Code = true
same_section Code Data = false
same_section Data Outside = false
same_section Data Code = false
same_section Data Data = true

-- "inside" means in the code section
unfoldable pub inside : Layout → ℕ → Bool
inside L a = is_code (section L a)

-- "outside" is all but code and data
unfoldable pub outside : Layout → ℕ → Bool
outside L a = is_outside (section L a)

-- both addresses are in one of code, data, outside
unfoldable pub same_side : Layout → ℕ → ℕ → Bool
same_side L a b = same_section (section L a) (section L b)
