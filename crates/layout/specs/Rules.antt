-- The rules of a layout, and the first one that it breaks.
use Rattle.std.specs.Prelude.{ℕ, Bool, Option, Some, None, is_none, List, [], ◌∷◌, leb, ltb}
use Rattle.base.specs.Test.{all, any}
use Rattle.base.specs.FirstFailure.{Test, test, first_failure}
use Rattle.base.specs.Limits.{memory_bytes}
use Rattle.base.specs.Word.{is_even}
use Rattle.layout.specs.declared.sections.Span.{Span}
use Rattle.layout.specs.declared.sections.Layout.{Layout}
use Rattle.layout.specs.declared.rules.Rule.{Rule}
use Rattle.layout.specs.declared.rules.Rule.TheVariants.{Odd, Empty, Overlap, Service}
use Rattle.layout.specs.Sections.{outside}

-- an even 16-bit address; a number of a definition has no width of its own
unfoldable pub even_address : ℕ → Bool
even_address a = all (ltb a memory_bytes ∷ is_even a ∷ [])

-- a section's start and end are even addresses
unfoldable pub even_span : Span → Bool
even_span s = all (even_address s.start ∷ even_address s.end ∷ [])

-- a section's start is below its end
abbrev pub filled : Span → Bool
filled s = ltb s.start s.end

-- two sections do not overlap
unfoldable pub apart : Span → Span → Bool
apart s t = any (leb s.end t.start ∷ leb t.end s.start ∷ [])

-- all five are even addresses
unfoldable pub all_even : Layout → Bool
all_even L = all (even_span L.code ∷ even_span L.«data» ∷ even_address L.service ∷ [])

-- each start is below its end
unfoldable pub all_filled : Layout → Bool
all_filled L = all (filled L.code ∷ filled L.«data» ∷ [])

-- the rules in document 01's order
abbrev pub rules : Layout → List (Test Rule)
rules L =
    test Odd (all_even L) ∷ test Empty (all_filled L) ∷ test Overlap (apart L.code L.«data»)
    ∷ test Service (outside L L.service) ∷ []

-- the first rule that a layout breaks, if any
unfoldable pub layout_fault : Layout → Option Rule
layout_fault L = first_failure None Some (rules L)

-- a layout that breaks no rule is accepted
unfoldable pub accepted : Layout → Bool
accepted L = is_none (layout_fault L)
