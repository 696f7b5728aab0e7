-- An instruction that acts reads and writes its own side: data inside, outside memory elsewhere. Assumes nothing.
use Rattle.std.proofs.Common.{◌≡◌, true, List, [], ◌∷◌, ℕ, arith, false}
use Rattle.base.specs.Word.{drop_bit0}
use Rattle.layout.specs.declared.sections.Layout.{Layout}
use Rattle.layout.specs.declared.access.Right.{Right}
use Rattle.layout.specs.Sections.{inside}
use Rattle.layout.specs.Access.{touches}
use Rattle.layout.proofs.AccessLaws.{inside_touches_data, elsewhere_touches_outside}
use Rattle.definition.specs.Judge.{all_may}
use Rattle.definition.specs.Laws.{AllIn, TouchesOwnSide}
use Rattle.definition.proofs.cause.JudgeLaws.{each_may, acts_touches}
use Rattle.layout.specs.declared.sections.Section.TheVariants.{Data, Outside}

-- what may be touched lies in data from inside, and outside from elsewhere
module _ (L : Layout) (from : ℕ) (right : Right) (t : touches right ≡ true) where
  in_data : inside L from ≡ true → (addresses : List ℕ) → all_may L from right addresses ≡ true → AllIn L Data addresses
  in_data i [] e = tt
  in_data i (a ∷ addresses) e =
      grind (arith, each_may L from right a addresses, inside_touches_data L from (drop_bit0 a) right, in_data i addresses)

  in_outside : inside L from ≡ false → (addresses : List ℕ) → all_may L from right addresses ≡ true → AllIn L Outside addresses
  in_outside i [] e = tt
  in_outside i (a ∷ addresses) e =
      grind (arith, each_may L from right a addresses, elsewhere_touches_outside L from (drop_bit0 a) right, in_outside i addresses)

pub touches_own_side : TouchesOwnSide
unfolding TouchesOwnSide
touches_own_side L held rs mem previous i e n =
    let t = acts_touches L held rs mem previous i e n in grind (arith, in_data L, in_outside L)
