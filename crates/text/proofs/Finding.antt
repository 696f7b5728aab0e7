-- The search for a byte is the library's; parts to the end. Assumes nothing.
use Rattle.std.proofs.Common.{ℕ, ◌-◌, ◌≤◌, ◌≡◌, refl, List, [], ◌∷◌, Option, None, Some, eqb, ltb, cond, length, take, drop, length-drop, arith}
use Rattle.std.proofs.lemmas.Bool.Decides.{nat_tests}
use Rattle.std.proofs.Math.Seq.{take-length}
use Rattle.std.specs.List.{position_or_len, list_any}
use Rattle.std.specs.Option.{unwrap_or}
use Rattle.base.specs.Test.{when◌then◌else◌}
use Rattle.base.proofs.Tests.{cases}
use Rattle.text.specs.Text.{find, holds}

-- the byte's index is the first place that passes the test, as the library has it
pub find_is : (s : List ℕ) (b : ℕ) → find s b ≡ position_or_len (λ x. eqb x b) s
unfolding find when◌then◌else◌
find_is [] b = refl
find_is (x ∷ xs) b = cases (eqb x b) (λ e. rw e) (λ e. rw (e, find_is xs b) (omega arith))

find_within : (s : List ℕ) (b : ℕ) → find s b ≤ length s
unfolding find when◌then◌else◌
find_within [] b = omega arith
find_within (x ∷ xs) b = cases (eqb x b) (λ e. rw e (omega arith)) (λ e. rw e (omega (arith, find_within xs b)))

-- the place that `position` tells, or the length
pub found : (s : List ℕ) (b : ℕ) (place : Option ℕ) (r : ℕ) → r ≡ unwrap_or place (length s)
    → place ≡ cond (ltb (position_or_len (λ x. eqb x b) s) (length s)) (Some (position_or_len (λ x. eqb x b) s)) None
    → (r ≡ find s b) × (r ≤ length s)
found s b place r e f =
    let w = find_within s b in
    let k = find_is s b in
    grind (arith, nat_tests)

-- a byte stands in a text where some byte of it is that one
pub holds_any : (s : List ℕ) (b : ℕ) → holds s b ≡ list_any (λ x. eqb x b) s
unfolding find when◌then◌else◌
holds_any [] b = refl
holds_any (x ∷ xs) b = cases (eqb x b) (λ e. rw e (grind (arith, nat_tests))) (λ e. rw e (grind (arith, nat_tests, holds_any xs b)))
