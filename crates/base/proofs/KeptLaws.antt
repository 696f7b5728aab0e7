-- What is lent, by the number that a call answers. Assumes nothing.
use Rattle.std.proofs.Common.{◌≡◌, ℕ, false, eqb, ne_eqb, arith}
use Rattle.base.specs.Test.{when◌then◌else◌}
use Rattle.base.specs.declared.refusal.Refusal.{Refusal}
use Rattle.base.specs.Refusal.{refusal_number}
use Rattle.base.proofs.Refusals.{number_not_zero}
use Rattle.base.proofs.Tests.{choices}
use Rattle.base.specs.Kept.{unless_refused}

-- no refusal has the number 0
not_zero_lem : (r : Refusal) → eqb (refusal_number r) 0 ≡ false
not_zero_lem r = ne_eqb _ _ (number_not_zero r)

-- a refusal keeps what was there
pub kept : {A : Type 0} (n : ℕ) (r : Refusal) → n ≡ refusal_number r → (new old : A) → old ≡ unless_refused n new old
unfolding unless_refused
kept n r e new old = grind (arith, choices, not_zero_lem)

-- a call that is taken gives the new value
pub given : {A : Type 0} (new old : A) {x : A} → x ≡ new → x ≡ unless_refused 0 new old
unfolding unless_refused when◌then◌else◌
given new old e = e
