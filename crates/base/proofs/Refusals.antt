-- What holds of every refusal. Assumes nothing.
use Rattle.std.proofs.Common.{◌≡◌, arith}
use Rattle.base.specs.declared.refusal.Refusal.{Refusal}
use Rattle.base.specs.Refusal.{refusal_number}

-- 0 is no refusal's number
pub number_not_zero : (r : Refusal) → refusal_number r ≡ 0 → ⊥
number_not_zero r e = grind arith
