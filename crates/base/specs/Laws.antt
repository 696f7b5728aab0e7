-- What is claimed of tests in an order.
use Rattle.std.specs.Prelude.{◌≡◌, true, false, List, ◌∷◌, ◌++◌, Err}
use Rattle.base.specs.Test.{all}
use Rattle.base.specs.FirstFailure.{Test, holds_of}
use Rattle.base.specs.Verdict.{verdict, unrefused}
use Rattle.base.specs.declared.refusal.Refusal.{Refusal}

-- a call is refused by the first test that fails: those before it hold, and those after it do not matter
unfoldable pub FirstFailureTold : Type 0
FirstFailureTold =
    (before : List (Test Refusal)) (t : Test Refusal) (after : List (Test Refusal)) → all (holds_of before) ≡ true → t.holds ≡ false
    → verdict (before ++ (t ∷ after)) ≡ Err t.failure

-- a call is taken where every test holds
unfoldable pub TakenWhereAllHold : Type 0
TakenWhereAllHold = (tests : List (Test Refusal)) → all (holds_of tests) ≡ true → verdict tests ≡ unrefused
