-- Tests in an order and the first that fails: the rules of a layout and the refusals of a call are such lists.
use Rattle.std.specs.Prelude.{Bool, List, [], ◌∷◌}
use Rattle.base.specs.Test.{when◌then◌else◌}

-- a test, and what its failure tells
pub record Test (A : Type 0) : Type 0 where
  pub failure : A
  pub holds : Bool

-- a test by what its failure tells and whether it holds
abbrev pub test : {A : Type 0} → A → Bool → Test A
test f h = record { failure = f; holds = h }

-- the first test of a list that fails, in an answer's own terms: what it is where none fails, and where one does
unfoldable pub first_failure : {A B : Type 0} → B → (A → B) → List (Test A) → B
first_failure passed failed [] = passed
first_failure passed failed (t ∷ tests) = when t.holds then first_failure passed failed tests else failed t.failure

-- whether each test of a list holds
abbrev pub holds_of : {A : Type 0} → List (Test A) → List Bool
holds_of [] = []
holds_of (t ∷ tests) = t.holds ∷ holds_of tests
