-- Tests that are true or false, taken apart and put together. Assumes nothing.
use Rattle.std.proofs.Common.{◌≡◌, Bool, true, false, List, [], ◌∷◌, ◌++◌, refl, arith}
use Rattle.base.specs.Test.{when◌then◌else◌, all}
use Rattle.base.specs.FirstFailure.{Test, first_failure, holds_of}

-- a Bool is one of two, with the equation
pub cases {ℓ} : {A : Type ℓ} (b : Bool) → (b ≡ true → A) → (b ≡ false → A) → A
cases true f g = f refl
cases false f g = g refl

-- a choice whose test is known
pub when_true : {A : Type 0} (t : Bool) (a b : A) → t ≡ true → (when t then a else b) ≡ a
unfolding when◌then◌else◌
when_true t a b h = rw h

pub when_false : {A : Type 0} (t : Bool) (a b : A) → t ≡ false → (when t then a else b) ≡ b
unfolding when◌then◌else◌
when_false t a b h = rw h

-- both at once, for `using(base::proofs::Tests::choices)` on a function
pub ruleset choices = (when_true, when_false)

-- the tests of a list hold, one by one
abbrev pub Each : List Bool → Type 0
Each [] = Unit {0}
Each (t ∷ ts) = (t ≡ true) × Each ts

pub each : (ts : List Bool) → all ts ≡ true → Each ts
unfolding all
each [] e = tt
each (t ∷ ts) e = grind (arith, choices, each ts)

pub every : (ts : List Bool) → Each ts → all ts ≡ true
unfolding all
every [] e = refl
every (t ∷ ts) e = grind (arith, choices, every ts)

-- a choice between true and false is its test
pub when_id : (t : Bool) → (when t then true else false) ≡ t
when_id t = grind (arith, choices)

-- a property of the branch that is taken, given what the test says
pub choose : {A : Type 0} (P : A → Type 0) (t : Bool) {a b : A} → (t ≡ true → P a) → (t ≡ false → P b) → P (when t then a else b)
unfolding when◌then◌else◌
choose P true p q = p refl
choose P false p q = q refl

-- two choices by one test are related where both branches are
pub choose_both : {A B : Type 0} (R : A → B → Type 0) (t : Bool) {a c : A} {b d : B} → (t ≡ true → R a b) → (t ≡ false → R c d)
    → R (when t then a else c) (when t then b else d)
unfolding when◌then◌else◌
choose_both R true p q = p refl
choose_both R false p q = q refl

-- what a test `!f()` of the code says of the test that `f` answers
pub fails : {r t : Bool} → r ≡ t → r ≡ false → t ≡ false
fails e h = cc

pub holds : {r t : Bool} → r ≡ t → r ≡ true → t ≡ true
holds e h = cc

-- ---- tests in an order

-- where no test of a list fails, each holds
pub none_fails : {A B : Type 0} (passed : B) (failed : A → B) → ((a : A) → failed a ≡ passed → ⊥) → (ts : List (Test A))
    → first_failure passed failed ts ≡ passed → Each (holds_of ts)
unfolding first_failure
none_fails passed failed apart [] e = tt
none_fails passed failed apart (t ∷ ts) e = grind (arith, choices, apart, none_fails passed failed apart ts)

-- the first test that fails is told, whatever stands behind it
pub first_fails : {A B : Type 0} (passed : B) (failed : A → B) (before : List (Test A)) (t : Test A) (after : List (Test A))
    → all (holds_of before) ≡ true → t.holds ≡ false → first_failure passed failed (before ++ (t ∷ after)) ≡ failed t.failure
unfolding first_failure all
first_fails passed failed [] t after h f = grind (arith, choices)
first_fails passed failed (u ∷ before) t after h f = grind (arith, choices, first_fails passed failed before t after)

-- where every test holds, none is told
pub all_pass : {A B : Type 0} (passed : B) (failed : A → B) (ts : List (Test A)) → all (holds_of ts) ≡ true
    → first_failure passed failed ts ≡ passed
unfolding first_failure all
all_pass passed failed [] h = refl
all_pass passed failed (t ∷ ts) h = grind (arith, choices, all_pass passed failed ts)
