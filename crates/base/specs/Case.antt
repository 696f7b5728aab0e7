-- Worked cases: what a definition gives beside what document 01 says it gives.
use Rattle.std.specs.Prelude.{◌≡◌, List, [], ◌∷◌}

-- a case: what is given, and what is settled
pub record Case : Type 1 where
  pub A : Type 0
  pub given : A
  pub settled : A

-- the case that `given` is `settled`
abbrev pub case : {A : Type 0} → A → A → Case
case {A} given settled = record { A = A; given = given; settled = settled }

-- every case of the list holds
abbrev pub Settled : List {1} Case → Type 0
Settled [] = Unit {0}
Settled (c ∷ cs) = (c.given ≡ c.settled) × Settled cs
