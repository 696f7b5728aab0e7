-- Choice by a test, and several tests taken together: the words that all definitions are written in.
use Rattle.std.specs.Prelude.{ℕ, Bool, true, false, List, [], ◌∷◌}

-- the first where the test holds, else the second
infixr 5 when◌then◌else◌
unfoldable pub when◌then◌else◌ {ℓ} : {A : Type ℓ} → Bool → A → A → A
when true then a else b = a
when false then a else b = b

-- every test of the list holds
unfoldable pub all : List Bool → Bool
unfolding when◌then◌else◌
all [] = true
all (t ∷ ts) = when t then all ts else false

-- some test of the list holds
unfoldable pub any : List Bool → Bool
unfolding when◌then◌else◌
any [] = false
any (t ∷ ts) = when t then true else any ts

-- a test as a bit
abbrev pub bit_of : Bool → ℕ
bit_of true = 1
bit_of false = 0
