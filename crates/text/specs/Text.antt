-- Parts of a text: what stands before the first byte of a kind, and what after it.
use Rattle.std.specs.Prelude.{ℕ, suc, ◌+◌, Bool, List, [], ◌∷◌, eqb, ltb, length, take, drop}
use Rattle.base.specs.Test.{when◌then◌else◌}

-- the tab, which parts fields, and the newline, which ends a line
abbrev pub tab : ℕ
tab = 9

abbrev pub newline : ℕ
newline = 10

-- the index of the first byte b, the length where there is none
unfoldable pub find : List ℕ → ℕ → ℕ
find [] b = 0
find (x ∷ xs) b = when eqb x b then 0 else suc (find xs b)

-- the byte stands in it
abbrev pub holds : List ℕ → ℕ → Bool
holds s b = ltb (find s b) (length s)

-- what stands before the first b
abbrev pub head : List ℕ → ℕ → List ℕ
head s b = take (find s b) s

-- what stands after it
abbrev pub rest : List ℕ → ℕ → List ℕ
rest s b = drop (find s b + 1) s
