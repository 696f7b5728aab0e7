-- What is claimed of the table.
use Rattle.std.specs.Prelude.{◌≡◌, true, ℕ, List}
use Rattle.std.specs.List.{Contains}
use Rattle.rows.specs.declared.row.Row.{Row}
use Rattle.rows.specs.Words.{has_word, begun_in, begun}

-- no first word is in two rows, so reading has no order in it
unfoldable pub OneRow : Type 0
OneRow = (r q : Row) (w : ℕ) → has_word r w ≡ true → has_word q w ≡ true → r ≡ q

-- in whatever order the rows are looked at, each at least once, a first word begins the same
unfoldable pub AnyOrder : Type 0
AnyOrder = (order : List Row) → ((r : Row) → Contains order r) → (w : ℕ) → begun_in order w ≡ begun w
