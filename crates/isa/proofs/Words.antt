-- Reading and writing undo one another, and reading looks at no second word beyond the length. Assumes nothing.
use Rattle.std.proofs.Common.{◌≡◌, true, ℕ, arith, Option, Ok}
use Rattle.base.specs.Test.{when◌then◌else◌, all}
use Rattle.std.proofs.lemmas.Bool.Decides.{nat_tests}
use Rattle.base.proofs.Tests.{choices}
use Rattle.rows.specs.declared.row.Row.{Row}
use Rattle.rows.specs.declared.row.Encoding.{Encoding}
use Rattle.rows.specs.declared.read.Begun.{Begun}
use Rattle.rows.specs.Table.{format_of, first_word, s_digit, d_digit}
use Rattle.rows.specs.Words.{has_word, found, begun, decodes, encodable, written, writing_refusal}
use Rattle.rows.proofs.Rows.{has, Begins, nothing, row, begun_begins, begun_row}
use Rattle.isa.specs.declared.instruction.Instruction.{Instruction}
use Rattle.isa.specs.Encoding.{encoding_of}
use Rattle.isa.specs.Words.{decoded, finished, reading, reading_refusal, writing}
use Rattle.isa.specs.Laws.{first_words, ReadThenWritten, WrittenThenRead, SecondUnread}

-- what is read in a row is written as the words that it was read from
row_written : (r : Row) (w v : ℕ) (i : Instruction) (n : ℕ) → has_word r w ≡ true → finished (found r (s_digit r w) (d_digit r w)) v ≡ decoded i n
    → writing i ≡ Ok (first_words n w v)
unfolding has_word finished written encodable first_words all
row_written r w v i n h e = grind (arith, choices, nat_tests)

pub read_then_written : ReadThenWritten
unfolding ReadThenWritten reading finished
read_then_written w v i n e = go (begun w) (begun_begins w) e
  where
    go : (b : Option Begun) → Begins w b → finished b v ≡ decoded i n → writing i ≡ Ok (first_words n w v)
    go b nothing e = cc
    go b (row r h) e = row_written r w v i n h e

pub second_unread : SecondUnread
unfolding SecondUnread reading finished
second_unread w v u i e = grind (arith, choices)

-- an encoding's registers stand in its first word, and its row takes them
record Back (e : Encoding) : Type 0 where
  pub s : s_digit e.row (first_word e.row e.source e.destination) ≡ e.source
  pub d : d_digit e.row (first_word e.row e.source e.destination) ≡ e.destination
  pub takes : (format_of e.row).takes e.source e.destination ≡ true

digits_back : (i : Instruction) → encodable (encoding_of i) ≡ true → Back (encoding_of i)
unfolding first_word encodable all
digits_back i h = grind (arith, choices, nat_tests)

-- the row that the first word came from
begun_back : (e : Encoding) → Back e → begun (first_word e.row e.source e.destination) ≡ found e.row e.source e.destination
begun_back e b =
    let w = first_word e.row e.source e.destination in grind (arith, begun_row e.row w, has e.row w)

pub written_then_read : WrittenThenRead
unfolding WrittenThenRead reading finished written
written_then_read i w v = let b = digits_back i in let f = begun_back (encoding_of i) in grind (arith, choices, nat_tests, f, b)

-- a refusal has the number 9
pub reading_number : (b : Option Begun) (v : ℕ) → reading_refusal (finished b v) ≡ (when decodes b v then 0 else 9)
unfolding finished decodes
reading_number b v = grind (arith, choices)

pub writing_number : (e : Encoding) → writing_refusal (written e) ≡ (when encodable e then 0 else 9)
unfolding written
writing_number e = grind (arith, choices)
