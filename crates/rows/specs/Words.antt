-- Reading a first word as a row, and writing an encoding as its words.
use Rattle.std.specs.Prelude.{ℕ, Bool, false, List, [], ◌∷◌, eqb, ltb, Option, None, Some, Result, Ok, Err}
use Rattle.base.specs.Test.{when◌then◌else◌, all}
use Rattle.base.specs.declared.refusal.Refusal.{Refusal}
use Rattle.base.specs.declared.refusal.Refusal.TheVariants.{Word}
use Rattle.base.specs.Refusal.{refusal_number}
use Rattle.rows.specs.declared.row.Row.{Row}
use Rattle.rows.specs.declared.row.Encoding.{Encoding}
use Rattle.rows.specs.declared.row.Second.{Second}
use Rattle.rows.specs.declared.row.Second.TheVariants.{Nothing as none, Exactly as exactly, Anything as anything}
use Rattle.rows.specs.declared.read.Begun.{Begun}
use Rattle.rows.specs.declared.write.Words.{Words}
use Rattle.rows.specs.declared.write.Words.TheVariants.{One, Two}
use Rattle.rows.specs.Table.{has_second, second_fits, format_of, rows, first_word, s_digit, d_digit}

-- a first word is in a row: it is the row's with the registers that stand in it, and the row takes these
unfoldable pub has_word : Row → ℕ → Bool
has_word r w = all (eqb w (first_word r (s_digit r w) (d_digit r w)) ∷ (format_of r).takes (s_digit r w) (d_digit r w) ∷ [])

-- a row that is begun, with its registers
abbrev pub found : Row → ℕ → ℕ → Option Begun
found r s d = Some (record { row = r; source = s; destination = d })

-- the first of these rows that has the word
unfoldable pub begun_in : List Row → ℕ → Option Begun
begun_in [] w = None
begun_in (r ∷ rs) w = when has_word r w then found r (s_digit r w) (d_digit r w) else begun_in rs w

-- what a first word begins: the row that has it, with its registers, or nothing
unfoldable pub begun : ℕ → Option Begun
begun w = begun_in rows w

-- the instruction begun has a second word
unfoldable pub two_words : Option Begun → Bool
two_words None = false
two_words (Some b) = has_second (format_of b.row).second

-- the two words begin with an instruction
unfoldable pub decodes : Option Begun → ℕ → Bool
decodes None v = false
decodes (Some b) v = second_fits (format_of b.row).second v

-- there are words for the encoding: its registers are digits, and its row takes them
unfoldable pub encodable : Encoding → Bool
encodable e = all (ltb e.source 16 ∷ ltb e.destination 16 ∷ (format_of e.row).takes e.source e.destination ∷ [])

-- exactly the words of an encoding
abbrev pub words_of : Second → ℕ → ℕ → Words
words_of none w v = One w
words_of (exactly u) w v = Two w u
words_of anything w v = Two w v

-- the words of an encoding, if it has words
unfoldable pub written : Encoding → Result Words Refusal
written e =
    when encodable e then Ok (words_of (format_of e.row).second (first_word e.row e.source e.destination) e.word)
    else Err Word

-- the number of the refusal, 0 where there is none
abbrev pub writing_refusal : Result Words Refusal → ℕ
writing_refusal (Ok words) = 0
writing_refusal (Err r) = refusal_number r
