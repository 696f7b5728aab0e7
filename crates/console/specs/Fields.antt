-- What the fields of a line are, in bytes.
use Rattle.std.specs.Prelude.{ℕ, ◌/◌, ◌%◌, List, [], ◌∷◌, false}
use Rattle.std.specs.Fmt.{digits, digit_glyph}

-- how a digit is written, hexadecimal: 0 to 9, a to f
abbrev pub hex_glyph : ℕ → ℕ
hex_glyph d = digit_glyph false d

-- a word: four hexadecimal digits
abbrev pub word_digits : ℕ → List ℕ
word_digits w = hex_glyph (w / 4096) ∷ hex_glyph (w / 256 % 16) ∷ hex_glyph (w / 16 % 16) ∷ hex_glyph (w % 16) ∷ []

-- a number, hexadecimal: as few digits as it has
abbrev pub hex_digits : ℕ → List ℕ
hex_digits n = digits 16 false n
