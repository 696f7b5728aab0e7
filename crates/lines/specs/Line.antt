-- What a line of the sheet says, by its letter and fields.
use Rattle.std.specs.Prelude.{ℕ, List, Option, None, Some, option_map, eqb, length, get_or}
use Rattle.base.specs.Test.{when◌then◌else◌}
use Rattle.base.specs.Word.{is_even}
use Rattle.layout.specs.declared.sections.Span.{Span}
use Rattle.lines.specs.declared.line.Content.{Content}
use Rattle.lines.specs.declared.line.Content.TheVariants.{Layout, Word, Stamp, Record, Budget}
use Rattle.text.specs.Text.{tab, head, rest}
use Rattle.text.specs.Number.{hex_of, decimal_of}

-- two addresses
abbrev pub spanned : Option ℕ → Option ℕ → Option Span
spanned None t = None
spanned (Some s) None = None
spanned (Some s) (Some t) = Some (record { start = s; end = t })

unfoldable pub span_of : List ℕ → List ℕ → Option Span
span_of s t = spanned (hex_of s) (hex_of t)

-- code, data and service address
abbrev pub laid_out : Option Span → Option Span → Option ℕ → Option Content
laid_out None d s = None
laid_out (Some c) None s = None
laid_out (Some c) (Some d) None = None
laid_out (Some c) (Some d) (Some s) = Some (Layout (record { code = c; «data» = d; service = s }))

-- L and the five addresses
unfoldable pub layout_line : List ℕ → Option Content
layout_line fields =
    let second = rest fields tab in
    let third = rest second tab in
    let fourth = rest third tab in
    laid_out (span_of (head fields tab) (head second tab)) (span_of (head third tab) (head fourth tab)) (hex_of (rest fourth tab))

-- an even address and a word
abbrev pub worded : Option ℕ → Option ℕ → Option Content
worded None w = None
worded (Some a) None = None
worded (Some a) (Some w) = when is_even a then Some (Word a w) else None

-- M, an even address and a word
unfoldable pub word_line : List ℕ → Option Content
word_line fields = worded (hex_of (head fields tab)) (hex_of (rest fields tab))

-- a stamp and a word
abbrev pub recorded : Option ℕ → Option ℕ → Option Content
recorded None w = None
recorded (Some s) None = None
recorded (Some s) (Some w) = Some (Record s w)

-- T, a stamp and a word
unfoldable pub record_line : List ℕ → Option Content
record_line fields = recorded (decimal_of (head fields tab)) (hex_of (rest fields tab))

-- by the letter: L, M, A and a stamp, T, G and the budget
unfoldable pub by_letter : ℕ → List ℕ → Option Content
by_letter letter fields =
    when eqb letter 0x4C then layout_line fields
    else when eqb letter 0x4D then word_line fields
    else when eqb letter 0x41 then option_map Stamp (decimal_of fields)
    else when eqb letter 0x54 then record_line fields
    else when eqb letter 0x47 then option_map Budget (decimal_of fields)
    else None

-- a line: one letter, a tab, and its fields
unfoldable pub parse_line : List ℕ → Option Content
parse_line line = when eqb (length (head line tab)) 1 then by_letter (get_or (head line tab) 0 0) (rest line tab) else None
