-- What `{:04x}` writes of a word.
use Rattle.std.proofs.Common.{◌≡◌, ℕ, ◌-◌, ◌/◌, ◌%◌, ◌^◌, ◌<◌, ◌≤◌, [], ◌∷◌, false, sym, ◌∙◌, ap, arith, ⊎_elim}
use Rattle.std.specs.Fmt.{digits, digit_glyph, padded_integral, format_spec, char_count}
use Rattle.std.proofs.lemmas.Bool.{cases_lt}
use Rattle.std.proofs.DigitsParse.{digits_onto-nil, digits_onto_last, digits_onto_step}
use Rattle.std.proofs.lemmas.Fmt.{hex_one_digit, hex_two_digits}
use Rattle.console.specs.Fields.{word_digits}

three_digits : (n : ℕ) → 256 ≤ n → n < 4096 → digits 16 false n ≡ digit_glyph false (n / 256) ∷ digit_glyph false (n / 16 % 16) ∷ digit_glyph false (n % 16) ∷ []
three_digits n large small =
    let top : n / 16 / 16 % 16 ≡ n / 256 = omega arith in
    sym (digits_onto-nil 16 false n)
    ∙ digits_onto_step 16 false n [] 64 (omega arith) (omega arith)
    ∙ digits_onto_step 16 false (n / 16) (digit_glyph false (n % 16) ∷ []) 63 (omega arith) (omega arith)
    ∙ digits_onto_last 16 false (n / 16 / 16) (digit_glyph false (n / 16 % 16) ∷ digit_glyph false (n % 16) ∷ []) 62 (omega arith) (omega arith)
    ∙ ap (λ d. digit_glyph false d ∷ digit_glyph false (n / 16 % 16) ∷ digit_glyph false (n % 16) ∷ []) top

four_digits : (n : ℕ) → 4096 ≤ n → n < 65536 → digits 16 false n ≡ word_digits n
four_digits n large small =
    let third : n / 16 / 16 % 16 ≡ n / 256 % 16 = omega arith in
    let top : n / 16 / 16 / 16 % 16 ≡ n / 4096 = omega arith in
    sym (digits_onto-nil 16 false n)
    ∙ digits_onto_step 16 false n [] 64 (omega arith) (omega arith)
    ∙ digits_onto_step 16 false (n / 16) (digit_glyph false (n % 16) ∷ []) 63 (omega arith) (omega arith)
    ∙ digits_onto_step 16 false (n / 16 / 16) (digit_glyph false (n / 16 % 16) ∷ digit_glyph false (n % 16) ∷ []) 62 (omega arith) (omega arith)
    ∙ digits_onto_last 16 false (n / 16 / 16 / 16) (digit_glyph false (n / 16 / 16 % 16) ∷ digit_glyph false (n / 16 % 16) ∷ digit_glyph false (n % 16) ∷ []) 61 (omega arith) (omega arith)
    ∙ ap (λ d. digit_glyph false d ∷ digit_glyph false (n / 16 / 16 % 16) ∷ digit_glyph false (n / 16 % 16) ∷ digit_glyph false (n % 16) ∷ []) top
    ∙ ap (λ d. digit_glyph false (n / 4096) ∷ digit_glyph false d ∷ digit_glyph false (n / 16 % 16) ∷ digit_glyph false (n % 16) ∷ []) third

pub word_padded : (n : ℕ) → n < 65536 → padded_integral (format_spec 32 0 4 4 (2 ^ 64 - 1)) false [] (digits 16 false n) ≡ word_digits n
unfolding padded_integral char_count
word_padded n small = ⊎_elim
    (λ one. let a : n / 4096 ≡ 0 = omega arith in let b : n / 256 % 16 ≡ 0 = omega arith in let c : n / 16 % 16 ≡ 0 = omega arith in let d : n % 16 ≡ n = omega arith in
    rw (hex_one_digit false n one, a, b, c, d))
    (λ more. ⊎_elim
    (λ two. let a : n / 4096 ≡ 0 = omega arith in let b : n / 256 % 16 ≡ 0 = omega arith in let c : n / 16 % 16 ≡ n / 16 = omega arith in
    rw (hex_two_digits false n more two, a, b, c))
    (λ many. ⊎_elim
    (λ three. let a : n / 4096 ≡ 0 = omega arith in let b : n / 256 % 16 ≡ n / 256 = omega arith in
    rw (three_digits n many three, a, b))
    (λ four. rw (four_digits n four small))
    (cases_lt n 4096))
    (cases_lt n 256))
    (cases_lt n 16)
