-- Bytes put one after another, and the digits of a decimal. Assumes nothing.
use Rattle.std.proofs.Common.{ℕ, zero, suc, ◌≡◌, ◌+◌, ◌-◌, ◌/◌, ◌%◌, ◌≤◌, ◌<◌, ◌^◌, List, [], ◌∷◌, ◌++◌, length, drop, set, eqb, refl, sym, ◌∙◌, ap, arith, add-zero, length-set, length-append, get_or-set_same, drop-cons, eq-eqb}
use Rattle.std.specs.List.{between}
use Rattle.std.proofs.lemmas.List.Edits.{sets}
use Rattle.std.proofs.lemmas.Slice.{between_to_end}
use Rattle.std.proofs.Math.Seq.{drop-set-lt}
use Rattle.std.proofs.lemmas.Bool.{ne_eqb}
use Rattle.text.specs.Text.{tab, newline}
use Rattle.base.specs.Test.{when◌then◌else◌}
use Rattle.base.proofs.Tests.{cases, when_true, when_false}
use Rattle.transcript.specs.Transcript.{decimal_from, decimal_bytes, hex_bytes}
use Rattle.transcript.specs.declared.line.Line.{Line}
use Rattle.transcript.specs.Put.{Puts}
pub use Rattle.transcript.specs.Put.{Put}

-- bytes put behind bytes
pub sets_append : (buffer : List ℕ) (i : ℕ) (xs ys : List ℕ) → sets (sets buffer i xs) (i + length xs) ys ≡ sets buffer i (xs ++ ys)
sets_append buffer i [] ys = rw add-zero
sets_append buffer i (x ∷ xs) ys =
    let k : i + suc (length xs) ≡ suc i + length xs = omega arith in
    rw k (sets_append (set buffer i x) (suc i) xs ys)

-- bytes, and then more behind them
pub put_then : {entry exit further : List ℕ} {at to next : ℕ} {bytes more : List ℕ} → Put entry exit at to bytes
    → Put exit further to next more → Put entry further at next (bytes ++ more)
put_then {entry} {exit} {further} {at} {to} {next} {bytes} {more} p q =
    record {
      ends = rw length-append (omega (arith, p.ends, q.ends));
      lies = q.lies ∙ rw (p.lies, p.ends) (sets_append entry at bytes more);
    }

-- no bytes put to a line, and bytes and then more behind them
pub puts_none : (line : Line) → Puts line line []
puts_none line = record { same_buffer = refl; put = record { ends = omega arith; lies = refl } }

pub puts_then : {before between after : Line} {bytes more : List ℕ} → Puts before between bytes → Puts between after more
    → Puts before after (bytes ++ more)
puts_then p q = record { same_buffer = q.same_buffer ∙ p.same_buffer; put = put_then p.put q.put }

-- what is put to an empty line is the line
pub line_put : {empty full : Line} {entry exit : List ℕ} {written : ℕ} {line : List ℕ} → empty.out.now ≡ entry → empty.filled ≡ 0
    → Puts empty full line → written ≡ full.filled → exit ≡ full.out.now → written ≤ 64
    → (written ≡ length line) × ((written ≤ 64) × (exit ≡ sets entry 0 line))
line_put e z p w x m = (omega (arith, p.put.ends), (m, x ∙ p.put.lies ∙ rw (e, z)))

-- a turn of the loop that writes a decimal from its last digit
module _ (i n : ℕ) (text : List ℕ) (h : 0 < i) (k : i ≤ length text) where
  turn : decimal_from i n (drop i text)
      ≡ (when eqb (n / 10) 0 then (0x30 + n % 10) ∷ drop i text
      else decimal_from (i - 1) (n / 10) ((0x30 + n % 10) ∷ drop i text))
  turn = go i h (drop i text)
    where
      go : (i : ℕ) → 0 < i → (ds : List ℕ) → decimal_from i n ds
          ≡ (when eqb (n / 10) 0 then (0x30 + n % 10) ∷ ds else decimal_from (i - 1) (n / 10) ((0x30 + n % 10) ∷ ds))
      go zero h ds = absurd (omega arith)
      go (suc j) h ds = let e : suc j - 1 ≡ j = omega arith in rw e (unfold decimal_from in refl)

  put : drop (i - 1) (set text (i - 1) (0x30 + n % 10)) ≡ (0x30 + n % 10) ∷ drop i text
  put = go i h k
    where
      go : (i : ℕ) → 0 < i → i ≤ length text → drop (i - 1) (set text (i - 1) (0x30 + n % 10)) ≡ (0x30 + n % 10) ∷ drop i text
      go zero h k = absurd (omega arith)
      go (suc j) h k =
          let e : suc j - 1 ≡ j = omega arith in
          let l : j < length (set text j (0x30 + n % 10)) = rw length-set (omega arith) in
          rw (e, drop-cons (set text j (0x30 + n % 10)) j 0 l, get_or-set_same text j (0x30 + n % 10) 0 (omega arith), drop-set-lt (suc j) text j (0x30 + n % 10) (omega arith))

  pub turn_last : length text ≡ 20 → n / 10 ≡ 0 → decimal_from i n (drop i text) ≡ between (i - 1) 20 (set text (i - 1) (0x30 + n % 10))
  turn_last l e =
      turn ∙ when_true _ _ _ (eq-eqb _ _ e) ∙ sym put
      ∙ sym (between_to_end (set text (i - 1) (0x30 + n % 10)) _ 20 (omega (arith, length-set text (i - 1) (0x30 + n % 10))))

  pub turn_more : (n / 10 ≡ 0 → ⊥)
      → decimal_from i n (drop i text) ≡ decimal_from (i - 1) (n / 10) (drop (i - 1) (set text (i - 1) (0x30 + n % 10)))
  turn_more e = turn ∙ when_false _ _ _ (ne_eqb _ _ e) ∙ ap (decimal_from (i - 1) (n / 10)) (sym put)

pub turn_none : (n : ℕ) (ds : List ℕ) → decimal_from 0 n ds ≡ ds
unfolding decimal_from
turn_none n ds = refl

-- what `decimal_digits` needs of a turn, and of no turn
pub ruleset turns = (turn_last, turn_more, turn_none, length-set)

-- a decimal has at most 20 digits
pub length_decimal_bytes : (n : ℕ) → length (decimal_bytes n) ≤ 20
unfolding decimal_bytes decimal_from when◌then◌else◌
length_decimal_bytes n = go 20 n []
  where
    go : (k n : ℕ) (ds : List ℕ) → length (decimal_from k n ds) ≤ k + length ds
    go zero n ds = omega arith
    go (suc k) n ds =
        cases (eqb (n / 10) 0) (λ e. rw e (omega arith)) (λ e. rw e (omega (arith, go k (n / 10) ((0x30 + n % 10) ∷ ds))))

pub length_hex_bytes : (w : ℕ) → length (hex_bytes w) ≡ 4
unfolding hex_bytes
length_hex_bytes w = refl

-- two bytes and two numbers, each put to a line that is short
pub numbers_put : {empty begun first between second full : Line} {a b : ℕ} (n m : ℕ) → empty.filled ≡ 0
    → (empty.filled + 2 < 2 ^ 64 → Puts empty begun (a ∷ b ∷ [])) → (begun.filled + 20 < 2 ^ 64 → Puts begun first (decimal_bytes n))
    → (first.filled + 1 < 2 ^ 64 → Puts first between (tab ∷ [])) → (between.filled + 20 < 2 ^ 64 → Puts between second (decimal_bytes m))
    → (second.filled + 1 < 2 ^ 64 → Puts second full (newline ∷ []))
    → Puts empty full (a ∷ b ∷ decimal_bytes n ++ (tab ∷ decimal_bytes m ++ (newline ∷ []))) × (full.filled ≤ 64)
numbers_put n m z p q r s t =
    let p = p (omega arith) in
    let q = q (omega arith) in
    let r = r (omega (arith, length_decimal_bytes)) in
    let s = s (omega (arith, length_decimal_bytes)) in
    let t = t (omega (arith, length_decimal_bytes)) in
    (puts_then p (puts_then q (puts_then r (puts_then s t))), omega (arith, length_decimal_bytes))
