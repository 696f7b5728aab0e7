-- A decimal, a digit at a time. Assumes nothing.
use Rattle.std.proofs.Common.{ℕ, ◌+◌, ◌*◌, ◌≤◌, ◌<◌, ◌≡◌, ◌∙◌, ap, List, Option, None, Some, length, get_or, drop, drop-cons, add-one, le-leb}
use Rattle.std.proofs.Math.ListN.{drop_of_length-le}
use Rattle.std.proofs.lemmas.Bool.{lt-leb}
use Rattle.base.proofs.Tests.{when_true, when_false}
use Rattle.text.specs.Number.{decimal_digit, one_more, digits_from}

-- the decimal's digits from the i-th on
module _ (f : List ℕ) (i n : ℕ) where
  digits_here : i < length f → digits_from n (drop i f) ≡ one_more (decimal_digit (get_or f i 0)) n (λ m. digits_from m (drop (i + 1) f))
  unfolding digits_from
  digits_here h = rw (add-one, drop-cons f i 0 h)

  pub digits_unreadable : i < length f → decimal_digit (get_or f i 0) ≡ None → digits_from n (drop i f) ≡ None
  digits_unreadable h e = digits_here h ∙ ap (λ (d : Option ℕ). one_more d n (λ m. digits_from m (drop (i + 1) f))) e

  module _ (d : ℕ) (h : i < length f) (e : decimal_digit (get_or f i 0) ≡ Some d) where
    digits_digit : digits_from n (drop i f) ≡ one_more (Some d) n (λ m. digits_from m (drop (i + 1) f))
    digits_digit = digits_here h ∙ ap (λ (d : Option ℕ). one_more d n (λ m. digits_from m (drop (i + 1) f))) e

    pub digits_full : 1_000_000_000_000_000_000 ≤ n → digits_from n (drop i f) ≡ None
    digits_full k = digits_digit ∙ when_true _ _ _ (le-leb _ _ k)

    pub digits_more : n < 1_000_000_000_000_000_000 → digits_from n (drop i f) ≡ digits_from (n * 10 + d) (drop (i + 1) f)
    digits_more k = digits_digit ∙ when_false _ _ _ (lt-leb _ _ k)

  pub digits_end : length f ≤ i → digits_from n (drop i f) ≡ Some n
  unfolding digits_from
  digits_end h = rw (drop_of_length-le f h)

-- what one more turn over the digits says
pub ruleset decimal_steps = (digits_unreadable, digits_full, digits_more, digits_end)
