-- The numbers that a field holds.
use Rattle.std.specs.Prelude.{ℕ, ◌+◌, ◌-◌, ◌*◌, Bool, false, List, [], ◌∷◌, Option, None, Some, eqb, ltb, leb, length, get_or}
use Rattle.base.specs.Test.{when◌then◌else◌}

-- 0 to 9
unfoldable pub decimal_digit : ℕ → Option ℕ
decimal_digit b = when ltb b 0x30 then None else when leb b 0x39 then Some (b - 0x30) else None

-- 0 to 9 and A to F
unfoldable pub hex_digit : ℕ → Option ℕ
hex_digit b = when ltb b 0x41 then decimal_digit b else when leb b 0x46 then Some (b - 0x41 + 10) else None

-- four digits together
abbrev pub joined : Option ℕ → Option ℕ → Option ℕ → Option ℕ → Option ℕ
joined None b c d = None
joined (Some a) None c d = None
joined (Some a) (Some b) None d = None
joined (Some a) (Some b) (Some c) None = None
joined (Some a) (Some b) (Some c) (Some d) = Some (a * 4096 + b * 256 + c * 16 + d)

-- hexadecimal is four digits, capitals
unfoldable pub hex_of : List ℕ → Option ℕ
hex_of f =
    when eqb (length f) 4 then
    joined (hex_digit (get_or f 0 0)) (hex_digit (get_or f 1 0)) (hex_digit (get_or f 2 0)) (hex_digit (get_or f 3 0))
    else None

-- a digit more: a number that has 19 digits takes no other
abbrev pub one_more : Option ℕ → ℕ → (ℕ → Option ℕ) → Option ℕ
one_more None n further = None
one_more (Some d) n further = when leb 1_000_000_000_000_000_000 n then None else further (n * 10 + d)

-- the digits of a decimal, after those that make n
unfoldable pub digits_from : ℕ → List ℕ → Option ℕ
digits_from n [] = Some n
digits_from n (b ∷ bs) = one_more (decimal_digit b) n (λ m. digits_from m bs)

-- a zero that leads other digits; a lone 0 is fine
unfoldable pub zero_led : List ℕ → Bool
zero_led f = when ltb (length f) 2 then false else eqb (get_or f 0 0) 0x30

-- decimals carry no leading zero and at most 19 digits
unfoldable pub decimal_of : List ℕ → Option ℕ
decimal_of f = when eqb (length f) 0 then None else when zero_led f then None else digits_from 0 f
