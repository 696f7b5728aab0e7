-- What ADD, SUB, CMP, AND and NOT compute: the 16-bit result, and the carry and the overflow that they hand over to the flags.
use Rattle.std.specs.Prelude.{ℕ, ◌-◌, Bool, false, not, [], ◌∷◌, eqb, leb}
use Rattle.std.specs.Bool.{beq}
use Rattle.std.specs.Int.Bits.{bit_and}
use Rattle.base.specs.Test.{all}
use Rattle.base.specs.Word.{sum16, difference16}
use Rattle.rows.specs.declared.row.Operation.{Operation}
use Rattle.rows.specs.declared.row.Operation.TheVariants.{Add, Sub, Cmp, And}
use Rattle.alu.specs.declared.arithmetic.Computed.{Computed}

-- bit 15, the sign
abbrev pub bit15 : ℕ → Bool
bit15 w = leb 0x8000 w

-- C means not zero (003)
abbrev pub not_zero : ℕ → Bool
not_zero r = not (eqb r 0)

-- both operands have one sign and the result has the other
abbrev pub sign_turns : Bool → Bool → Bool → Bool
sign_turns a b r = all (beq a b ∷ not (beq a r) ∷ [])

-- a result with its carry and overflow
abbrev computes : ℕ → Bool → Bool → Computed
computes r c v = record { result = r; carry = c; overflow = v }

-- destination plus source
abbrev pub added : ℕ → ℕ → Computed
added s d = computes (sum16 d s) (not_zero (sum16 d s)) (sign_turns (bit15 d) (bit15 s) (bit15 (sum16 d s)))

-- destination minus source, which is the destination plus what has the source's sign turned
abbrev pub subtracted : ℕ → ℕ → Computed
subtracted s d =
    computes (difference16 d s) (not_zero (difference16 d s)) (sign_turns (bit15 d) (not (bit15 s)) (bit15 (difference16 d s)))

-- V is 0 for AND
abbrev pub conjoined : ℕ → ℕ → Computed
conjoined s d = computes (bit_and s d) (not_zero (bit_and s d)) false

-- V is the old bit 15 for NOT
abbrev pub inverted : ℕ → Computed
inverted d = computes (0xFFFF - d) (not_zero (0xFFFF - d)) (bit15 d)

-- what an operation computes from the source s and the destination d
abbrev pub computed : Operation → ℕ → ℕ → Computed
computed Add s d = added s d
computed Sub s d = subtracted s d
computed Cmp s d = subtracted s d
computed And s d = conjoined s d
