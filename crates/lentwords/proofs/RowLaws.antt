-- Rows by their indices, and instructions by their four numbers. Assumes nothing.
use Rattle.std.proofs.Common.{◌≡◌, refl, sym, ◌∙◌, ap, true, false, ℕ, ◌<◌, arith, ltb, Bor, Option, option_copied, None, Some, Err}
use Rattle.std.proofs.lemmas.Option.{slice_get-get_or, slice_get_read}
use Rattle.std.proofs.lemmas.Bool.{ltb-true, false_from_ne_true}
use Rattle.std.specs.Slice.{IsItemAt}
use Rattle.base.specs.Test.{when◌then◌else◌}
use Rattle.base.specs.declared.refusal.Refusal.TheVariants.{Word}
use Rattle.base.proofs.Tests.{cases, each, when_true, when_false, choices}
use Rattle.rows.specs.declared.row.Row.{Row}
use Rattle.rows.specs.declared.row.Row.TheVariants.{Hlt as HLT}
use Rattle.rows.specs.declared.row.Encoding.{Encoding}
use Rattle.rows.specs.Table.{rows}
use Rattle.rows.specs.Words.{encodable, written}
use Rattle.isa.specs.declared.instruction.Operand.TheVariants.{Register, Pointed, Constant}
use Rattle.isa.specs.declared.instruction.Instruction.{Instruction}
use Rattle.isa.specs.declared.instruction.Instruction.TheVariants.{Hlt, In, Out, Jz, Reti, Nop, Jmp, Mov, Store, Compute, Not}
use Rattle.isa.specs.Encoding.{instruction_of, encoding_of}
use Rattle.base.specs.Word.{byte_of}
use Rattle.lentwords.specs.Fields.{row_at, row_index, fields_of, writing_of}
use Rattle.lentwords.specs.Laws.{RowAtIndex, FieldsWritten}

row_at_lem : (r : Row) → row_at (row_index r) ≡ Some r
unfolding row_at
row_at_lem r = grind (arith, choices)

-- the row at an index, as `get` and `copied` find it in the list
pub copied_row : (n : ℕ) (r : Option (Bor Row)) → IsItemAt rows n r → option_copied r ≡ row_at n
unfolding row_at
copied_row n None h = sym (when_false _ _ _ (sym h.0))
copied_row n (Some x) h =
    let t = sym h.0 in
    sym (slice_get_read rows 16 n x.now refl (ltb-true n 16 t) h.1)
    ∙ slice_get-get_or rows n HLT (ltb-true n 16 t) ∙ sym (when_true _ _ _ t)

pub row_at_index : RowAtIndex
unfolding RowAtIndex
row_at_index = row_at_lem

-- an encoding whose registers have 8 bits
abbrev narrowed : Encoding → Encoding
narrowed e = record { row = e.row; source = byte_of e.source; destination = byte_of e.destination; word = e.word }

-- the row, registers and constant of an instruction are those of the instruction made of them
encoded_again : (i : Instruction)
    → encoding_of (instruction_of (encoding_of i).row (byte_of (encoding_of i).source) (byte_of (encoding_of i).destination) (encoding_of i).word)
    ≡ narrowed (encoding_of i)
unfolding byte_of when◌then◌else◌
encoded_again Hlt = refl
encoded_again (In d) = refl
encoded_again (Out s) = refl
encoded_again (Jz s) = refl
encoded_again Reti = refl
encoded_again Nop = refl
encoded_again (Jmp s) = refl
encoded_again (Mov (Register s) d) = refl
encoded_again (Mov (Pointed s) d) = refl
encoded_again (Mov (Constant w) d) = refl
encoded_again (Store s d) = refl
encoded_again (Compute o s d) = refl
encoded_again (Not d) = refl

-- a number of 8 bits stays
byte_stays : (n : ℕ) → ltb 255 n ≡ false → byte_of n ≡ n
unfolding byte_of
byte_stays n h = when_false _ _ _ h

-- a wider one is no register, nor what it is in 8 bits
byte_wide : (n : ℕ) → ltb 255 n ≡ true → (n < 16 → ⊥) × (byte_of n < 16 → ⊥)
unfolding byte_of
byte_wide n h =
    let l = ltb-true 255 n h in
    let b : byte_of n ≡ 255 = when_true _ _ _ h in
    ((λ f. omega arith), (λ f. omega arith))

-- an encoding with a number that is no register has no words
module _ (e : Encoding) where
  digits : encodable e ≡ true → (e.source < 16) × (e.destination < 16)
  unfolding encodable
  digits h = let t = each _ h in (ltb-true _ _ t.0, ltb-true _ _ t.1.0)

  no_words : (encodable e ≡ true → ⊥) → written e ≡ Err Word
  unfolding written
  no_words h = when_false _ _ _ (false_from_ne_true _ h)

  no_source : (e.source < 16 → ⊥) → written e ≡ Err Word
  no_source h = no_words (λ f. h (digits f).0)

  no_destination : (e.destination < 16 → ⊥) → written e ≡ Err Word
  no_destination h = no_words (λ f. h (digits f).1)

-- so in 8 bits it is written alike
narrowed_written : (e : Encoding) → written (narrowed e) ≡ written e
narrowed_written e =
    cases (ltb 255 e.source)
    (λ s. let b = byte_wide e.source s in no_source (narrowed e) b.1 ∙ sym (no_source e b.0))
    (λ s. cases (ltb 255 e.destination)
    (λ d. let b = byte_wide e.destination d in no_destination (narrowed e) b.1 ∙ sym (no_destination e b.0))
    (λ d. rw (byte_stays e.source s, byte_stays e.destination d)))

pub fields_written : FieldsWritten
unfolding FieldsWritten writing_of fields_of
fields_written i = rw (row_at_lem (encoding_of i).row) (ap written (encoded_again i) ∙ narrowed_written (encoding_of i))
