-- The lines of a sheet, one at a time: what stands before the first newline is the first line; and what they set up. Assumes nothing.
use Rattle.std.proofs.Common.{ℕ, ◌+◌, ◌≤◌, ◌<◌, ◌≡◌, refl, Bool, false, List, [], ◌∷◌, ◌++◌, Option, None, option_to_list, eqb, length, get_or, drop, drop-cons, add-one, arith}
use Rattle.std.proofs.Math.ListN.{length-set, length-replicate, drop_of_length-le}
use Rattle.std.proofs.lemmas.List.Splits.{slice_split_first}
use Rattle.std.specs.Fn.{CalledAt}
use Rattle.std.specs.declared.slice.Split.{Split}
use Rattle.std.specs.Slice.Iter.{split_rest, split_done, split_callee, split_steps}
use Rattle.std.proofs.lemmas.Iterator.{YieldsList}
use Rattle.std.proofs.lemmas.Iterator.Splits.{YieldsList-from_slice_split}
use denote.Param.Members.{Mut}
use denote.Ref.{Bor}
use Rattle.base.specs.Limits.{memory_bytes}
use Rattle.base.specs.Test.{when◌then◌else◌}
use Rattle.base.proofs.Tests.{choices}
use Rattle.definition.specs.Setting.{Trace, no_trace}
use Rattle.definition.specs.Memory.{put_word}
use Rattle.lines.specs.declared.line.Content.{Content}
use Rattle.text.specs.Text.{newline, find, head, rest}
use Rattle.text.proofs.Finding.{find_is}
use Rattle.lines.specs.Line.{parse_line}
use Rattle.loader.specs.Setup.{pieces, line_stored, memory_from, sheet_memory, stamp_of, stamps_from, record_of, trace_from}
use Rattle.loader.specs.internal.Record.{with_record}

-- ---- pieces

-- a text with a newline is its first line and the pieces after it
pub pieces_here : (s : List ℕ) → find s newline < length s → pieces s ≡ head s newline ∷ pieces (rest s newline)
unfolding pieces
pieces_here s h =
    let e = find_is s newline in rw e (slice_split_first (λ x. eqb x newline) s 0 (omega arith))

-- one without is a single piece
pub pieces_last : (s : List ℕ) → length s ≤ find s newline → pieces s ≡ s ∷ []
unfolding pieces find
pieces_last [] h = refl
pieces_last (x ∷ xs) h = grind (arith, choices, pieces_last xs)

-- what `split` gives at the newlines
pub pieces_given : {F : Type 0} {s : Split ℕ F} (g : Mut F (Bor ℕ × Unit {0}) Bool) {f : F} (xs : List ℕ) → split_rest s ≡ xs → split_done s ≡ false → split_callee s ≡ f
    → ((x : ℕ) (b : Bool) (q : F) → CalledAt g f x b q → (q ≡ f) × (b ≡ eqb x newline)) → YieldsList (split_steps g) (λ y. y.now) s (pieces xs)
unfolding pieces
pieces_given g xs r d e k = YieldsList-from_slice_split g (λ x. eqb x newline) xs r d e k

-- the empty line says nothing
pub empty_line : parse_line [] ≡ None
unfolding parse_line find when◌then◌else◌
empty_line = refl

-- ---- the setup, a line at a time

-- what a line says stands before the further stamps
stamp_before : (line : Option Content) (ss : List ℕ) → stamp_of line ss ≡ stamp_of line [] ++ ss
stamp_before line ss = grind arith

-- the i-th piece, with what stands before it left behind
module _ (ps : List (List ℕ)) (i : ℕ) (p : List ℕ) (h : (i < length ps) × (p ≡ get_or ps i p)) (n : ℕ) (next : n ≡ i + 1) where
  piece_next : drop i ps ≡ p ∷ drop n ps
  piece_next = rw (next, add-one, drop-cons ps i p h.0) (cc)

  pub memory_next : (mem mem_then : List ℕ) → mem_then ≡ line_stored (parse_line p) mem → memory_from mem (drop i ps) ≡ memory_from mem_then (drop n ps)
  unfolding memory_from
  memory_next mem mem_then e = rw (e, piece_next)

  pub stamps_next : (said : Option ℕ) → option_to_list said ≡ stamp_of (parse_line p) [] → stamps_from (drop i ps) ≡ option_to_list said ++ stamps_from (drop n ps)
  unfolding stamps_from
  stamps_next said e = rw (piece_next, e) (stamp_before (parse_line p) _)

  pub trace_next : (said : Option (ℕ × ℕ)) → ((t : Trace) → record_of (parse_line p) t ≡ with_record said t)
      → trace_from (drop i ps) ≡ with_record said (trace_from (drop n ps))
  unfolding trace_from
  trace_next said e = rw piece_next (e _)

-- no piece is left
pub memory_end : (ps : List (List ℕ)) (i : ℕ) (mem : List ℕ) → length ps ≤ i → memory_from mem (drop i ps) ≡ mem
unfolding memory_from
memory_end ps i mem h = rw (drop_of_length-le ps h)

pub stamps_end : (ps : List (List ℕ)) (i : ℕ) → length ps ≤ i → stamps_from (drop i ps) ≡ []
unfolding stamps_from
stamps_end ps i h = rw (drop_of_length-le ps h)

pub trace_end : (ps : List (List ℕ)) (i : ℕ) → length ps ≤ i → trace_from (drop i ps) ≡ no_trace
unfolding trace_from
trace_end ps i h = rw (drop_of_length-le ps h)

-- lines keep memory's length
stored_length : (line : Option Content) (mem : List ℕ) → length (line_stored line mem) ≡ length mem
unfolding put_word
stored_length line mem = grind (arith, length-set {A = ℕ})

memory_length : (ps : List (List ℕ)) (mem : List ℕ) → length (memory_from mem ps) ≡ length mem
unfolding memory_from
memory_length [] mem = refl
memory_length (p ∷ ps) mem = simp (memory_length ps, stored_length)

pub sheet_memory_length : (s : List ℕ) → length (sheet_memory s) ≡ memory_bytes
unfolding sheet_memory
sheet_memory_length s = simp (memory_length, length-replicate)
