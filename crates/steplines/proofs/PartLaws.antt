-- A part of a buffer that was written is the buffer written there. Assumes nothing.
use Rattle.std.proofs.Common.{ℕ, ◌+◌, ◌-◌, ◌≤◌, ◌≡◌, sym, ◌∙◌, ap, List, ◌++◌, append_assoc, arith, zero-add, length, take, drop, length-drop, take-append-drop, drop-drop, length-take-le}
use Rattle.std.proofs.lemmas.List.Edits.{sets, sets-eq}
use Rattle.std.proofs.lemmas.List.{drop-append-le}
use borrow.Rule.Slice.PartMut.{mid_of, post_of, put_mid}

module _ (a : ℕ) (xs vs : List ℕ) (h : a + length vs ≤ length xs) where
  -- the part has as many bytes as lie from its start on
  part_length : length (mid_of a (length xs - a) xs) ≡ length xs - a
  part_length = length-take-le (length xs - a) (drop a xs) (rw (length-drop a xs) (omega arith))

  -- what lies behind what was put, of the part and of the whole
  behind_part : drop (length vs) (mid_of a (length xs - a) xs) ++ post_of a (length xs - a) xs ≡ drop (a + length vs) xs
  behind_part =
      let i : length vs ≤ length (mid_of a (length xs - a) xs) = rw part_length (omega arith) in
      sym (drop-append-le (length vs) (mid_of a (length xs - a) xs) (post_of a (length xs - a) xs) i)
      ∙ ap (drop (length vs)) (take-append-drop (length xs - a) (drop a xs)) ∙ drop-drop (length vs) a xs

  pub part_sets : put_mid a (length xs - a) xs (sets (mid_of a (length xs - a) xs) 0 vs) ≡ sets xs a vs
  part_sets =
      let m = mid_of a (length xs - a) xs in
      let p = post_of a (length xs - a) xs in
      let i : 0 + length vs ≤ length m = rw part_length (omega arith) in
      ap (λ (z : List ℕ). take a xs ++ (z ++ p)) (sets-eq vs m 0 i ∙ ap (λ (n : ℕ). vs ++ drop n m) (zero-add (length vs)))
      ∙ ap (λ (z : List ℕ). take a xs ++ z) (append_assoc vs (drop (length vs) m) p ∙ ap (λ (z : List ℕ). vs ++ z) behind_part)
      ∙ sym (append_assoc (take a xs) vs (drop (a + length vs) xs)) ∙ sym (sets-eq vs xs a h)
