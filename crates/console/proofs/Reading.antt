-- What a read puts behind what stands there already is what it took from the reader. Assumes nothing.
use Rattle.std.proofs.Common.{◌≡◌, ℕ, ◌+◌, ◌≤◌, List, Option, ◌++◌, length, take, drop, sym, ap, ◌∙◌, subst, le_refl, drop_at, length-take-le}
use Rattle.std.specs.Io.KnownBytes.{Consumes}
use Rattle.std.proofs.KnownBytes.{Consumes-trans}
use Rattle.std.proofs.lemmas.List.{take-append-le}
use Rattle.std.proofs.lemmas.Slice.{take-put_mid_below}
use Rattle.std.proofs.Math.Seq.{take-add}
use borrow.Rule.Slice.PartMut.{put_mid, post_of}

take_more : (d n k : ℕ) (old new : List ℕ) → d ≤ length old → n ≤ length new → take (d + n) (put_mid d k old new) ≡ take d old ++ take n new
take_more d n k old new within fits =
    let all = put_mid d k old new in
    let after = post_of d k old in
    let front : take d all ≡ take d old = take-put_mid_below d k old new d (le_refl d) within in
    let back : drop d all ≡ new ++ after = drop_at (take d old) (new ++ after) d (length-take-le d old within) in
    let cut : take n (new ++ after) ≡ take n new = take-append-le n new after fits in
    take-add d n all ∙ ap (λ xs. xs ++ take n (drop d all)) front ∙ ap (λ xs. take d old ++ xs) (ap (take n) back ∙ cut)

-- what was taken before, and what a read takes behind it
pub read_more : (G H I : Option (List ℕ)) (d n k : ℕ) (old new : List ℕ) → Consumes G H (take d old) → Consumes H I (take n new) → d ≤ length old → n ≤ length new
    → Consumes G I (take (d + n) (put_mid d k old new))
read_more G H I d n k old new p q within fits = subst (Consumes G I) (sym (take_more d n k old new within fits)) (Consumes-trans G H I _ _ p q)
