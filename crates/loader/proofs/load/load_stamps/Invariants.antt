use Rattle.std.proofs.Common.{◌≡◌, ◌≤◌, length, drop}
use Rattle.std.proofs.lemmas.List.Edits.{sets}
use Rattle.loader.specs.Setup.{pieces, stamps_from, sheet_stamps}
use Rattle.loader.proofs.load.load_stamps.Given as goal

abbrev pub invariant-loop-line : goal.invariant-loop-line
invariant-loop-line l =
    (l.count ≤ length l.yielded)
    × (sets l.initial.stamps 0 (sheet_stamps l.sheet) ≡ sets l.stamps l.count (stamps_from (drop (length l.yielded) (pieces l.sheet))))
