use Rattle.std.proofs.Common.{◌≡◌, ◌≤◌, ◌+◌, length}
use Rattle.loader.specs.Setup.{pieces}
use Rattle.sheet.specs.Sheet.{no_lists, body_from}
use Rattle.sheet.proofs.reader.read_body.Given as goal

abbrev pub invariant-loop-left : goal.invariant-loop-left
invariant-loop-left l =
    (l.n + length l.left ≤ 32770)
    × (body_from l.layout 2 no_lists (pieces l.body) ≡ body_from l.layout l.n l.lists (pieces l.left))

abbrev pub decreases-loop-left : goal.decreases-loop-left
decreases-loop-left l = length l.left
