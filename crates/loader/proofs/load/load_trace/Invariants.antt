use Rattle.std.proofs.Common.{◌≡◌, ◌≤◌, length, drop}
use Rattle.std.proofs.lemmas.List.Edits.{sets}
use Rattle.loader.specs.Setup.{pieces, trace_from, sheet_trace}
use Rattle.loader.proofs.load.load_trace.Given as goal

abbrev pub invariant-loop-line : goal.invariant-loop-line
invariant-loop-line l =
    (l.records ≤ length l.yielded)
    × (sets l.initial.stamps 0 (sheet_trace l.sheet).stamps ≡ sets l.stamps l.records (trace_from (drop (length l.yielded) (pieces l.sheet))).stamps)
    × (sets l.initial.words 0 (sheet_trace l.sheet).words ≡ sets l.words l.records (trace_from (drop (length l.yielded) (pieces l.sheet))).words)
