use Rattle.std.proofs.Common.{◌≡◌, ◌+◌, ◌<◌, ◌^◌, length, drop}
use Rattle.std.proofs.lemmas.List.Edits.{sets}
use Rattle.transcript.proofs.line.Line.put.Given as goal

abbrev pub invariant-loop-b : goal.invariant-loop-b
invariant-loop-b l =
    let start = l.initial.self in
    (start.filled + length l.bytes < 2 ^ 64) →
    record {
      same_buffer : l.self.out.ghost_name ≡ start.out.ghost_name;
      ends : l.self.filled ≡ start.filled + l.b-index;
      lies : sets start.out.now start.filled l.bytes ≡ sets l.self.out.now l.self.filled (drop l.b-index l.bytes);
    }
