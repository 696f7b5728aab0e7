use Rattle.explain.specs.internal.Reason.{Wrote}
use Rattle.explain.proofs.put.put_parts.Given as goal

abbrev pub invariant-loop-part : goal.invariant-loop-part
invariant-loop-part l = Wrote l.initial.line l.line
