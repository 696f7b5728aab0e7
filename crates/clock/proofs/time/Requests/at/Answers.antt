use Rattle.definition.proofs.time.TraceLaws.{trace_timed}
use Rattle.clock.proofs.time.Requests.at.Goals as goal

pub returns-clause-upcoming : goal.returns-clause-upcoming
returns-clause-upcoming c = λ h.
    record {
      tested = h.tested;
      stamps = c.upcoming_at.ensures h.tested.timed h.stamps;
      records = c.upcoming_at-2.ensures (trace_timed _ h.tested.traced) h.records;
    }
