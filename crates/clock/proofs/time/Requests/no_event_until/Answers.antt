use Rattle.std.proofs.Common.{arith}
use Rattle.definition.proofs.time.TraceLaws.{trace_timed}
use Rattle.clock.proofs.NoEventLaws.{no_event_pending, no_event_by}
use Rattle.clock.proofs.time.Requests.no_event_until.Goals as goal

pub returns-in-Some : goal.returns-in-Some
returns-in-Some c = λ L p.
    let a = c.alarm_until.ensures in
    (no_event_pending _ _ _ _ _ c.in-Some.is a.0 a.1 a.2, λ h. cc)

pub returns-in-None : goal.returns-in-None
returns-in-None c = λ L p.
    let one = c.before_stamp-until.ensures in
    let two = rw c.stamp.ensures at c.before_stamp-stamped.ensures in
    let three = rw c.record_stamp.ensures at c.before_stamp.ensures in
    let lists = p.tested in (
      no_event_by _ _ _ _ _ _ c.in-None.is (omega (arith, one.0, two.0, three.0)) lists.timed (trace_timed _ lists.traced) p.stamps p.records
          (λ b k. one.1 b (omega (arith, two.0, three.0))) (λ b k. two.1 b (omega (arith, three.0))) three.1,
      λ h. cc,
    )
