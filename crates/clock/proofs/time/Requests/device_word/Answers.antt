use Rattle.std.proofs.Common.{arith, ◌∙◌, sym}
use Rattle.definition.proofs.time.TraceLaws.{trace_timed}
use Rattle.clock.specs.Requests.{setting_with}
use Rattle.clock.proofs.UpcomingLaws.{device_before}
use Rattle.clock.proofs.time.Requests.device_word.Goals as goal

pub returns : goal.returns
returns c = λ L h.
    let f = h.tested.traced in
    c.word_before.ensures
    ∙ sym (device_before (setting_with L c.args.self) c.args.t _ f (grind (arith, c.is_empty.ensures, c.if-is_empty.false)) (c.upcoming_at-next.ensures (trace_timed _ f) h.records))
