use Rattle.std.proofs.Common.{sym}
use Rattle.clock.specs.Requests.{setting_with}
use Rattle.inplace.proofs.RanLaws.{ran_one}
use Rattle.inplace.proofs.InPlaceLaws.{fast_ran, burst_some}
use Rattle.steplines.proofs.steps.line_step.Goals as goal

pub returns-then-burst-gt0 : goal.returns-then-burst-gt0
returns-then-burst-gt0 c early here =
    let a = c.args in
    let S = setting_with a.layout a.requests in
    let b = c.fast_steps-burst in
    let some = c.if-burst-gt0.true in
    let q = fast_ran S _ _ _ _ a.control _ _ _ b.result (c.fast_until-until.ensures a.layout here) c.is_held.ensures b.ensures.ran in
    sym (ran_one S _ _ _ _
    (burst_some S _ a.control _ _ b.result _ _ q some a.saved.now _ c.after_fast.ensures.1 _ c.after_fast.ensures.0)
    some b.ensures.within)
