use Rattle.std.proofs.Common.{sym}
use Rattle.inplace.proofs.RanLaws.{ran_one}
use Rattle.inplace.proofs.InPlaceLaws.{fast_ran, burst_some}
use Rattle.inplace.proofs.in_place.one_step.Goals as goal

pub returns-then-burst-gt0 : goal.returns-then-burst-gt0
returns-then-burst-gt0 c early here =
    let b = c.fast_steps-burst in
    let some = c.if-burst-gt0.true in
    let q = fast_ran _ _ _ _ _ c.args.control _ _ _ b.result (c.fast_until-until.ensures c.args.layout here) c.is_held.ensures b.ensures.ran in
    sym (ran_one _ _ _ _ _
    (burst_some _ _ _ _ _ b.result _ _ q some _ _ c.after_fast.ensures.1 _ c.after_fast.ensures.0)
    some b.ensures.within)
