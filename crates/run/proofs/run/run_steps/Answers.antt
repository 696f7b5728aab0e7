use Rattle.std.proofs.Common.{◌∙◌, ◌-◌, refl, sym, ap, subst, arith}
use Rattle.answers.specs.declared.answer.End.TheVariants.{Halted, Clock, Address}
use Rattle.base.proofs.Tests.{fails, holds}
use Rattle.definition.specs.Registers.{register}
use Rattle.definition.specs.State.{World}
use Rattle.definition.specs.Run.{world_after, step_of}
use Rattle.clock.specs.Requests.{setting_with, Tested}
use Rattle.run.proofs.LoopLaws.{ending_halted, ending_clock, ending_address, loop_first, loop_here, loop_can_pass, loop_passed, loop_goes_on, loop_stops, loop_spent}
use Rattle.run.proofs.FastRun.{loop_step_fast, loop_step_full}
use Rattle.inplace.proofs.InPlaceLaws.{fast_ran, burst_none, burst_some, full_gives}
use Rattle.run.proofs.run.run_steps.Goals as goal

pub loop-current-init : goal.loop-current-init
loop-current-init c =
    let found = c.requests_at-requests.ensures in (
      record {
        size = refl;
        within = omega arith;
        timed = λ h k.
            let tested : Tested c.args.lists = subst Tested found.lists (record { timed = h; traced = k }) in
            let here = found.upcoming tested in
            loop_first _ _ _ _ _ _ here.stamps here.records;
      },
      found.lists,
    )

pub loop-current-preserved-then-burst-gt0 : goal.loop-current-preserved-then-burst-gt0
loop-current-preserved-then-burst-gt0 c =
    let l = c.loop-current in
    let b = c.fast_steps-burst in
    let some = c.if-burst-gt0.true in
    let few = b.ensures.within in
    let keeps = l.invariant.0 in
    let within = keeps.within in
    let later = c.at-requests.ensures in (
      record {
        size = c.mem-1.given ∙ keeps.size;
        within = omega arith;
        timed = λ h k.
            let tested : Tested l.requests.lists = subst Tested later.lists (record { timed = h; traced = k }) in
            let t = keeps.timed tested.timed tested.traced in
            let q = fast_ran _ _ _ _ _ l.current _ _ _ b.result (c.fast_until-until.ensures c.args.layout (loop_here _ _ _ _ _ _ _ tested t)) c.is_held.ensures b.ensures.ran in
            let led = burst_some _ _ _ _ _ b.result _ _ q some _ _ c.after_fast-current.ensures.1 _ c.after_fast-current.ensures.0 in
            let u = loop_step_fast _ _ _ c.stop_pc_of-stop_pc.ensures _ _ _ _ led some few in
            loop_goes_on _ _ _ _ _ _ _ tested t _ _ u _ later.lists (later.upcoming (loop_passed _ _ _ _ _ _ _ tested t _ u.rises));
      },
      later.lists ∙ l.invariant.1,
    )

pub loop-current-preserved : goal.loop-current-preserved
unfolding register
loop-current-preserved c =
    let l = c.loop-current in
    let p = c.args in
    let S = setting_with p.layout l.requests in
    let keeps = l.invariant.0 in
    let within = keeps.within in
    let n = c.if-steps-budget.false in
    let few = c.if-burst-gt0.false in
    let b = c.fast_steps-burst in
    let early = c.if-current-gt-LAST_CLOCK.false in
    let held = c.state-m.ensures in
    let later = c.at-requests-in-loop-current.ensures in (
      record {
        size = c.mem-in-loop-current-1.given ∙ c.mem-1.given ∙ keeps.size;
        within = omega arith;
        timed = λ h k.
            let tested : Tested l.requests.lists = subst Tested later.lists (record { timed = h; traced = k }) in
            let t = keeps.timed tested.timed tested.traced in
            let q = fast_ran _ _ _ _ _ l.current _ _ _ b.result (c.fast_until-until.ensures p.layout (loop_here _ _ _ _ _ _ _ tested t)) c.is_held.ensures b.ensures.ran in
            let z = burst_none _ _ _ _ _ b.result _ _ q (omega arith) l.saved in
            let g = full_gives _ _ _ _ _ _ _ _ _ _ _ held
            (c.take_step-done.ensures (rw held (loop_can_pass _ _ _ _ _ _ _ tested t early)))
            c.put_back-current.ensures in
            let u = loop_step_full S p.stop (p.budget - l.steps) _ _ c.if-current.false early (fails c.is_at.ensures c.if-is_at.false) (omega arith)
            (ap world_after g ∙ ap (λ (v : World). world_after (step_of S v)) z) in
            loop_goes_on _ _ _ _ _ _ _ tested t _ _ u _ later.lists (later.upcoming (loop_passed _ _ _ _ _ _ _ tested t _ u.rises));
      },
      later.lists ∙ l.invariant.1,
    )

pub returns-then-current : goal.returns-then-current
returns-then-current c = λ h.
    let t = c.loop-current.invariant in
    let tested = subst Tested (sym t.1) h in
    rw (← t.1, loop_stops _ _ _ _ _ _ _ _ (t.0.timed tested.timed tested.traced) Halted (ending_halted _ _ c.if-current.true))

pub returns-then-current-gt-LAST_CLOCK : goal.returns-then-current-gt-LAST_CLOCK
returns-then-current-gt-LAST_CLOCK c = λ h.
    let t = c.loop-current.invariant in
    let tested = subst Tested (sym t.1) h in
    rw (← t.1, loop_stops _ _ _ _ _ _ _ _ (t.0.timed tested.timed tested.traced) Clock (ending_clock _ _ c.if-current.false c.if-current-gt-LAST_CLOCK.true))

pub returns-then-steps-budget : goal.returns-then-steps-budget
unfolding register
returns-then-steps-budget c = λ h.
    let t = c.loop-current.invariant in
    let tested = subst Tested (sym t.1) h in
    rw (← t.1, loop_spent _ _ _ _ _ _ _ _ (t.0.timed tested.timed tested.traced) c.if-steps-budget.true c.if-current.false c.if-current-gt-LAST_CLOCK.false (cc))

pub returns-then-is_at : goal.returns-then-is_at
unfolding register
returns-then-is_at c = λ h.
    let t = c.loop-current.invariant in
    let tested = subst Tested (sym t.1) h in
    rw (← t.1, loop_stops _ _ _ _ _ _ _ _ (t.0.timed tested.timed tested.traced) Address (ending_address _ _ c.if-current.false (omega arith) (holds c.is_at.ensures c.if-is_at.true)))
