use Rattle.std.proofs.Common.{true, ◌∙◌, arith}
use Rattle.fast.specs.Steps.{fast_state}
use Rattle.fast.proofs.FastSteps.{effect_few, fast_loop_next}
use Rattle.fast.proofs.steps.fast_loop.Goals as goal

pub overflow_add-time-in-loop-steps : goal.overflow_add-time-in-loop-steps
overflow_add-time-in-loop-steps c =
    let s = c.loop-steps in
    let g = effect_few c.args.layout true (fast_state s.registers s.last s.time s.mem) c.word_at-w.result c.in-Some.e (cc) in
    omega (arith, s.invariant.room, g.1)

pub loop-steps-preserved : goal.loop-steps-preserved
loop-steps-preserved c =
    rw c.from-n.ensures (fast_loop_next _ _ _ _ _ _ _ _ c.loop-steps.invariant c.loop-steps-test.true c.if-until-time.false (λ e. c.if-from-stop_pc.false (c.from.ensures ∙ e)) (cc) _ c.word_at-w.ensures c.in-Some.e (cc) c.requires.room.1 _ (cc))
