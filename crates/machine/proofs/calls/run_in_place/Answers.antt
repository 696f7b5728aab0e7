use Rattle.machine.proofs.AnswerLaws.{run_taken}
use Rattle.machine.proofs.calls.run_in_place.Goals as goal

pub returns-in-Ok : goal.returns-in-Ok
returns-in-Ok c = run_taken _ _ _ _ _ _ _ c.judge_run.ensures c.in-Ok.is (λ f. c.run_steps.ensures (record { timed = f.timetable; traced = f.trace }))
