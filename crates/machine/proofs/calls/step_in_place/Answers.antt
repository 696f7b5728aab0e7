use Rattle.machine.proofs.AnswerLaws.{step_taken}
use Rattle.machine.proofs.calls.step_in_place.Goals as goal

pub returns-in-Ok : goal.returns-in-Ok
returns-in-Ok c =
    let found = c.requests_at-requests.ensures in
    step_taken _ _ _ _ _ c.judge_step.ensures c.in-Ok.is (λ f. rw found.lists at (c.one_step-moved.ensures f.early (found.upcoming (record { timed = f.timed; traced = f.traced }))))
