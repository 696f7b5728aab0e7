use Rattle.transcribe.proofs.FilledLaws.{taken_ready}
use Rattle.transcribe.proofs.page.tested_page.Goals as goal

pub taken_page-requires-clause-tested : goal.taken_page-requires-clause-tested
taken_page-requires-clause-tested c =
    let ready = taken_ready _ _ _ _ c.judge_transcript.ensures c.in-Ok.is in
    record { timed = ready.timetable; traced = ready.trace }
