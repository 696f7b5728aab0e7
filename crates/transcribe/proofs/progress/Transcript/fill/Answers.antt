use Rattle.std.proofs.Common.{rules}
use Rattle.transcribe.proofs.FilledLaws.{nothing_promised, line_promised, steps_promised}
use Rattle.transcribe.proofs.progress.Transcript.fill.Goals as goal

pub returns-in-Nothing : goal.returns-in-Nothing
returns-in-Nothing c = search (rules, nothing_promised)

pub returns-in-RefusalLine : goal.returns-in-RefusalLine
returns-in-RefusalLine c = line_promised _ _ _ _ _ _ _ c.in-RefusalLine.is (c.refusal_page.ensures _ _)

pub returns-in-Header : goal.returns-in-Header
returns-in-Header c = search (rules, steps_promised)
