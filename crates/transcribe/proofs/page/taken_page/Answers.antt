use Rattle.std.proofs.Common.{rules}
use Rattle.transcribe.proofs.FilledLaws.{steps_filled, header_filled}
use Rattle.transcribe.proofs.page.taken_page.Goals as goal

pub returns-in_default : goal.returns-in_default
returns-in_default c = search (rules, steps_filled)

pub returns : goal.returns
returns c = search (rules, header_filled)
