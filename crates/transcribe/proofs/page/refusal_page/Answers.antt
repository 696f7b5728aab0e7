use Rattle.std.proofs.Common.{rules}
use Rattle.transcribe.proofs.FilledLaws.{refusal_filled}
use Rattle.transcribe.proofs.page.refusal_page.Goals as goal

pub returns : goal.returns
returns c mem S = search (rules, refusal_filled)
