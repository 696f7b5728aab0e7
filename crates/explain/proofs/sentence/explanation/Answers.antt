use Rattle.std.proofs.Common.{rules, arith}
use Rattle.explain.proofs.SentenceLaws.{explained}
use Rattle.explain.proofs.sentence.explanation.Goals as goal

pub returns-clause-sentence : goal.returns-clause-sentence
returns-clause-sentence c =
    let label = c.put.ensures (omega arith) in
    explained _ _ c.new-text.ensures.buffer c.new-text.ensures.empty c.put_line.ensures c.put_reason.ensures
    (rw c.label_of.ensures.label at label)
    c.len.ensures (search rules)
