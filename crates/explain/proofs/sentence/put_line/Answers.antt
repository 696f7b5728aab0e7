use Rattle.std.proofs.Common.{arith}
use Rattle.std.proofs.lemmas.Bool.{ne_eqb}
use Rattle.base.proofs.Tests.{when_false}
use Rattle.transcript.proofs.TranscriptLaws.{puts_then, length_decimal_bytes}
use Rattle.explain.specs.Sentence.{line_label}
use Rattle.explain.proofs.sentence.put_line.Goals as goal

pub returns : goal.returns
unfolding line_label
returns c =
    let word = c.put.ensures (omega arith) in
    let number = c.put_decimal.ensures (omega arith) in
    let colon = c.put-2.ensures (omega (arith, length_decimal_bytes)) in
    rw (when_false _ _ _ (ne_eqb c.args.line 0 c.if-line-eq-WHOLE_SHEET.false)) (puts_then word (puts_then number colon))
