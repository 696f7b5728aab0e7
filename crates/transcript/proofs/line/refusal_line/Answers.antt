use Rattle.std.proofs.Common.{rules, arith}
use Rattle.transcript.specs.Transcript.{refusal_line}
use Rattle.transcript.proofs.TranscriptLaws.{numbers_put, line_put}
use Rattle.transcript.proofs.line.refusal_line.Goals as goal

pub returns : goal.returns
unfolding refusal_line
returns c =
    let e = c.new-line.ensures in
    let p = numbers_put _ _ e.empty c.put.ensures (rw (c.from-2.ensures, c.from.ensures) at c.put_decimal.ensures) c.put-2.ensures c.put_decimal-2.ensures c.put-3.ensures in
    line_put e.buffer e.empty p.0 c.len.ensures (search rules) (omega (arith, c.len.ensures))
