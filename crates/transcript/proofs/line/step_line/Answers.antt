use Rattle.std.proofs.Common.{rules, arith}
use Rattle.transcript.specs.Transcript.{step_line}
use Rattle.transcript.proofs.TranscriptLaws.{puts_then, line_put, length_decimal_bytes, length_hex_bytes}
use Rattle.transcript.proofs.line.step_line.Goals as goal

pub returns : goal.returns
unfolding step_line
returns c =
    let empty = c.new-line.ensures.empty in
    let number = c.put_decimal.ensures (omega arith) in
    let letter = c.put.ensures (omega (arith, length_decimal_bytes)) in
    let clock = c.put_decimal-2.ensures (omega (arith, length_decimal_bytes)) in
    let pc = c.put_hex_field.ensures in
    let sr = c.put_hex_field-2.ensures in
    let newline = c.put-2.ensures (omega (arith, length_decimal_bytes, length_hex_bytes)) in
    let p = puts_then number (puts_then (rw c.letter.ensures at letter) (puts_then clock (puts_then pc (puts_then sr newline)))) in
    line_put c.new-line.ensures.buffer empty p c.len.ensures (search rules) (omega (arith, c.len.ensures, length_decimal_bytes, length_hex_bytes))
