-- What is known of the reason in the middle of a sentence: that it is some bytes, and where they end.
use Rattle.std.specs.Prelude.{ℕ, ◌≤◌, List}
use Rattle.transcript.specs.declared.line.Line.{Line}
use Rattle.transcript.specs.Put.{Puts}

-- a reason ends here at the latest
abbrev pub reason_end : ℕ
reason_end = 240

-- some bytes were put to a line, which ends where a reason may
pub record Wrote (before after : Line) : Type 0 where
  pub bytes : List ℕ
  pub puts : Puts before after bytes
  pub end : after.filled ≤ reason_end
