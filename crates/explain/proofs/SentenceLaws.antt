-- The parts of a sentence, put one behind another, and its labels. Assumes nothing.
use Rattle.std.proofs.Common.{ℕ, ◌≡◌, ◌≤◌, List, ◌++◌, length, eqb, ◌∙◌, refl, arith, length-append, codes}
use Rattle.base.specs.Test.{when◌then◌else◌}
use Rattle.base.specs.declared.refusal.Refusal.{Refusal}
use Rattle.base.specs.declared.refusal.Refusal.TheVariants.{Map, Fence, Timetable, Frame, Distance, Clock, Line as BadLine, Sheet, Word, Trace, Landmark}
use Rattle.base.proofs.Tests.{cases}
use Rattle.transcript.specs.Transcript.{decimal_bytes, decimal_from}
use Rattle.transcript.specs.declared.line.Line.{Line}
use Rattle.transcript.specs.Put.{Puts}
use Rattle.transcript.proofs.TranscriptLaws.{puts_then, length_decimal_bytes}
use Rattle.explain.specs.Sentence.{line_label, refusal_label, refusal_word, sentence, Explains}
use Rattle.explain.specs.internal.Reason.{Wrote}

-- some bytes, and then some more behind them
pub wrote_then : {before between after : Line} → Wrote before between → Wrote between after → Wrote before after
wrote_then p q = record { bytes = p.bytes ++ q.bytes; puts = puts_then p.puts q.puts; end = q.end }

-- how long the label of a line is at most
pub length_line_label : (line : ℕ) → length (line_label line) ≤ 27
unfolding line_label when◌then◌else◌
length_line_label line =
    cases (eqb line 0) (λ e. rw e (omega arith)) (λ e. rw (e, length-append (decimal_bytes line)) (omega (arith, length_decimal_bytes line)))

-- the labels of refusals, spelled
abbrev pub label_text : Refusal → List ℕ
label_text Map = codes " (1 map)\n"
label_text Fence = codes " (2 fence)\n"
label_text Timetable = codes " (3 timetable)\n"
label_text Frame = codes " (4 frame)\n"
label_text Distance = codes " (5 distance)\n"
label_text Clock = codes " (6 clock)\n"
label_text BadLine = codes " (7 line)\n"
label_text Sheet = codes " (8 sheet)\n"
label_text Word = codes " (9 word)\n"
label_text Trace = codes " (10 trace)\n"
label_text Landmark = codes " (11 landmark)\n"

pub label_spelled : (r : Refusal) → refusal_label r ≡ label_text r
unfolding refusal_label refusal_word decimal_bytes decimal_from when◌then◌else◌
label_spelled Map = refl
label_spelled Fence = refl
label_spelled Timetable = refl
label_spelled Frame = refl
label_spelled Distance = refl
label_spelled Clock = refl
label_spelled BadLine = refl
label_spelled Sheet = refl
label_spelled Word = refl
label_spelled Trace = refl
label_spelled Landmark = refl

-- the three parts of a sentence
pub explained : {entry exit : List ℕ} {empty labelled reasoned last : Line} {written : ℕ} (r : Refusal) (line : ℕ)
    → empty.out.now ≡ entry → empty.filled ≡ 0 → Puts empty labelled (line_label line) → Wrote labelled reasoned
    → Puts reasoned last (refusal_label r) → written ≡ last.filled → exit ≡ last.out.now → Explains r line entry exit written
unfolding sentence
explained r line e z p q s w x =
    let t = puts_then p (puts_then q.puts s) in
    record { reason = q.bytes; size = omega (arith, t.put.ends); bytes = x ∙ t.put.lies ∙ rw (e, z) }
