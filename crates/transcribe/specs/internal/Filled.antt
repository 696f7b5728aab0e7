-- What a call fills of a lent buffer, from an index on. No promise rests on it.
use Rattle.std.specs.Prelude.{ℕ, ◌+◌, ◌≤◌, List, Bool, true, false, ◌≡◌, length, Result}
use Rattle.std.proofs.lemmas.List.Edits.{sets}
use Rattle.base.specs.declared.refusal.Refusal.{Refusal}
use Rattle.steplines.specs.declared.remaining.Remaining.{Remaining}
use Rattle.steplines.specs.declared.remaining.Remaining.TheVariants.{RefusalLine, Header, Steps, Nothing}
use Rattle.transcribe.specs.declared.progress.Transcript.{Transcript}
use Rattle.transcribe.specs.declared.progress.Filled.{Filled}
use Rattle.steplines.specs.Page.{Page}
use Rattle.transcribe.specs.Promise.{transcript_after, written_by}

-- whether steps, or the end, are still to be written
abbrev pub steps_remain : Remaining → Bool
steps_remain (RefusalLine r) = false
steps_remain Header = true
steps_remain Steps = true
steps_remain Nothing = false

-- a page that a call filled, from an index on
pub record PageFilled (p : Page) (v : Result (Unit {0}) Refusal) (t : Transcript) (r : Filled) (mem_then entry exit : List ℕ) (start : ℕ) : Type 0 where
  pub bytes : exit ≡ sets entry start p.text
  pub written : r.written ≡ written_by v (start + length p.text)
  pub fits : start + length p.text ≤ length entry
  pub transcript : r.transcript ≡ transcript_after t p
  pub memory : mem_then ≡ p.world.memory
