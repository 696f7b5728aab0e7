-- The sentence on a refused sheet: the line's number, the reason, the refusal's number and word.
use Rattle.std.specs.Prelude.{ℕ, ◌≡◌, List, [], ◌∷◌, ◌++◌, eqb, length, codes}
use Rattle.std.proofs.lemmas.List.Edits.{sets}
use Rattle.base.specs.Test.{when◌then◌else◌}
use Rattle.base.specs.declared.refusal.Refusal.{Refusal}
use Rattle.base.specs.declared.refusal.Refusal.TheVariants.{Map, Fence, Timetable, Frame, Distance, Clock, Line, Sheet, Word, Trace, Landmark}
use Rattle.base.specs.Refusal.{refusal_number}
use Rattle.transcript.specs.Transcript.{decimal_bytes, parts}

-- `line `, the number, a colon and a space; nothing for the sheet as a whole, line 0
unfoldable pub line_label : ℕ → List ℕ
line_label line =
    when eqb line 0 then [] else parts (codes "line " ∷ decimal_bytes line ∷ codes ": " ∷ [])

-- the papers' word for a refusal
unfoldable pub refusal_word : Refusal → List ℕ
refusal_word Map = codes "map"
refusal_word Fence = codes "fence"
refusal_word Timetable = codes "timetable"
refusal_word Frame = codes "frame"
refusal_word Distance = codes "distance"
refusal_word Clock = codes "clock"
refusal_word Line = codes "line"
refusal_word Sheet = codes "sheet"
refusal_word Word = codes "word"
refusal_word Trace = codes "trace"
refusal_word Landmark = codes "landmark"

-- a space, the refusal's number and word in brackets, and the newline
unfoldable pub refusal_label : Refusal → List ℕ
refusal_label r =
    parts
    (codes " (" ∷ decimal_bytes (refusal_number r) ∷ codes " " ∷ refusal_word r ∷ codes ")\n" ∷ [])

-- the sentence around a reason
unfoldable pub sentence : Refusal → ℕ → List ℕ → List ℕ
sentence r line reason = line_label line ++ (reason ++ refusal_label r)

-- so many bytes are written, a sentence for this refusal and this line
pub record Explains (r : Refusal) (line : ℕ) (entry exit : List ℕ) (written : ℕ) : Type 0 where
  pub reason : List ℕ
  pub size : written ≡ length (sentence r line reason)
  pub bytes : exit ≡ sets entry 0 (sentence r line reason)
