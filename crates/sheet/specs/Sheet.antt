-- The sheet: its lines in order, the first that is bad, and the setup that it tells.
use Rattle.std.specs.Prelude.{ℕ, ◌+◌, ◌≡◌, Bool, true, false, List, [], ◌∷◌, Option, None, Some, Result, Ok, Err, ltb, leb, length}
use Rattle.std.specs.declared.ops.ControlFlow.{ControlFlow}
use Rattle.std.specs.declared.ops.ControlFlow.TheVariants.{Continue, Break}
use Rattle.base.specs.Test.{when◌then◌else◌, all}
use Rattle.base.specs.declared.refusal.Refusal.{Refusal}
use Rattle.base.specs.declared.refusal.Refusal.TheVariants.{Fence, Timetable, Distance, Line as LineRefusal, Sheet as TooLong, Trace as TraceRefusal}
use Rattle.base.specs.Limits.{last_clock, most_stamps, most_budget, most_sheet_bytes}
use Rattle.base.specs.Refusal.{refusal_number}
use Rattle.layout.specs.declared.sections.Layout.{Layout}
use Rattle.layout.specs.Rules.{accepted}
use Rattle.lines.specs.declared.line.Content.{Content}
use Rattle.lines.specs.declared.line.Content.TheVariants.{Layout as Layouts, Word, Stamp, Record, Budget}
use Rattle.sheet.specs.declared.reader.Setup.{Setup}
use Rattle.base.specs.declared.refusal.SheetRefusal.{SheetRefusal}
use Rattle.sheet.specs.declared.reader.StampsSoFar.{StampsSoFar}
use Rattle.sheet.specs.declared.reader.ListsSoFar.{ListsSoFar}
use Rattle.lines.specs.Line.{parse_line}
use Rattle.loader.specs.Setup.{pieces}

-- ---- lines

-- no piece follows
abbrev pub none_follows : List (List ℕ) → Bool
none_follows [] = true
none_follows (p ∷ ps) = false

-- no byte follows
abbrev pub nothing_follows : List (List ℕ) → Bool
nothing_follows [] = true
nothing_follows ([] ∷ ps) = none_follows ps
nothing_follows ((x ∷ p) ∷ ps) = false

-- ---- the answer

-- a sheet's answer: the setup, or the refusal with its line
abbrev pub Answer : Type 0
Answer = Result Setup SheetRefusal

-- a refusal for a line
abbrev pub refused : Refusal → ℕ → Answer
refused r line = Err (record { refusal = r; line = line })

-- the next stamp of a list: not too many, rising, at most 2^62
unfoldable pub fits_list : StampsSoFar → ℕ → Bool
fits_list stamps s = all (ltb stamps.count most_stamps ∷ ltb stamps.last s ∷ leb s last_clock ∷ [])

-- a list without a stamp
abbrev pub no_stamps : StampsSoFar
no_stamps = record { last = 0; count = 0 }

-- a list with a stamp more
abbrev pub with_stamp : StampsSoFar → ℕ → StampsSoFar
with_stamp stamps s = record { last = s; count = stamps.count + 1 }

-- the two lists before the first stamp of either
abbrev pub no_lists : ListsSoFar
no_lists = record { timetable = no_stamps; trace = no_stamps }

-- each list by itself, with a stamp more
abbrev pub with_timetable : ListsSoFar → ℕ → ListsSoFar
with_timetable lists s = record { timetable = with_stamp lists.timetable s; trace = lists.trace }

abbrev pub with_trace : ListsSoFar → ℕ → ListsSoFar
with_trace lists s = record { timetable = lists.timetable; trace = with_stamp lists.trace s }

module _ (L : Layout) (n : ℕ) where
  -- G at line n: nothing may follow it
  unfoldable pub budget_answer : ListsSoFar → ℕ → Bool → Answer
  budget_answer lists b last =
      when leb b most_budget then
      when last then Ok (record { layout = L; stamps = lists.timetable.count; records = lists.trace.count; budget = b })
      else refused LineRefusal (n + 1)
      else refused Distance n

  -- a line after the first, by what it says: the lists so far go along, and each takes its own stamps
  unfoldable pub stage_of : ListsSoFar → Content → Bool → ControlFlow Answer ListsSoFar
  stage_of lists (Layouts M) ends = Break (refused LineRefusal n)
  stage_of lists (Word a w) ends = Continue lists
  stage_of lists (Stamp s) ends =
      when fits_list lists.timetable s then Continue (with_timetable lists s) else Break (refused Timetable n)
  stage_of lists (Record s w) ends =
      when fits_list lists.trace s then Continue (with_trace lists s) else Break (refused TraceRefusal n)
  stage_of lists (Budget b) ends = Break (budget_answer lists b ends)

-- where the lines stop, or what the further ones say
abbrev pub unless_stopped : ControlFlow Answer ListsSoFar → (ListsSoFar → Answer) → Answer
unless_stopped (Continue lists) further = further lists
unless_stopped (Break a) further = a

-- a line that cannot be read is bad
abbrev pub if_parsed : ℕ → Option Content → (Content → Answer) → Answer
if_parsed n None further = refused LineRefusal n
if_parsed n (Some content) further = further content

-- the lines from line n on, L being read; one that is missing counts at the place after the last
unfoldable pub body_from : Layout → ℕ → ListsSoFar → List (List ℕ) → Answer
body_from L n lists [] = refused LineRefusal n
body_from L n lists (p ∷ ps) =
    when none_follows ps then refused LineRefusal n
    else if_parsed n (parse_line p)
    (λ content. unless_stopped (stage_of L n lists content (nothing_follows ps)) (λ more. body_from L (n + 1) more ps))

-- the first line is L
abbrev pub first_of : Content → Option Layout
first_of (Layouts L) = Some L
first_of (Word a w) = None
first_of (Stamp s) = None
first_of (Record s w) = None
first_of (Budget b) = None

-- and keeps every rule of a layout
abbrev pub if_layout : Option Layout → (Layout → Answer) → Answer
if_layout (Some L) further = when accepted L then further L else refused Fence 1
if_layout None further = refused LineRefusal 1

-- then the others
unfoldable pub lines_answer : List (List ℕ) → Answer
lines_answer [] = refused LineRefusal 1
lines_answer (p ∷ ps) =
    when none_follows ps then refused LineRefusal 1
    else if_parsed 1 (parse_line p) (λ content. if_layout (first_of content) (λ L. body_from L 2 no_lists ps))

-- a sheet above 32,768 bytes is refused before all
unfoldable pub sheet_answer : List ℕ → Answer
sheet_answer sheet = when leb (length sheet) most_sheet_bytes then lines_answer (pieces sheet) else refused TooLong 0

-- the number of the refusal, 0 where there is none
abbrev pub sheet_refusal : Answer → ℕ
sheet_refusal (Ok setup) = 0
sheet_refusal (Err r) = refusal_number r.refusal

-- the refused line, 0 where there is none
abbrev pub refused_line : Answer → ℕ
refused_line (Ok setup) = 0
refused_line (Err r) = r.line

-- what the reader promises of its answer: it is the definition's, and so are the refusal's number and line
pub record SheetPromise (sheet : List ℕ) (answer : Answer) : Type 0 where
  pub result : answer ≡ sheet_answer sheet
  pub number : sheet_refusal answer ≡ sheet_refusal (sheet_answer sheet)
  pub line : refused_line answer ≡ refused_line (sheet_answer sheet)
