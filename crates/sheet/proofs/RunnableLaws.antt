-- What a sheet sets up, the machine takes. Assumes nothing.
use Rattle.std.proofs.Common.{ℕ, ◌+◌, ◌≤◌, ◌≡◌, refl, sym, ◌∙◌, true, List, [], ◌∷◌, Option, None, Some, Ok, Err, Continue, Break, leb, length, arith}
use Rattle.std.specs.declared.ops.ControlFlow.{ControlFlow}
use Rattle.std.proofs.lemmas.Bool.Decides.{nat_tests}
use Rattle.std.proofs.lemmas.List.{nil_from_length}
use Rattle.base.specs.Test.{when◌then◌else◌, all}
use Rattle.base.specs.declared.refusal.Refusal.TheVariants.{Timetable, Trace as TraceRefusal}
use Rattle.base.proofs.Tests.{choose, choices}
use Rattle.base.specs.Limits.{most_budget, most_sheet_bytes, most_stamps}
use Rattle.layout.specs.declared.sections.Layout.{Layout}
use Rattle.layout.specs.Rules.{accepted}
use Rattle.definition.specs.Setting.{Trace}
use Rattle.definition.specs.Calls.{rising_from, timetable, trace_fits}
use Rattle.lines.specs.declared.line.Content.{Content}
use Rattle.lines.specs.declared.line.Content.TheVariants.{Layout as Layouts, Word, Stamp, Record, Budget}
use Rattle.sheet.specs.declared.reader.Setup.{Setup}
use Rattle.base.specs.declared.refusal.SheetRefusal.{SheetRefusal}
use Rattle.sheet.specs.declared.reader.StampsSoFar.{StampsSoFar}
use Rattle.sheet.specs.declared.reader.ListsSoFar.{ListsSoFar}
use Rattle.lines.specs.Line.{parse_line}
use Rattle.sheet.specs.Sheet.{none_follows, nothing_follows, Answer, refused, fits_list, no_stamps, with_stamp, no_lists, with_timetable, with_trace, budget_answer, stage_of, unless_stopped, if_parsed, body_from, first_of, if_layout, lines_answer, sheet_answer}
use Rattle.loader.specs.Setup.{pieces, stamp_of, stamps_from, sheet_stamps, record_of, trace_from, sheet_trace}
use Rattle.sheet.specs.Laws.{Runnable, ReadIsRunnable}
use Rattle.loader.proofs.SetupLaws.{empty_line}

-- ---- a list

-- what the further lines add to a list so far: they rise from its last stamp, and so many it has then
record Adds (before : StampsSoFar) (stamps : List ℕ) (count : ℕ) : Type 0 where
  rising : rising_from before.last stamps ≡ true
  counted : count ≡ before.count + length stamps
  few : before.count ≤ most_stamps → count ≤ most_stamps

-- no stamp more
none_added : (before : StampsSoFar) (stamps : List ℕ) → stamps ≡ [] → Adds before stamps before.count
unfolding rising_from
none_added before stamps e = rw e (record { rising = refl; counted = omega arith; few = λ h. h })

-- a stamp that fits, and then the further ones
one_added : (before : StampsSoFar) (s : ℕ) (stamps : List ℕ) (count : ℕ) → fits_list before s ≡ true
    → Adds (with_stamp before s) stamps count → Adds before (s ∷ stamps) count
unfolding fits_list rising_from all
one_added before s stamps count f a = grind (arith, choices)

-- a list that begins without a stamp is taken
list_taken : (stamps : List ℕ) (count : ℕ) → Adds no_stamps stamps count → (timetable stamps ≡ true) × (count ≡ length stamps)
unfolding timetable all
list_taken stamps count a = grind (arith, choices)

-- each record has its stamp and its word
pair_more : (line : Option Content) (t : Trace) → length t.stamps ≡ length t.words → length (record_of line t).stamps ≡ length (record_of line t).words
pair_more line t e = grind arith

paired : (ps : List (List ℕ)) → length (trace_from ps).stamps ≡ length (trace_from ps).words
unfolding trace_from
paired [] = refl
paired (p ∷ ps) = pair_more (parse_line p) (trace_from ps) (paired ps)

-- ---- an answer

-- what an answer must keep: if it is a setup, it is of this layout, and what the lines add to the lists so far fits them
record Kept (L : Layout) (before : ListsSoFar) (stamps : List ℕ) (t : Trace) (setup : Setup) : Type 0 where
  layout : setup.layout ≡ L
  timetable : Adds before.timetable stamps setup.stamps
  trace : Adds before.trace t.stamps setup.records
  budget_allowed : setup.budget ≤ most_budget

abbrev Keeps : Layout → ListsSoFar → List ℕ → Trace → Answer → Type 0
Keeps L before stamps t a = (setup : Setup) → a ≡ Ok setup → Kept L before stamps t setup

-- a refusal is no setup
refused_keeps : (L : Layout) (before : ListsSoFar) (stamps : List ℕ) (t : Trace) (r : SheetRefusal) → Keeps L before stamps t (Err r)
refused_keeps L before stamps t r setup e = absurd (cc)

-- nothing follows: no stamp does, of either list
no_stamp_follows : (ps : List (List ℕ)) → nothing_follows ps ≡ true → (stamps_from ps ≡ []) × ((trace_from ps).stamps ≡ [])
unfolding stamps_from trace_from
no_stamp_follows [] e = (refl, refl)
no_stamp_follows ([] ∷ []) e = rw empty_line (refl, refl)
no_stamp_follows ([] ∷ (q ∷ ps)) e = absurd (cc)
no_stamp_follows ((x ∷ p) ∷ ps) e = absurd (cc)

module _ (L : Layout) (n : ℕ) (before : ListsSoFar) where
  -- the budget's line ends a sheet
  budget_keeps : (b : ℕ) (ps : List (List ℕ)) → Keeps L before (stamps_from ps) (trace_from ps) (budget_answer L n before b (nothing_follows ps))
  unfolding budget_answer
  budget_keeps b ps setup e = grind (arith, choices, no_stamp_follows ps, none_added)

-- a line after L, where the further ones keep what they must
module _ (L : Layout) (n : ℕ) (before : ListsSoFar) (ps : List (List ℕ))
    (further : (more : ListsSoFar) → Keeps L more (stamps_from ps) (trace_from ps) (body_from L (n + 1) more ps)) where
  -- with a line that goes on, or stops
  abbrev then_further : ControlFlow Answer ListsSoFar → Answer
  then_further stage = unless_stopped stage (λ more. body_from L (n + 1) more ps)

  -- a stamp that fits its list goes on, one that does not stops
  stamp_keeps : (s : ℕ)
      → Keeps L before (s ∷ stamps_from ps) (trace_from ps)
      (then_further (when fits_list before.timetable s then Continue (with_timetable before s) else Break (refused Timetable n)))
  stamp_keeps s setup e = grind (arith, choices, further (with_timetable before s) setup, one_added before.timetable s (stamps_from ps) setup.stamps)

  record_keeps : (s w : ℕ)
      → Keeps L before (stamps_from ps) (record_of (Some (Record s w)) (trace_from ps))
      (then_further (when fits_list before.trace s then Continue (with_trace before s) else Break (refused TraceRefusal n)))
  record_keeps s w setup e = grind (arith, choices, further (with_trace before s) setup, one_added before.trace s (trace_from ps).stamps setup.records)

  content_keeps : (content : Content)
      → Keeps L before (stamp_of (Some content) (stamps_from ps)) (record_of (Some content) (trace_from ps))
      (then_further (stage_of L n before content (nothing_follows ps)))
  unfolding stage_of
  content_keeps (Layouts M) = refused_keeps _ _ _ _ _
  content_keeps (Word a w) = further before
  content_keeps (Stamp s) = stamp_keeps s
  content_keeps (Record s w) = record_keeps s w
  content_keeps (Budget b) = budget_keeps L n before b ps

  line_keeps : (line : Option Content)
      → Keeps L before (stamp_of line (stamps_from ps)) (record_of line (trace_from ps))
      (if_parsed n line (λ content. then_further (stage_of L n before content (nothing_follows ps))))
  line_keeps None = refused_keeps _ _ _ _ _
  line_keeps (Some content) = content_keeps content

-- the lines after L
body_keeps : (L : Layout) (ps : List (List ℕ)) (n : ℕ) (before : ListsSoFar)
    → Keeps L before (stamps_from ps) (trace_from ps) (body_from L n before ps)
unfolding body_from stamps_from trace_from
body_keeps L [] n before = refused_keeps _ _ _ _ _
body_keeps L (p ∷ ps) n before =
    choose (Keeps L before (stamp_of (parse_line p) (stamps_from ps)) (record_of (parse_line p) (trace_from ps))) (none_follows ps)
    (λ e. refused_keeps _ _ _ _ _) (λ e. line_keeps L n before ps (body_keeps L ps (n + 1)) (parse_line p))

-- the first line: its own piece says no stamp
abbrev ReadRunnable : List ℕ → Trace → Answer → Type 0
ReadRunnable stamps t a = (setup : Setup) → a ≡ Ok setup → Runnable setup stamps t

refused_runnable : (stamps : List ℕ) (t : Trace) (r : SheetRefusal) → ReadRunnable stamps t (Err r)
refused_runnable stamps t r setup e = absurd (cc)

body_runnable : (L : Layout) (ps : List (List ℕ)) → accepted L ≡ true
    → ReadRunnable (stamps_from ps) (trace_from ps) (body_from L 2 no_lists ps)
unfolding trace_fits all
body_runnable L ps f setup e =
    let k = body_keeps L ps 2 no_lists setup e in
    grind (arith, choices, nat_tests, k, list_taken (stamps_from ps) setup.stamps k.timetable, list_taken (trace_from ps).stamps setup.records k.trace, paired ps)

first_runnable : (line : Option Content) (ps : List (List ℕ))
    → ReadRunnable (stamp_of line (stamps_from ps)) (record_of line (trace_from ps))
    (if_parsed 1 line (λ content. if_layout (first_of content) (λ L. body_from L 2 no_lists ps)))
first_runnable None ps = refused_runnable _ _ _
first_runnable (Some (Layouts L)) ps =
    choose (ReadRunnable (stamps_from ps) (trace_from ps)) (accepted L) (λ f. body_runnable L ps f) (λ f. refused_runnable _ _ _)
first_runnable (Some (Word a w)) ps = refused_runnable _ _ _
first_runnable (Some (Stamp s)) ps = refused_runnable _ _ _
first_runnable (Some (Record s w)) ps = refused_runnable _ _ _
first_runnable (Some (Budget b)) ps = refused_runnable _ _ _

lines_runnable : (ps : List (List ℕ)) → ReadRunnable (stamps_from ps) (trace_from ps) (lines_answer ps)
unfolding lines_answer stamps_from trace_from
lines_runnable [] = refused_runnable _ _ _
lines_runnable (p ∷ ps) =
    choose (ReadRunnable (stamp_of (parse_line p) (stamps_from ps)) (record_of (parse_line p) (trace_from ps))) (none_follows ps)
    (λ e. refused_runnable _ _ _) (λ e. first_runnable (parse_line p) ps)

pub read_is_runnable : ReadIsRunnable
unfolding ReadIsRunnable sheet_answer sheet_stamps sheet_trace
read_is_runnable sheet =
    choose (ReadRunnable (stamps_from (pieces sheet)) (trace_from (pieces sheet))) (leb (length sheet) most_sheet_bytes)
    (λ e. lines_runnable (pieces sheet)) (λ e. refused_runnable _ _ _)

-- ---- a sheet without a record

module _ (sheet : List ℕ) (setup : Setup) (e : sheet_answer sheet ≡ Ok setup) (n : setup.records ≡ 0) where
  no_trace_length : length (sheet_trace sheet).stamps ≡ 0
  unfolding ReadIsRunnable
  no_trace_length = let r = (read_is_runnable sheet setup e).records_counted in omega arith

  pub no_trace_stamps : (sheet_trace sheet).stamps ≡ []
  no_trace_stamps = nil_from_length _ no_trace_length

  pub no_trace_words : (sheet_trace sheet).words ≡ []
  unfolding sheet_trace
  no_trace_words = nil_from_length _ (sym (paired (pieces sheet)) ∙ no_trace_length)
