-- What a page says is what comes next, and where it stands is where the run is. Assumes nothing.
use Rattle.std.proofs.Common.{ℕ, zero, suc, ◌+◌, ◌-◌, ◌≤◌, ◌<◌, true, ◌≡◌, refl, sym, ◌∙◌, ap, List, [], ◌∷◌, ◌++◌, append_assoc, append-nil, arith, ltb, length, ltb-true}
use Rattle.base.proofs.Tests.{choose}
use Rattle.base.specs.declared.refusal.SheetRefusal.{SheetRefusal}
use Rattle.definition.specs.declared.stop_address.StopAddress.TheVariants.{Nowhere}
use Rattle.definition.specs.Setting.{Setting}
use Rattle.answers.specs.declared.answer.End.{End}
use Rattle.answers.specs.declared.answer.End.TheVariants.{Spent}
use Rattle.definition.specs.State.{World}
use Rattle.definition.specs.Run.{Going, goes, stops, ending, world_after, step_of, stop_or, run_from, none_or, moves}
use Rattle.definition.specs.Laws.{world_at}
use Rattle.transcript.specs.Transcript.{header_line, end_line, refusal_line}
use Rattle.steplines.specs.declared.remaining.Remaining.{Remaining}
use Rattle.steplines.specs.declared.remaining.Remaining.TheVariants.{RefusalLine, Header, Steps, Nothing}
use Rattle.steplines.specs.Page.{line_room, line_of, Page, empty_page, behind, end_page, end_or, page_from}
use Rattle.transcribe.specs.Transcribe.{step_lines, stop_line, steps_text, remaining_text, lines_left, page_of}

-- there is no room, and there is
full : (room : ℕ) → ltb room line_room ≡ true → line_room ≤ room → ⊥
full room h i = let k = ltb-true room line_room h in absurd (omega arith)

module _ (S : Setting) where
  -- a page: the steps that it made of those that were left; what it says is what comes next; where it stands is where the run is
  pub record PageIs (room n left : ℕ) (w : World) (remaining : Remaining) (p : Page) : Type 0 where
    pub made : ℕ
    pub rest : ℕ
    pub count : p.steps ≡ n + made
    pub parts : left ≡ made + rest
    pub says : remaining_text S n left w remaining ≡ p.text ++ remaining_text S p.steps rest p.world p.remaining
    pub stands : p.world ≡ world_at (run_from S Nowhere n made w)
    pub most : lines_left rest p.remaining ≤ lines_left left remaining
    pub fewer : line_room ≤ room → 1 ≤ lines_left left remaining → lines_left rest p.remaining < lines_left left remaining

  -- a run of no steps stands where it is
  pub stands_still : (n : ℕ) (w : World) → w ≡ world_at (run_from S Nowhere n 0 w)
  unfolding run_from
  stands_still n w = go (ending Nowhere w.state)
    where
      go : (g : Going) → w ≡ world_at (stop_or n w (record { state = w.state; memory = w.memory; end = Spent; steps = n }) g)
      go goes = refl
      go (stops e) = refl

  -- nothing written
  pub still : (room n left : ℕ) (w : World) (remaining : Remaining) → (line_room ≤ room → 1 ≤ lines_left left remaining → ⊥)
      → PageIs room n left w remaining (empty_page n w remaining)
  still room n left w remaining f =
      record {
        made = 0;
        rest = left;
        count = omega arith;
        parts = omega arith;
        says = refl;
        stands = stands_still n w;
        most = omega arith;
        fewer = λ i j. absurd (f i j);
      }

  -- the end's line, where the text that is left is that line
  ends : (room n left : ℕ) (w : World) (e : End) → steps_text S n left w ≡ end_line e n w.state.time.clock
      → PageIs room n left w Steps (end_page n w e)
  ends room n left w e h =
      record {
        made = 0;
        rest = left;
        count = omega arith;
        parts = omega arith;
        says = h ∙ sym (append-nil (end_line e n w.state.time.clock));
        stands = stands_still n w;
        most = omega arith;
        fewer = λ i j. omega arith;
      }

  module _ (n left : ℕ) (w : World) where
    -- what is left to say, by whether the run goes on
    text_goes : ending Nowhere w.state ≡ goes
        → steps_text S n (suc left) w ≡ line_of (n + 1) (step_of S w) ++ steps_text S (n + 1) left (world_after (step_of S w))
    unfolding steps_text step_lines moves run_from
    text_goes g =
        ap (λ (z : Going). step_lines n (none_or (record { before = w; after = step_of S w } ∷ moves S Nowhere left (world_after (step_of S w))) z)
        ++ stop_line (stop_or n w (run_from S Nowhere (n + 1) left (world_after (step_of S w))) z)) g
        ∙ append_assoc (line_of (n + 1) (step_of S w)) (step_lines (n + 1) (moves S Nowhere left (world_after (step_of S w))))
        (stop_line (run_from S Nowhere (n + 1) left (world_after (step_of S w))))

    text_spent : ending Nowhere w.state ≡ goes → steps_text S n 0 w ≡ end_line Spent n w.state.time.clock
    unfolding steps_text step_lines moves run_from
    text_spent g = ap (λ (z : Going). stop_line (stop_or n w (record { state = w.state; memory = w.memory; end = Spent; steps = n }) z)) g

    -- a step of the run
    pub lands : ending Nowhere w.state ≡ goes → run_from S Nowhere n (suc left) w ≡ run_from S Nowhere (n + 1) left (world_after (step_of S w))
    unfolding run_from
    lands g = ap (stop_or n w (run_from S Nowhere (n + 1) left (world_after (step_of S w)))) g

  text_stops : (n left : ℕ) (w : World) (e : End) → ending Nowhere w.state ≡ stops e → steps_text S n left w ≡ end_line e n w.state.time.clock
  unfolding steps_text step_lines moves run_from
  text_stops n zero w e g = ap (λ (z : Going). stop_line (stop_or n w (record { state = w.state; memory = w.memory; end = Spent; steps = n }) z)) g
  text_stops n (suc left) w e g =
      ap (λ (z : Going). step_lines n (none_or (record { before = w; after = step_of S w } ∷ moves S Nowhere left (world_after (step_of S w))) z)
      ++ stop_line (stop_or n w (run_from S Nowhere (n + 1) left (world_after (step_of S w))) z)) g

  -- where a run stops at once
  pub stopped : (n k : ℕ) (w : World) (e : End) → ending Nowhere w.state ≡ stops e
      → run_from S Nowhere n (suc k) w ≡ record { state = w.state; memory = w.memory; end = e; steps = n }
  unfolding run_from
  stopped n k w e g = ap (stop_or n w (run_from S Nowhere (n + 1) k (world_after (step_of S w)))) g

  -- a line of a step, and what follows it
  goes_on : (room further n left : ℕ) (w : World) (p : Page) → ending Nowhere w.state ≡ goes
      → PageIs further (n + 1) left (world_after (step_of S w)) Steps p
      → PageIs room n (suc left) w Steps (behind (line_of (n + 1) (step_of S w)) p)
  goes_on room further n left w p g q =
      let c = q.count in
      let l = q.parts in
      let m = q.most in
      record {
        made = suc q.made;
        rest = q.rest;
        count = omega arith;
        parts = omega arith;
        says = text_goes n left w g ∙ ap (λ (z : List ℕ). line_of (n + 1) (step_of S w) ++ z) q.says
            ∙ sym (append_assoc (line_of (n + 1) (step_of S w)) p.text (remaining_text S p.steps q.rest p.world p.remaining));
        stands = q.stands ∙ sym (ap world_at (lands n q.made w g));
        most = omega arith;
        fewer = λ i j. omega arith;
      }

  -- the end's line, or a step's and what follows it
  line_or_end : (room n left : ℕ) (w : World) (p : Page)
      → PageIs (room - length (line_of (n + 1) (step_of S w))) (n + 1) left (world_after (step_of S w)) Steps p
      → (g : Going) → ending Nowhere w.state ≡ g → PageIs room n (suc left) w Steps (end_or n w (behind (line_of (n + 1) (step_of S w)) p) g)
  line_or_end room n left w p q goes e = goes_on room (room - length (line_of (n + 1) (step_of S w))) n left w p e q
  line_or_end room n left w p q (stops x) e = ends room n (suc left) w x (text_stops n (suc left) w x e)

  -- the lines of a run, as far as there is room
  pub page_from_is : (room n left : ℕ) (w : World) → PageIs room n left w Steps (page_from S room n left w)
  unfolding page_from
  page_from_is room n zero w =
      choose (PageIs room n zero w Steps) (ltb room line_room) (λ h. still room n zero w Steps (λ i j. full room h i)) (λ h. go (ending Nowhere w.state) refl)
    where
      go : (g : Going) → ending Nowhere w.state ≡ g → PageIs room n zero w Steps (end_or n w (end_page n w Spent) g)
      go goes e = ends room n zero w Spent (text_spent n zero w e)
      go (stops x) e = ends room n zero w x (text_stops n zero w x e)
  page_from_is room n (suc left) w =
      choose (PageIs room n (suc left) w Steps) (ltb room line_room) (λ h. still room n (suc left) w Steps (λ i j. full room h i))
      (λ h. line_or_end room n left w _ (page_from_is (room - length (line_of (n + 1) (step_of S w))) (n + 1) left (world_after (step_of S w))) (ending Nowhere w.state) refl)

  -- the header, and what follows it
  with_header : (room further n left : ℕ) (w : World) (p : Page) → PageIs further n left w Steps p → PageIs room n left w Header (behind header_line p)
  with_header room further n left w p q =
      let c = q.count in
      let l = q.parts in
      let m = q.most in
      record {
        made = q.made;
        rest = q.rest;
        count = c;
        parts = l;
        says = ap (λ (z : List ℕ). header_line ++ z) q.says
            ∙ sym (append_assoc header_line p.text (remaining_text S p.steps q.rest p.world p.remaining));
        stands = q.stands;
        most = omega arith;
        fewer = λ i j. omega arith;
      }

  -- the refusal's line
  refusal_is : (room n left : ℕ) (w : World) (r : SheetRefusal)
      → PageIs room n left w (RefusalLine r) (behind (refusal_line r.refusal r.line) (empty_page n w Nothing))
  refusal_is room n left w r =
      record {
        made = 0;
        rest = left;
        count = omega arith;
        parts = omega arith;
        says = sym (append-nil (refusal_line r.refusal r.line)) ∙ sym (append-nil (refusal_line r.refusal r.line ++ []));
        stands = stands_still n w;
        most = omega arith;
        fewer = λ i j. omega arith;
      }

  -- every page
  pub page_of_is : (room n left : ℕ) (w : World) (remaining : Remaining) → PageIs room n left w remaining (page_of S room n left w remaining)
  unfolding page_of
  page_of_is room n left w (RefusalLine r) =
      choose (PageIs room n left w (RefusalLine r)) (ltb room line_room) (λ h. still room n left w (RefusalLine r) (λ i j. full room h i))
      (λ h. refusal_is room n left w r)
  page_of_is room n left w Header =
      choose (PageIs room n left w Header) (ltb room line_room) (λ h. still room n left w Header (λ i j. full room h i))
      (λ h. with_header room (room - length header_line) n left w _ (page_from_is (room - length header_line) n left w))
  page_of_is room n left w Steps = page_from_is room n left w
  page_of_is room n left w Nothing = still room n left w Nothing (λ i j. absurd (omega arith))

  -- where a run is does not hang on the number that its steps are counted from
  counted_step : (n m k : ℕ) (w : World)
      → world_at (run_from S Nowhere (n + 1) k (world_after (step_of S w))) ≡ world_at (run_from S Nowhere (m + 1) k (world_after (step_of S w)))
      → (g : Going) → ending Nowhere w.state ≡ g → world_at (run_from S Nowhere n (suc k) w) ≡ world_at (run_from S Nowhere m (suc k) w)
  counted_step n m k w h goes e = ap world_at (lands n k w e) ∙ h ∙ sym (ap world_at (lands m k w e))
  counted_step n m k w h (stops x) e = ap world_at (stopped n k w x e) ∙ sym (ap world_at (stopped m k w x e))

  pub world_counted : (n m k : ℕ) (w : World) → world_at (run_from S Nowhere n k w) ≡ world_at (run_from S Nowhere m k w)
  world_counted n m zero w = sym (stands_still n w) ∙ stands_still m w
  world_counted n m (suc k) w =
      counted_step n m k w (world_counted (n + 1) (m + 1) k (world_after (step_of S w))) (ending Nowhere w.state) refl
