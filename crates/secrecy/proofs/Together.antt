-- Two runs that begin in step agree, as far as both go: by induction on a bound of the first run's length. Assumes nothing.
use Rattle.std.proofs.Common.{None, ◌≡◌, refl, sym, ◌∙◌, ap, subst₂, Bool, true, false, List, [], ◌∷◌, ◌++◌, ℕ, zero, suc, ◌+◌, ◌≤◌, ◌<◌, arith, eqb, ltb, length, ltb-true, ltb-false}
use Rattle.std.proofs.lemmas.Bool.{eqb-false}
use Rattle.base.specs.Test.{any}
use Rattle.base.proofs.Tests.{choices}
use Rattle.layout.specs.Sections.{outside, entry}
use Rattle.layout.specs.Rules.{accepted}
use Rattle.alu.specs.Status.{gie}
use Rattle.definition.specs.Setting.{Setting}
use Rattle.definition.specs.declared.state.Time.{Time}
use Rattle.definition.specs.Registers.{pc, sr}
use Rattle.answers.specs.Outcome.{is_reset}
use Rattle.definition.specs.State.{World, is_held, held_visit}
use Rattle.definition.specs.Interrupt.{Step}
use Rattle.definition.specs.Run.{Move, world_after, step_of}
use Rattle.definition.specs.Laws.{SameOutside, SameView}
use Rattle.definition.proofs.time.PassLaws.{pass_zero}
use Rattle.definition.proofs.step.StepLaws.{after_reti, same_age}
use Rattle.definition.proofs.separation.ViewLaws.{same_refl, same_sym}
use Rattle.secrecy.specs.Sighting.{Sighting, sightings}
use Rattle.secrecy.specs.Visit.{unended, Phase, away, visiting, visits}
use Rattle.secrecy.specs.Secrecy.{Premise, complete, Agree}
use Rattle.secrecy.proofs.Chain.{end_of, moved, next, Chain, done, more}
use Rattle.secrecy.proofs.Ways.{Steady, steady_next, InsideStep, return_time, ResetAtOnce, held_resets, away_resets}
use Rattle.secrecy.proofs.Visiting.{move_of, sighting_at, left_end, unseen, sighted, held_drops, held_goes, leaves, resets_own, Good, good_away, good_held, away_previous, phase_entry, phase_away, silent}
use Rattle.secrecy.proofs.Jump.{Emerges, inside_from, inside_emerges, jump}
use Rattle.secrecy.proofs.Meet.{swapped, none_seen, premise_tail, Paired, both_away, both_leaving, both_held, InStep, Later, meet}
use Rattle.secrecy.proofs.Abreast.{seen_alike, seen_resuming, Both, keep, both_reset, resume, same_pc, both_step, reset_view}

-- one sighting more on each side
one_more : (T : ℕ) {x y : Sighting} {ss us : List Sighting} {a b : World} → x ≡ y → Agree T a b ss us
    → Agree T a b (x ∷ ss) (y ∷ us)
one_more T e h = record { as_far = (e, h.as_far); equally_many = λ c d. ap suc (h.equally_many c d) }

module _ (S : Setting) (fit : accepted S.layout ≡ true) (T : ℕ) where
  -- one run resumes the module
  resume_emerges : (t : Time) (k : ℕ) (base mem : List ℕ) (n start len : ℕ) (s : Step) (vs : List Move) → Steady S s.state
      → Chain S (world_after s) vs → length vs < len → SameOutside S base mem → InsideStep S t true mem n s
      → Emerges S T t k true base (sightings S T vs) (visits S (visiting start (k + n)) vs) (end_of (world_after s) vs) len
  resume_emerges t k base mem n start len s vs a c l m x =
      inside_emerges S fit T t k true base n start len s vs _ _ a c l refl refl
      (λ good within. jump S fit T t k true base n start len (visiting start (k + n)) c good within (omega arith) (λ o. l))
      (inside_from S t true mem base n s m x)

  -- the visits of a reset where no visit goes on and none starts
  barred_visits : (w : World) (s : Step) (r : Phase) (ws : List Move) → w.state.context ≡ None → r ≡ away
      → outside S.layout (pc w.state.registers) ≡ false → eqb (pc w.state.registers) (entry S.layout) ≡ false
      → is_reset s.outcome ≡ true
      → visits S r (move_of w s ∷ ws) ≡ visits S away ws
  barred_visits w s r ws h e o n z =
      rw (resets_own S r (move_of w s) ws (ap is_held h) o z, e, phase_away S w.state n)

  -- the visits of a step outside with none held
  open_visits : (w : World) (s : Step) (r x : Phase) (ws : List Move) → w.state.context ≡ None → r ≡ x
      → outside S.layout (pc w.state.registers) ≡ true
      → visits S r (move_of w s ∷ ws) ≡ left_end x (move_of w s) ++ visits S away ws
  open_visits w s r x ws h e o =
      rw (leaves S r (move_of w s) ws (ap is_held h) o, e)

  module _ (len : ℕ) (rec : Later S fit T len) (a b : World) (p q : Phase) (vs us : List Move) (y : InStep S a b p q)
      (ga : Good S a.state p) (gb : Good S b.state q) (ra : a.state.halted ≡ false) (rb : b.state.halted ≡ false)
      (l : length vs < len) where
    abbrev Premised : Step → Step → Type 0
    Premised s u = Premise T (visits S p (move_of a s ∷ vs)) (visits S q (move_of b u ∷ us))

    abbrev Goal : Step → Step → Type 0
    Goal s u =
        Agree T (end_of a (move_of a s ∷ vs)) (end_of b (move_of b u ∷ us))
        (sightings S T (move_of a s ∷ vs)) (sightings S T (move_of b u ∷ us))

    abbrev Tail : Step → Step → Type 0
    Tail s u = Agree T (end_of (world_after s) vs) (end_of (world_after u) us) (sightings S T vs) (sightings S T us)

    other : (c : Bool) → outside S.layout (pc a.state.registers) ≡ c → outside S.layout (pc b.state.registers) ≡ c
    other c o = same_pc S fit a b y.view (outside S.layout) ∙ o

    -- no sighting
    none_case : (s u : Step) → outside S.layout (pc a.state.registers) ≡ false → Tail s u → Goal s u
    unfolding end_of
    none_case s u o h = rw (unseen S T (move_of a s) vs o, unseen S T (move_of b u) us (other false o)) h

    -- one sighting each
    seen_case : (s u : Step) → outside S.layout (pc a.state.registers) ≡ true → a.state.time.clock ≤ T
        → sighting_at S (move_of a s) ≡ sighting_at S (move_of b u)
        → Tail s u → Goal s u
    unfolding end_of
    seen_case s u o c e h =
        let d : b.state.time.clock ≤ T = let z = ap (λ (t : Time). t.clock) y.view.time in omega arith in
        rw (sighted S T (move_of a s) vs o c, sighted S T (move_of b u) us (other true o) d) (one_more T e h)

    -- outside, none held: the steps come to where no visit goes on
    open_case : (s u : Step) → Steady S s.state → Steady S u.state → Chain S (world_after s) vs
        → Chain S (world_after u) us
        → a.state.context ≡ None → b.state.context ≡ None → outside S.layout (pc a.state.registers) ≡ true
        → a.state.time.clock ≤ T
        → Premise T (visits S away vs) (visits S away us) → Both S a b s u → Goal s u
    open_case s u f g c d h k o t e (keep x i j n n' r r') =
        seen_case s u o t (seen_alike S a b y.view s u x)
        (rec (world_after s) (world_after u) away away vs us c d (good_away S _ f (i ∙ h) n) (good_away S _ g (j ∙ k) n')
        (record { view = x.view; paired = both_away (i ∙ h) (j ∙ k) refl refl }) e l)
    open_case s u f g c d h k o t e (both_reset x i j n n' r r') =
        seen_case s u o t (seen_alike S a b y.view s u x)
        (rec (world_after s) (world_after u) away away vs us c d (good_away S _ f i n) (good_away S _ g j n')
        (record { view = x.view; paired = both_away i j refl refl }) e l)
    open_case s u f g c d h k o t e (resume r i r' i' x x' w w' z z' m m') = absurd (cc)

    -- both visits are dropped
    dropped : (s u : Step) (start start' j j' : ℕ) → is_held a.state.context ≡ true → is_held b.state.context ≡ true
        → p ≡ visiting start j → q ≡ visiting start' j' → is_reset s.outcome ≡ true → is_reset u.outcome ≡ true → Premised s u
        → Premise T (visits S away vs) (visits S away us)
    dropped s u start start' j j' ha hb pa pb z z' e =
        premise_tail T (record { start = start; fate = unended }) (record { start = start'; fate = unended })
        (rw (held_drops S p (move_of a s) vs ha z, pa)) (rw (held_drops S q (move_of b u) us hb z', pb)) e

    -- both resume the module
    resume_case : (s u : Step) → Steady S s.state → Steady S u.state → Chain S (world_after s) vs
        → Chain S (world_after u) us
        → (i i' start start' k : ℕ) → p ≡ visiting start (k + i) → q ≡ visiting start' (k + i')
        → visits S p (move_of a s ∷ vs) ≡ visits S p vs → visits S q (move_of b u ∷ us) ≡ visits S q us → Premised s u
        → InsideStep S (after_reti S a.state) true a.memory i s
        → InsideStep S (after_reti S b.state) true b.memory i' u
        → Tail s u
    resume_case s u f g c d i i' start start' k pa pb va vb e x x' =
        let ta = after_reti S a.state in
        let tb = after_reti S b.state in
        let same : ta ≡ tb = return_time S a.state b.state y.view.time in
        meet S fit T ta k true a.memory (sightings S T vs) (sightings S T us)
        (visits S (visiting start (k + i)) vs) (visits S (visiting start' (k + i')) us)
        (end_of (world_after s) vs) (end_of (world_after u) us)
        len (suc (length us))
        (rw (va, vb, pa, pb) at e) rec
        (resume_emerges ta k a.memory a.memory i start len s vs f c l (same_refl S _) x)
        (rw same (resume_emerges tb k a.memory b.memory i' start' (suc (length us)) u us g d (omega arith) y.view.memory x'))

    -- outside, a visit held
    held_case : (s u : Step) → Steady S s.state → Steady S u.state → Chain S (world_after s) vs
        → Chain S (world_after u) us
        → (r i r' i' start start' k : ℕ) → a.state.context ≡ held_visit r i → b.state.context ≡ held_visit r' i'
        → p ≡ visiting start (k + i) → q ≡ visiting start' (k + i') → outside S.layout (pc a.state.registers) ≡ true
        → a.state.time.clock ≤ T → Premised s u → Both S a b s u → Goal s u
    held_case s u f g c d r i r' i' start start' k ha hb pa pb o t e (keep x h h' n n' z z') =
        seen_case s u o t (seen_alike S a b y.view s u x)
        (rec (world_after s) (world_after u) p q vs us c d
        (rw pa (good_held S _ f start _ r i (h ∙ ha))) (rw pb (good_held S _ g start' _ r' i' (h' ∙ hb)))
        (record { view = x.view; paired = both_held r i r' i' start start' k (h ∙ ha) (h' ∙ hb) pa pb })
        (rw (held_goes S p (move_of a s) vs (ap is_held ha) z, held_goes S q (move_of b u) us (ap is_held hb) z') at e) l)
    held_case s u f g c d r i r' i' start start' k ha hb pa pb o t e (both_reset x h h' n n' z z') =
        seen_case s u o t (seen_alike S a b y.view s u x)
        (rec (world_after s) (world_after u) away away vs us c d (good_away S _ f h n) (good_away S _ g h' n')
        (record { view = x.view; paired = both_away h h' refl refl })
        (dropped s u start start' (k + i) (k + i') (ap is_held ha) (ap is_held hb) pa pb z z' e) l)
    held_case s u f g c d r i r' i' start start' k ha hb pa pb o t e (resume r₁ i₁ r₂ i₂ x x' z z' w w' m m') =
        seen_case s u o t (seen_resuming S a b y.view s u w w')
        (resume_case s u f g c d i₁ i₂ start start' k
        (cc (same_age _ _ _ _ (sym ha ∙ x))) (cc (same_age _ _ _ _ (sym hb ∙ x')))
        (held_goes S p (move_of a s) vs (ap is_held ha) z) (held_goes S q (move_of b u) us (ap is_held hb) z') e m m')

    -- two resets in code or data
    reset_case : (s u : Step) → ResetAtOnce S a.state a.memory s → ResetAtOnce S b.state b.memory u
        → Steady S s.state → Steady S u.state → Chain S (world_after s) vs → Chain S (world_after u) us
        → outside S.layout (pc a.state.registers) ≡ false → Premise T (visits S away vs) (visits S away us) → Goal s u
    reset_case s u x x' f g c d o e =
        none_case s u o
        (rec (world_after s) (world_after u) away away vs us c d
        (good_away S _ f x.context x.previous) (good_away S _ g x'.context x'.previous)
        (record { view = reset_view S fit a b y.view s u x x'; paired = both_away x.context x'.context refl refl }) e l)

    module _ (ca : Chain S (next S a) vs) (cb : Chain S (next S b) us)
        (premise : Premised (step_of S a) (step_of S b)) where
      abbrev Agreed : Type 0
      Agreed = Goal (step_of S a) (step_of S b)

      after_a : Steady S (step_of S a).state
      after_a = steady_next S a.state a.memory fit ra ga.steady

      after_b : Steady S (step_of S b).state
      after_b = steady_next S b.state b.memory fit rb gb.steady

      -- both enter
      enter_case : a.state.context ≡ None → b.state.context ≡ None → p ≡ away → q ≡ away
          → outside S.layout (pc a.state.registers) ≡ false
          → eqb (pc a.state.registers) (entry S.layout) ≡ true → Agreed
      enter_case ha hb pa pb o n =
          let t = a.state.time in
          let g = gie (sr a.state.registers) in
          meet S fit T t 0 g a.memory _ _ _ _ _ _ len (suc (suc (length us))) premise rec
          (jump S fit T t 0 g a.memory 0 a.state.time.clock len p (more ra ca) ga
          (record {
            context = ha;
            running = ra;
            time = sym (pass_zero S t);
            enabled = refl;
            phase = phase_entry S a.state p ha o n (away_previous S a.state p ga ha pa);
            memory = same_refl S _;
          })
          l (λ o'. absurd (cc)))
          (jump S fit T t 0 g a.memory 0 b.state.time.clock (suc (suc (length us))) q (more rb cb) gb
          (record {
            context = hb;
            running = rb;
            time = sym y.view.time ∙ sym (pass_zero S t);
            enabled = cc y.view.registers;
            phase = phase_entry S b.state q hb (other false o)
                (same_pc S fit a b y.view (λ (z : ℕ). eqb z (entry S.layout)) ∙ n) (away_previous S b.state q gb hb pb);
            memory = y.view.memory;
          })
          (omega arith) (λ o'. omega arith))

      -- in code or data, no visit: the entry, or a reset
      shut_case : (x : Bool) → eqb (pc a.state.registers) (entry S.layout) ≡ x → a.state.context ≡ None → b.state.context ≡ None
          → p ≡ away → q ≡ away → outside S.layout (pc a.state.registers) ≡ false → Agreed
      shut_case true n ha hb pa pb o = enter_case ha hb pa pb o n
      shut_case false n ha hb pa pb o =
          let n' = same_pc S fit a b y.view (λ (z : ℕ). eqb z (entry S.layout)) ∙ n in
          let previous = away_previous S a.state p ga ha pa in
          let previous' = away_previous S b.state q gb hb pb in
          let fa = away_resets S fit a.state a.memory ra previous o (eqb-false _ _ n) in
          let fb = away_resets S fit b.state b.memory rb previous' (other false o) (eqb-false _ _ n') in
          reset_case _ _ fa fb after_a after_b ca cb o
          (subst₂ (Premise T)
          (barred_visits a _ p vs ha pa o n fa.outcome) (barred_visits b _ q us hb pb (other false o) n' fb.outcome) premise)

      -- one step each
      step_case : a.state.time.clock ≤ T → Agreed
      step_case t = go (outside S.layout (pc a.state.registers)) refl y.paired
        where
          go : (x : Bool) → outside S.layout (pc a.state.registers) ≡ x → Paired S a b p q → Agreed
          go true o (both_away ha hb pa pb) =
              open_case _ _ after_a after_b ca cb ha hb o t
              (subst₂ (Premise T) (open_visits a _ p away vs ha pa o) (open_visits b _ q away us hb pb (other true o)) premise)
              (both_step S fit a b y.view ga.steady gb.steady ra rb o)
          go true o (both_leaving ha hb o' s j u k pa pb) =
              open_case _ _ after_a after_b ca cb ha hb o t
              (premise_tail T _ _ (open_visits a _ p _ vs ha pa o) (open_visits b _ q _ us hb pb (other true o)) premise)
              (both_step S fit a b y.view ga.steady gb.steady ra rb o)
          go true o (both_held r i r' i' s u k ha hb pa pb) =
              held_case _ _ after_a after_b ca cb r i r' i' s u k ha hb pa pb o t premise
              (both_step S fit a b y.view ga.steady gb.steady ra rb o)
          go false o (both_away ha hb pa pb) = shut_case _ refl ha hb pa pb o
          go false o (both_leaving ha hb o' s j u k pa pb) = absurd (cc)
          go false o (both_held r i r' i' s u k ha hb pa pb) =
              let fa = held_resets S fit a.state a.memory ra (ap is_held ha) o in
              let fb = held_resets S fit b.state b.memory rb (ap is_held hb) (other false o) in
              reset_case _ _ fa fb after_a after_b ca cb o
              (dropped _ _ s u _ _ (ap is_held ha) (ap is_held hb) pa pb fa.outcome fb.outcome premise)

  -- the other run has no more to show, if this one has stopped for good
  nothing_left : (a b : World) (us : List Move) → SameView S a b → Chain S b us → Steady S b.state → complete T a ≡ true
      → sightings S T us ≡ []
  unfolding sightings any
  nothing_left a b us v c f k = go (ltb T a.state.time.clock) refl us c
    where
      go : (x : Bool) → ltb T a.state.time.clock ≡ x → (ws : List Move) → Chain S b ws → sightings S T ws ≡ []
      go true t ws c =
          silent S fit T c f
          (let x = ltb-true T a.state.time.clock t in let z = ap (λ (w : Time). w.clock) v.time in omega arith)
      go false t ws done = refl
      go false t ws (more r c) =
          absurd (grind (arith, choices, v.halted))

  view_sym : (a b : World) → SameView S a b → SameView S b a
  view_sym a b v = let m = same_sym S v.memory in grind arith

  -- one step of the induction
  longer_by_one : (len : ℕ) → Later S fit T len → Later S fit T (suc len)
  unfolding sightings end_of
  longer_by_one len rec a b p q vs us done cb ga gb y h l =
      record { as_far = tt; equally_many = λ c d. sym (ap length (nothing_left a b us y.view cb gb.steady c)) }
  longer_by_one len rec a b p q vs us (more {vs = vs'} ra ca) done ga gb y h l =
      swapped T
      (record {
        as_far = tt;
        equally_many = λ c d.
            sym (ap length (nothing_left b a (moved S a ∷ vs') (view_sym a b y.view) (more ra ca) ga.steady c));
      })
  longer_by_one len rec a b p q vs us (more {vs = vs'} ra ca) (more {vs = us'} rb cb) ga gb y h l =
      go (ltb T a.state.time.clock) refl
    where
      go : (x : Bool) → ltb T a.state.time.clock ≡ x
          → Agree T (end_of a (moved S a ∷ vs')) (end_of b (moved S b ∷ us'))
          (sightings S T (moved S a ∷ vs')) (sightings S T (moved S b ∷ us'))
      go true e =
          let x = ltb-true T a.state.time.clock e in
          let z = ap (λ (w : Time). w.clock) y.view.time in
          none_seen T (silent S fit T (more ra ca) ga.steady x)
          (silent S fit T (more rb cb) gb.steady (omega arith))
      go false e = step_case len rec a b p q vs' us' y ga gb ra rb (omega arith) ca cb h (ltb-false T a.state.time.clock e)

  pub together : (len : ℕ) → Later S fit T len
  together zero a b p q vs us ca cb ga gb y h l = absurd (omega arith)
  together (suc len) a b p q vs us ca cb ga gb y h l = longer_by_one len (together len) a b p q vs us ca cb ga gb y h l
