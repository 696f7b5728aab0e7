-- One run by itself, in the module: where it next comes into the open. Assumes nothing.
use Rattle.std.proofs.Common.{None, ◌≡◌, refl, sym, ◌∙◌, ap, Bool, true, false, List, [], ◌∷◌, ℕ, ◌+◌, ◌-◌, ◌≤◌, ◌<◌, arith, ltb, length, ltb-true, ltb-false, add-zero}
use Rattle.base.specs.Test.{any}
use Rattle.base.proofs.Tests.{choices}
use Rattle.layout.specs.Sections.{outside}
use Rattle.layout.specs.Rules.{accepted}
use Rattle.alu.specs.Status.{gie}
use Rattle.definition.specs.Setting.{Setting}
use Rattle.definition.specs.declared.state.Time.{Time}
use Rattle.definition.specs.Registers.{pc, sr}
use Rattle.definition.specs.Time.{pass, emptied}
use Rattle.definition.specs.State.{World, is_held}
use Rattle.definition.specs.Interrupt.{Step}
use Rattle.definition.specs.Run.{Move, world_after, step_of}
use Rattle.definition.specs.Laws.{PassAdds, SameOutside}
use Rattle.definition.proofs.time.PassLaws.{pass_adds, pass_clock}
use Rattle.definition.specs.Step.{judged}
use Rattle.definition.proofs.separation.ViewLaws.{same_trans}
use Rattle.secrecy.specs.Sighting.{Sighting, sightings}
use Rattle.secrecy.specs.Visit.{Way, leaving, own_reset, Fate, unended, ended, Visit, Phase, away, visiting, judged_cycles, visits_by, visits, fate_at}
use Rattle.secrecy.specs.Secrecy.{complete}
use Rattle.secrecy.proofs.Chain.{end_of, moved, next, Chain, done, more}
use Rattle.secrecy.proofs.Ways.{Steady, steady_next, BrokenInto, InsideStep, continued, broken_into, ResetAtOnce, Inner, failed, acted, inner_step}
use Rattle.secrecy.proofs.Visiting.{move_of, unseen, phase_at, leaves, Good, good_away, phase_outside, phase_visiting, reset_visit, continued_visit, Least, inside_outcome, inside_good, least, silent}

-- an end with this clock, these own cycles, in this way, with these registers
abbrev pub end_at : ℕ → ℕ → Way → List ℕ → Fate
end_at clock own way registers = ended (record { clock = clock; own = own; way = way; registers = registers })

-- a visit that ends above T, if it ends, which had k own cycles at the clock value c
unfoldable pub Beyond : ℕ → ℕ → ℕ → Fate → Type 0
Beyond T c k unended = Unit {0}
Beyond T c k (ended e) = T + k < c + e.own

least_beyond : (T c k n : ℕ) (f : Fate) → T < c + n → Least (k + n) f → Beyond T c k f
unfolding Beyond Least
least_beyond T c k n f h l = grind arith

module _ (S : Setting) where
  -- ---- n cycles on from a time that is itself some cycles on from t

  module _ (t u : Time) (mem : List ℕ) (n : ℕ) (e : u ≡ pass S n t) where
    later : (k : ℕ) → pass S k u ≡ pass S (n + k) t
    unfolding PassAdds
    later k = cc (pass_adds S n k t)

    later_clock : u.clock ≡ t.clock + n
    later_clock = cc (pass_clock S n t)

    wait : (c d stamp : ℕ) → d ≡ c + n → d < stamp → n + (stamp + 6 - d) ≡ stamp + 6 - c
    wait c d stamp h l = omega arith

    inside_later : (g : Bool) (k : ℕ) (s : Step) → InsideStep S u g mem k s → InsideStep S t g mem (n + k) s
    inside_later g k s (continued x) =
        continued (grind (arith, later k))
    inside_later g k s (broken_into stamp on x) =
        let c = later_clock in
        broken_into stamp on
        (record {
          slot = cc (later k);
          after = omega (arith, x.after);
          time = cc (later (stamp + 6 - u.clock), wait t.clock u.clock stamp c x.after);
          previous = x.previous;
          age = x.age;
          context = x.context;
          aged = omega (arith, x.aged);
          registers = x.registers;
          running = x.running;
          memory = x.memory;
          outcome = x.outcome;
        })

  -- and with outside bytes that were the same before
  pub inside_from : (t : Time) (g : Bool) (mem base : List ℕ) (n : ℕ) (s : Step) → SameOutside S base mem → InsideStep S t g mem n s
      → InsideStep S t g base n s
  inside_from t g mem base n s h (continued x) =
      let m = same_trans S h x.memory in continued (grind arith)
  inside_from t g mem base n s h (broken_into stamp on x) =
      broken_into stamp on
      (record {
        slot = x.slot;
        after = x.after;
        time = x.time;
        previous = x.previous;
        age = x.age;
        context = x.context;
        aged = x.aged;
        registers = x.registers;
        running = x.running;
        memory = same_trans S h x.memory;
        outcome = x.outcome;
      })

module _ (S : Setting) (T : ℕ) where
  -- the rest of a run, which has these sightings and visits and comes to this end
  pub record Rest (ss : List Sighting) (xs : List Visit) (end : World) (len : ℕ) : Type 0 where
    pub world : World
    pub phase : Phase
    pub moves : List Move
    pub chain : Chain S world moves
    pub good : Good S world.state phase
    pub running : world.state.halted ≡ false
    pub sights : ss ≡ sightings S T moves
    pub visited : xs ≡ visits S phase moves
    pub ends : end ≡ end_of world moves
    pub shorter : length moves < len

  -- the base, the last point that is known from outside: its time t, the own cycles k there, GIE, and the outside bytes
  module _ (t : Time) (k : ℕ) (g : Bool) (base : List ℕ) where
    -- n cycles in from the base
    pub record Within (n start : ℕ) (w : World) (p : Phase) : Type 0 where
      pub context : w.state.context ≡ None
      pub running : w.state.halted ≡ false
      pub time : w.state.time ≡ pass S n t
      pub enabled : gie (sr w.state.registers) ≡ g
      pub phase : phase_at S w.state p ≡ visiting start (k + n)
      pub memory : SameOutside S base w.memory

    -- no request is pending n cycles in, where one would be served
    abbrev pub Unasked : ℕ → Type 0
    Unasked n = g ≡ true → (pass S n t).slot ≡ None

    -- where the run next comes into the open
    pub data Emerges (ss : List Sighting) (xs : List Visit) (end : World) (len : ℕ) : Type 0 where
      -- it stops before
      short : ss ≡ [] → complete T end ≡ false → Emerges ss xs end len
      -- not up to T
      late : (n : ℕ) → T < t.clock + n + 4 → Unasked n → ss ≡ [] → Beyond T t.clock k (fate_at xs 0) → Emerges ss xs end len
      -- it leaves after n cycles
      departed : (n start : ℕ) (r : Rest ss xs end len) → t.clock + n ≤ T → Unasked n
          → r.world.state.time ≡ pass S n t → r.world.state.context ≡ None
          → outside S.layout (pc r.world.state.registers) ≡ true → r.phase ≡ visiting start (k + n)
          → SameOutside S base r.world.memory
          → fate_at xs 0 ≡ end_at (t.clock + n) (k + n) leaving r.world.state.registers → Emerges ss xs end len
      -- its own reset, begun after n cycles
      self_reset : (n : ℕ) (x : Visit) (ys : List Visit) → xs ≡ x ∷ ys → (r : Rest ss ys end len) → t.clock + n + 4 ≤ T → Unasked n
          → r.world.state.time ≡ emptied (pass S 4 (pass S n t)) → r.world.state.context ≡ None
          → r.phase ≡ away → SameOutside S base r.world.memory
          → x.fate ≡ end_at (t.clock + n + 4) (k + n + 4) own_reset r.world.state.registers → Emerges ss xs end len
      -- a request breaks in, found after n cycles
      served : (n start stamp : ℕ) (s : Step) (r : Rest ss xs end len) → g ≡ true → BrokenInto S t base n stamp s
          → r.world ≡ world_after s → r.phase ≡ visiting start (k + n) → Emerges ss xs end len

module _ (S : Setting) (fit : accepted S.layout ≡ true) (T : ℕ) (t : Time) (k : ℕ) (g : Bool) (base : List ℕ) where
  -- n cycles in from this base
  abbrev pub In : ℕ → ℕ → World → Phase → Type 0
  In n start w p = Within S T t k g base n start w p

  -- where a run from this world and phase next comes into the open
  abbrev pub Jumps : World → Phase → List Move → ℕ → Type 0
  Jumps w p vs len = Emerges S T t k g base (sightings S T vs) (visits S p vs) (end_of w vs) len

  unasked : {n start : ℕ} {w : World} {p : Phase} → Steady S w.state → In n start w p
      → Unasked S T t k g base n
  unasked a b e = cc (a.nothing_due b.running (b.enabled ∙ e))

  clock_in : {n start : ℕ} {w : World} {p : Phase} → In n start w p → w.state.time.clock ≡ t.clock + n
  clock_in {n = n} b = cc (pass_clock S n t)

  -- the run stops here
  module _ (n start len : ℕ) (w : World) (p : Phase) (a : Steady S w.state) (b : In n start w p) where
    ends_open : (q : Phase) → Beyond T t.clock k (fate_at (visits S q []) 0)
    unfolding visits_by Beyond
    ends_open q = grind arith

    incomplete : ltb T w.state.time.clock ≡ false → complete T w ≡ false
    unfolding any
    incomplete e = grind (arith, choices)

    stops : (y : Bool) → ltb T w.state.time.clock ≡ y → Emerges S T t k g base [] (visits S p []) w len
    stops true e =
        let c = clock_in b in
        let h = ltb-true T w.state.time.clock e in
        late n (omega arith) (unasked a b) refl (ends_open p)
    stops false e = short refl (incomplete e)

  module _ (n start len : ℕ) (w : World) (p : Phase) (vs : List Move) (a : Good S w.state p)
      (b : In n start w p) where
    -- the clock is above T
    is_late : Chain S w vs → T < w.state.time.clock
        → Jumps w p vs len
    is_late c h =
        let q = clock_in b in
        late n (omega arith) (unasked a.steady b) (silent S fit T c a.steady h)
        (least_beyond T t.clock k n _ (omega arith) (least S fit p start (k + n) c a b.phase))

    -- the step begins outside
    departs : (c : Chain S w (moved S w ∷ vs)) → w.state.time.clock ≤ T
        → outside S.layout (pc w.state.registers) ≡ true
        → length vs + 1 < len
        → Jumps w p (moved S w ∷ vs) len
    departs c h o l =
        let q = clock_in b in
        let e : p ≡ visiting start (k + n) = sym (phase_outside S w.state p o) ∙ b.phase in
        let r : Rest S T (sightings S T (moved S w ∷ vs)) (visits S p (moved S w ∷ vs))
        (end_of w (moved S w ∷ vs)) len =
        record {
          world = w;
          phase = p;
          moves = moved S w ∷ vs;
          chain = c;
          good = a;
          running = b.running;
          sights = refl;
          visited = refl;
          ends = refl;
          shorter = omega arith;
        } in
        departed n start r (omega arith) (unasked a.steady b) b.time b.context o e b.memory
        (rw (leaves S p (moved S w) vs (ap is_held b.context) o, e, q, add-zero))

  -- a step that goes on in the module, or is broken into there, n cycles in from the base
  pub inside_emerges : (n start len : ℕ) (s : Step) (vs : List Move) (ss : List Sighting) (xs : List Visit) → Steady S s.state
      → Chain S (world_after s) vs → length vs < len → ss ≡ sightings S T vs → xs ≡ visits S (visiting start (k + n)) vs
      → (Good S s.state (visiting start (k + n)) → In n start (world_after s) (visiting start (k + n))
      → Jumps (world_after s) (visiting start (k + n)) vs len)
      → InsideStep S t g base n s → Emerges S T t k g base ss xs (end_of (world_after s) vs) len
  inside_emerges n start len s vs ss xs a c l e f rec (continued x) =
      let good = inside_good S t g base n start (k + n) s a (continued x) in
      rw (e, f)
      (rec good
      (record {
        context = x.context;
        running = x.running;
        time = x.time;
        enabled = x.enabled;
        phase = phase_visiting S s.state start (k + n) good.phase;
        memory = x.memory;
      }))
  inside_emerges n start len s vs ss xs a c l e f rec (broken_into stamp on x) =
      served n start stamp s
      (record {
        world = world_after s;
        phase = visiting start (k + n);
        moves = vs;
        chain = c;
        good = inside_good S t g base n start (k + n) s a (broken_into stamp on x);
        running = x.running;
        sights = e;
        visited = f;
        ends = refl;
        shorter = l;
      })
      on x refl refl

  -- a step in code or data
  module _ (n start len : ℕ) (w : World) (p : Phase) (vs : List Move) (a : Good S w.state p)
      (b : In n start w p) (o : outside S.layout (pc w.state.registers) ≡ false) (l : length vs < len) where
    abbrev Goal : Step → Type 0
    Goal s = Jumps w p (move_of w s ∷ vs) len

    reset_clock : (s : Step) → ResetAtOnce S w.state w.memory s → s.state.time.clock ≡ t.clock + n + 4
    unfolding emptied pass
    reset_clock s x = let q = clock_in b in let z = ap (λ (u : Time). u.clock) x.time in omega arith

    fails : (s : Step) → judged_cycles (judged S w) ≡ 4 → ResetAtOnce S w.state w.memory s
        → Steady S s.state
        → Chain S (world_after s) vs → (y : Bool) → ltb T s.state.time.clock ≡ y → Goal s
    unfolding Beyond end_of
    fails s f x i d true e =
        let q = reset_clock s x in
        let h = ltb-true T s.state.time.clock e in
        let z = reset_visit S w s p vs start (k + n) 4 b.context o b.phase f x.outcome in
        late n (omega arith) (unasked a.steady b) (unseen S T _ vs o ∙ silent S fit T d i h)
        (rw z (omega arith))
    fails s f x i d false e =
        let q = reset_clock s x in
        let h = ltb-false T s.state.time.clock e in
        let z = reset_visit S w s p vs start (k + n) 4 b.context o b.phase f x.outcome in
        let r : Rest S T (sightings S T (move_of w s ∷ vs)) (visits S away vs) (end_of (world_after s) vs) len =
        record {
          world = world_after s;
          phase = away;
          moves = vs;
          chain = d;
          good = good_away S _ i x.context x.previous;
          running = x.running;
          sights = unseen S T _ vs o;
          visited = refl;
          ends = refl;
          shorter = l;
        } in
        self_reset n _ _ z r (omega arith) (unasked a.steady b)
        (cc) x.context refl (rw x.memory b.memory) (rw q)

    goes_on : (s : Step) (n' : ℕ) → judged_cycles (judged S w) ≡ n'
        → InsideStep S w.state.time (gie (sr w.state.registers)) w.memory n' s → Steady S s.state
        → Chain S (world_after s) vs
        → (Good S s.state (visiting start (k + (n + n')))
        → In (n + n') start (world_after s) (visiting start (k + (n + n')))
        → Jumps (world_after s) (visiting start (k + (n + n'))) vs len)
        → Goal s
    unfolding end_of
    goes_on s n' f x i c rec =
        let grown : k + n + n' ≡ k + (n + n') = omega arith in
        inside_emerges (n + n') start len s vs _ _ i c l (unseen S T (move_of w s) vs o)
        (rw grown at (continued_visit S w s p vs start (k + n) n' b.context o b.phase f (inside_outcome S _ _ _ _ s x))) rec
        (inside_from S t g w.memory base (n + n') s b.memory
        (inside_later S t w.state.time w.memory n b.time g n' s
        (rw b.enabled at x)))

    inner_emerges : (s : Step) → Steady S s.state → Chain S (world_after s) vs
        → ((n' : ℕ) → Good S s.state (visiting start (k + n')) → In n' start (world_after s) (visiting start (k + n'))
        → Jumps (world_after s) (visiting start (k + n')) vs len)
        → Inner S w.state w.memory s → Goal s
    inner_emerges s i c rec (failed f x) = fails s f x i c _ refl
    inner_emerges s i c rec (acted n' f x) = goes_on s n' f x i c (rec (n + n'))

  -- from inside, where the run next comes into the open
  pub jump : {w : World} {vs : List Move} (n start len : ℕ) (p : Phase) → Chain S w vs → Good S w.state p
      → In n start w p → length vs ≤ len → (outside S.layout (pc w.state.registers) ≡ true → length vs < len)
      → Jumps w p vs len
  unfolding sightings end_of
  jump {w} n start len p done a b l s = stops n start len w p a.steady b _ refl
  jump {w} n start len p (more {vs = vs} r c) a b l s =
      go (ltb T w.state.time.clock) refl (outside S.layout (pc w.state.registers)) refl
      (λ n' x y. jump n' start len (visiting start (k + n')) c x y (omega arith) (λ z. omega arith))
    where
      go : (y : Bool) → ltb T w.state.time.clock ≡ y → (z : Bool) → outside S.layout (pc w.state.registers) ≡ z
          → ((n' : ℕ) → Good S (step_of S w).state (visiting start (k + n'))
          → In n' start (next S w) (visiting start (k + n'))
          → Jumps (next S w) (visiting start (k + n')) vs len)
          → Jumps w p (moved S w ∷ vs) len
      go true e z o rec = is_late n start len w p (moved S w ∷ vs) a b (more r c) (ltb-true _ _ e)
      go false e true o rec = departs n start len w p vs a b (more r c) (ltb-false _ _ e) o (let x = s o in omega arith)
      go false e false o rec =
          inner_emerges n start len w p vs a b o (omega arith) (step_of S w)
          (steady_next S w.state w.memory fit r a.steady) c rec
          (inner_step S fit w.state w.memory a.steady r b.context o)
