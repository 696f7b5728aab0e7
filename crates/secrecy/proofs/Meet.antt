-- Two runs in the module, from one base: with the premise they come into the open alike. Assumes nothing.
use Rattle.std.proofs.Common.{None, Some, ◌≡◌, sym, ◌∙◌, ap, Bool, true, false, List, [], ◌∷◌, ℕ, suc, ◌+◌, ◌-◌, ◌≤◌, ◌<◌, arith, length}
use Rattle.base.specs.Test.{any}
use Rattle.base.proofs.Tests.{choices}
use Rattle.layout.specs.Sections.{outside}
use Rattle.layout.specs.Rules.{accepted}
use Rattle.definition.specs.Setting.{Setting}
use Rattle.definition.specs.declared.state.Time.{Time}
use Rattle.definition.specs.Registers.{pc}
use Rattle.definition.specs.Time.{pass, emptied}
use Rattle.definition.specs.State.{World, is_held, held_visit}
use Rattle.definition.specs.Interrupt.{Step}
use Rattle.definition.specs.Run.{Move, world_after}
use Rattle.definition.specs.Laws.{PassAdds, SameOutside, SameView}
use Rattle.definition.proofs.time.PassLaws.{pass_adds, pass_clock, pass_filled, slot_kept}
use Rattle.definition.proofs.separation.ViewLaws.{same_sym, same_trans}
use Rattle.secrecy.specs.Sighting.{Sighting, sightings}
use Rattle.secrecy.specs.Visit.{Way, leaving, own_reset, Fate, Visit, Phase, away, visiting, visits, fate_at}
use Rattle.secrecy.specs.Secrecy.{EqualEnds, BothEnded, Premise, AgreeAsFar, complete, Agree}
use Rattle.secrecy.proofs.Chain.{end_of, Chain}
use Rattle.secrecy.proofs.Ways.{BrokenInto}
use Rattle.secrecy.proofs.Visiting.{Good, way_cycles, Least, phase_held, least, silent}
use Rattle.secrecy.proofs.Jump.{end_at, Beyond, Rest, Unasked, Emerges, short, late, departed, self_reset, served}

-- ---- the slot, by how many cycles have passed

module _ (S : Setting) (t : Time) where
  pass_on : (a b : ℕ) → a ≤ b → pass S (b - a) (pass S a t) ≡ pass S b t
  unfolding PassAdds
  pass_on a b h = let q : a + (b - a) ≡ b = omega arith in rw q at (pass_adds S a (b - a) t)

  slot_on : (a b s : ℕ) → a ≤ b → (pass S a t).slot ≡ Some s → (pass S b t).slot ≡ Some s
  slot_on a b s h e = cc (pass_on a b h, slot_kept S (b - a) (pass S a t) s e)

  -- a slot that is empty after a cycles is filled by a later stamp
  slot_later : (a b s : ℕ) → (pass S a t).slot ≡ None → (pass S b t).slot ≡ Some s → t.clock + a < s
  slot_later a b s e f = grind (arith, slot_on b a s, pass_on a b, pass_clock S a t, pass_filled S (b - a) (pass S a t) s)

  -- it is filled but once
  slot_once : (a b s u : ℕ) → (pass S a t).slot ≡ Some s → (pass S b t).slot ≡ Some u → s ≡ u
  slot_once a b s u e f = grind (arith, slot_on a b s, slot_on b a u)

-- ---- agreement, either way round

agree_none : (ss : List Sighting) → AgreeAsFar ss []
agree_none [] = tt
agree_none (x ∷ ss) = tt

agree_sym : (ss us : List Sighting) → AgreeAsFar ss us → AgreeAsFar us ss
agree_sym [] us h = agree_none us
agree_sym (x ∷ ss) [] h = tt
agree_sym (x ∷ ss) (y ∷ us) h = (sym h.0, agree_sym ss us h.1)

module _ (T : ℕ) where
  pub swapped : {ss us : List Sighting} {a b : World} → Agree T b a us ss → Agree T a b ss us
  swapped {ss} {us} h = record { as_far = agree_sym us ss h.as_far; equally_many = λ x y. sym (h.equally_many y x) }

  pub none_seen : {ss us : List Sighting} {a b : World} → ss ≡ [] → us ≡ [] → Agree T a b ss us
  none_seen e f = record { as_far = rw e tt; equally_many = λ x y. ap length (e ∙ sym f) }

  stopped_short : {ss us : List Sighting} {a b : World} → ss ≡ [] → complete T a ≡ false → Agree T a b ss us
  stopped_short e f = record { as_far = rw e tt; equally_many = λ x y. absurd (cc) }

  agree_at : {ss us ss' us' : List Sighting} {a b a' b' : World} → ss ≡ ss' → us ≡ us' → a ≡ a' → b ≡ b'
      → Agree T a' b' ss' us' → Agree T a b ss us
  agree_at e f g h x = rw (e, f, g, h) x

-- ---- the premise

-- two fates are ends alike
abbrev EndedEqual : Fate → Fate → Type 0
EndedEqual f h = BothEnded EqualEnds f h

-- an end with these own cycles, in this way, with these registers; the clock is not asked
abbrev EndsAs : ℕ → Way → List ℕ → Fate → Type 0
EndsAs own way registers f = EndedEqual (end_at 0 own way registers) f

clock_unasked : (c own : ℕ) (way : Way) (registers : List ℕ) (f : Fate) → EndedEqual (end_at c own way registers) f
    → EndsAs own way registers f
clock_unasked c own way registers f x = grind arith

ended_sym : (f h : Fate) → EndedEqual f h → EndedEqual h f
ended_sym f h x = grind arith

-- an end at T or below is one of both
module _ (T : ℕ) (xs ys : List Visit) (premise : Premise T xs ys) (c own : ℕ) (way : Way) (registers : List ℕ) (h : c ≤ T) where
  pub first_alike : fate_at xs 0 ≡ end_at c own way registers → EndsAs own way registers (fate_at ys 0)
  unfolding any
  first_alike e = clock_unasked c own way registers (fate_at ys 0) (rw e at (premise 0 (grind (arith, choices))))

  pub second_alike : fate_at ys 0 ≡ end_at c own way registers → EndsAs own way registers (fate_at xs 0)
  unfolding any
  second_alike e =
      clock_unasked c own way registers (fate_at xs 0) (rw e at (ended_sym (fate_at xs 0) (fate_at ys 0) (premise 0 (grind (arith, choices)))))

pub premise_tail : (T : ℕ) {xs ys : List Visit} (x y : Visit) {xs' ys' : List Visit} → xs ≡ x ∷ xs' → ys ≡ y ∷ ys'
    → Premise T xs ys → Premise T xs' ys'
premise_tail T x y {xs'} {ys'} e f h = let h' = rw (e, f) at h in λ i q. h' (suc i) q

-- an end that came by T is not beyond it
not_beyond : (T c k own : ℕ) (way : Way) (registers : List ℕ) (f : Fate) → Beyond T c k f → EndsAs own way registers f
    → c + own ≤ T + k → ⊥
unfolding Beyond
not_beyond T c k own way registers f b x l = grind arith

-- a visit that a request broke into has not ended before its stamp
not_before : (k n m stamp age c own : ℕ) (way : Way) (registers : List ℕ) (f : Fate) → own ≡ k + m + way_cycles way → Least (k + n) f
    → EndsAs own way registers f → stamp + age ≡ c + n → c + m < stamp → ⊥
unfolding Least
not_before k n m stamp age c own way registers f o l x q w = grind arith

-- two ends alike
both_ends : (d i j : ℕ) (w v : Way) (rs us : List ℕ) (f : Fate) → EndsAs i w rs f → f ≡ end_at d j v us
    → (i ≡ j) × (w ≡ v) × (rs ≡ us)
both_ends d i j w v rs us f x e = rw e at x

not_both : (d i j : ℕ) (rs us : List ℕ) (f : Fate) → EndsAs i leaving rs f → f ≡ end_at d j own_reset us → ⊥
not_both d i j rs us f x e = let z = ap way_cycles (both_ends d i j leaving own_reset rs us f x e).1 in omega arith

-- ---- two worlds in step

module _ (S : Setting) where
  -- no visit goes on; both are left with this step; both are held, with equal own cycles but for their ages
  pub data Paired (a b : World) (p q : Phase) : Type 0 where
    both_away : a.state.context ≡ None → b.state.context ≡ None → p ≡ away → q ≡ away → Paired a b p q
    both_leaving : a.state.context ≡ None → b.state.context ≡ None → outside S.layout (pc a.state.registers) ≡ true
        → (s j u k : ℕ) → p ≡ visiting s j → q ≡ visiting u k → Paired a b p q
    both_held : (r i u k s t own : ℕ) → a.state.context ≡ held_visit r i → b.state.context ≡ held_visit u k
        → p ≡ visiting s (own + i) → q ≡ visiting t (own + k) → Paired a b p q

  pub record InStep (a b : World) (p q : Phase) : Type 0 where
    pub view : SameView S a b
    pub paired : Paired a b p q

module _ (S : Setting) (fit : accepted S.layout ≡ true) (T : ℕ) where
  -- what is to be proved of all shorter runs
  abbrev pub Later : ℕ → Type 0
  Later len =
      (a b : World) (p q : Phase) (vs us : List Move) → Chain S a vs → Chain S b us → Good S a.state p
      → Good S b.state q
      → InStep S a b p q → Premise T (visits S p vs) (visits S q us) → length vs < len
      → Agree T (end_of a vs) (end_of b us) (sightings S T vs) (sightings S T us)

  rests_agree : {ss us : List Sighting} {xs ys : List Visit} {a b : World} (m n : ℕ)
      (r : Rest S T ss xs a m) (q : Rest S T us ys b n)
      → Later m → InStep S r.world q.world r.phase q.phase → Premise T xs ys → Agree T a b ss us
  rests_agree m n r q rec s e =
      agree_at T r.sights q.sights r.ends q.ends
      (rec r.world q.world r.phase q.phase r.moves q.moves r.chain q.chain r.good q.good s
      (rw (r.visited, q.visited) at e) r.shorter)

  module _ (t : Time) (k : ℕ) (g : Bool) (base : List ℕ) where
    -- two worlds out of the module
    meets : (a b : World) → a.state.registers ≡ b.state.registers → a.state.time ≡ b.state.time
        → is_held a.state.context ≡ is_held b.state.context → a.state.halted ≡ false → b.state.halted ≡ false
        → SameOutside S base a.memory → SameOutside S base b.memory → SameView S a b
    meets a b rs tm hd ra rb ma mb =
        record { registers = rs; time = tm; held = hd; halted = ra ∙ sym rb; memory = same_trans S (same_sym S ma) mb }

    served_least : {ss : List Sighting} {xs : List Visit} {a : World} {m : ℕ} (n start stamp : ℕ) (s : Step)
        (r : Rest S T ss xs a m)
        → BrokenInto S t base n stamp s → r.world ≡ world_after s → r.phase ≡ visiting start (k + n)
        → Least (k + n) (fate_at xs 0)
    served_least n start stamp s r x e f =
        let h : is_held r.world.state.context ≡ true = cc in
        rw r.visited (least S fit r.phase start (k + n) r.chain r.good (phase_held S r.world.state r.phase h ∙ f))

    service_clock : (s : ℕ) → t.clock < s → (pass S 6 (emptied (pass S (s + 6 - t.clock) t))).clock ≡ s + 12
    unfolding pass emptied
    service_clock s h = omega arith

    served_silent : {ss : List Sighting} {xs : List Visit} {a : World} {m : ℕ} (n l stamp : ℕ) (s : Step)
        (r : Rest S T ss xs a m)
        → T < t.clock + l + 4 → (pass S l t).slot ≡ None → BrokenInto S t base n stamp s → r.world ≡ world_after s
        → ss ≡ []
    served_silent n l stamp s r h e x w =
        let a = slot_later S t l n stamp e x.slot in
        let b = service_clock stamp x.after in
        let d = ap (λ (z : Time). z.clock) x.time in
        let c = ap (λ (z : World). z.state.time.clock) w in
        r.sights ∙ silent S fit T r.chain r.good.steady (omega arith)

    late_served : {ss us : List Sighting} {xs : List Visit} {a b : World} {m : ℕ} (n l stamp : ℕ) (s : Step)
        (r : Rest S T us xs b m)
        → T < t.clock + l + 4 → Unasked S T t k g base l → ss ≡ [] → g ≡ true → BrokenInto S t base n stamp s
        → r.world ≡ world_after s → Agree T a b ss us
    late_served n l stamp s r h u z on x w = none_seen T z (served_silent n l stamp s r h (u on) x w)

    module _ (ss us : List Sighting) (xs ys : List Visit) (a b : World) (m n : ℕ) (premise : Premise T xs ys) (rec : Later m) where
      head_fate : (zs : List Visit) (x : Visit) (zs' : List Visit) (f : Fate) → zs ≡ x ∷ zs' → x.fate ≡ f → fate_at zs 0 ≡ f
      head_fate zs x zs' f e q = ap (λ (z : List Visit). fate_at z 0) e ∙ q

      -- what ended by T in one run ended so in the other
      second_too : {c own : ℕ} {way : Way} {rs : List ℕ} → c ≤ T → fate_at xs 0 ≡ end_at c own way rs → EndsAs own way rs (fate_at ys 0)
      second_too h e = first_alike T xs ys premise _ _ _ _ h e

      first_too : {c own : ℕ} {way : Way} {rs : List ℕ} → c ≤ T → fate_at ys 0 ≡ end_at c own way rs → EndsAs own way rs (fate_at xs 0)
      first_too h e = second_alike T xs ys premise _ _ _ _ h e

      -- both leave
      both_depart : (l l' start start' : ℕ) (r : Rest S T ss xs a m) (r' : Rest S T us ys b n)
          → (k + l ≡ k + l') × (leaving ≡ leaving) × (r.world.state.registers ≡ r'.world.state.registers)
          → r.world.state.time ≡ pass S l t → r'.world.state.time ≡ pass S l' t
          → r.world.state.context ≡ None → r'.world.state.context ≡ None
          → outside S.layout (pc r.world.state.registers) ≡ true
          → r.phase ≡ visiting start (k + l) → r'.phase ≡ visiting start' (k + l')
          → SameOutside S base r.world.memory → SameOutside S base r'.world.memory → Agree T a b ss us
      both_depart l l' start start' r r' q tm tm' hd hd' o ph ph' mm mm' =
          let e : l ≡ l' = let q0 = q.0 in omega arith in
          rests_agree m n r r' rec
          (record {
            view = meets _ _ q.2 (cc) (cc) r.running r'.running mm mm';
            paired = both_leaving hd hd' o start (k + l) start' (k + l') ph ph';
          })
          premise

      -- both reset
      both_fall : (l l' : ℕ) (x x' : Visit) (zs zs' : List Visit) → xs ≡ x ∷ zs → ys ≡ x' ∷ zs'
          → (r : Rest S T ss zs a m) (r' : Rest S T us zs' b n)
          → (k + l + 4 ≡ k + l' + 4) × (own_reset ≡ own_reset) × (r.world.state.registers ≡ r'.world.state.registers)
          → r.world.state.time ≡ emptied (pass S 4 (pass S l t))
          → r'.world.state.time ≡ emptied (pass S 4 (pass S l' t))
          → r.world.state.context ≡ None → r'.world.state.context ≡ None → r.phase ≡ away → r'.phase ≡ away
          → SameOutside S base r.world.memory → SameOutside S base r'.world.memory → Agree T a b ss us
      both_fall l l' x x' zs zs' ex ey r r' q tm tm' hd hd' ph ph' mm mm' =
          let e : l ≡ l' = let q0 = q.0 in omega arith in
          rests_agree m n r r' rec
          (record {
            view = meets _ _ q.2 (cc) (cc) r.running r'.running mm mm';
            paired = both_away hd hd' ph ph';
          })
          (premise_tail T x x' ex ey premise)

      -- both are broken into, by one stamp
      both_served : (l l' start start' u u' : ℕ) (s s' : Step) (r : Rest S T ss xs a m) (r' : Rest S T us ys b n)
          → BrokenInto S t base l u s → BrokenInto S t base l' u' s' → r.world ≡ world_after s
          → r'.world ≡ world_after s'
          → r.phase ≡ visiting start (k + l) → r'.phase ≡ visiting start' (k + l') → Agree T a b ss us
      both_served l l' start start' u u' s s' r r' x x' w w' ph ph' =
          let e : u ≡ u' = slot_once S t l l' u u' x.slot x'.slot in
          let after = x.after in
          let aged = x.aged in
          let aged' = x'.aged in
          let i : k + l ≡ k + (u - t.clock) + x.age = omega arith in
          let j : k + l' ≡ k + (u - t.clock) + x'.age = omega arith in
          rests_agree m n r r' rec
          (rw (w, w')
          (record {
            view = meets (world_after s) (world_after s') (cc) (cc) (cc) x.running x'.running x.memory x'.memory;
            paired = both_held x.previous x.age x'.previous x'.age start start' (k + (u - t.clock)) x.context x'.context
                (cc) (cc);
          }))
          premise

      pub meet : Emerges S T t k g base ss xs a m → Emerges S T t k g base us ys b n → Agree T a b ss us
      meet (short e c) second = stopped_short T e c
      meet first (short e c) = swapped T (stopped_short T e c)
      meet (late l w f z y) (late l' w' f' z' y') = none_seen T z z'
      meet (late l w f z y) (departed l' st r w' f' tm hd o ph mm fa) =
          absurd (not_beyond T t.clock k (k + l') leaving _ (fate_at xs 0) y (first_too w' fa) (omega arith))
      meet (late l w f z y) (self_reset l' x zs q r w' f' tm hd ph mm fa) =
          absurd
          (not_beyond T t.clock k (k + l' + 4) own_reset _ (fate_at xs 0) y
          (first_too w' (head_fate ys x zs _ q fa)) (omega arith))
      meet (late l w f z y) (served l' st u s r on x v ph) = late_served l' l u s r w f z on x v
      meet (departed l st r w f tm hd o ph mm fa) (late l' w' f' z y) =
          absurd (not_beyond T t.clock k (k + l) leaving _ (fate_at ys 0) y (second_too w fa) (omega arith))
      meet (departed l st r w f tm hd o ph mm fa) (departed l' st' r' w' f' tm' hd' o' ph' mm' fa') =
          both_depart l l' st st' r r'
          (both_ends _ _ _ _ _ _ _ (fate_at ys 0) (second_too w fa) fa') tm tm' hd hd' o ph ph' mm mm'
      meet (departed l st r w f tm hd o ph mm fa) (self_reset l' x zs q r' w' f' tm' hd' ph' mm' fa') =
          absurd (not_both _ _ _ _ _ (fate_at ys 0) (second_too w fa) (head_fate ys x zs _ q fa'))
      meet (departed l st r w f tm hd o ph mm fa) (served l' st' u s r' on x v ph') =
          absurd
          (not_before k l' l u x.age t.clock (k + l) leaving _ (fate_at ys 0) (omega arith) (served_least l' st' u s r' x v ph')
          (second_too w fa) x.aged (slot_later S t l l' u (f on) x.slot))
      meet (self_reset l x zs q r w f tm hd ph mm fa) (late l' w' f' z y) =
          absurd
          (not_beyond T t.clock k (k + l + 4) own_reset _ (fate_at ys 0) y
          (second_too w (head_fate xs x zs _ q fa)) (omega arith))
      meet (self_reset l x zs q r w f tm hd ph mm fa) (departed l' st r' w' f' tm' hd' o ph' mm' fa') =
          absurd (not_both _ _ _ _ _ (fate_at xs 0) (first_too w' fa') (head_fate xs x zs _ q fa))
      meet (self_reset l x zs q r w f tm hd ph mm fa) (self_reset l' x' zs' q' r' w' f' tm' hd' ph' mm' fa') =
          both_fall l l' x x' zs zs' q q' r r'
          (both_ends _ _ _ _ _ _ _ (fate_at ys 0) (second_too w (head_fate xs x zs _ q fa)) (head_fate ys x' zs' _ q' fa'))
          tm tm' hd hd' ph ph' mm mm'
      meet (self_reset l x zs q r w f tm hd ph mm fa) (served l' st u s r' on x' v ph') =
          absurd
          (not_before k l' l u x'.age t.clock (k + l + 4) own_reset _ (fate_at ys 0) (omega arith) (served_least l' st u s r' x' v ph')
          (second_too w (head_fate xs x zs _ q fa)) x'.aged (slot_later S t l l' u (f on) x'.slot))
      meet (served l st u s r on x v ph) (late l' w f z y) = swapped T (late_served l l' u s r w f z on x v)
      meet (served l st u s r on x v ph) (departed l' st' r' w f tm hd o ph' mm fa) =
          absurd
          (not_before k l l' u x.age t.clock (k + l') leaving _ (fate_at xs 0) (omega arith) (served_least l st u s r x v ph)
          (first_too w fa) x.aged (slot_later S t l' l u (f on) x.slot))
      meet (served l st u s r on x v ph) (self_reset l' x' zs q r' w f tm hd ph' mm fa) =
          absurd
          (not_before k l l' u x.age t.clock (k + l' + 4) own_reset _ (fate_at xs 0) (omega arith) (served_least l st u s r x v ph)
          (first_too w (head_fate ys x' zs _ q fa)) x.aged (slot_later S t l' l u (f on) x.slot))
      meet (served l st u s r on x v ph) (served l' st' u' s' r' on' x' v' ph') =
          both_served l l' st st' u u' s s' r r' x x' v v' ph ph'
