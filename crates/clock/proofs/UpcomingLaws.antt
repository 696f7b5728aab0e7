-- The earliest stamp of a list that happens is the upcoming one, if it happens; the word of the last record that is not ahead stands before
-- the upcoming one. Assumes nothing.
use Rattle.std.proofs.Common.{◌≡◌, ℕ, zero, suc, ◌+◌, ◌-◌, ◌<◌, ◌≤◌, true, leb, List, [], ◌∷◌, length, get_or, drop, arith, length-drop, get_or-drop, Option, None, Some}
use Rattle.std.specs.List.{prefix_len}
use Rattle.std.proofs.lemmas.List.Sums.{prefix_len_passes, prefix_len_stops, prefix_len-le-length}
use Rattle.base.specs.Test.{all}
use Rattle.base.specs.Limits.{last_clock}
use Rattle.base.proofs.Tests.{choices}
use Rattle.layout.specs.declared.sections.Layout.{Layout}
use Rattle.definition.specs.Setting.{Setting}
use Rattle.clock.specs.Trace.{lent_trace}
use Rattle.definition.specs.declared.state.Time.{Time}
use Rattle.definition.specs.Time.{happening, earlier, earliest, request, device_word}
use Rattle.definition.specs.Calls.{rising_from, timetable, trace_fits}
use Rattle.definition.specs.Laws.{LastRecordRead, NoRecordYet}
use Rattle.clock.specs.declared.time.Requests.{Requests}
use Rattle.clock.specs.Upcoming.{step_room, stamp_at, word_before, StampsPassed, IsUpcoming}
use Rattle.clock.specs.Requests.{setting_with, HasPassed, AtClock, CanPass}
use Rattle.definition.proofs.time.TraceLaws.{earlier_never, trace_timed, last_record_read, no_record_yet}
use Rattle.definition.proofs.time.TimetableLaws.{rising_cons, rising_order, timetable_rising}

-- ---- the earliest stamp

module _ (a b : ℕ) where
  -- a stamp that the clock has passed does not happen
  pub passed_by : (s : ℕ) → s ≤ a → happening a b (Some s) ≡ None
  unfolding happening all
  passed_by s h = grind (arith, choices)

  -- of two stamps that are still to happen, the later changes nothing
  sooner : (s t : ℕ) → a < s → s < t → earlier (happening a b (Some s)) (happening a b (Some t)) ≡ happening a b (Some s)
  unfolding happening earlier all
  sooner s t h k = grind (arith, choices)

  -- the first of stamps that rise and are still to happen is the earliest
  soonest : (s : ℕ) (stamps : List ℕ) → a < s → rising_from s stamps ≡ true → earliest a b (s ∷ stamps) ≡ happening a b (Some s)
  unfolding earliest
  soonest s [] h r = earlier_never (happening a b (Some s))
  soonest s (t ∷ stamps) h r =
      let k = rising_cons s t stamps r in rw (soonest t stamps (omega arith) k.1) (sooner s t h k.0)

-- ---- the index of the upcoming stamp

-- the stamp at an index of no stamps, at the first index, at a later one
stamp_none : (upcoming : ℕ) → stamp_at [] upcoming ≡ None
unfolding stamp_at
stamp_none upcoming = grind (arith, choices)

stamp_first : (s : ℕ) (stamps : List ℕ) → stamp_at (s ∷ stamps) 0 ≡ Some s
unfolding stamp_at
stamp_first s stamps = grind (arith, choices)

stamp_later : (s : ℕ) (stamps : List ℕ) (upcoming : ℕ) → stamp_at (s ∷ stamps) (suc upcoming) ≡ stamp_at stamps upcoming
unfolding stamp_at
stamp_later s stamps upcoming = grind (arith, choices)

-- an index less the first stamp
upcoming_tail : (s : ℕ) (stamps : List ℕ) (a upcoming : ℕ) → IsUpcoming (s ∷ stamps) a (suc upcoming) → IsUpcoming stamps a upcoming
upcoming_tail s stamps a upcoming p =
    record {
      passed = record {
        fits = let f = p.passed.fits in omega arith;
        gone = λ i h. p.passed.gone (suc i) (omega arith);
      };
      ahead = λ i h k. p.ahead (suc i) (omega arith) (omega arith);
    }

-- the earliest of stamps that rise from a bound
upcoming_rising : (a b l : ℕ) (stamps : List ℕ) (upcoming : ℕ) → rising_from l stamps ≡ true → IsUpcoming stamps a upcoming
    → earliest a b stamps ≡ happening a b (stamp_at stamps upcoming)
unfolding earliest earlier happening
upcoming_rising a b l [] upcoming r p = rw (stamp_none upcoming)
upcoming_rising a b l (s ∷ stamps) zero r p =
    rw (stamp_first s stamps) (soonest a b s stamps (p.ahead 0 (omega arith) (omega arith)) (rising_cons l s stamps r).1)
upcoming_rising a b l (s ∷ stamps) (suc upcoming) r p =
    rw (stamp_later s stamps upcoming, passed_by a b s (p.passed.gone 0 (omega arith)))
    (upcoming_rising a b s stamps upcoming (rising_cons l s stamps r).1 (upcoming_tail s stamps a upcoming p))

-- the earliest stamp that happens is the upcoming one, if it happens
pub upcoming_earliest : (a b : ℕ) (stamps : List ℕ) (upcoming : ℕ) → timetable stamps ≡ true → IsUpcoming stamps a upcoming
    → earliest a b stamps ≡ happening a b (stamp_at stamps upcoming)
upcoming_earliest a b stamps upcoming t p = upcoming_rising a b 0 stamps upcoming (timetable_rising stamps t) p

-- the earliest request of a run's lists is the earliest of the upcoming stamp, the upcoming record and the alarm, as far as they happen
pub request_upcoming : (L : Layout) (r : Requests) (alarm : Option ℕ) (a b : ℕ) → AtClock r a
    → request (setting_with L r) alarm a b
    ≡ earlier (earlier (happening a b (stamp_at r.lists.stamps.now r.upcoming))
    (happening a b (stamp_at r.lists.trace.stamps.now r.upcoming_record))) (happening a b alarm)
unfolding request
request_upcoming L r alarm a b p =
    rw (
      upcoming_earliest a b r.lists.stamps.now r.upcoming p.tested.timed p.stamps,
      upcoming_earliest a b r.lists.trace.stamps.now r.upcoming_record (trace_timed (lent_trace r.lists.trace) p.tested.traced) p.records,
    )

-- ---- stamps that the clock has passed

module _ (stamps : List ℕ) (clock upcoming : ℕ) where
  -- the clock goes on
  pub passed_later : (later : ℕ) → clock ≤ later → IsUpcoming stamps clock upcoming → StampsPassed stamps later upcoming
  passed_later later h p = grind arith

  -- the stamps further on that the clock has passed are counted: what is behind them is upcoming
  module _ (k : ℕ) (e : k ≡ prefix_len (λ stamp. leb stamp clock) (drop upcoming stamps)) (p : StampsPassed stamps clock upcoming) where
    ahead : List ℕ
    ahead = drop upcoming stamps

    -- one of those that are counted
    counted : (i : ℕ) → i < k → get_or stamps (upcoming + i) 0 ≤ clock
    unfolding ahead
    counted i h = grind (arith, get_or-drop upcoming stamps i 0, prefix_len_passes (λ stamp. leb stamp clock) ahead i 0)

    -- the one behind them
    not_counted : upcoming + k < length stamps → clock < get_or stamps (upcoming + k) 0
    unfolding ahead
    not_counted h =
        grind (arith, get_or-drop upcoming stamps k 0, length-drop upcoming stamps, prefix_len_stops (λ stamp. leb stamp clock) ahead 0)

    pub upcoming_counted : timetable stamps ≡ true → IsUpcoming stamps clock (upcoming + k)
    upcoming_counted t =
        record {
          passed = record {
            fits = let f = p.fits in omega (arith, prefix_len-le-length (λ stamp. leb stamp clock) (drop upcoming stamps), length-drop upcoming stamps);
            gone = λ i h. grind (arith, counted (i - upcoming));
          };
          ahead = λ i h m. grind (arith, not_counted, rising_order 0 stamps (upcoming + k) i (timetable_rising stamps t));
        }

-- the clock goes on, of both lists
pub requests_later : (r : Requests) (clock later : ℕ) → clock ≤ later → AtClock r clock → HasPassed r later
requests_later r clock later h p =
    record {
      tested = p.tested;
      stamps = passed_later r.lists.stamps.now clock r.upcoming later h p.stamps;
      records = passed_later r.lists.trace.stamps.now clock r.upcoming_record later h p.records;
    }

-- a step that begins at a clock value that is not late has room
pub can_step : (r : Requests) (clock : ℕ) → clock ≤ last_clock → AtClock r clock → CanPass r clock step_room
can_step r clock h p = record { passed = requests_later r clock clock (omega arith) p; room = omega arith }

-- ---- the device's word

-- the word before an index
word_first : (words : List ℕ) → word_before words 0 ≡ 0
unfolding word_before
word_first words = grind (arith, choices)

word_later : (words : List ℕ) (i : ℕ) → word_before words (suc i) ≡ get_or words i 0
unfolding word_before
word_later words i = grind (arith, choices)

-- the word of the last record that is not ahead stands before the upcoming one
pub device_before : (S : Setting) (t : Time) (upcoming : ℕ) → trace_fits S.trace ≡ true → 0 < length S.trace.stamps
    → IsUpcoming S.trace.stamps t.clock upcoming → device_word S t ≡ word_before S.trace.words upcoming
unfolding LastRecordRead NoRecordYet
device_before S t zero f n p = rw (word_first S.trace.words) (no_record_yet S t f n (p.ahead 0 (omega arith) n))
device_before S t (suc i) f n p =
    let h = p.passed.fits in
    rw (word_later S.trace.words i)
    (last_record_read S t i f (omega arith) (p.passed.gone i (omega arith)) (λ m. p.ahead (i + 1) (omega arith) m))

-- no stamp stands before the first
pub none_passed : (stamps : List ℕ) (clock : ℕ) → StampsPassed stamps clock 0
none_passed stamps clock = grind arith
