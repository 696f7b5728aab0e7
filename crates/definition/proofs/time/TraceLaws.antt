-- The trace: without a record the machine is the one that knew none; records are requests; IN reads the last that the clock has come to.
-- Assumes nothing.
use Rattle.std.proofs.Common.{Option, None, Some, ◌≡◌, true, false, refl, ap, add-one, List, [], ◌∷◌, ℕ, zero, suc, ◌≤◌, ◌<◌, length, get_or, slice_index_or, ◌+◌, arith}
use Rattle.std.specs.List.{All, Contains}
use Rattle.std.proofs.lemmas.Bool.Decides.{nat_tests}
use Rattle.base.specs.Test.{when◌then◌else◌}
use Rattle.base.proofs.Tests.{each, choices}
use Rattle.definition.specs.Setting.{Trace}
use Rattle.definition.specs.Time.{happening, earlier, earliest, request, pass, no_record, last_word, device_word}
use Rattle.definition.specs.WithoutTrace.{request_without_trace, pass_without_trace, device_word_without_trace}
use Rattle.definition.specs.Calls.{rising_from, timetable, trace_fits}
use Rattle.definition.specs.Laws.{EmptyTrace, RecordsAreRequests, RecordsCountOnce, LastRecordRead, NoRecordYet}
use Rattle.definition.proofs.time.TimetableLaws.{rising_cons, timetable_rising}

-- ---- requests

-- no stamp is later than any
pub earlier_never : (x : Option ℕ) → earlier x None ≡ x
unfolding earlier
earlier_never None = refl
earlier_never (Some s) = refl

pub earlier_any : (x : Option ℕ) → earlier None x ≡ x
unfolding earlier
earlier_any x = refl

-- of three the earliest, in whatever order they are taken
earlier_earlier : (x y z : Option ℕ) → earlier (earlier x y) z ≡ earlier x (earlier y z)
unfolding earlier
earlier_earlier x y z = grind (arith, choices, nat_tests)

-- a request does not come before itself
earlier_same : (x y : Option ℕ) → earlier (earlier x y) x ≡ earlier x y
unfolding earlier
earlier_same x y = grind (arith, choices, nat_tests)

module _ (a b : ℕ) where
  -- a stamp that stands in a list adds nothing to it
  one_counted : (stamps : List ℕ) (s k : ℕ) → k < length stamps → slice_index_or stamps k s ≡ s
      → earlier (earliest a b stamps) (happening a b (Some s)) ≡ earliest a b stamps
  unfolding earliest
  one_counted [] s k h e = grind arith
  one_counted (t ∷ stamps) s zero h e = rw (← e) (earlier_same (happening a b (Some t)) (earliest a b stamps))
  one_counted (t ∷ stamps) s (suc k) h e =
      rw (earlier_earlier (happening a b (Some t)) (earliest a b stamps) (happening a b (Some s)))
      (ap (earlier (happening a b (Some t))) (one_counted stamps s k (omega arith) e))

  all_counted : (stamps others : List ℕ) → All (Contains stamps) others
      → earlier (earliest a b stamps) (earliest a b others) ≡ earliest a b stamps
  unfolding earliest
  all_counted stamps [] c = earlier_never (earliest a b stamps)
  all_counted stamps (s ∷ others) c =
      let first = c 0 0 (omega arith) in
      rw (
        ← earlier_earlier (earliest a b stamps) (happening a b (Some s)) (earliest a b others),
        one_counted stamps s first.0 first.1 first.2,
      )
      (all_counted stamps others (λ k d h. c (suc k) d (omega arith)))

pub records_count_once : RecordsCountOnce
unfolding RecordsCountOnce request request_without_trace
records_count_once S c alarm a b = grind (arith, all_counted a b S.stamps S.trace.stamps c)

pub records_are_requests : RecordsAreRequests
unfolding RecordsAreRequests request request_without_trace earliest
records_are_requests L stamps words alarm a b = rw (earlier_any (earliest a b stamps))

-- a list without a record
without_record : (stamps : List ℕ) → no_record stamps ≡ true → stamps ≡ []
without_record [] h = refl
without_record (s ∷ stamps) h = grind arith

pub empty_trace : EmptyTrace
unfolding EmptyTrace request request_without_trace pass pass_without_trace device_word device_word_without_trace earliest when◌then◌else◌
empty_trace S h = (
  λ alarm a b. rw (without_record S.trace.stamps h, earlier_never (earliest a b S.stamps)),
  λ n t. rw (without_record S.trace.stamps h, earlier_never (earliest t.clock (t.clock + n) S.stamps)),
  λ t. grind (arith, choices),
)

-- ---- the device's word

-- the stamps of a trace that is taken are as those of a timetable
pub trace_timed : (t : Trace) → trace_fits t ≡ true → timetable t.stamps ≡ true
unfolding trace_fits
trace_timed t f = (each _ f).1.0

-- what a trace that is taken keeps
traced : (t : Trace) → trace_fits t ≡ true → (rising_from 0 t.stamps ≡ true) × (length t.stamps ≡ length t.words)
unfolding trace_fits
traced t f =
    let k = each _ f in
    (timetable_rising t.stamps k.1.0, grind (arith, nat_tests))

module _ (clock : ℕ) where
  -- records that are all ahead change no word
  all_ahead : (w l : ℕ) (stamps words : List ℕ) → clock ≤ l → rising_from l stamps ≡ true → last_word clock w stamps words ≡ w
  unfolding last_word
  all_ahead w l [] words h r = refl
  all_ahead w l (s ∷ stamps) [] h r = refl
  all_ahead w l (s ∷ stamps) (v ∷ words) h r =
      grind (arith, choices, nat_tests, rising_cons l s stamps r, all_ahead w s stamps words)

  -- nor do those behind the last that is due
  first_ahead : (w l : ℕ) (stamps words : List ℕ) → rising_from l stamps ≡ true → (0 < length stamps → clock < get_or stamps 0 0)
      → last_word clock w stamps words ≡ w
  unfolding last_word
  first_ahead w l [] words r h = refl
  first_ahead w l (s ∷ stamps) [] r h = refl
  first_ahead w l (s ∷ stamps) (v ∷ words) r h =
      let k = h (omega arith) in
      grind (arith, choices, nat_tests, rising_cons l s stamps r, all_ahead w s stamps words)

  -- the word of the last record that is due
  last_due : (w l : ℕ) (stamps words : List ℕ) (i : ℕ) → rising_from l stamps ≡ true → length stamps ≡ length words
      → i < length stamps → get_or stamps i 0 ≤ clock → (suc i < length stamps → clock < get_or stamps (suc i) 0)
      → last_word clock w stamps words ≡ get_or words i 0
  unfolding last_word
  last_due w l [] words i r e h k n = grind arith
  last_due w l (s ∷ stamps) [] i r e h k n = grind arith
  last_due w l (s ∷ stamps) (v ∷ words) zero r e h k n =
      let f = first_ahead v s stamps words (rising_cons l s stamps r).1 (λ m. n (omega arith)) in
      grind (arith, choices, nat_tests)
  last_due w l (s ∷ stamps) (v ∷ words) (suc i) r e h k n =
      let further : (x : ℕ) → last_word clock x stamps words ≡ get_or words i 0 =
      λ x. last_due x s stamps words i (rising_cons l s stamps r).1 (omega arith) (omega arith) k (λ m. n (omega arith)) in
      further _

-- a list with a record
with_record : (stamps : List ℕ) → 0 < length stamps → no_record stamps ≡ false
with_record [] h = grind arith
with_record (s ∷ stamps) h = refl

pub last_record_read : LastRecordRead
unfolding LastRecordRead device_word when◌then◌else◌
last_record_read S t i f h k n =
    rw (with_record S.trace.stamps (omega arith))
    (last_due t.clock _ 0 S.trace.stamps S.trace.words i (traced S.trace f).0 (traced S.trace f).1 h k (rw add-one at n))

pub no_record_yet : NoRecordYet
unfolding NoRecordYet device_word when◌then◌else◌
no_record_yet S t f h k =
    rw (with_record S.trace.stamps h) (first_ahead t.clock 0 0 S.trace.stamps S.trace.words (traced S.trace f).0 (λ m. k))
