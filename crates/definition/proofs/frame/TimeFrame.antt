-- Cycles, an emptied slot and a set alarm keep a slot stamp above 0 and not above the clock, an alarm above it. Assumes nothing.
use Rattle.std.proofs.Common.{Option, ◌≡◌, true, ℕ, ◌+◌, ◌≤◌, arith}
use Rattle.std.proofs.lemmas.Bool.Decides.{nat_tests}
use Rattle.base.specs.Test.{all}
use Rattle.base.proofs.Tests.{choices}
use Rattle.definition.specs.Setting.{Setting}
use Rattle.definition.specs.declared.state.Time.{Time}
use Rattle.definition.specs.Time.{filled_by, alarm_left, pass, emptied, set_alarm}
use Rattle.definition.specs.State.{framed_slot, framed_alarm}
use Rattle.definition.proofs.time.PassLaws.{Within, request_within}

-- ---- the slot

-- a request that happens is not 0 and not above the clock
within_slot : (a b : ℕ) (s : Option ℕ) → Within a b s → framed_slot b s ≡ true
unfolding Within all
within_slot a b s h = grind (arith, choices, nat_tests)

filled_slot : (a b : ℕ) (s t : Option ℕ) → a ≤ b → framed_slot a s ≡ true → framed_slot b t ≡ true → framed_slot b (filled_by s t) ≡ true
unfolding filled_by all
filled_slot a b s t h p q = grind (arith, choices, nat_tests)

-- ---- the alarm

alarm_left_lem : (a b : ℕ) (s : Option ℕ) → framed_alarm a s ≡ true → framed_alarm b (alarm_left a b s) ≡ true
unfolding alarm_left all
alarm_left_lem a b s h = grind (arith, choices, nat_tests)

-- ---- time

pub record FramedTime (t : Time) : Type 0 where
  pub slot : framed_slot t.clock t.slot ≡ true
  pub alarm : framed_alarm t.clock t.alarm ≡ true

pub pass_framed : (S : Setting) (n : ℕ) (t : Time) → FramedTime t → FramedTime (pass S n t)
unfolding pass
pass_framed S n t f =
    grind (arith, filled_slot t.clock (t.clock + n), within_slot, request_within S t.alarm t.clock (t.clock + n), alarm_left_lem)

pub emptied_framed : (t : Time) → FramedTime t → FramedTime (emptied t)
unfolding emptied
emptied_framed t f = grind arith

pub alarm_framed : (w : ℕ) (t : Time) → FramedTime t → FramedTime (set_alarm w t)
unfolding set_alarm
alarm_framed w t f = grind (arith, choices, nat_tests)
