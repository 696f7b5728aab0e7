-- A run counts its steps, says its end when it is so, and adds up. Assumes nothing.
use Rattle.std.proofs.Common.{◌≡◌, subst, true, false, ℕ, zero, suc, ◌+◌, ◌-◌, ◌≤◌, ◌<◌, ◌++◌, add-zero, zero-add, suc-add, add_assoc, arith, ltb, length, ltb-true, ltb-false}
use Rattle.std.specs.List.{All}
use Rattle.std.proofs.lemmas.Bool.Decides.{nat_tests}
use Rattle.base.proofs.Tests.{choose, choices}
use Rattle.base.specs.FirstFailure.{first_failure}
use Rattle.base.specs.Limits.{last_clock}
use Rattle.definition.specs.Setting.{Setting}
use Rattle.definition.specs.declared.state.State.{State}
use Rattle.definition.specs.declared.stop_address.StopAddress.{StopAddress}
use Rattle.definition.specs.declared.stop_address.StopAddress.TheVariants.{Nowhere, At}
use Rattle.answers.specs.declared.answer.End.TheVariants.{Halted, Clock, Address, Spent}
use Rattle.definition.specs.Registers.{pc}
use Rattle.definition.specs.State.{World}
use Rattle.definition.specs.Run.{Going, goes, stops, at_stop, ending, Move, world_after, step_of, run_from, run, moves}
use Rattle.definition.specs.WithoutStopAddress.{ending_without_stop, run_from_without_stop, run_without_stop, moves_without_stop, run_call_without_stop}
use Rattle.definition.specs.Calls.{run_call}
use Rattle.definition.specs.Laws.{RunCounts, EndsSo, RunEnds, AddressSaid, NoStepAtStop, NoStopAddress, RunAdds, RunGoesOn, world_at, after_steps}

-- why a machine stops, as facts
pub data Ends (stop : StopAddress) (m : State) : Going → Type 0 where
  running : m.halted ≡ false → m.time.clock ≤ last_clock → at_stop stop (pc m.registers) ≡ false → Ends stop m goes
  halted_now : m.halted ≡ true → Ends stop m (stops Halted)
  late_now : m.halted ≡ false → last_clock < m.time.clock → Ends stop m (stops Clock)
  there_now : m.halted ≡ false → m.time.clock ≤ last_clock → at_stop stop (pc m.registers) ≡ true → Ends stop m (stops Address)

pub ends : (stop : StopAddress) (m : State) → Ends stop m (ending stop m)
unfolding ending
ends stop m =
    choose (Ends stop m) m.halted (λ h. halted_now h)
    (λ h. choose (Ends stop m) (ltb last_clock m.time.clock) (λ l. late_now h (ltb-true _ _ l))
    (λ l. choose (Ends stop m) (at_stop stop (pc m.registers)) (λ a. there_now h (ltb-false _ _ l) a) (λ a. running h (ltb-false _ _ l) a)))

module _ (S : Setting) where
  abbrev next : World → World
  next w = world_after (step_of S w)

  module _ (stop : StopAddress) where
    -- the count
    counted : (n left : ℕ) (w : World) → (run_from S stop n left w).steps ≡ n + length (moves S stop left w)
    unfolding run_from moves
    counted n zero w = grind arith
    counted n (suc left) w = grind (arith, counted (n + 1) left (next w))

    -- the end: a machine stops, or the run goes further
    ended : (n left : ℕ) (w : World) → EndsSo stop (run_from S stop n left w) (n + left)
    unfolding run_from ending
    ended n zero w = grind (arith, choices, nat_tests)
    ended n (suc left) w = grind (arith, choices, nat_tests, ended (n + 1) left (next w))

    -- a run that has made n steps is one from the start, with n more counted
    shifted : (n k left : ℕ) (w : World) → run_from S stop (n + k) left w ≡ after_steps n (run_from S stop k left w)
    unfolding run_from
    shifted n k zero w = grind arith
    shifted n k (suc left) w = grind (arith, shifted n (k + 1) left (next w), add_assoc)

    -- a run whose first n steps do not stop it goes on from there
    added : (n k j : ℕ) (w : World) → (run_from S stop j n w).end ≡ Spent
        → run_from S stop j (n + k) w ≡ run_from S stop (j + n) k (world_at (run_from S stop j n w))
    unfolding run_from ending
    added zero k j w e = grind (arith, zero-add, add-zero)
    added (suc n) k j w e = rw suc-add (grind (arith, choices, added n k (j + 1) (next w), add_assoc))

    -- on from where a run stopped, as the run without the address goes
    gone_on : (n left budget : ℕ) (w : World) → budget - n ≡ left
        → run_from S Nowhere n left w
        ≡ run_from S Nowhere (run_from S stop n left w).steps (budget - (run_from S stop n left w).steps) (world_at (run_from S stop n left w))
    unfolding run_from ending
    gone_on n zero budget w e = grind (arith, choices, nat_tests)
    gone_on n (suc left) budget w e = grind (arith, choices, nat_tests, gone_on (n + 1) left budget (next w) (omega arith))

    -- and its moves
    moved_on : (n left budget : ℕ) (w : World) → budget - n ≡ left
        → moves S Nowhere left w
        ≡ moves S stop left w ++ moves S Nowhere (budget - (run_from S stop n left w).steps) (world_at (run_from S stop n left w))
    unfolding run_from moves ending
    moved_on n zero budget w e = grind (arith, choices, nat_tests)
    moved_on n (suc left) budget w e = grind (arith, choices, nat_tests, moved_on (n + 1) left budget (next w) (omega arith))

  -- no move begins at the stop address
  elsewhere : (a left : ℕ) (w : World) → All (λ (v : Move). pc v.before.state.registers ≡ a → ⊥) (moves S (At a) left w)
  unfolding moves ending
  elsewhere a zero w = grind arith
  elsewhere a (suc left) w = grind (arith, choices, nat_tests, elsewhere a left (next w))

  -- without a stop address a run goes as it did
  stops_as_before : (n left : ℕ) (w : World) → run_from S Nowhere n left w ≡ run_from_without_stop S n left w
  unfolding run_from run_from_without_stop ending ending_without_stop
  stops_as_before n zero w = grind (arith, choices)
  stops_as_before n (suc left) w = grind (arith, choices, stops_as_before (n + 1) left (next w))

  moves_as_before : (left : ℕ) (w : World) → moves S Nowhere left w ≡ moves_without_stop S left w
  unfolding moves moves_without_stop ending ending_without_stop
  moves_as_before zero w = grind arith
  moves_as_before (suc left) w = grind (arith, choices, moves_as_before left (next w))

  -- its one test more holds
  answered_as_before : (budget : ℕ) (w : World) → run_call S Nowhere budget w ≡ run_call_without_stop S budget w
  unfolding run_call run_call_without_stop run run_without_stop first_failure
  answered_as_before budget w = grind (arith, choices, stops_as_before 0 budget w)

pub run_counts : RunCounts
unfolding RunCounts run
run_counts S stop budget w = grind (arith, counted S stop 0 budget w)

pub run_ends : RunEnds
unfolding RunEnds run
run_ends S stop budget w = subst (EndsSo stop (run_from S stop 0 budget w)) (omega arith) (ended S stop 0 budget w)

-- the other three ends are said elsewhere
pub address_said : AddressSaid
unfolding AddressSaid RunEnds
address_said S stop budget w h c a = grind (arith, run_ends S stop budget w)

pub no_step_at_stop : NoStepAtStop
unfolding NoStepAtStop
no_step_at_stop S a budget w = elsewhere S a budget w

pub run_adds : RunAdds
unfolding RunAdds run
run_adds S stop n k w e = grind (arith, added S stop n k 0 w, shifted S stop n 0 k)

pub no_stop_address : NoStopAddress
unfolding NoStopAddress run run_without_stop
no_stop_address S budget w = (stops_as_before S 0 budget w, moves_as_before S budget w, answered_as_before S budget w)

pub run_goes_on : RunGoesOn
unfolding RunGoesOn run
run_goes_on S stop budget w = (
  grind (arith, gone_on S stop 0 budget budget w (omega arith), shifted S Nowhere (run_from S stop 0 budget w).steps 0),
  moved_on S stop 0 budget budget w (omega arith),
)
