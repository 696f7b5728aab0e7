-- A list of calls is a chain of steps of a running machine, each from where the last one left. Assumes nothing.
use Rattle.std.proofs.Common.{Result, Err, Ok, ◌≡◌, refl, true, false, List, [], ◌∷◌, ◌++◌, ℕ, zero, suc, ◌+◌, ◌≤◌, arith}
use Rattle.base.specs.declared.refusal.Refusal.{Refusal}
use Rattle.base.specs.Limits.{last_clock}
use Rattle.base.proofs.Tests.{choices}
use Rattle.base.specs.Verdict.{verdict, unrefused}
use Rattle.layout.specs.Rules.{accepted}
use Rattle.definition.specs.Setting.{Setting}
use Rattle.definition.specs.declared.stop_address.StopAddress.{StopAddress}
use Rattle.definition.specs.declared.stop_address.StopAddress.TheVariants.{Nowhere}
use Rattle.definition.specs.State.{World}
use Rattle.definition.specs.Run.{Going, ending, Move, world_after, step_of, run_from, run, none_or, moves}
use Rattle.definition.specs.Calls.{step_tests, run_tests, step_call, run_call}
use Rattle.definition.specs.Laws.{HaltedStays, ReadyToRun, world_at}
use Rattle.definition.proofs.step.CycleLaws.{halted_stays}
use Rattle.definition.proofs.frame.FrameLaws.{ready_kept}
use Rattle.definition.proofs.run.CallLaws.{all_hold, step_fit}
use Rattle.definition.proofs.run.RunLaws.{Ends, running, halted_now, late_now, there_now, ends}
use Rattle.secrecy.specs.Calls.{Call, stepping, moves_when, steps_of, left_by, run_of, left_by_all}
use Rattle.secrecy.specs.Calls

-- where a list of steps ends
unfoldable pub end_of : World → List Move → World
end_of w [] = w
end_of w (v ∷ vs) = end_of (world_after v.after) vs

module _ (S : Setting) where
  -- a step of a world, and the world after it
  abbrev pub moved : World → Move
  moved w = record { before = w; after = step_of S w }

  abbrev pub next : World → World
  next w = world_after (step_of S w)

  -- steps of a running machine, each from where the last one left
  pub data Chain : World → List Move → Type 0 where
    done : {w : World} → Chain w []
    more : {w : World} {vs : List Move} → w.state.halted ≡ false → Chain (next w) vs → Chain w (moved w ∷ vs)

  append : {w : World} {vs us : List Move} → Chain w vs → Chain (end_of w vs) us → Chain w (vs ++ us)
  unfolding end_of
  append done d = d
  append (more h c) d = more h (append c d)

  end_append : (w : World) (vs us : List Move) → end_of w (vs ++ us) ≡ end_of (end_of w vs) us
  unfolding end_of
  end_append w [] us = refl
  end_append w (v ∷ vs) us = end_append (world_after v.after) vs us

  -- ---- the moves of a run

  module _ (stop : StopAddress) where
    moves_chain : (left : ℕ) (w : World) → Chain w (moves S stop left w)
    unfolding moves
    moves_chain zero w = done
    moves_chain (suc left) w = go (ending stop w.state) (ends stop w.state) (moves_chain left (next w))
      where
        go : (g : Going) → Ends stop w.state g → Chain (next w) (moves S stop left (next w))
            → Chain w (none_or (moved w ∷ moves S stop left (next w)) g)
        go g (running h c a) rest = more h rest
        go g (halted_now h) rest = done
        go g (late_now h c) rest = done
        go g (there_now h c a) rest = done

    -- a run stops where its moves end
    run_ends_there : (n left : ℕ) (w : World) → world_at (run_from S stop n left w) ≡ end_of w (moves S stop left w)
    unfolding run_from moves end_of
    run_ends_there n zero w = grind arith
    run_ends_there n (suc left) w = grind (arith, run_ends_there (n + 1) left (next w))

  -- ---- one call

  -- the moves of a call are a chain, also where it is refused
  taken : {w : World} {vs : List Move} (v : Result (Unit {0}) Refusal) → Chain w vs → Chain w (moves_when v vs)
  taken (Ok _) c = c
  taken (Err r) c = done

  steps_chain : (w : World) (c : Call) → Chain w (steps_of S w c)
  unfolding steps_of
  steps_chain w stepping = taken _ (moves_chain Nowhere 1 w)
  steps_chain w (Calls.running stop budget) = taken _ (moves_chain _ budget w)

  -- no step is taken from a clock above the last
  step_clock : (w : World) → verdict (step_tests S w) ≡ unrefused → w.state.time.clock ≤ last_clock
  step_clock w e = (step_fit S w e).early

  left_end : (w : World) (c : Call) → left_by S w c ≡ end_of w (steps_of S w c)
  unfolding left_by steps_of step_call run_call run moves end_of ending HaltedStays
  left_end w stepping = grind (arith, choices, halted_stays S w.state w.memory, step_clock w)
  left_end w (Calls.running stop budget) = grind (arith, run_ends_there stop 0 budget w)

  -- ---- a list of calls

  pub run_chain : (w : World) (calls : List Call) → Chain w (run_of S w calls)
  unfolding run_of
  run_chain w [] = done
  run_chain w (c ∷ calls) =
      append (steps_chain w c) (rw (← left_end w c) (run_chain (left_by S w c) calls))

  pub left_by_all_lem : (w : World) (calls : List Call) → left_by_all S w calls ≡ end_of w (run_of S w calls)
  unfolding run_of left_by_all
  left_by_all_lem w [] = unfold end_of in refl
  left_by_all_lem w (c ∷ calls) = cc (left_by_all_lem (left_by S w c) calls, left_end w c, end_append w (steps_of S w c) (run_of S (left_by S w c) calls))

  -- what refusals 1 to 4 and 10 test stays true, so that only 5, 11 and 6 can happen on a list
  ready_end : {w : World} {vs : List Move} → Chain w vs → ReadyToRun S w → ReadyToRun S (end_of w vs)
  unfolding end_of
  ready_end done s = s
  ready_end {w} (more h c) s = ready_end c (ready_kept S w s)

  pub ready_left : (w : World) (calls : List Call) → ReadyToRun S w → ReadyToRun S (left_by_all S w calls)
  ready_left w calls s = rw left_by_all_lem (ready_end (run_chain w calls) s)

  -- ---- a layout that is not accepted: every call is refused

  module _ (n : accepted S.layout ≡ false) where
    none_taken : (v : Result (Unit {0}) Refusal) (vs : List Move) → (v ≡ unrefused → accepted S.layout ≡ true) → moves_when v vs ≡ []
    none_taken (Ok _) vs h = absurd (cc (h refl))
    none_taken (Err r) vs h = refl

    no_steps : (w : World) (c : Call) → steps_of S w c ≡ []
    unfolding steps_of
    no_steps w stepping = none_taken _ _ (λ e. (all_hold (step_tests S w) e).1.0)
    no_steps w (Calls.running stop budget) = none_taken _ _ (λ e. (all_hold (run_tests S stop budget w) e).1.0)

    pub none_run : (w : World) (calls : List Call) → run_of S w calls ≡ []
    unfolding run_of
    none_run w [] = refl
    none_run w (c ∷ calls) = rw (no_steps w c) (none_run (left_by S w c) calls)
