-- What start, step and run hand back, by the verdict on their tests. Assumes nothing.
use Rattle.std.proofs.Common.{◌≡◌, refl, sym, ◌∙◌, ap, true, false, List, [], ℕ, Result, Ok, Err}
use Rattle.answers.specs.declared.answer.Stopped.{Stopped}
use Rattle.base.specs.declared.refusal.Refusal.{Refusal}
use Rattle.base.specs.declared.refusal.Refusal.TheVariants.{Map}
use Rattle.base.specs.FirstFailure.{first_failure}
use Rattle.base.specs.Verdict.{verdict, unrefused}
use Rattle.base.proofs.Tests.{when_true, when_false}
use Rattle.definition.specs.Setting.{Setting}
use Rattle.definition.specs.declared.stop_address.StopAddress.{StopAddress}
use Rattle.answers.specs.declared.answer.Outcome.{Outcome}
use Rattle.definition.specs.Memory.{byte_at, word_at}
use Rattle.definition.specs.Registers.{cleared}
use Rattle.definition.specs.Time.{start_time}
use Rattle.definition.specs.State.{World, reset_address, reset_state, start}
use Rattle.definition.specs.Interrupt.{Step, gives}
use Rattle.definition.specs.Run.{step_of}
use Rattle.definition.specs.Calls.{whole_memory, start_tests, step_tests, run_tests, called, run_answered, start_call}
use Rattle.definition.specs.Laws.{ReadyToRun}
use Rattle.definition.specs.Promises.{StartPromise, StepPromise, RunPromise}
use Rattle.definition.proofs.run.CallLaws.{Fit, step_fit, run_ready, start_promised, step_promised, run_promised, step_call_lem, run_call_lem}

no_word : reset_address [] ≡ 0
unfolding reset_address word_at byte_at
no_word = refl

module _ (mem : List ℕ) where
  refused_result : whole_memory mem ≡ false → called (reset_state (cleared 0) start_time) mem (Err Map) ≡ start_call mem
  unfolding start_call first_failure start
  refused_result h = let v : verdict (start_tests mem) ≡ Err Map = when_false _ _ _ h in rw (v, no_word)

  taken_result : whole_memory mem ≡ true → called (reset_state (cleared (reset_address mem)) start_time) mem unrefused ≡ start_call mem
  unfolding start_call first_failure start
  taken_result h = let v : verdict (start_tests mem) ≡ unrefused = when_true _ _ _ h in rw v

  pub start_refused : whole_memory mem ≡ false → StartPromise mem (reset_state (cleared 0) start_time) (Err Map)
  start_refused h = start_promised mem _ _ (refused_result h)

  pub start_taken : whole_memory mem ≡ true → StartPromise mem (reset_state (cleared (reset_address mem)) start_time) unrefused
  start_taken h = start_promised mem _ _ (taken_result h)

-- ---- step and run

module _ (S : Setting) (w : World) (v : Result (Unit {0}) Refusal) where
  pub step_refused : (r : Refusal) → v ≡ verdict (step_tests S w) → v ≡ Err r → StepPromise S w w (Err r)
  step_refused r same e = step_promised S w w (Err r) (sym (step_call_lem S w (Err r) (sym same ∙ e)))

  pub step_taken : (next : World) (o : Outcome) → v ≡ verdict (step_tests S w) → v ≡ unrefused
      → (Fit S w → gives next.state next.memory o ≡ step_of S w) → StepPromise S w next (Ok o)
  step_taken next o same e h =
      step_promised S w next (Ok o)
      (ap (λ (s : Step). called s.state s.memory (Ok s.outcome)) (h (step_fit S w (sym same ∙ e)))
      ∙ sym (step_call_lem S w unrefused (sym same ∙ e)))

  module _ (stop : StopAddress) (budget : ℕ) where
    pub run_refused : (r : Refusal) → v ≡ verdict (run_tests S stop budget w) → v ≡ Err r → RunPromise S stop budget w w (Err r)
    run_refused r same e = run_promised S w w stop budget (Err r) (sym (run_call_lem S w (Err r) stop budget (sym same ∙ e)))

    pub run_taken : (next : World) (answer : Result Stopped Refusal) → v ≡ verdict (run_tests S stop budget w) → v ≡ unrefused
        → (ReadyToRun S w → called next.state next.memory answer ≡ run_answered S stop budget w unrefused) → RunPromise S stop budget w next answer
    run_taken next answer same e h =
        run_promised S w next stop budget answer
        (h (run_ready S w stop budget (sym same ∙ e)) ∙ sym (run_call_lem S w unrefused stop budget (sym same ∙ e)))
