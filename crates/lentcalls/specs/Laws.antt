-- What is claimed of calls on the numbers that a caller lends: the statements of the laws.
use Rattle.std.specs.Prelude.{◌≡◌, true, List, ℕ}
use Rattle.definition.specs.Setting.{Trace}
use Rattle.definition.specs.declared.stop_address.StopAddress.{StopAddress}
use Rattle.definition.specs.Answers.{run_refusal, step_refusal}
use Rattle.lentstate.specs.State.{odd_flag, Numbers}
use Rattle.lentcalls.specs.Calls.{step_on, run_on}

-- where halted or held is neither 0 nor 1, step and run refuse the numbers
unfoldable pub OddFlagRefused : Type 0
OddFlagRefused =
    (n : Numbers) (mem layout stamps : List ℕ) (trace : Trace) → odd_flag n.control ≡ true
    → (step_refusal (step_on n mem layout stamps trace).answer ≡ 0 → ⊥)
    × ((stop : StopAddress) (budget : ℕ) → run_refusal (run_on n mem layout stamps trace stop budget).answer ≡ 0 → ⊥)
