-- What is claimed of the numbers that a caller lends: the statements of the laws.
use Rattle.std.specs.Prelude.{◌≡◌, true, false}
use Rattle.definition.specs.Setting.{Setting}
use Rattle.definition.specs.declared.state.State.{State}
use Rattle.definition.specs.State.{framed}
use Rattle.lentstate.specs.State.{odd_flag, Numbers, machine_of, numbers_of}

-- a machine of a frame, handed back and read again, is the same machine
unfoldable pub MachineAgain : Type 0
MachineAgain = (S : Setting) (m : State) → framed S m ≡ true → machine_of (numbers_of m) ≡ m

-- where halted or held is neither 0 nor 1, the numbers are of no frame
unfoldable pub OddFlagUnframed : Type 0
OddFlagUnframed = (S : Setting) (n : Numbers) → odd_flag n.control ≡ true → framed S (machine_of n) ≡ false
