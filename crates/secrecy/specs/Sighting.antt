-- What outside code sees of a run.
use Rattle.std.specs.Prelude.{ℕ, Bool, List, [], ◌∷◌, leb, Option}
use Rattle.base.specs.Test.{when◌then◌else◌, all}
use Rattle.layout.specs.Sections.{outside}
use Rattle.definition.specs.Setting.{Setting}
use Rattle.answers.specs.declared.answer.Outcome.{Outcome}
use Rattle.answers.specs.declared.answer.Outcome.TheVariants.{Ran, Plain, Padded, Chained, Back, Reset, Halted}
use Rattle.definition.specs.Memory.{byte_at}
use Rattle.definition.specs.Registers.{pc}
use Rattle.definition.specs.State.{World}
use Rattle.definition.specs.Run.{Move, world_after}

-- clock, registers, outside bytes, slot and alarm
pub record View : Type 0 where
  pub clock : ℕ
  pub registers : List ℕ
  pub bytes : ℕ → ℕ
  pub slot : Option ℕ
  pub alarm : Option ℕ

-- the outside bytes; 0 stands for the module's
unfoldable pub outside_bytes : Setting → List ℕ → ℕ → ℕ
outside_bytes S mem a = when outside S.layout a then byte_at mem a else 0

-- the view of a world
unfoldable pub view_of : Setting → World → View
view_of S w =
    record {
      clock = w.state.time.clock;
      registers = w.state.registers;
      bytes = outside_bytes S w.memory;
      slot = w.state.time.slot;
      alarm = w.state.time.alarm;
    }

-- one sighting
pub data Sighting : Type 0 where
  -- what was before the step, what is after it, and its outcome
  seen : View → View → Outcome → Sighting
  -- a RETI that resumes: what was before it, and no more
  resumes : View → Sighting

-- seen from outside, a padded service can only follow a resumption at once
unfoldable pub sighting_of : View → View → Outcome → Sighting
sighting_of before after Ran = seen before after Ran
sighting_of before after Plain = seen before after Plain
sighting_of before after Padded = resumes before
sighting_of before after Chained = seen before after Chained
sighting_of before after Back = resumes before
sighting_of before after (Reset c) = seen before after (Reset c)
sighting_of before after Halted = seen before after Halted

-- a step that begins outside
abbrev pub begins_outside : Setting → Move → Bool
begins_outside S v = outside S.layout (pc v.before.state.registers)

-- one sighting for each step that begins outside, at the clock value T or below
unfoldable pub sightings : Setting → ℕ → List Move → List Sighting
sightings S T [] = []
sightings S T (v ∷ vs) =
    when all (begins_outside S v ∷ leb v.before.state.time.clock T ∷ []) then
    sighting_of (view_of S v.before) (view_of S (world_after v.after)) v.after.outcome ∷ sightings S T vs
    else sightings S T vs
