-- One name that opens every definition of a run and of what is shown of it: a proof by computation says `unfolding computes`.
use Rattle.base.specs.FirstFailure.{first_failure}
use Rattle.base.specs.Test.{any}
use Rattle.definition.specs.Calls.{rising_from, timetable, trace_fits, start_call, step_call, run_call}
use Rattle.definition.proofs.Computes.{computes as machine}
use Rattle.secrecy.specs.Calls.{steps_of, left_by, run_of, left_by_all}
use Rattle.secrecy.specs.Sighting.{view_of, sighting_of, sightings}
use Rattle.secrecy.specs.Visit.{visits_by}
use Rattle.witness.specs.Lines.{loaded, memory_of, lines_of}

unfoldable pub computes : Unit {0}
unfolding machine any rising_from timetable trace_fits first_failure start_call step_call run_call steps_of left_by run_of left_by_all view_of sighting_of sightings visits_by loaded memory_of lines_of
computes = tt
