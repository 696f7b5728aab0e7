use Rattle.std.proofs.Common.{◌≡◌, drop}
use Rattle.definition.specs.Calls.{rising_from}
use Rattle.definition.proofs.time.TimetableLaws.{rising_on}
use Rattle.clock.proofs.timetable.is_timetable.Given as goal

abbrev pub invariant-loop-stamp : goal.invariant-loop-stamp
invariant-loop-stamp l = rising_from 0 l.stamps ≡ rising_on l.last (drop l.stamp-index l.stamps)
