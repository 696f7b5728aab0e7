use Rattle.std.proofs.lemmas.List.{take_rest}
use Rattle.clock.proofs.UpcomingLaws.{upcoming_counted}
use Rattle.clock.proofs.time.upcoming_at.Goals as goal

pub returns : goal.returns
returns c = λ t p. upcoming_counted _ _ _ _ (rw take_rest at c.count_passed.ensures.count) p t
