use Rattle.inplace.proofs.in_place.fast_until.Goals as goal

pub returns : goal.returns
returns c L here = rw c.gie_is_set.ensures at (c.no_event_until.ensures L here)
