-- One name that opens every definition of the layout: a proof by computation says `unfolding computes`.
use Rattle.base.specs.Test.{when◌then◌else◌, all, any}
use Rattle.base.specs.FirstFailure.{first_failure}
use Rattle.layout.specs.Sections.{within, section, inside, outside, same_side}
use Rattle.layout.specs.Rules.{even_address, even_span, apart, all_even, all_filled, layout_fault, accepted}
use Rattle.layout.specs.Access.{column_of, may, access_answer}

unfoldable pub computes : Unit {0}
unfolding when◌then◌else◌ all any within section inside outside same_side even_address even_span apart all_even all_filled first_failure layout_fault accepted column_of may access_answer
computes = tt
