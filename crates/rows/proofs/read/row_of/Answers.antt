use Rattle.std.proofs.Common.{arith, ne_eqb, ◌/◌}
use Rattle.rows.specs.internal.Dispatch.{row_of, first_and_third}
use Rattle.base.specs.Test.{when◌then◌else◌}
use Rattle.rows.proofs.read.row_of.Goals as goal

pub returns : goal.returns
unfolding row_of when◌then◌else◌
returns c =
    let w = c.args.first in
    simp (c.row_by_digits.ensures, ne_eqb (first_and_third w) 0x4000 (omega arith), ne_eqb (w / 16) 0x403 (omega arith))
