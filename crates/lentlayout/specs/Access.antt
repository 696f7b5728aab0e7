-- The access question for all three rights at once.
use Rattle.std.specs.Prelude.{ℕ, ◌+◌, Bool}
use Rattle.base.specs.Test.{when◌then◌else◌}
use Rattle.layout.specs.declared.sections.Layout.{Layout}
use Rattle.layout.specs.declared.access.Right.TheVariants.{Execute, Read, Write}
use Rattle.layout.specs.Access.{may}

-- what a right counts in the sum: its weight where it is allowed
unfoldable pub weight_if : Bool → ℕ → ℕ
weight_if allowed weight = when allowed then weight else 0

-- what an instruction at the first address may do to the byte at the second: execute 1, read 2, write 4, or a sum of those
unfoldable pub rights_of : Layout → ℕ → ℕ → ℕ
rights_of L from a = weight_if (may L from Execute a) 1 + weight_if (may L from Read a) 2 + weight_if (may L from Write a) 4
