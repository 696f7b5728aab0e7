-- The rules of a layout in numbers.
use Rattle.std.specs.Prelude.{ℕ, Option, Some, None}
use Rattle.layout.specs.declared.rules.Rule.{Rule}
use Rattle.layout.specs.declared.rules.Rule.TheVariants.{Odd, Empty, Overlap, Service}

-- the number of a rule, in document 01's order: an odd address, a start not below its end, sections that overlap, a service address in one
abbrev pub rule_number : Rule → ℕ
rule_number Odd = 1
rule_number Empty = 2
rule_number Overlap = 3
rule_number Service = 4

-- the number of the first rule that is broken, 0 where none is
abbrev pub fault_number : Option Rule → ℕ
fault_number None = 0
fault_number (Some rule) = rule_number rule
