-- The access table, and the answer to a caller's question about it.
use Rattle.std.specs.Prelude.{ℕ, Bool, true, false, Result, Ok, Err, eqb}
use Rattle.base.specs.Test.{when◌then◌else◌}
use Rattle.base.specs.Refusal.{refusal_number}
use Rattle.base.specs.declared.refusal.Refusal.{Refusal}
use Rattle.base.specs.declared.refusal.Refusal.TheVariants.{Fence}
use Rattle.layout.specs.declared.sections.Layout.{Layout}
use Rattle.layout.specs.declared.sections.Section.{Section}
use Rattle.layout.specs.declared.access.Right.{Right}
use Rattle.layout.specs.declared.access.Right.TheVariants.{Execute, Read, Write}
use Rattle.layout.specs.declared.access.Column.{Column}
use Rattle.layout.specs.declared.access.Column.TheVariants.{Entry, OtherCode, Data, Outside}
use Rattle.layout.specs.declared.access.Rights.{Rights}
use Rattle.layout.specs.declared.access.Rights.TheVariants.{Nothing, ExecuteOnly, ReadWrite, AllThree}
use Rattle.layout.specs.Sections.{section, inside, entry}
use Rattle.layout.specs.Rules.{accepted}

-- the access table: the row of an instruction inside, and that of one elsewhere
abbrev pub cell : Bool → Column → Rights
cell true Entry = ExecuteOnly
cell true OtherCode = ExecuteOnly
cell true Data = ReadWrite
cell true Outside = ExecuteOnly
cell false Entry = ExecuteOnly
cell false OtherCode = Nothing
cell false Data = Nothing
cell false Outside = AllThree

-- what a cell says of one right
abbrev pub grant : Rights → Right → Bool
grant Nothing right = false
grant ExecuteOnly Execute = true
grant ExecuteOnly Read = false
grant ExecuteOnly Write = false
grant ReadWrite Execute = false
grant ReadWrite Read = true
grant ReadWrite Write = true
grant AllThree right = true

-- to read or to write
abbrev pub touches : Right → Bool
touches Execute = false
touches Read = true
touches Write = true

-- the column of an address in a section, where code has its own
abbrev pub section_column : Section → Column → Column
section_column Section.Outside code = Outside
section_column Section.Code code = code
section_column Section.Data code = Data

-- the column of an address
unfoldable pub column_of : Layout → ℕ → Column
column_of L a = section_column (section L a) (when eqb a (entry L) then Entry else OtherCode)

-- an instruction at the first address may do this to the byte at the second
unfoldable pub may : Layout → ℕ → Right → ℕ → Bool
may L from right a = grant (cell (inside L from) (column_of L a)) right

-- what a caller is told: whether it may, or the refusal
unfoldable pub access_answer : Layout → ℕ → Right → ℕ → Result Bool Refusal
access_answer L from right a = when accepted L then Ok (may L from right a) else Err Fence

-- the number of the answer's refusal, 0 where it is none
abbrev pub access_refusal : Result Bool Refusal → ℕ
access_refusal (Ok allowed) = 0
access_refusal (Err refusal) = refusal_number refusal
