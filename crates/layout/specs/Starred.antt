-- The starred case of 'Settled beforehand' on access.
use Rattle.std.specs.Prelude.{true, false, Ok, List, [], ◌∷◌}
use Rattle.base.specs.Case.{Case, case}
use Rattle.layout.specs.declared.sections.Layout.{Layout}
use Rattle.layout.specs.declared.access.Right.TheVariants.{Execute}
use Rattle.layout.specs.Access.{access_answer}

-- the layout of document 01's sheet
abbrev pub sheet_layout : Layout
sheet_layout =
    record {
      code = record { start = 0x8000; end = 0x8008 };
      «data» = record { start = 0x8100; end = 0x8104 };
      service = 0x4500;
    }

-- from 4404, 8000 may be executed, 8002 not
abbrev pub access_cases : List {1} Case
access_cases =
    case (access_answer sheet_layout 0x4404 Execute 0x8000) (Ok true)
    ∷ case (access_answer sheet_layout 0x4404 Execute 0x8002) (Ok false)
    ∷ []
