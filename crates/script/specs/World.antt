-- What a new world of the script has.
use Rattle.std.specs.Prelude.{[], ◌∷◌, replicate, false, None}
use Rattle.layout.specs.declared.sections.Layout.{Layout}
use Rattle.layout.specs.Fields.{layout_of}
use Rattle.definition.specs.declared.state.State.{State}
use Rattle.definition.specs.Time.{start_time}

-- nothing but 0 in the state, and the previous address FFFE
abbrev pub zero_state : State
zero_state =
    record {
      registers = replicate 16 0;
      previous = 0xfffe;
      time = start_time;
      context = None;
      saved = replicate 16 0;
      halted = false;
    }

-- the layout of document 01's sheet
abbrev pub sheet_layout : Layout
sheet_layout = layout_of (0x8000 ∷ 0x8008 ∷ 0x8100 ∷ 0x8104 ∷ 0x4500 ∷ [])
