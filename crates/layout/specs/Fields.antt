-- The layout as five addresses, both ways.
use Rattle.std.specs.Prelude.{ℕ, List, [], ◌∷◌, get_or}
use Rattle.layout.specs.declared.sections.Layout.{Layout}

-- the layout of five addresses: code start and end, data start and end, service address
unfoldable pub layout_of : List ℕ → Layout
layout_of fields =
    record {
      code = record { start = get_or fields 0 0; end = get_or fields 1 0 };
      «data» = record { start = get_or fields 2 0; end = get_or fields 3 0 };
      service = get_or fields 4 0;
    }

-- the five addresses of a layout
unfoldable pub layout_fields : Layout → List ℕ
layout_fields L = L.code.start ∷ L.code.end ∷ L.«data».start ∷ L.«data».end ∷ L.service ∷ []
