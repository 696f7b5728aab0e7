-- What is claimed of a layout as five numbers: the statement of the law.
use Rattle.std.specs.Prelude.{◌≡◌}
use Rattle.layout.specs.declared.sections.Layout.{Layout}
use Rattle.lentlayout.specs.Layout.{layout_of, layout_fields}

-- a layout handed back and read again is the same layout
unfoldable pub LayoutAgain : Type 0
LayoutAgain = (L : Layout) → layout_of (layout_fields L) ≡ L
