-- The layout in the numbers that a caller lends, both ways.
unfoldable pub use Rattle.layout.specs.Fields.{layout_of, layout_fields}
