pub mod RanLaws
pub mod InPlaceLaws
