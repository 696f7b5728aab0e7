pub mod Computes
pub mod SpanLaws
pub mod SectionLaws
pub mod RuleLaws
pub mod LayoutLaws
pub mod AccessLaws
