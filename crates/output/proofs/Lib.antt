pub mod PagesLaws
pub mod OpenLaws
