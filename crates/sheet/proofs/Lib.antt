pub mod SheetLaws
pub mod RunnableLaws
