pub mod TextLaws
pub mod FilledLaws
