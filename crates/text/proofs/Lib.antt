-- Laws of linkplan's text.
pub mod TextLaws
