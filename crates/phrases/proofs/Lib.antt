-- Laws of the lines above the links and of the line of a refusal.
pub mod PhraseLaws
