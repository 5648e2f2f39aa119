-- What the contracts of these texts say.
pub mod Phrases
