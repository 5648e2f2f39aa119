-- What the contracts of linkplan's text say.
pub mod Texts
