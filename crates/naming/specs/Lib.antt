-- What the contracts of the naming and of the listing say.
pub mod Naming
pub mod Picks
pub mod Names
pub mod Tops
