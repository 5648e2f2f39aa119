-- What the contracts of placing say.
pub mod Places
