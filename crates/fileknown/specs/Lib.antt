-- What the contract of a known number cites.
pub mod Numbers
