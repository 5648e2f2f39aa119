-- The laws that the proof of a known number cites.
pub mod GoodNumbers
