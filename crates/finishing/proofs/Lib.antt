-- Laws of the first pass: a zone that ends, over plain functions and in the memory, and how the pass begins.
pub mod Pop
pub mod Up
pub mod Start
