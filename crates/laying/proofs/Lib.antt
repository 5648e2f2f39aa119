-- Laws of the network on which the plan rule runs, of laying out a plan, and of the answer with its numbers.
pub mod Carrying
mod Upright
mod Laying
