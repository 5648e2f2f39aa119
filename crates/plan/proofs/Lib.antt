-- Laws of PLAN's answer. What its promise means is in theory, under Demands.
pub mod Answering
