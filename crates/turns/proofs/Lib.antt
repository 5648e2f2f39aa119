-- Laws of a source's turn in lent work memory.
mod TakeOut
mod Picking
mod TurnLaws
