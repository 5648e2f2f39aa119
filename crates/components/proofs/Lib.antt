-- Laws of the components: the passes one after the other, tied to the rules.
pub mod Lowest
pub mod Passes
pub mod Lending
mod Instance
