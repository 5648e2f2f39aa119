-- Every theorem about the definitions of `rules`, in seven folders.
pub mod Ground
pub mod Reaching
pub mod Planning
pub mod Skeletons
pub mod Withdrawn
pub mod Files
pub mod Demands
