-- The skeleton: it has the same reach, reach alone decides it, and it has the fewest arcs.
pub mod SkeletonLaws
pub mod Gap
pub mod SkeletonReach
pub mod Alike
pub mod SkeletonSame
pub mod SkeletonLeast
pub mod SkeletonOrder
pub mod TableStep
pub mod TablePlaces
pub mod Condensing
