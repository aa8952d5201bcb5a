pub mod Before
pub mod EditedBodies
pub mod Laws
pub mod Quiet
pub mod QuietLaws
pub mod QuietMarks
pub mod Reach
pub mod Skeleton
