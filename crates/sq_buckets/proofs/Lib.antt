pub mod BucketLaws
mod LevelLaws
pub mod MapLaws
pub mod SpotLaws
