pub mod AddLaws
mod CutLaws
pub mod KeeperLaws
pub mod WalkLaws
mod QuestionLaws
mod PipeLaws
