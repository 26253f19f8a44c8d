mod AnswerLaws
mod EscapeLaws
mod HitLaws
mod KeyLaws
mod ReadLaws
