mod EscapeLaws
mod JoinLaws
