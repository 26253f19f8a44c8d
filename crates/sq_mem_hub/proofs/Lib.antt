mod CallLaws
mod WaitLaws
