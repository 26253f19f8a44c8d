mod BeginLaws
mod SetupLaws
mod ThreadLaws
mod ServiceLaws
mod TrueLaws
