mod BeginLaws
