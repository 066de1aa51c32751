mod TakingLaws
