mod DecideLaws
mod Defaults
mod PoolLaws
mod TakingLaws
