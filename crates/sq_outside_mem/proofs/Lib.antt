mod Failing
mod Places
mod Taken
