mod KeepAll
mod Resolved
mod Moved
