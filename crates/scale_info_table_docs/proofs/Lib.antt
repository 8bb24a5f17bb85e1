mod Changes
mod Definitions
mod OfParts
