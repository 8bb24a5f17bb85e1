pub mod OwnedDescriptions
