pub mod RegistryParts
pub mod Registrations
pub mod RegistryLaws
pub mod BorrowedTypes
