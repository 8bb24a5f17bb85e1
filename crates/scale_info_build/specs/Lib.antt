pub mod BuiltFields
pub mod Parameters
