pub mod Filled
pub mod LineParts
pub mod OneText
