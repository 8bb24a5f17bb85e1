pub mod GraphTexts
