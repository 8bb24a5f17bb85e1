pub mod ValueTexts
