pub mod BorrowedValues
pub mod IntegerLists
pub mod ValueParts
