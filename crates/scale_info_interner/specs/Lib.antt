pub mod Interned
pub mod ElementOrders
