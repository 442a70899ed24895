pub mod Value
pub mod Ask
pub mod RowCode
