pub mod Reading
pub mod RuleReading
pub mod TableReading
pub mod Asking
pub mod RowKeys
