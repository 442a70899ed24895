pub mod Lent
pub mod Cell
pub mod Find
pub mod Effect
