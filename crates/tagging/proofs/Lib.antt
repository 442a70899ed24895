pub mod Ruled
pub mod Rules
pub mod Faults
pub mod Refines
