pub mod Ruler
pub mod Next
pub mod Plain
