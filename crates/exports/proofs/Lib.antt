pub mod Rows
pub mod Leaving
