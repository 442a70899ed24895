pub mod Words
pub mod Acting
pub mod Going
