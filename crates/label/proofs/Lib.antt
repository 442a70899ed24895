pub mod Set
pub mod Laws
