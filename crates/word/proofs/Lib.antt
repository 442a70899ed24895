pub mod Signed
pub mod Bits
pub mod Bool
pub mod Clauses
pub mod Lay
pub mod Laws
