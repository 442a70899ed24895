pub mod Consult
pub mod Claim
