pub mod Assembly
pub mod Scan
pub mod Space
pub mod Claim
pub mod Trial
