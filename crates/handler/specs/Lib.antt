pub mod Kernel
pub mod Translate
pub mod Claim
pub mod Space
pub mod Reading
