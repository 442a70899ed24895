pub mod Command
pub mod Name
pub mod Decode
pub mod Encode
pub mod Space
pub mod Fetch
