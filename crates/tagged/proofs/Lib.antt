pub mod Seven
pub mod Acting
pub mod Counts
pub mod Following
pub mod Accepted
pub mod Reading
pub mod Numbers
