pub mod Acting
pub mod Following
pub mod Next
pub mod Running
