pub mod Refusals
pub mod Both
pub mod Privacy
pub mod Pages
pub mod Reading
