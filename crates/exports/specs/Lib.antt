pub mod Result
pub mod Row
pub mod Clearance
pub mod Exported
