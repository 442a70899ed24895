pub mod Ruling
pub mod Start
pub mod Tagged
