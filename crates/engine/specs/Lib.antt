pub mod Memory
pub mod Runs
pub mod Layout
pub mod Start
pub mod Act
pub mod Loop
pub mod Ended
