pub mod Job
pub mod Lines
pub mod Written
pub mod Page
