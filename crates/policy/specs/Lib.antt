pub mod Expression
pub mod Evaluate
pub mod Token
pub mod Read
pub mod Write
pub mod Standard
pub mod Row
