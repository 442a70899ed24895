pub mod Putting
pub mod Pieces
pub mod Emitting
pub mod Placing
pub mod Translating
