pub mod Set
pub mod Label
pub mod Word
