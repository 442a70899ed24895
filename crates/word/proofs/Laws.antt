-- The laws of the definitions of specs/, over the width, the base and the position. Assumes nothing.
pub mod Test
pub mod Digits
pub mod Modulo
pub mod Parts
pub mod Wrap
pub mod Exact
pub mod Word
pub mod Field
pub mod Numeral
pub mod Text
pub mod Reading
pub mod Decimal
