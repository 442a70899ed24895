pub mod Fields
pub mod Reading
pub mod Texts
pub mod Printing
pub mod Paging
pub mod Pages
