pub mod Words
