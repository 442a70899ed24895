-- The link from lent words to the machine of document 01: the record and the stack against a list of entries, then what a command
-- finds and does, under any rule. Assumes nothing.
pub mod Laid
pub mod Stack
pub mod Record
pub mod Represents
pub mod Needs
pub mod Runs
pub mod Carried
pub mod Looks
pub mod Command
