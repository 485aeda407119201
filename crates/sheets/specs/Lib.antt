pub mod Fields
pub mod Forms
pub mod Lines
pub mod Pairs
pub mod Readers
pub mod Reading
pub mod Sheets
pub mod Texts
