pub mod Searches
pub mod Examples
