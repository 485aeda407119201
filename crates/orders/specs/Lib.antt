pub mod Ranges
pub mod Assigner
pub mod Growth
pub mod Relations
pub mod Settling
