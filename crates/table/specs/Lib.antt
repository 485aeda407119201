pub mod Asking
pub mod Faults
pub mod Places
pub mod Rows
