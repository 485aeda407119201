pub mod Arguments
pub mod Causes
pub mod Explained
pub mod Failures
pub mod Files
pub mod Printed
