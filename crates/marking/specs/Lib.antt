pub mod Questions
pub mod Rendered
pub mod Printed
pub mod Reports
