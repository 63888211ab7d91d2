-- The definitions, in document 01's order; the last says how the code goes about it.
pub mod Fixed
pub mod Outputs
pub mod Checked
pub mod Walk
pub mod Good
pub mod Numbers
pub mod Examples
pub mod Skip
