-- The definitions, in document 01's order; the last says how the code goes about it.
pub mod Ratio
pub mod Rows
pub mod Derive
pub mod Numbers
pub mod Refusals
pub mod Examples
pub mod Inner
