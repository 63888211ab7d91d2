-- The definitions, in document 01's order: the file, the waits, the list, the fields, demand 3, reading back.
pub mod Places
pub mod Files
pub mod Waits
pub mod Order
pub mod Fields
pub mod Safe
pub mod Back
