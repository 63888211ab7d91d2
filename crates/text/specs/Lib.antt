-- What a reader of this crate must believe.
pub mod Ascii
pub mod Decimal
pub mod Line
pub mod Placing
pub mod Back
