-- The lemmas by idea, each file above those that use it.
pub mod Rounded
pub mod Quotient
pub mod Exactly
pub mod Ieee
pub mod Monotone
pub mod Table
pub mod Deriving
pub mod Caps
pub mod Theorems
pub mod Examples
