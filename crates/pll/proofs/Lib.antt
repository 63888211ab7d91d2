-- The lemmas by idea, each file above those that use it, and last the theorems that are promised.
pub mod Reciprocal
pub mod Outputs
pub mod Dividers
pub mod Looks
pub mod Room
pub mod Ahead
pub mod Answers
pub mod Rules
pub mod Skipping
pub mod Theorems
pub mod Settings
