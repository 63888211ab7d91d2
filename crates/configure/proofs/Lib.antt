-- What a checked configuration has, the ways that pll_configure goes, then the theorems that are promised, and the examples.
pub mod Configuring
pub mod Going
pub mod Taking
pub mod Near
pub mod Again
pub mod Theorems
pub mod Examples
