-- Laws that belong to no one function.
pub mod Lists
pub mod Building
pub mod Refusing
pub mod Codes
