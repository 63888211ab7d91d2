-- What a settled configuration has, 9 to 11, how an answer comes about, and last the theorems that are promised.
pub mod Planning
pub mod Late
pub mod View
pub mod Theorems
pub mod Examples
