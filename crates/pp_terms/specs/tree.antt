-- Contents, their hash trees, books of digests, and numbers of chunks.
pub mod Content
pub mod Tree
pub mod Book
pub mod Proves
pub mod Claims
pub mod Bins
pub mod Range
pub mod RangeExample
pub mod ClaimExample
