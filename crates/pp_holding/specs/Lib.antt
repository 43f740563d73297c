pub mod Queue
pub mod Stock
pub mod Holding
pub mod Answers
pub mod Opening
pub mod Laws
