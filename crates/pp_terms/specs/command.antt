-- The lines that the program prints, the streams that it reads and writes, and the order in which it asks.
pub mod Stream
pub mod Order
pub mod Tally
pub mod Report
pub mod ReportExample
