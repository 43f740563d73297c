-- Texts and bytes that peers exchange: descriptors, addresses, options, messages, datagrams.
pub mod Descriptor
pub mod DescriptorFault
pub mod DescriptorRead
pub mod ReadExample
pub mod Addresses
pub mod Traffic
pub mod Options
pub mod OptionLaw
pub mod Mismatch
pub mod HandshakeExample
pub mod Messages
pub mod MessageExample
