pub mod Agendas
pub mod Laws
