pub mod Sockets
pub mod Wires
