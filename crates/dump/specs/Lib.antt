-- Lines that candump prints: what the functions of `dump` are held to.
pub mod Dump
