pub mod LegibleBytes
