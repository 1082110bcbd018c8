mod Borne
pub mod Grounds
mod Partition
