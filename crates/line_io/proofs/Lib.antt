pub mod ChunkLemmas
mod ChunkRows
pub mod Collecting
pub mod Giving
pub mod Handing
pub mod Known
pub mod Reading
