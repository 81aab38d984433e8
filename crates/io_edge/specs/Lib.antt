pub mod Causes
pub mod Edge
pub mod Files
pub mod Memory
pub mod MemoryFiles
pub mod RealFiles
pub mod Streams
pub mod Told
