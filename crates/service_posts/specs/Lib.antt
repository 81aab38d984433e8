pub mod Walks
pub mod Goes
