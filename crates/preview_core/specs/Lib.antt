pub mod Trials
pub mod Repairs
pub mod Differences
pub mod Posts
pub mod Previews
pub mod HandedOn
