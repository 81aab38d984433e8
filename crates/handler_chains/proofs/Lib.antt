pub mod Finding
pub mod OnwardLaws
