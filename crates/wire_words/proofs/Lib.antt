pub mod TableLaws
pub mod WordLaws
