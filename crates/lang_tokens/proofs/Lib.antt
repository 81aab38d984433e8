pub mod GapLemmas
pub mod DigitLemmas
pub mod StringLemmas
pub mod TextLemmas
pub mod LexLemmas
pub mod SpellingLemmas
pub mod KeptLemmas
pub mod WrittenLemmas
