mod OutwardLemmas
mod PostLaws
mod WalkLemmas
