pub mod ComeToEnd
mod CountLemmas
pub mod EventLemmas
mod ExchangeLaws
pub mod HandedOn
mod Parts
mod PostLemmas
pub mod RestLaws
mod Telling
