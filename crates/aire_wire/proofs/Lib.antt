pub mod BytesBack
pub mod FieldsRead
mod GoodHeads
pub mod KnownMessages
pub mod PlainMessages
pub mod ReadCalls
mod ReadFacts
pub mod ReadFetches
pub mod ReadSets
pub mod ReadTokens
pub mod SameMessages
pub mod SealedRequests
pub mod TextForms
