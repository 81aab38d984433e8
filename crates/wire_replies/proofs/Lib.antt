mod GoodHeads
mod Accepted
mod KnownKinds
mod RoundTrip
mod BytesBack
mod PlainReplies
mod SameReplies
