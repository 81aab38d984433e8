-- What a link with prepared replies keeps and tells.
use Rattle.std.specs.Prelude.{◌≡◌, ℕ, List, Option, Some, None, length, slice_get}
use Rattle.io_links.specs.Exchanges.{Exchanges, IsFailure}
use Rattle.io_links.specs.Told.{told}
use Rattle.io_links.specs.declared.links.Exchange.{Exchange}
use Rattle.io_links.specs.declared.links.Exchange.TheVariants.{Reply}
use Rattle.io_links.specs.declared.prepared.PreparedLink.{PreparedLink}

-- the exchanges that it made, and its count
abbrev pub prepared_exchanges : PreparedLink → Exchanges
prepared_exchanges l = told l.told

-- the place of the next exchange's reply
abbrev pub prepared_next : PreparedLink → ℕ
prepared_next l = length l.told.made.items

-- the replies, in order
abbrev pub prepared_replies : PreparedLink → List (Option (List ℕ))
prepared_replies l = l.replies.now

-- this came of what was prepared: the reply, or a failure where there is none
abbrev pub IsPrepared : Option (Option (List ℕ)) → Exchange → Type 0
IsPrepared (Some (Some bytes)) answer = answer ≡ Reply bytes
IsPrepared (Some None) answer = IsFailure answer
IsPrepared None answer = IsFailure answer

-- this came of the next exchange
abbrev pub Answers : PreparedLink → Exchange → Type 0
Answers before answer = IsPrepared (slice_get (prepared_replies before) (prepared_next before)) answer
