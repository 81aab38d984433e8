-- To which service a post goes.
use Rattle.std.specs.Prelude.{ℕ, ◌≡◌, List}
use Rattle.repair_messages.specs.declared.posts.Post.{Post}
use Rattle.repair_messages.specs.declared.posts.Post.TheVariants.{Set, Token, Fetch}

-- a call and a fetch go to the service that is called, a token to the one that called
abbrev pub GoesTo : List ℕ → Post → Type 0
GoesTo dest (Set set) = set.dest ≡ dest
GoesTo dest (Token t) = t.caller ≡ dest
GoesTo dest (Fetch f) = f.callee ≡ dest
