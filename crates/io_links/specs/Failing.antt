-- Which calls of an object in memory are to fail.
use Rattle.std.specs.Prelude.{Contains}
use Rattle.io_edge.specs.Told.{count_after}
use Rattle.io_links.specs.declared.failing.FailingCalls.{FailingCalls}

-- the next call is one of those that are to fail
abbrev pub IsToldToFail : FailingCalls → Type 0
IsToldToFail calls = Contains calls.failing.items (count_after calls.made)
