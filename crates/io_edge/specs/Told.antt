-- Which calls of a source or a sink in memory are to fail.
use Rattle.std.specs.Prelude.{ℕ, ◌+◌, ◌-◌, ◌^◌, Contains, min}
use Rattle.io_edge.specs.declared.told.FailingCalls.{FailingCalls}

-- one more, up to the greatest u64
abbrev pub count_after : ℕ → ℕ
count_after n = min (n + 1) (2 ^ 64 - 1)

-- the next call is one of those that are to fail
abbrev pub IsToldToFail : FailingCalls → Type 0
IsToldToFail calls = Contains calls.failing.items (count_after calls.made)
