-- What who starts threads keeps: counts, and which starts are to be refused.
use Rattle.std.specs.Prelude.{ℕ}
use Rattle.io_links.specs.declared.failing.FailingCalls.{FailingCalls}
use Rattle.io_links.specs.declared.spawners.SystemSpawner.{SystemSpawner}
use Rattle.io_links.specs.declared.spawners.MemorySpawner.{MemorySpawner}

-- how many threads the system didn't make
abbrev pub system_refusals : SystemSpawner → ℕ
system_refusals s = s.refusals

-- the starts that are to be refused, how many were asked for, and how many were refused
abbrev pub memory_starts : MemorySpawner → FailingCalls
memory_starts s = s.starts
