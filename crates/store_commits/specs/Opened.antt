-- What contracts see of a writer.
use Rattle.std.specs.Prelude.{ℕ, Bool, Option}
use Rattle.store_disk.specs.declared.store.Store.{Store}
use Rattle.store_commits.specs.declared.unwritten.Unwritten.{Unwritten}

-- its store, how many lines that has, how many of them are records, whether it is written to, and why not
pub record Opened (D : Type 0) : Type 0 where
  pub store : Store D
  pub lines : ℕ
  pub durable : ℕ
  pub is_open : Bool
  pub closing : Option Unwritten
