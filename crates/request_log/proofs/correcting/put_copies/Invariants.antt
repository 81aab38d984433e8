use Rattle.std.proofs.Common.{◌≡◌, ◌≤◌, ℕ, Option, get_or, length, take}
use Rattle.lang_programs.specs.Numbered.{Numbered}
use Rattle.request_log.specs.Corrections.{all_given}
use Rattle.request_log.proofs.correcting.put_copies.Given as goal

abbrev pub invariant-loop-place : goal.invariant-loop-place
invariant-loop-place l = record {
  given : l.items.items ≡ all_given (take l.place l.initial.copies.items) l.initial.items.items;
  many : length l.copies.items ≡ length l.initial.copies.items;
  rest : (q : ℕ) (d : Option Numbered) → l.place ≤ q → get_or l.copies.items q d ≡ get_or l.initial.copies.items q d;
}
