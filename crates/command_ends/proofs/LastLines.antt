-- What writing a last line comes to.
use Rattle.std.proofs.Common.{◌≡◌, inl, inr, ℕ, List, [], Result, Ok, Err, OnOk, OnErr, refl, sym}
use Rattle.std.proofs.lemmas.List.{append-nil}
use Rattle.io_edge.specs.Edge.{WriteFails, Writes, Wrote, WroteShort}
use Rattle.command_ends.specs.Ends.{EndsWith}

-- where the result of writing it is so
pub last_ends : {X E : Type 0} (a b : Writes) (line : List ℕ) (r : Result X E) → OnOk r (Wrote a b line) → OnErr r (WroteShort a b line) → OnErr r (WriteFails a b) → EndsWith a b [] line
last_ends a b line (Ok x) whole short fails = record { front = line; of_line = ([], sym (append-nil line)); wrote = whole; whole = inl refl }
last_ends a b line (Err e) whole short fails = record { front = short.0; of_line = (short.1, short.2); wrote = short.4; whole = inr fails }
