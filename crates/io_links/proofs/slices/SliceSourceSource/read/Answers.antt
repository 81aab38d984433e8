use Rattle.std.proofs.Common.{◌≡◌, ◌+◌, ℕ, List, Some, None, take, drop, ◌++◌, arith, refl, sym, subst}
use Rattle.std.proofs.lemmas.Grind.{common_steps}
use Rattle.io_edge.specs.Edge.{Reads, Took}
use Rattle.io_edge.proofs.Pieces.{took_at}
use Rattle.io_links.proofs.slices.SliceSourceSource.read.Goals as goal

-- what is left, as far as a taken piece goes
left_at : List ℕ → Reads
left_at bytes = record { left = Some bytes; whole = None; faults = 0 }

pub returns-clause-took : goal.returns-clause-took
unfolding left_at
returns-clause-took c =
    let s = c.args.self.now in
    let n = c.min-n.result in
    let copied : take n (c.copy_from_slice.new.self ++ drop n c.args.into.now) ≡ take n (drop s.at s.bytes.now) = grind (arith, common_steps) in
    let before = left_at (drop s.at s.bytes.now) in
    let now = left_at (drop (s.at + n) s.bytes.now) in
    let P : List ℕ → Type 0 = λ piece. Took before now piece in
    subst P (sym copied) (took_at before now s.bytes.now s.at n refl refl)
