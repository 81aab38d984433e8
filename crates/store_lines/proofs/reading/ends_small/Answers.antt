use Rattle.std.proofs.Common.{ap, sym, ℕ}
use Rattle.std.specs.Prelude.{nat_le}
use Rattle.store_lines.proofs.MarkLemmas.{last_at}
use Rattle.store_lines.proofs.reading.ends_small.Goals as goal

pub returns : goal.returns
returns c = ap (λ (b : ℕ). nat_le 97 b) (sym (last_at c.args.line.now))
