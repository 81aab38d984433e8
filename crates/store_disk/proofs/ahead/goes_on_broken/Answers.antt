use Rattle.std.proofs.Common.{◌<◌, length, drop, sym, arith}
use Rattle.std.proofs.lemmas.List.{length-drop}
use Rattle.store_disk.proofs.ReadLemmas.{broken_short}
use Rattle.store_disk.proofs.ahead.goes_on_broken.Goals as goal

pub returns-then-saturating_sub-lt2-clause-broken : goal.returns-then-saturating_sub-lt2-clause-broken
returns-then-saturating_sub-lt2-clause-broken g c = λ is len.
    let file = g.D.Disk.seen c.args.disk.now in
    let short : length (drop c.args.used file) < 2 = omega (arith, length-drop c.args.used file, c.saturating_sub.ensures, c.if-saturating_sub-lt2.true, len) in
    sym (broken_short (drop c.args.used file) short)
