use Rattle.std.proofs.Common.{length, nat_eq, sym, ap, ◌∙◌, arith}
use Rattle.std.proofs.lemmas.List.{take_all}
use Rattle.lang_lists.specs.Ends.{last_end}
use Rattle.lang_lists.proofs.ChainLemmas.{start_all}
use Rattle.lang_lists.proofs.hash_chains.end_of.Goals as goal

pub walk-requires-clause-within : goal.walk-requires-clause-within
walk-requires-clause-within c =
    let start = start_all c.args.keys.now c.args.before.now c.args.last.now c.args.key c.requires (omega arith) in
    rw c.bucket_of-bucket.ensures.bucket start.within

pub walk-requires-clause-chained : goal.walk-requires-clause-chained
walk-requires-clause-chained c =
    let start = start_all c.args.keys.now c.args.before.now c.args.last.now c.args.key c.requires (omega arith) in
    rw c.bucket_of-bucket.ensures.bucket start.chained

pub returns : goal.returns
returns c =
    let start = start_all c.args.keys.now c.args.before.now c.args.last.now c.args.key c.requires (omega arith) in
    let all = ap (last_end (nat_eq c.args.key)) (take_all (length c.args.keys.now) c.args.keys.now (omega arith)) in
    rw c.bucket_of-bucket.ensures.bucket at c.walk.ensures ∙ sym start.same ∙ all
