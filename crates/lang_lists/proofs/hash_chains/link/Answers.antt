use Rattle.std.proofs.Common.{ℕ, ◌+◌, length, set, get_or, refl, sym, subst}
use Rattle.lang_lists.specs.Chains.{IsChained}
use Rattle.lang_lists.proofs.ChainLemmas.{chained_more}
use Rattle.lang_lists.proofs.hash_chains.link.Goals as goal

pub returns-clause-chained : goal.returns-clause-chained
returns-clause-chained c =
    let P : ℕ → Type 0 = λ b. IsChained (length c.args.last.now) (c.args.place + 1) c.args.keys.now (set c.args.before.now c.args.place (get_or c.args.last.now b 0)) (set c.args.last.now b (c.args.place + 1)) in
    rw c.narrow.ensures (subst P (sym c.bucket_of-bucket.ensures.bucket)
    (chained_more (length c.args.last.now) c.args.place c.args.keys.now c.args.before.now c.args.last.now c.requires.place c.requires.len refl c.requires.buckets c.requires.chained))
