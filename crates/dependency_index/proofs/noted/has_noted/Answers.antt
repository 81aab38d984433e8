use Rattle.std.proofs.Common.{◌≡◌, ap, ◌∙◌}
use Rattle.dependency_index.specs.Reads.{label_of}
use Rattle.dependency_index.specs.declared.noted.Noted.{Noted}
use Rattle.dependency_index.proofs.IndexLemmas.{noted_again}
use Rattle.dependency_index.proofs.noted.has_noted.Goals as goal

pub returns : goal.returns
returns c = λ same.
    let at = c.seek_number-at in
    let found = c.index-noted-at.result in
    let label : label_of found ≡ c.args.own.now.label = ap label_of c.index-noted-at.is ∙ at.ensures.here c.if-not-taken.false found in
    let reads = ap (λ (n : Noted). n.reads) c.index-noted-at.is ∙ c.is.ensures.0 same in
    let past_it = rw c.if-not-taken.false at at.ensures.above in
    noted_again at.result.0 found c.args.own.now c.args.noted.now (at.ensures.within.there c.if-not-taken.false) c.index-noted-at.is label reads
    at.ensures.below past_it
