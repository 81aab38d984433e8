use Rattle.std.proofs.Common.{◌<◌, cond, length, sym, ap, ◌∙◌, arith}
use Rattle.std.specs.List.{filter, list_any}
use Rattle.key_labels.specs.Labels.{is_other}
use Rattle.dependency_index.specs.Reads.{is_at}
use Rattle.dependency_index.specs.Rows.{labels_by}
use Rattle.dependency_index.specs.declared.noted.Noted.{Noted}
use Rattle.dependency_index.proofs.IndexLemmas.{unnoted, noted_there}
use Rattle.dependency_index.proofs.index.drop_noted.Goals as goal

pub returns-then-taken-clause-each : goal.returns-then-taken-clause-each
returns-then-taken-clause-each c = λ kind t k.
    let test = is_at kind t k in
    let ns = c.args.noted.now in
    let own = c.index-noted-at.result in
    let at = c.seek_number-at.result.0 in
    let lt : at < length ns = omega arith in
    let each = rw c.as_slice.ensures at c.drop_labels.ensures.each in
    let past_it = rw c.if-taken.true at c.seek_number-at.ensures.above in
    let e = c.requires.each kind t k in
    each kind t k
    ∙ ap (λ (n : Noted). cond (list_any test n.reads) (filter (is_other c.args.label) (labels_by c.args.rows.now kind t k)) (labels_by c.args.rows.now kind t k)) (sym c.index-noted-at.is)
    ∙ ap (λ l. cond (list_any test own.reads) (filter (is_other c.args.label) l) l) e
    ∙ noted_there test c.args.label at own ns c.requires.rising lt c.index-noted-at.is c.seek_number-at.ensures.below past_it
    ∙ sym (ap (filter (is_other c.args.label)) e)

pub returns-else-taken-clause-each : goal.returns-else-taken-clause-each
returns-else-taken-clause-each c = λ kind t k.
    let past_it = rw c.if-taken.false at c.seek_number-at.ensures.above in
    let e = c.requires.each kind t k in
    e ∙ unnoted (is_at kind t k) c.args.label c.seek_number-at.result.0 c.args.noted.now c.requires.rising c.seek_number-at.ensures.below past_it
    ∙ sym (ap (filter (is_other c.args.label)) e)
