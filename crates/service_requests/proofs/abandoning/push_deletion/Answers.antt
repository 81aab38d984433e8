use Rattle.std.proofs.Common.{◌≡◌, ◌∙◌, sym, length, vec_len, eqb-true}
use Rattle.service_requests.proofs.DeletionLemmas.{none_deleted}
use Rattle.service_requests.proofs.abandoning.push_deletion.Goals as goal

pub returns-then-is_empty-clause-rows : goal.returns-then-is_empty-clause-rows
returns-then-is_empty-clause-rows c numbers =
    let calls = c.args.calls.now in
    let none : length calls.items ≡ 0 = sym calls.ok.0 ∙ eqb-true (vec_len calls) 0 (sym c.is_empty.ensures ∙ c.if-is_empty.true) in
    none_deleted c.args.registers.now.list c.args.number numbers calls.items c.args.journal.now.rows none
