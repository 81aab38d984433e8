use Rattle.std.proofs.Common.{◌∙◌, ◌+◌, ◌++◌, List, ℕ, drop, take, ap, subst, ◌<◌, length, sym}
use Rattle.request_log.specs.Folded.{whole}
use Rattle.service_posts.specs.Walks.{calls_in, first_to, is_to, last_to}
use Rattle.service_posts.proofs.OutwardLemmas.{call_within, entry_within, next_found, previous_found}
use Rattle.service_posts.proofs.outward.outward.Goals as goal

pub entry_in-entry-requires : goal.entry_in-entry-requires
entry_in-entry-requires c = entry_within c.args.number c.args.entries.now c.args.at c.requires.slot

pub next_to-before-requires-clause-entry : goal.next_to-before-requires-clause-entry
next_to-before-requires-clause-entry c = entry_within c.args.number c.args.entries.now c.args.at c.requires.slot

pub next_to-before-requires-clause-call : goal.next_to-before-requires-clause-call
next_to-before-requires-clause-call c =
    subst (λ (ns : List ℕ). c.args.at.call < length ns) (sym c.as_slice-numbers.ensures)
    (call_within c.args.number c.args.entries.now c.args.at c.requires.slot c.entry_in-entry.result.now c.entry_in-entry.ensures)

pub previous_to-after-requires-clause-entry : goal.previous_to-after-requires-clause-entry
previous_to-after-requires-clause-entry c = entry_within c.args.number c.args.entries.now c.args.at c.requires.slot

pub previous_to-after-requires-clause-call : goal.previous_to-after-requires-clause-call
previous_to-after-requires-clause-call c =
    subst (λ (ns : List ℕ). c.args.at.call < length ns) (sym c.as_slice-numbers.ensures)
    (call_within c.args.number c.args.entries.now c.args.at c.requires.slot c.entry_in-entry.result.now c.entry_in-entry.ensures)

pub returns-clause-before : goal.returns-clause-before
returns-clause-before c =
    let registers = c.args.registers.now.list in
    let dest = c.args.dest.now in
    c.next_to-before.ensures
    ∙ ap (λ (ns : List ℕ). first_to registers dest (drop (c.args.at.call + 1) ns ++ calls_in (drop (c.args.at.entry + 1) c.args.entries.now))) c.as_slice-numbers.ensures
    ∙ next_found c.args.number c.args.entries.now c.args.at c.requires.slot c.entry_in-entry.result.now c.entry_in-entry.ensures c.args.folded.now (is_to registers dest) c.requires.wanted c.requires.once

pub returns-clause-after : goal.returns-clause-after
returns-clause-after c =
    let registers = c.args.registers.now.list in
    let dest = c.args.dest.now in
    c.previous_to-after.ensures
    ∙ ap (λ (ns : List ℕ). last_to registers dest (calls_in (whole c.args.folded.now (take c.args.at.entry c.args.entries.now)) ++ take c.args.at.call ns)) c.as_slice-numbers.ensures
    ∙ previous_found c.args.number c.args.entries.now c.args.at c.requires.slot c.entry_in-entry.result.now c.entry_in-entry.ensures c.args.folded.now (is_to registers dest) c.requires.wanted c.requires.once
