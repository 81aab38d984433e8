use Rattle.std.proofs.Common.{inl, ◌∙◌, ap, None, Option, Result, Some, refl, subst, sym}
use Rattle.std.proofs.lemmas.Result.{err_from_is_err_and}
use Rattle.lang_base.specs.declared.memory.NoMemory.{NoMemory as LacksMemory}
use Rattle.repair_messages.specs.declared.posts.Post.{Post}
use Rattle.service_events.specs.declared.event.Done.{Done as NodeDone}
use Rattle.service_events.specs.declared.event.Done.TheVariants as done
use Rattle.service_events.specs.declared.event.Event.TheVariants as events
use Rattle.node_workers.proofs.PostLemmas.{asked_none, asked_so, goes_next}
use Rattle.node_workers.specs.Posting.{MakesNext}
use Rattle.node_workers.specs.Turns.{MadeAt}
use Rattle.node_workers.proofs.posts.next_under_lock.Goals as goal

pub returns-in_err-to-clause-makes : goal.returns-in_err-to-clause-makes
returns-in_err-to-clause-makes g c =
    let failed = err_from_is_err_and c.from_residual.result c.from_residual.ensures.1 in
    let before = c.args.pass.now in
    let makes : Result (Option Post) LacksMemory → Type 0 = λ r. MakesNext c.args.desk.now.setup.now.setting.me c.args.dest.now r before.notes before.notes before.receipts.items before.receipts.items in
    subst makes (sym failed.1) (inl (refl, refl))

pub returns-in_err-done-clause-makes : goal.returns-in_err-done-clause-makes
returns-in_err-done-clause-makes g c =
    let failed = err_from_is_err_and c.from_residual-in_err-done.result c.from_residual-in_err-done.ensures.1 in
    let before = c.args.pass.now in
    let now = c.ask_under_lock.new.pass in
    let makes : Result (Option Post) LacksMemory → Type 0 = λ r. MakesNext c.args.desk.now.setup.now.setting.me c.args.dest.now r before.notes now.notes before.receipts.items now.receipts.items in
    subst makes (sym failed.1) (inl c.in_err-done.ensures.err)

pub returns-in-None-clause-makes : goal.returns-in-None-clause-makes
returns-in-None-clause-makes g c =
    let name = c.args.desk.now.setup.now.setting.me in
    let before = c.args.pass.now in
    let now = c.ask_under_lock.new.pass in
    let said = c.in-NextPost.is ∙ ap done.NextPost c.in-None.is in
    asked_none name c.args.dest.now before.notes now.notes before.receipts.items now.receipts.items
    (asked_so name c.in_ok-to.to c.args.dest.now None before.notes now.notes before.receipts.items now.receipts.items c.in_ok-done.done c.in_ok-to.ensures said
    c.in_ok-done.ensures.made)

pub next_written-requires : goal.next_written-requires
next_written-requires g c =
    let name = c.args.desk.now.setup.now.setting.me in
    let s = c.args.kept.now.service in
    let t = c.ask_under_lock.new.kept.service in
    let begun = c.args.pass.now.notes.begun in
    let said = c.in-NextPost.is ∙ ap done.NextPost c.in-Some.is in
    let at = subst (λ (d : NodeDone). MadeAt name s t begun (events.NextPost c.in_ok-to.to) d) said c.in_ok-done.ensures.at in
    let both = goes_next name c.args.dest.now c.in-Some.name c.in_ok-to.to s t begun c.in_ok-to.ensures at in
    record { next = both.0; goes = both.1 }

pub returns-in-Some-clause-makes : goal.returns-in-Some-clause-makes
returns-in-Some-clause-makes g c =
    let name = c.args.desk.now.setup.now.setting.me in
    let before = c.args.pass.now in
    let now = c.ask_under_lock.new.pass in
    let said = c.in-NextPost.is ∙ ap done.NextPost c.in-Some.is in
    c.next_written.ensures.makes before.notes before.receipts.items
    (asked_so name c.in_ok-to.to c.args.dest.now (Some c.in-Some.name) before.notes now.notes before.receipts.items now.receipts.items c.in_ok-done.done
    c.in_ok-to.ensures said c.in_ok-done.ensures.made)
