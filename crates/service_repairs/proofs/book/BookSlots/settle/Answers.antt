use Rattle.std.proofs.Common.{◌∙◌, ap}
use Rattle.service_repairs.specs.Books.{KeptBook, sent_rows, new_numbers}
use Rattle.service_repairs.proofs.BookLemmas.{Left, settle_left, settles_by}
use Rattle.service_repairs.proofs.book.BookSlots.settle.Goals as goal

left : (c : goal.In_ok-enter) → Left c.args.self.now c.enter.new.self c.args.entry.now c.args.trace.now c.in_ok-rows.field-0.numbers
left c =
    let b : KeptBook = c.args.self.now in
    let b' : KeptBook = c.enter.new.self in
    let e = c.args.entry.now in
    let t = c.args.trace.now in
    let rows = c.in_ok-rows.ensures.rows ∙ ap (λ (k : KeptBook). sent_rows k e t) c.self.view_is in
    let numbers = c.in_ok-rows.ensures.numbers ∙ ap (λ (k : KeptBook). new_numbers k e t) c.self.view_is in
    settle_left b b' e t c.args.answered c.in_ok-rows.field-0.numbers
    (settles_by b b' e t c.args.answered c.in_ok-rows.field-0.rows.items c.in_ok-rows.field-0.numbers c.in_ok-enter.ensures.ok rows numbers)
    c.requires.can c.enter.ensures.few c.requires.answers

pub returns-clause-count : goal.returns-clause-count
returns-clause-count c = (left c).settled.count

pub returns-clause-slots : goal.returns-clause-slots
returns-clause-slots c = (left c).settled.consumes

pub returns-clause-timely : goal.returns-clause-timely
returns-clause-timely c = (left c).timely

pub returns-clause-others : goal.returns-clause-others
returns-clause-others c = (left c).settled.others

pub returns-clause-fresh : goal.returns-clause-fresh
returns-clause-fresh c = (left c).settled.fresh

pub returns-clause-once : goal.returns-clause-once
returns-clause-once c = (left c).settled.once

pub returns-clause-last : goal.returns-clause-last
returns-clause-last c = (left c).settled.higher
