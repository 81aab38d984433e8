use Rattle.http_front.proofs.FieldLemmas.{found_fit}
use Rattle.http_front.proofs.StartLemmas.{starts_response}
use Rattle.http_front.proofs.response_head.response_start.Goals as goal

pub returns-in-Some-clause-answer : goal.returns-in-Some-clause-answer
returns-in-Some-clause-answer c = λ answered.
    let head = c.in-Some.ensures.parts.1 in
    starts_response c.args.bytes.now c.spans_of.new.fields c.in-Some.spans head.0 c.in-Some.ensures.parts.0 c.spans_of.auto.fields head.1 c.start_at.result (c.start_at.ensures.answer answered)

pub start_at-requires-clause-fit : goal.start_at-requires-clause-fit
start_at-requires-clause-fit c =
    let head = c.in-Some.ensures.parts.1 in
    found_fit c.args.bytes.now c.spans_of.new.fields c.in-Some.spans.headers head.0.fields head.1.fields head.1.reads.0.fields
