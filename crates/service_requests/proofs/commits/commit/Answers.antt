use Rattle.std.proofs.lemmas.Result.{IfOk-weaker}
use Rattle.service_parts.specs.Parts.{kept}
use Rattle.service_requests.proofs.EndLemmas.{commit_is, can_commit}
use Rattle.service_requests.proofs.commits.commit.Goals as goal

pub returns-clause-ends : goal.returns-clause-ends
returns-clause-ends c =
    IfOk-weaker c.ending_of.result _ _
    (λ ending is. commit_is (kept c.args.parts.now) c.args.draft.now c.note_commit.new.draft c.args.flight c.args.trace c.in_ok-index.index ending c.in_ok-index.ensures.noted c.in_ok-index.ensures.index is)
    c.ending_of.ensures

pub returns-clause-can : goal.returns-clause-can
returns-clause-can c =
    IfOk-weaker c.ending_of.result _ _
    (λ ending is. can_commit (kept c.args.parts.now) c.args.flight c.args.trace c.in_ok-index.index ending is c.requires)
    c.ending_of.ensures
