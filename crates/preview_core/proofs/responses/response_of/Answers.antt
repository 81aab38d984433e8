use Rattle.std.proofs.Common.{◌∙◌, sym, ap}
use Rattle.std.specs.Option.{option_copied}
use Rattle.preview_core.proofs.ResponseLemmas.{later_response, past_response}
use Rattle.preview_core.proofs.responses.response_of.Goals as goal

pub returns-in-Some : goal.returns-in-Some
returns-in-Some c =
    sym (past_response c.args.service.now c.args.id c.entries.result.now.folded c.entries.ensures.folded c.in-Some.past.now (sym c.find_folded.ensures ∙ ap option_copied c.in-Some.is))

pub returns-in-None : goal.returns-in-None
returns-in-None c =
    c.later_response.ensures
    ∙ sym (later_response c.args.service.now c.args.id c.entries.result.now.folded c.entries.ensures.folded (sym c.find_folded.ensures ∙ ap option_copied c.in-None.is))
