use Rattle.std.proofs.Common.{map, ap, ◌∙◌, length}
use Rattle.std.proofs.lemmas.List.{length-map}
use Rattle.request_log.specs.Corrections.{all_given, given_for}
use Rattle.request_log.specs.Entries.{corrected, KeptLog}
use Rattle.request_log.proofs.CorrectLemmas.{all_corrected, log_corrected}
use Rattle.request_log.proofs.log.Log.correct.Goals as goal

pub put_copies-requires : goal.put_copies-requires
put_copies-requires c =
    let is = c.in_ok-copies.ensures ∙ ap (map (given_for c.args.number c.args.program.now)) c.deref.ensures.value in
    ap length is ∙ length-map c.self.inside.items.items (given_for c.args.number c.args.program.now)

pub invariant_of-self : goal.invariant_of-self
invariant_of-self c =
    let es = c.self.inside.items.items in
    let is = c.in_ok-copies.ensures ∙ ap (map (given_for c.args.number c.args.program.now)) c.deref.ensures.value in
    log_corrected c.args.number c.args.program.now c.self.inside.folded es c.put_copies.new.items.items c.self.inside.numbers.keys c.self.inside.origins.keys
    (c.put_copies.ensures ∙ ap (λ gs. all_given gs es) is) c.self.invariant

pub returns-clause-entries : goal.returns-clause-entries
returns-clause-entries c =
    let es = c.self.inside.items.items in
    let is = c.in_ok-copies.ensures ∙ ap (map (given_for c.args.number c.args.program.now)) c.deref.ensures.value in
    c.put_copies.ensures ∙ ap (λ gs. all_given gs es) is ∙ all_corrected c.args.number c.args.program.now es
    ∙ ap (λ (k : KeptLog). map (corrected c.args.number c.args.program.now) k.entries) c.self.view_is
