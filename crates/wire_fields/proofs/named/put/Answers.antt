use Rattle.std.proofs.Common.{sym, ◌∙◌}
use Rattle.wire_fields.proofs.NamedLemmas.{pushed_apart, same_apart}
use Rattle.wire_fields.proofs.named.put.Goals as goal

pub returns-in_err-push-clause-apart : goal.returns-in_err-push-clause-apart
returns-in_err-push-clause-apart g c = same_apart c.args.items.now c.push.new.self c.requires c.in_err-push.ensures.err

pub returns-clause-apart : goal.returns-clause-apart
returns-clause-apart g c =
    pushed_apart c.args.items.now c.push.new.self c.args.name c.args.value c.requires (sym c.is_there.ensures ∙ c.if-is_there.false) c.in_ok-push.ensures.ok
