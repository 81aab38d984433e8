use Rattle.std.proofs.Common.{◌≡◌, drop}
use Rattle.std.specs.List.{find}
use Rattle.lang_base.specs.Texts.{same_text}
use Rattle.handler_run.proofs.calls.named.Given as goal

abbrev pub invariant-loop-name : goal.invariant-loop-name
invariant-loop-name l = find (λ name. same_text name l.text) (drop l.name-index l.names) ≡ find (λ name. same_text name l.text) l.names
