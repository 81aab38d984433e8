use Rattle.std.proofs.Common.{◌≡◌, drop}
use Rattle.std.specs.List.{list_any}
use Rattle.lang_base.specs.Texts.{same_text}
use Rattle.handler_run.proofs.calls.has_name.Given as goal

abbrev pub invariant-loop-name : goal.invariant-loop-name
invariant-loop-name l = list_any (λ name. same_text name l.text) (drop l.name-index l.names) ≡ list_any (λ name. same_text name l.text) l.names
