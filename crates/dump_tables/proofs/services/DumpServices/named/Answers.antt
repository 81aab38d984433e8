use Rattle.std.proofs.Common.{ℕ, Bool, List, ◌∙◌, ap, map, rules, subst, sym}
use Rattle.std.specs.Option.{option_copied}
use Rattle.lang_base.specs.Texts.{same_text}
use Rattle.lang_lists.specs.Keys.{text_key}
use Rattle.lang_lists.proofs.KeyLemmas.{text_other}
use Rattle.dump_tables.specs.Found.{IsOneOf}
use Rattle.dump_tables.specs.declared.dump.DumpService.{DumpService}
use Rattle.dump_tables.proofs.services.DumpServices.named.Goals as goal

pub returns : goal.returns
returns c =
    let name_key : DumpService → ℕ = λ s. text_key s.setting.me in
    let named : DumpService → Bool = λ s. same_text s.setting.me c.args.name.now in
    let keys = c.self.invariant ∙ ap (map name_key) (c.self.view_is ∙ sym c.as_slice.ensures) in
    let found = rw (c.text_key-key.ensures, c.text.ensures.text) at c.one_of.ensures in
    subst (λ (services : List DumpService). IsOneOf named services (option_copied c.one_of.result)) c.as_slice.ensures
    (found name_key named keys (λ x r there e. search rules) (λ x other. text_other c.args.name.now x.setting.me other))
