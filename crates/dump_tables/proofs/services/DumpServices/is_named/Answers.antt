use Rattle.std.proofs.Common.{ap, sym, ◌∙◌}
use Rattle.std.specs.Option.{is_some}
use Rattle.lang_base.specs.Texts.{same_text}
use Rattle.dump_tables.proofs.FoundLemmas.{found_any}
use Rattle.dump_tables.proofs.services.DumpServices.is_named.Goals as goal

pub returns-in-Some : goal.returns-in-Some
returns-in-Some c = sym (ap is_some c.in-Some.is) ∙ found_any (λ s. same_text s.setting.me c.args.name.now) c.args.self.now c.named.result c.named.ensures

pub returns-in-None : goal.returns-in-None
returns-in-None c = sym (ap is_some c.in-None.is) ∙ found_any (λ s. same_text s.setting.me c.args.name.now) c.args.self.now c.named.result c.named.ensures
