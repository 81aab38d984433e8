use Rattle.std.proofs.Common.{List, [], ◌∷◌, ◌++◌, ap, ◌∙◌, sym, subst}
use Rattle.std.specs.List.{IsDistinct}
use Rattle.aire_top.specs.HandedOn.{AreApart}
use Rattle.world_file.specs.declared.setup.Setup.{Setup}
use Rattle.run_tests.proofs.pasts.only.Goals as goal

one_apart : (setup : Setup) → AreApart (setup ∷ [])
unfolding IsDistinct
one_apart setup = (tt, tt)

pub returns : goal.returns
returns c = subst AreApart (sym (c.in_ok-push.ensures.items ∙ ap (λ (all : List Setup). all ++ c.args.setup ∷ []) c.new-here.ensures.items)) (one_apart c.args.setup)
