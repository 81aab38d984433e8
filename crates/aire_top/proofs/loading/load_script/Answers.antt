use Rattle.std.proofs.Common.{sym, ◌∙◌}
use Rattle.aire_top.proofs.Scripts.{file_got, file_long, file_lost, input_got, input_long, input_lost}
use Rattle.aire_top.proofs.loading.load_script.Goals as goal

pub returns-then-is_input-clause-got : goal.returns-then-is_input-clause-got
returns-then-is_input-clause-got g c = input_got c.args.word.now (g.F.Files.loads c.args.files.now) (g.S.Source.reads c.args.input.now) (g.S.Source.reads c.read_input.new.input) c.read_input.result (sym c.is_input.ensures ∙ c.if-is_input.true) c.read_input.ensures.all c.read_input.ensures.end

pub returns-then-is_input-clause-too_long : goal.returns-then-is_input-clause-too_long
returns-then-is_input-clause-too_long g c = λ e. input_long c.args.word.now (g.F.Files.loads c.args.files.now) (g.S.Source.reads c.args.input.now) (g.S.Source.reads c.read_input.new.input) (sym c.is_input.ensures ∙ c.if-is_input.true) (c.read_input.ensures.too_long e)

pub returns-then-is_input-clause-fault : goal.returns-then-is_input-clause-fault
returns-then-is_input-clause-fault g c = λ e. input_lost c.args.word.now (g.F.Files.loads c.args.files.now) (g.S.Source.reads c.args.input.now) (g.S.Source.reads c.read_input.new.input) (sym c.is_input.ensures ∙ c.if-is_input.true) (c.read_input.ensures.fault e)

pub returns-else-is_input-clause-got : goal.returns-else-is_input-clause-got
returns-else-is_input-clause-got g c = file_got c.args.word.now (g.F.Files.loads c.args.files.now) (g.F.Files.loads c.load_named.new.files) (g.S.Source.reads c.args.input.now) c.load_named.result (sym c.is_input.ensures ∙ c.if-is_input.false) c.load_named.ensures.file c.load_named.ensures.asked

pub returns-else-is_input-clause-too_long : goal.returns-else-is_input-clause-too_long
returns-else-is_input-clause-too_long g c = λ e. file_long c.args.word.now (g.F.Files.loads c.args.files.now) (g.F.Files.loads c.load_named.new.files) (g.S.Source.reads c.args.input.now) c.load_named.result (sym c.is_input.ensures ∙ c.if-is_input.false) e c.load_named.ensures.too_long c.load_named.ensures.asked

pub returns-else-is_input-clause-fault : goal.returns-else-is_input-clause-fault
returns-else-is_input-clause-fault g c = λ e. file_lost c.args.word.now (g.F.Files.loads c.args.files.now) (g.F.Files.loads c.load_named.new.files) (g.S.Source.reads c.args.input.now) c.load_named.result (sym c.is_input.ensures ∙ c.if-is_input.false) e c.load_named.ensures.failed c.load_named.ensures.asked
