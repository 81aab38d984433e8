use Rattle.handler_run.proofs.RunLaws.{texts_same, route_if_ok, reads_if_ok, same_if_ok, takes_if_ok, counts_if_ok, starts_if_ok, goes_on_if_ok, few_if_ok, alone_if_ok}
use Rattle.lang_programs.specs.Settings.{with_program}
use Rattle.handler_run.proofs.handler.run.Goals as goal

pub returns-clause-meaning : goal.returns-clause-meaning
returns-clause-meaning g c =
    route_if_ok (with_program c.args.program.now c.args.setting.now) c.args.request.now c.args.inputs.now c.args.answers.now (g.V.View.rows c.args.view.now) _ c.routes.result.now c.of-given.result c.run_route.result
    (texts_same _ _ _ _ c.deref.ensures.value c.in_ok-segments.ensures) c.routes.ensures.routes c.of-given.ensures c.run_route.ensures

pub returns-clause-reads : goal.returns-clause-reads
returns-clause-reads g c = reads_if_ok (with_program c.args.program.now c.args.setting.now) c.args.request.now c.args.inputs.now c.args.answers.now (g.V.View.rows c.args.view.now) c.run_route.result (returns-clause-meaning g c)

pub returns-clause-same : goal.returns-clause-same
returns-clause-same g c = same_if_ok (with_program c.args.program.now c.args.setting.now) c.args.request.now c.args.inputs.now c.args.answers.now (g.V.View.rows c.args.view.now) c.run_route.result (returns-clause-meaning g c)

pub returns-clause-takes : goal.returns-clause-takes
returns-clause-takes g c = takes_if_ok (with_program c.args.program.now c.args.setting.now) c.args.request.now c.args.inputs.now c.args.answers.now (g.V.View.rows c.args.view.now) c.run_route.result (returns-clause-meaning g c)

pub returns-clause-counts : goal.returns-clause-counts
returns-clause-counts g c = counts_if_ok (with_program c.args.program.now c.args.setting.now) c.args.request.now c.args.inputs.now c.args.answers.now (g.V.View.rows c.args.view.now) c.run_route.result (returns-clause-meaning g c)

pub returns-clause-starts : goal.returns-clause-starts
returns-clause-starts g c = starts_if_ok (with_program c.args.program.now c.args.setting.now) c.args.request.now c.args.inputs.now c.args.answers.now (g.V.View.rows c.args.view.now) c.run_route.result (returns-clause-meaning g c)

pub returns-clause-goes_on : goal.returns-clause-goes_on
returns-clause-goes_on g c = goes_on_if_ok (with_program c.args.program.now c.args.setting.now) c.args.request.now c.args.inputs.now c.args.answers.now (g.V.View.rows c.args.view.now) c.run_route.result (returns-clause-meaning g c)

pub returns-clause-few : goal.returns-clause-few
returns-clause-few g c = few_if_ok (with_program c.args.program.now c.args.setting.now) c.args.request.now c.args.inputs.now c.args.answers.now (g.V.View.rows c.args.view.now) c.run_route.result (returns-clause-meaning g c)

pub returns-clause-alone : goal.returns-clause-alone
returns-clause-alone g c = alone_if_ok (with_program c.args.program.now c.args.setting.now) c.args.request.now c.args.inputs.now c.args.answers.now (g.V.View.rows c.args.view.now) c.run_route.result (returns-clause-meaning g c)
