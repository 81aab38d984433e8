use Rattle.std.proofs.Common.{arith}
use Rattle.service_core.proofs.StartLemmas.{new_service, starts}
use Rattle.service_core.proofs.service.Service.new.Goals as goal

pub invariant_of-result : goal.invariant_of-result
invariant_of-result c = (
  new_service _ c.args.rules c.in_ok-began.ensures.0 c.in_ok-began.ensures.1 c.in_ok-newest.ensures c.new.ensures.folded c.new.ensures.base
      c.new.ensures.entries c.new-2.ensures c.new-3.ensures c.new-4.ensures c.new-5.ensures.list,
  record { within = omega arith; current = tt },
)

pub returns : goal.returns
returns c =
    starts
    (record {
      setting = c.args.setting;
      began = c.in_ok-began.began;
      rules = c.in_ok-began.rules;
      newest = c.in_ok-newest.newest;
      repairer = c.new.result;
      flights = c.new-2.result;
      journal = c.new-3.result;
      registers = c.new-4.result;
      replies = c.new-5.result;
    })
    c.args.rules c.in_ok-began.ensures.0 c.in_ok-began.ensures.1 c.in_ok-newest.ensures c.new.ensures.folded c.new.ensures.base c.new.ensures.entries c.new-2.ensures
    c.new-3.ensures c.new-4.ensures c.new-5.ensures.list
