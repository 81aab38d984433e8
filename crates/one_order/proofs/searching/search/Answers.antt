use Rattle.std.proofs.Common.{◌≡◌, map, subst}
use Rattle.dump_audit.specs.Histories.{histories_of}
use Rattle.one_order.specs.Logs.{log_of}
use Rattle.one_world.specs.Searches.{logs_of}
use Rattle.one_order.proofs.Named.{kept_named}
use Rattle.one_order.proofs.SearchLaws.{none_passes, order_first, order_passes, search_begins, search_goes_on, search_less, search_stuck}
use Rattle.one_order.proofs.searching.search.Goals as goal

pub loop-more-init : goal.loop-more-init
loop-more-init c =
    search_begins (histories_of c.args.services.now) c.new.result (map log_of c.in_ok-logs_of.field-0.items) c.new.ensures
    (subst (λ s. map log_of c.in_ok-logs_of.field-0.items ≡ logs_of (histories_of s)) c.as_slice.ensures c.in_ok-logs_of.ensures)

pub loop-more-preserved : goal.loop-more-preserved
loop-more-preserved c =
    search_goes_on (histories_of c.args.services.now) c.requires.legal c.loop-more.found.order (map log_of c.loop-more.found.logs.items) c.loop-more.more
    c.step.new.found.order (map log_of c.step.new.found.logs.items) c.in_ok-more.more c.loop-more.invariant c.in_ok-more.ensures

pub loop-more-smaller : goal.loop-more-smaller
loop-more-smaller c =
    search_less (histories_of c.args.services.now) c.requires.legal c.loop-more.found.order (map log_of c.loop-more.found.logs.items) c.loop-more.more
    c.step.new.found.order (map log_of c.step.new.found.logs.items) c.in_ok-more.more c.loop-more-test.true c.in_ok-more.ensures

pub returns-clause-first : goal.returns-clause-first
returns-clause-first c =
    order_first (histories_of c.args.services.now) c.requires.legal c.loop-more.more c.loop-more.found.order (map log_of c.loop-more.found.logs.items)
    c.loop-more-test.false c.loop-more.invariant

pub returns-clause-order : goal.returns-clause-order
returns-clause-order c = λ all.
    order_passes (histories_of c.args.services.now) c.requires.legal c.loop-more.more c.loop-more.found.order (map log_of c.loop-more.found.logs.items)
    c.loop-more-test.false c.loop-more.invariant all

pub returns-clause-stuck : goal.returns-clause-stuck
returns-clause-stuck c = λ some other passes.
    none_passes (histories_of c.args.services.now) c.requires.legal c.loop-more.more c.loop-more.found.order (map log_of c.loop-more.found.logs.items)
    c.loop-more-test.false c.loop-more.invariant (kept_named c.args.services.now c.requires.kept) some other passes

pub returns-clause-ends : goal.returns-clause-ends
returns-clause-ends c = λ some.
    search_stuck (histories_of c.args.services.now) c.requires.legal c.loop-more.more c.loop-more.found.order (map log_of c.loop-more.found.logs.items)
    c.loop-more-test.false c.loop-more.invariant some
