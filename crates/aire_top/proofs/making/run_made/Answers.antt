use Rattle.std.proofs.Common.{Err, ap, inr}
use Rattle.aire_top.proofs.MakingLemmas.{has_made, made_refused}
use Rattle.aire_top.proofs.making.run_made.Goals as goal

pub returns-in-Ok : goal.returns-in-Ok
returns-in-Ok g c =
    has_made c.args.world c.args.script.now c.args.n c.run_script.new.world c.in-Ok.counts _ _ (g.K.Sink.writes c.args.out.now) (g.K.Sink.writes c.print_made.new.out) _
    c.in-Ok.ensures.ok c.in-Ok.ensures.counts c.print_made.ensures

pub returns-in-Err-Refused : goal.returns-in-Err-Refused
returns-in-Err-Refused g c =
    let does = c.in-Err-Refused.ensures.refused c.in-Err-Refused.line c.in-Err-Refused.fault (ap Err c.in-Err-Refused.field-0-is) in
    made_refused c.args.world c.args.script.now c.args.n c.in-Err-Refused.line _ c.number.result c.run_script.new.world _ _ (g.K.Sink.writes c.args.out.now) (g.K.Sink.writes c.refusal.new.out) _
    c.number.ensures does c.refusal.ensures

pub returns-in-Err-NoMemory : goal.returns-in-Err-NoMemory
returns-in-Err-NoMemory g c = inr (inr c.lacking.ensures)

pub print_made-requires : goal.print_made-requires
print_made-requires g c = (c.run_script.ensures.sound c.requires).joined

pub refusal-requires : goal.refusal-requires
refusal-requires g c = (c.run_script.ensures.sound c.requires).joined
