use Rattle.std.proofs.Common.{Err, ap}
use Rattle.aire_top.proofs.Runs.{all_done, at_line, cut_short, lacked}
use Rattle.aire_top.proofs.top.play.Goals as goal

pub returns-in-Ok : goal.returns-in-Ok
returns-in-Ok g c =
    all_done c.args.world c.args.script.now c.run_script.new.world (g.K.Sink.writes c.args.out.now) (g.K.Sink.writes c.run_script.new.out) _
    c.requires.sound c.requires.live c.in-Ok.ensures.ok c.standing.ensures

pub returns-in-Err-WriteFault : goal.returns-in-Err-WriteFault
returns-in-Err-WriteFault g c =
    let is = ap Err c.in-Err-WriteFault.field-0-is in
    cut_short c.args.world c.args.script.now c.run_script.new.world (g.K.Sink.writes c.args.out.now) (g.K.Sink.writes c.run_script.new.out) _
    c.requires.sound c.requires.live (c.in-Err-WriteFault.ensures.cut is) (c.in-Err-WriteFault.ensures.fault is) c.standing-in-Err-WriteFault.ensures

pub returns-in-Err-Refused : goal.returns-in-Err-Refused
returns-in-Err-Refused g c =
    let r = c.in-Err-Refused.ensures.refused c.in-Err-Refused.line c.in-Err-Refused.fault (ap Err c.in-Err-Refused.field-0-is) in
    at_line c.args.world c.args.script.now c.in-Err-Refused.line c.number.result c.run_script.new.world (g.K.Sink.writes c.args.out.now) (g.K.Sink.writes c.run_script.new.out) (g.K.Sink.writes c.refusal.new.out) _
    c.requires.sound c.requires.live (rw c.number.ensures r) c.run_script.ensures.counted c.refusal.ensures

pub returns-in-Err-NoMemory : goal.returns-in-Err-NoMemory
returns-in-Err-NoMemory g c =
    lacked c.args.world c.args.script.now c.run_script.new.world (g.K.Sink.writes c.args.out.now) (g.K.Sink.writes c.run_script.new.out) (g.K.Sink.writes c.lacking.new.out) _
    (c.in-Err-NoMemory.ensures.early (ap Err c.in-Err-NoMemory.field-0-is)) c.run_script.ensures.counted c.lacking.ensures

pub standing-requires : goal.standing-requires
standing-requires g c = (c.run_script.ensures.sound c.requires.sound).joined

pub standing-requires-in-Err-WriteFault : goal.standing-requires-in-Err-WriteFault
standing-requires-in-Err-WriteFault g c = (c.run_script.ensures.sound c.requires.sound).joined

pub refusal-requires : goal.refusal-requires
refusal-requires g c = (c.run_script.ensures.sound c.requires.sound).joined
