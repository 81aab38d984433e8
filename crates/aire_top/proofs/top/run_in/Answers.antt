use Rattle.std.proofs.Common.{Err, ap, inl, inr}
use Rattle.aire_top.specs.Endings.{outside}
use Rattle.aire_top.proofs.Runs.{in_script, too_long}
use Rattle.aire_top.proofs.top.run_in.Goals as goal

pub returns-in_default : goal.returns-in_default
returns-in_default g c = inr (inr c.lacking.ensures)

pub returns-in-Ok-load_script : goal.returns-in-Ok-load_script
returns-in-Ok-load_script g c =
    let before = outside (g.F.Files.loads c.args.files.now) (g.S.Source.reads c.args.input.now) (g.K.Sink.writes c.args.out.now) in
    let now = outside (g.F.Files.loads c.load_script.new.files) (g.S.Source.reads c.load_script.new.input) (g.K.Sink.writes c.play.new.out) in
    in_script c.args.setups.now c.args.script.now before now _ _ _ _ c.in-Ok-load_script.ensures.got c.in-Ok.ensures.fresh c.as_slice.ensures c.play.ensures

pub returns-in-Err-NoMemory : goal.returns-in-Err-NoMemory
returns-in-Err-NoMemory g c = inr (inr c.lacking-in-Err-NoMemory.ensures)

pub returns-in-Err-Fault : goal.returns-in-Err-Fault
returns-in-Err-Fault g c = inr (inl (c.in-Err-Fault.ensures.fault (ap Err c.in-Err-Fault.field-0-is), c.unread.ensures))

pub returns-in-Err-TooLong : goal.returns-in-Err-TooLong
returns-in-Err-TooLong g c =
    let before = outside (g.F.Files.loads c.args.files.now) (g.S.Source.reads c.args.input.now) (g.K.Sink.writes c.args.out.now) in
    let now = outside (g.F.Files.loads c.load_script.new.files) (g.S.Source.reads c.load_script.new.input) (g.K.Sink.writes c.refusal.new.out) in
    too_long c.args.setups.now c.args.script.now before now _ _ c.in-Ok.ensures.fresh (c.in-Err-TooLong.ensures.too_long (ap Err c.in-Err-TooLong.field-0-is)) c.refusal.ensures

pub refusal-requires : goal.refusal-requires
refusal-requires g c = (c.in-Ok.ensures.sound).joined

pub play-requires-clause-sound : goal.play-requires-clause-sound
play-requires-clause-sound g c = c.in-Ok.ensures.sound

pub play-requires-clause-live : goal.play-requires-clause-live
play-requires-clause-live g c = c.in-Ok.ensures.live
