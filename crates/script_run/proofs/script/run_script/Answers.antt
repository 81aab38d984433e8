use Rattle.std.proofs.Common.{◌≡◌, ◌+◌, refl, sym, ◌∙◌, arith}
use Rattle.script_run.proofs.PlayLaws.{rest_behind}
use Rattle.script_run.proofs.Standing.{all_counts, all_does, cut_short, does_sound, long_does, next_stands, refused_does, stands_first, stands_sound, stopped, stopped_sound}
use Rattle.script_lines.specs.declared.line.LineFault.TheVariants.{TooLong}
use Rattle.script_run.proofs.script.run_script.Goals as goal

pub returns-then-is_long-clause-refused : goal.returns-then-is_long-clause-refused
returns-then-is_long-clause-refused g c = λ line fault e.
    let does = long_does c.args.world.now c.args.script.now (g.K.Sink.writes c.args.out.now) (sym c.is_long.ensures ∙ c.if-is_long.true) in
    let same_line : 0 ≡ line = cc in
    let same_fault : TooLong ≡ fault = cc in
    rw (← same_line, ← same_fault) does

pub returns-then-is_long-clause-sound : goal.returns-then-is_long-clause-sound
returns-then-is_long-clause-sound g c = λ sound. sound

pub loop-bytes-init : goal.loop-bytes-init
loop-bytes-init g c = record {
  stands = rw c.none-counts.ensures (stands_first c.args.world.now c.args.script.now (g.K.Sink.writes c.args.out.now) (sym c.is_long.ensures ∙ c.if-is_long.false));
  left = refl;
  room = omega arith;
  counted = omega arith;
}

pub returns-in_err-said-clause-early : goal.returns-in_err-said-clause-early
returns-in_err-said-clause-early g c =
    let s = c.loop-bytes.invariant in
    λ _. stopped c.args.world.now c.args.script.now c.loop-bytes.number c.loop-bytes.world c.loop-bytes.counts (g.K.Sink.writes c.args.out.now) (g.K.Sink.writes c.loop-bytes.out) s.stands c.in-Some.bytes.now _ (s.left ∙ c.in-Some.ensures.line) c.play_line.new.world c.in_err-said.ensures.early

pub returns-in_err-said-clause-sound : goal.returns-in_err-said-clause-sound
returns-in_err-said-clause-sound g c =
    let s = c.loop-bytes.invariant in
    stopped_sound c.args.world.now c.args.script.now c.loop-bytes.number c.loop-bytes.world c.loop-bytes.counts (g.K.Sink.writes c.args.out.now) (g.K.Sink.writes c.loop-bytes.out) s.stands c.in-Some.bytes.now _ (s.left ∙ c.in-Some.ensures.line) c.play_line.new.world c.in_err-said.ensures.early

pub returns-in-Err-clause-refused : goal.returns-in-Err-clause-refused
returns-in-Err-clause-refused g c = λ line fault e.
    let s = c.loop-bytes.invariant in
    let does = refused_does c.args.world.now c.args.script.now c.loop-bytes.number c.loop-bytes.world c.loop-bytes.counts (g.K.Sink.writes c.args.out.now) (g.K.Sink.writes c.loop-bytes.out) s.stands c.in-Some.bytes.now _ (s.left ∙ c.in-Some.ensures.line) c.in-Err.fault c.play_line.new.world (rw c.in-Err.is at c.in_ok-said.ensures.does) in
    let same_line : c.loop-bytes.number + 1 ≡ line = cc in
    let same_fault : c.in-Err.fault ≡ fault = cc in
    rw (← same_line, ← same_fault) does

pub returns-in-Err-clause-sound : goal.returns-in-Err-clause-sound
returns-in-Err-clause-sound g c =
    let s = c.loop-bytes.invariant in
    does_sound c.args.world.now c.args.script.now c.loop-bytes.number c.loop-bytes.world c.loop-bytes.counts (g.K.Sink.writes c.args.out.now) (g.K.Sink.writes c.loop-bytes.out) s.stands c.in-Some.bytes.now _ (s.left ∙ c.in-Some.ensures.line) _ c.play_line.new.world c.in_ok-said.ensures.does

pub returns-in_err-write_all-clause-cut : goal.returns-in_err-write_all-clause-cut
returns-in_err-write_all-clause-cut g c =
    let s = c.loop-bytes.invariant in
    λ _. cut_short c.args.world.now c.args.script.now c.loop-bytes.number c.loop-bytes.world c.loop-bytes.counts (g.K.Sink.writes c.args.out.now) (g.K.Sink.writes c.loop-bytes.out) s.stands c.in-Some.bytes.now _ (s.left ∙ c.in-Some.ensures.line) c.in-Ok.said c.play_line.new.world (g.K.Sink.writes c.write_all.new.sink) (rw c.in-Ok.is at c.in_ok-said.ensures.does) (rw c.as_bytes.ensures at c.in_err-write_all.ensures.err)

pub returns-in_err-write_all-clause-sound : goal.returns-in_err-write_all-clause-sound
returns-in_err-write_all-clause-sound g c =
    let s = c.loop-bytes.invariant in
    does_sound c.args.world.now c.args.script.now c.loop-bytes.number c.loop-bytes.world c.loop-bytes.counts (g.K.Sink.writes c.args.out.now) (g.K.Sink.writes c.loop-bytes.out) s.stands c.in-Some.bytes.now _ (s.left ∙ c.in-Some.ensures.line) _ c.play_line.new.world c.in_ok-said.ensures.does

pub loop-bytes-preserved-in_ok-write_all : goal.loop-bytes-preserved-in_ok-write_all
loop-bytes-preserved-in_ok-write_all g c =
    let s = c.loop-bytes.invariant in
    let d = s.left ∙ c.in-Some.ensures.line in
    record {
      stands = rw c.and-counts.ensures (next_stands c.args.world.now c.args.script.now c.loop-bytes.number c.loop-bytes.world c.loop-bytes.counts (g.K.Sink.writes c.args.out.now) (g.K.Sink.writes c.loop-bytes.out) s.stands c.in-Some.bytes.now _ d c.in-Ok.said c.play_line.new.world (g.K.Sink.writes c.write_all.new.sink) (rw c.in-Ok.is at c.in_ok-said.ensures.does) (rw c.as_bytes.ensures at c.in_ok-write_all.ensures.ok));
      left = rest_behind _ _ c.loop-bytes.number _ d;
      room = omega (arith, s.room, c.in-Some.ensures.shorter);
      counted = omega arith;
    }

pub loop-bytes-preserved : goal.loop-bytes-preserved
loop-bytes-preserved g c =
    let s = c.loop-bytes.invariant in
    let d = s.left ∙ c.in-Some.ensures.line in
    record {
      stands = rw c.and-counts.ensures (next_stands c.args.world.now c.args.script.now c.loop-bytes.number c.loop-bytes.world c.loop-bytes.counts (g.K.Sink.writes c.args.out.now) (g.K.Sink.writes c.loop-bytes.out) s.stands c.in-Some.bytes.now _ d c.in-Ok.said c.play_line.new.world (g.K.Sink.writes c.write_all.new.sink) (rw c.in-Ok.is at c.in_ok-said.ensures.does) (rw c.as_bytes.ensures at c.in_ok-write_all.ensures.ok));
      left = rest_behind _ _ c.loop-bytes.number _ d;
      room = omega (arith, s.room, c.in-Some.ensures.shorter);
      counted = omega arith;
    }

pub returns-clause-ok : goal.returns-clause-ok
returns-clause-ok g c =
    let s = c.loop-bytes.invariant in
    all_does c.args.world.now c.args.script.now c.loop-bytes.number c.loop-bytes.world c.loop-bytes.counts (g.K.Sink.writes c.args.out.now) (g.K.Sink.writes c.loop-bytes.out) s.stands (s.left ∙ c.in_default.ensures.ended refl)

pub returns-clause-counts : goal.returns-clause-counts
returns-clause-counts g c =
    let s = c.loop-bytes.invariant in
    all_counts c.args.world.now c.args.script.now c.loop-bytes.number c.loop-bytes.world c.loop-bytes.counts (g.K.Sink.writes c.args.out.now) (g.K.Sink.writes c.loop-bytes.out) s.stands (s.left ∙ c.in_default.ensures.ended refl)

pub returns-clause-sound : goal.returns-clause-sound
returns-clause-sound g c =
    let s = c.loop-bytes.invariant in
    stands_sound c.args.world.now c.args.script.now c.loop-bytes.number c.loop-bytes.world c.loop-bytes.counts (g.K.Sink.writes c.args.out.now) (g.K.Sink.writes c.loop-bytes.out) s.stands
