use Rattle.std.proofs.Common.{◌≡◌, ◌+◌, ◌<◌, ◌++◌, ◌∷◌, [], nat_lt, length, take, sym, arith}
use Rattle.versioned_rows.proofs.AgreeLemmas.{take_next}
use Rattle.log_index.specs.Marks.{is_marked, lacking, reads_by}
use Rattle.log_index.proofs.BehindLemmas.{lacking_more, nothing_seen, sees_more}
use Rattle.log_index.proofs.behind.mark_writes.Goals as goal

pub loop-write-init : goal.loop-write-init
loop-write-init c = record {
  marked = λ q. nothing_seen (is_marked q c.args.marks.now.items) (nat_lt c.args.place q);
  noted = c.requires.noted;
  room = omega arith;
}

pub loop-write-preserved : goal.loop-write-preserved
loop-write-preserved c =
    let ws = c.args.writes.now in
    let i = c.loop-write.write-index in
    let w = c.write-item.result in
    let lt : i < length ws = omega arith in
    let next : take (i + 1) ws ≡ take i ws ++ w ∷ [] = take_next ws i w lt (sym c.write-item.is) in
    let others = c.args.others.now in
    let more = c.in_ok-mark_change.ensures.spots in
    let room = c.loop-write.invariant.room in
    record {
      marked = sees_more c.args.marks.now.items c.loop-write.marks.items c.mark_change.new.marks.items (reads_by c.args.index.now.reads c.args.places.now.labels) c.args.place
          (lacking others (take i ws)) (lacking others (w ∷ [])) (lacking others (take (i + 1) ws)) (lacking_more others (take i ws) (take (i + 1) ws) w next)
          c.loop-write.invariant.marked c.in_ok-mark_change.ensures.ok;
      noted = c.in_ok-mark_change.ensures.noted;
      room = omega arith;
    }
