-- What a script that is made comes to, step by step.
use Rattle.std.proofs.Common.{◌≡◌, ◌⊎◌, ℕ, ◌+◌, List, map, length, Some, None, inl, inr, ap, sym, subst, ◌∙◌, arith, length-append}
use Rattle.std.proofs.lemmas.List.{length-map, take-append-drop}
use Rattle.io_edge.specs.Edge.{Writes}
use Rattle.request_log.specs.Folded.{as_entry}
use Rattle.request_log.specs.declared.entry.Entry.{Entry}
use Rattle.request_log.specs.declared.folded.Folded.{Folded}
use Rattle.service_events.specs.State.{Kept, folded, unfolded}
use Rattle.world_events.specs.Worlds.{World}
use Rattle.script_run.specs.Counting.{capped}
use Rattle.script_run.specs.Stops.{AreCountsOf, DoesAll}
use Rattle.script_run.specs.declared.counts.Counts.{Counts}
use Rattle.script_run.proofs.PlayLaws.{one_run}
use Rattle.aire_top.specs.Closings.{Closes}
use Rattle.aire_top.specs.Endings.{Answer, LacksMemory, refused_line, standing}
use Rattle.aire_top.specs.Making.{Prints, ScriptTold, counts_of, made_line}

-- the folded ones and the others are all
pub in_both : (s : Kept) (past : List Folded) (others : List Entry) → map as_entry past ≡ folded s → others ≡ unfolded s
    → capped (length past + length others) ≡ capped (length s.entries)
in_both s past others first behind =
    let before : length past ≡ length (folded s) = sym (length-map past as_entry) ∙ ap length first in
    let many = ap length behind in
    let all : length (folded s) + length (unfolded s) ≡ length s.entries =
    sym (length-append (folded s) (unfolded s)) ∙ ap length (take-append-drop s.horizon s.entries) in
    ap capped (omega (arith, before, many, all))

-- each line is done, and what they come to is printed
pub has_made : (start : World) (script : List ℕ) (n : ℕ) (world : World) (counts : Counts) (nowhere gone before now : Writes) (ans : Answer) → DoesAll start script None world nowhere gone → AreCountsOf start script counts
    → Prints before now (made_line n counts world.services) world ans ⊎ LacksMemory before now ans → ScriptTold start script n before now ans
has_made start script n world counts nowhere gone before now ans does are (inl prints) =
    let same : counts ≡ counts_of does.p = are.are ∙ ap counts_of (one_run start script are.p does.p are.run does.run) in
    let P : World → Type 0 = λ w. Prints before now (made_line n (counts_of does.p) w.services) w ans in
    let Q : Counts → Type 0 = λ c. Prints before now (made_line n c world.services) world ans in
    inl (record { p = does.p; run = does.run; not_refused = does.ends; prints = subst P does.same_world (subst Q same prints) })
has_made start script n world counts nowhere gone before now ans does are (inr lacks) = inr (inr lacks)

-- a line is refused
pub made_refused : (start : World) (script : List ℕ) (n line fault number : ℕ) (world : World) (nowhere gone before now : Writes) (ans : Answer) → number ≡ fault
    → DoesAll start script (Some (line, fault)) world nowhere gone → Closes before now (standing 3 world) (refused_line line number) ans → ScriptTold start script n before now ans
made_refused start script n line fault number world nowhere gone before now ans is does (inl good) =
    let at_line = does.ends ∙ ap (λ (k : ℕ). Some (line, k)) (sym is) in
    inr (inl (record { p = does.p; run = does.run; line = line; number = number; at_line = at_line; answered = good.0 ∙ ap (standing 3) does.same_world; ends = good.1 }))
made_refused start script n line fault number world nowhere gone before now ans is does (inr lacks) = inr (inr lacks)
