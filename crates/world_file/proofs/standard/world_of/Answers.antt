use Rattle.std.proofs.Common.{List, [], Some, sym, ap, ◌∙◌}
use Rattle.world_file.specs.Fields.{Fields, Read}
use Rattle.world_file.specs.Standard.{world_where}
use Rattle.world_file.specs.Worlds.{Member, Outcome, is_memory, joined, members_behind}
use Rattle.world_file.proofs.HeldLemmas.{standards_read}
use Rattle.world_file.proofs.RefusedLemmas.{where_not}
use Rattle.world_file.proofs.standard.world_of.Goals as goal

pub returns-in_ok-world_with-in-Ok : goal.returns-in_ok-world_with-in-Ok
returns-in_ok-world_with-in-Ok c =
    ap Some c.in_ok-world_with-in-Ok.ensures
    ∙ sym (ap (λ (reads : List (Read Fields)). world_where (joined (members_behind [] reads))) (standards_read c.args.services.now) ∙ ap (λ (o : Outcome (List Member)). world_where (joined o)) c.in-Ok.ensures.members)

pub returns-in_ok-unless_lacking-in-Err : goal.returns-in_ok-unless_lacking-in-Err
returns-in_ok-unless_lacking-in-Err c =
    sym (ap (λ (reads : List (Read Fields)). world_where (joined (members_behind [] reads))) (standards_read c.args.services.now)
    ∙ ap (λ (o : Outcome (List Member)). world_where (joined o)) (where_not (is_memory c.in-Err.why) _ _ c.in_ok-unless_lacking-in-Err.ensures c.in-Err.ensures.refused))
