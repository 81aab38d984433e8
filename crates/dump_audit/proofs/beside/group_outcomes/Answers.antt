use Rattle.std.proofs.Common.{length, arith}
use denote.Param.Send.{sendable}
use Rattle.dump_audit.proofs.DumpSends.{service_sync}
use Rattle.dump_audit.proofs.GroupLemmas.{chunks_cover}
use Rattle.dump_audit.proofs.beside.group_outcomes.Goals as goal

pub map_chunks-requires-sync-T : goal.map_chunks-requires-sync-T
map_chunks-requires-sync-T g c κs within = search (sendable, service_sync)

pub returns-clause-all : goal.returns-clause-all
returns-clause-all g c =
    let v = c.in_ok-outcomes.outcomes in
    chunks_cover (length c.args.world.now) c.args.size (length v.items) c.requires (omega (arith, c.in_ok-outcomes.ensures.len, v.ok.0))
