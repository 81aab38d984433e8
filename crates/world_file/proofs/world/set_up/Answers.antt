use Rattle.std.proofs.Common.{refl}
use Rattle.world_file.specs.Spelled.{member_seen}
use Rattle.world_file.proofs.Settings.{set_up_is}
use Rattle.world_file.proofs.world.set_up.Goals as goal

pub returns : goal.returns
returns c =
    let made = c.in_ok-setting.ensures in
    set_up_is _ _ _ _ _ _ _ c.args.names.now (member_seen c.args.member) made.me made.peers made.program made.weight refl c.in_ok-secret.ensures c.in_ok-console.ensures c.in_ok-door.ensures refl refl
