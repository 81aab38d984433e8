use Rattle.std.proofs.Common.{◌-◌, ap, arith, vec_len, vec_capacity}
use Rattle.world_core.specs.Packets.{KeptPackets}
use Rattle.world_core.proofs.PacketLemmas.{keyed_more, room_left, room_right}
use Rattle.world_core.proofs.packets.Packets.push.Goals as goal

pub invariant_of-self : goal.invariant_of-self
invariant_of-self c =
    rw (c.push_reserved.ensures.items, c.push.ensures.keys) (keyed_more c.self.inside.keys.keys c.self.inside.items.items c.packet_key-key.result c.args.packet c.self.invariant c.packet_key-key.ensures)

pub push_reserved-requires : goal.push_reserved-requires
push_reserved-requires c =
    omega (arith, room_left (vec_capacity c.self.inside.items - vec_len c.self.inside.items) c.self.inside.keys.spare c.args.self.now.spare (ap (λ (k : KeptPackets). k.spare) c.self.view_is) c.requires)

pub push-requires : goal.push-requires
push-requires c =
    room_right (vec_capacity c.self.inside.items - vec_len c.self.inside.items) c.self.inside.keys.spare c.args.self.now.spare (ap (λ (k : KeptPackets). k.spare) c.self.view_is) c.requires
