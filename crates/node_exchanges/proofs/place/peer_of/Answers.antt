use Rattle.std.proofs.Common.{List, ℕ, Some, ◌≡◌, subst, sym}
use Rattle.wire_fields.specs.Named.{value_of}
use Rattle.node_exchanges.proofs.place.peer_of.Goals as goal

pub returns : goal.returns
returns c =
    let doors = c.args.place.now.doors.now in
    let secrets = c.args.place.now.secrets.now in
    let found = c.in-Some-Some in
    record {
      door = subst (λ (n : List ℕ). value_of n doors ≡ Some found.door.now) c.as_str.ensures (sym {b = value_of c.as_str.result.now doors} found.ensures);
      secret = subst (λ (n : List ℕ). value_of n secrets ≡ Some found.secret.now) c.as_str-2.ensures
          (sym {b = value_of c.as_str-2.result.now secrets} found.ensures');
    }
