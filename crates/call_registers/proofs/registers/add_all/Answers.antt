use Rattle.std.proofs.Common.{◌<◌, ◌∙◌, [], ◌∷◌, refl, ap, arith, length, length-append}
use Rattle.call_registers.specs.Overlays.{numbered}
use Rattle.call_registers.proofs.OverlayLemmas.{add_more}
use Rattle.call_registers.proofs.registers.add_all.Goals as goal

pub loop-rest-preserved : goal.loop-rest-preserved
loop-rest-preserved c =
    let list = c.loop-rest.list.list in
    let kept = c.loop-rest.invariant in
    let w : 0 < length c.loop-rest.rest.items = omega (arith, c.loop-rest.rest.ok.0, c.remove-register.ensures.len) in
    let new = ap length c.push.ensures.list in
    let long = length-append list (numbered c.next_number.result c.remove-register.result ∷ []) in
    record {
      list =
          rw (c.push.ensures.list, c.remove-register.ensures.items)
          (add_more list list c.loop-rest.rest.items c.remove-register.result c.next_number.result refl c.next_number.ensures w c.remove-register.ensures.value ∙ kept.list);
      room = omega (arith, new, long, c.push.ensures.places, c.remove-register.ensures.len, kept.room);
      len = omega (arith, new, long, c.remove-register.ensures.len, kept.len);
      places = omega (arith, c.push.ensures.places, kept.places);
    }
