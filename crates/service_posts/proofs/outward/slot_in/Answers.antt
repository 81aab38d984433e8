use Rattle.std.proofs.Common.{◌∙◌, nat_eq, position, refl, sym, ap}
use Rattle.service_posts.proofs.OutwardLemmas.{place_found}
use Rattle.service_posts.proofs.outward.slot_in.Goals as goal

pub returns-in-Some : goal.returns-in-Some
returns-in-Some c = (
  refl,
  place_found c.args.entry.now.slots c.args.number c.in-Some.call
      (sym (ap (position (λ n. nat_eq n c.args.number)) c.as_slice.ensures) ∙ sym c.place_in.ensures ∙ c.in-Some.is),
)
