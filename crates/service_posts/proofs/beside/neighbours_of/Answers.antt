use Rattle.std.proofs.Common.{◌∙◌, ◌≤◌, List, Option, IfSome, ap, filter, subst, sym}
use Rattle.request_log.specs.declared.entry.Entry.{Entry}
use Rattle.service_events.specs.Fits.{count}
use Rattle.service_events.specs.Posts.{next_of, previous_of}
use Rattle.service_parts.specs.Parts.{kept}
use Rattle.service_posts.specs.Walks.{calls_in, is_to, IsSlot}
use Rattle.service_posts.specs.declared.outward.Slot.{Slot}
use Rattle.service_posts.proofs.OutwardLemmas.{stands_once}
use Rattle.service_posts.proofs.WalkLemmas.{whole_same}
use Rattle.service_posts.proofs.beside.neighbours_of.Goals as goal

pub outward-requires-clause-slot : goal.outward-requires-clause-slot
outward-requires-clause-slot c =
    let there = subst (λ (o : Option Slot). IfSome o (IsSlot c.args.number c.args.parts.now.repairer.entries)) c.in-Some.is c.slot_of.ensures in
    subst (λ (es : List Entry). IsSlot c.args.number es c.in-Some.at) (sym (c.as_slice-entries.ensures.entries ∙ c.log-log.ensures.entries)) there

pub outward-requires-clause-wanted : goal.outward-requires-clause-wanted
outward-requires-clause-wanted c = sym c.goes_to.ensures ∙ c.if-not-goes_to.false

pub outward-requires-clause-once : goal.outward-requires-clause-once
outward-requires-clause-once c =
    let all = whole_same (c.as_slice-folded.ensures ∙ c.folded.ensures ∙ c.log-log.ensures.folded) (c.as_slice-entries.ensures.entries ∙ c.log-log.ensures.entries) in
    subst (λ (es : List Entry). count c.args.number (calls_in es) ≤ 1) (sym all) (stands_once (kept c.args.parts.now) c.args.number c.requires.fits.places)

pub returns-in-Some-clause-before : goal.returns-in-Some-clause-before
returns-in-Some-clause-before c =
    c.outward.ensures.before
    ∙ ap (λ (es : List Entry). next_of c.args.number (filter (is_to c.args.parts.now.registers.list c.args.dest.now) (calls_in es)))
    (whole_same (c.as_slice-folded.ensures ∙ c.folded.ensures ∙ c.log-log.ensures.folded) (c.as_slice-entries.ensures.entries ∙ c.log-log.ensures.entries))

pub returns-in-Some-clause-after : goal.returns-in-Some-clause-after
returns-in-Some-clause-after c =
    c.outward.ensures.after
    ∙ ap (λ (es : List Entry). previous_of c.args.number (filter (is_to c.args.parts.now.registers.list c.args.dest.now) (calls_in es)))
    (whole_same (c.as_slice-folded.ensures ∙ c.folded.ensures ∙ c.log-log.ensures.folded) (c.as_slice-entries.ensures.entries ∙ c.log-log.ensures.entries))
