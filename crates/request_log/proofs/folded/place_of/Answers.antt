use Rattle.std.proofs.Common.{ℕ, ◌≡◌, ◌-◌, Bool, cond, Option, Some, None, map, nat_eq, sym, ap, ◌∙◌}
use Rattle.std.proofs.lemmas.Bool.{ne_eqb}
use Rattle.lang_lists.specs.Ends.{last_end}
use Rattle.request_log.specs.Keys.{folded_number}
use Rattle.request_log.proofs.FoldedFindLemmas.{folded_end}
use Rattle.request_log.proofs.folded.place_of.Goals as goal

pub returns-then-end-eq0 : goal.returns-then-end-eq0
returns-then-end-eq0 c =
    let at : c.end_of-end.result ≡ last_end (nat_eq c.args.id) (map folded_number c.args.items.now) = c.end_of-end.ensures ∙ ap (last_end (nat_eq c.args.id)) c.requires.keys in
    let place : ℕ → Option ℕ = λ n. cond (nat_eq n 0) None (Some (n - 1)) in
    sym (folded_end c.args.id c.args.items.now c.requires.distinct ∙ ap place (sym at ∙ c.if-end-eq0.true))

pub returns-else-end-eq0 : goal.returns-else-end-eq0
returns-else-end-eq0 c =
    let at : c.end_of-end.result ≡ last_end (nat_eq c.args.id) (map folded_number c.args.items.now) = c.end_of-end.ensures ∙ ap (last_end (nat_eq c.args.id)) c.requires.keys in
    let place : ℕ → Option ℕ = λ n. cond (nat_eq n 0) None (Some (n - 1)) in
    let chosen : Bool → Option ℕ = λ b. cond b None (Some (c.end_of-end.result - 1)) in
    sym (folded_end c.args.id c.args.items.now c.requires.distinct ∙ ap place (sym at) ∙ ap chosen (ne_eqb c.end_of-end.result 0 c.if-end-eq0.false))
