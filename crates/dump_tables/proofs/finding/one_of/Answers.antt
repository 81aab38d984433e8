use Rattle.std.proofs.Common.{ℕ, ◌≡◌, ◌-◌, ◌<◌, ◌≤◌, Bool, false, List, length, take, get_or, fold, nat_eq, sym, ap, ◌∙◌, arith}
use Rattle.std.proofs.lemmas.List.{get_or_read, length-take}
use Rattle.lang_lists.specs.Ends.{last_end}
use Rattle.lang_lists.proofs.HashEndLemmas.{last_end-within}
use Rattle.lang_lists.proofs.SearchLemmas.{sought_first, sought_next}
use Rattle.dump_tables.proofs.FoundLemmas.{any_fold, no_more, or_here, quiet}
use Rattle.dump_tables.proofs.finding.one_of.Goals as goal

pub loop-end-init : goal.loop-end-init
loop-end-init g c =
    let key = c.args.key in
    let items = c.args.items.now in
    let within : last_end (nat_eq key) c.args.index.now.keys ≤ length c.args.index.now.keys = last_end-within (nat_eq key) c.args.index.now.keys in
    record {
      within = omega (arith, within, c.end_of-end.ensures, c.requires.len);
      sought = λ key_of p is computes other.
          sought_first key_of (or_here p) key (quiet key_of p key other) false items c.end_of-end.result (c.end_of-end.ensures ∙ ap (last_end (nat_eq key)) is);
    }

pub loop-end-smaller : goal.loop-end-smaller
loop-end-smaller g c =
    let keys = c.args.index.now.keys in
    let place = c.loop-end.end - 1 in
    let key = get_or keys place 0 in
    let short : last_end (nat_eq key) (take place keys) ≤ place = omega (arith, last_end-within (nat_eq key) (take place keys), length-take place keys) in
    omega (arith, c.end_before-end.ensures, short)

pub loop-end-preserved : goal.loop-end-preserved
loop-end-preserved g c =
    let key = c.args.key in
    let items = c.args.items.now in
    let keys = c.args.index.now.keys in
    let end = c.loop-end.end in
    let place = end - 1 in
    let item = c.index-items-end.result in
    let lt : place < length items = omega arith in
    let read = get_or_read items place item lt c.index-items-end.is in
    let before = get_or keys place 0 in
    let short : last_end (nat_eq before) (take place keys) ≤ place = omega (arith, last_end-within (nat_eq before) (take place keys), length-take place keys) in
    record {
      within = omega (arith, c.end_before-end.ensures, short, lt);
      sought = λ key_of p is computes other.
          let fails = sym (computes _ _ (place, lt, sym (read item)) c.test.ensures) ∙ c.if-test.false in
          sought_next key_of (or_here p) key (quiet key_of p key other) false items end c.end_before-end.result item (c.loop-end.invariant.sought key_of p is computes other) (omega arith)
          c.index-items-end.is (no_more (fold (or_here p) false (take place items)) (p item) fails)
          (c.end_before-end.ensures ∙ ap (λ (ks : List ℕ). last_end (nat_eq (get_or ks place 0)) (take place ks)) is);
    }

pub returns-then-test : goal.returns-then-test
returns-then-test g c = λ key_of p is computes other.
    let items = c.args.items.now in
    let place = c.loop-end.end - 1 in
    let item = c.index-items-end.result in
    let lt : place < length items = omega arith in
    let read = get_or_read items place item lt c.index-items-end.is in
    ((place, lt, sym (read item)), sym (computes _ _ (place, lt, sym (read item)) c.test.ensures) ∙ c.if-test.true)

pub returns : goal.returns
returns g c = λ key_of p is computes other.
    let items = c.args.items.now in
    let at = c.loop-end.invariant.sought key_of p is computes other in
    let none : c.loop-end.end ≡ 0 = omega arith in
    let up_to : ℕ → Bool = λ n. fold (or_here p) false (take n items) in
    sym (any_fold p items) ∙ at.same ∙ ap up_to none
