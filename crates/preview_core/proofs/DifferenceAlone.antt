-- Rows lead to others by one list of writes alone.
use Rattle.std.proofs.Common.{◌≡◌, ◌≢◌, ℕ, Bool, true, false, List, [], ◌∷◌, Option, Some, None, All, find, option_map, refl, sym, ap, ◌∙◌, subst, inl, inr}
use Rattle.std.specs.declared.cmp.Ordering.{Ordering}
use Rattle.std.specs.declared.cmp.Ordering.TheVariants.{Less, Equal, Greater}
use Rattle.std.specs.Option.{option_map_or}
use Rattle.std.proofs.lemmas.Bool.{cases_Bool}
use Rattle.std.proofs.lemmas.List.Elements.{All-head, All-tail}
use Rattle.lang_core.specs.Places.{Place, IsBelowAll, IsOrdered, place_order, same_place}
use Rattle.lang_core.specs.Rows.{cell_place, get, write_place, written}
use Rattle.lang_core.specs.declared.cells.Cell.{Cell}
use Rattle.lang_core.specs.declared.writes.Write.{Write}
use Rattle.lang_core.proofs.PlaceLemmas.{below_before}
use Rattle.lang_core.proofs.ReadLemmas.{get-apply, other_place, place_is, place_same}
use Rattle.preview_core.specs.Differences.{LeadsTo}
use Rattle.preview_core.proofs.DifferenceLemmas.{equal_is, turned, above}

-- the write at a place, if there is one
abbrev at : List Write → Place → Option Write
at ws p = find (λ w. same_place (write_place w) p) ws

-- and what it puts there
abbrev text_at : List Write → Place → Option (Option (List ℕ))
text_at ws p = option_map (λ (w : Write). w.text) (at ws p)

none_at : (p : Place) (ws : List Write) → IsBelowAll write_place p ws → at ws p ≡ None
none_at p [] all = refl
none_at p (w ∷ ws) all = rw (other_place (write_place w) p Greater (above p (write_place w) all.0) refl) (none_at p ws all.1)

here_at : (w : Write) (ws : List Write) → at (w ∷ ws) (write_place w) ≡ Some w
here_at w ws = rw (place_same (write_place w) (write_place w) refl) refl

later_at : (w : Write) (ws : List Write) (p : Place) → same_place (write_place w) p ≡ false → at (w ∷ ws) p ≡ at ws p
later_at w ws p other = rw other refl

-- ---- lists in order that put the same at each place are the same

same_write : (w v : Write) → write_place w ≡ write_place v → w.text ≡ v.text → w ≡ v
same_write w v place text =
    let t : w.table ≡ v.table = ap (λ (p : Place). p.table) place in
    let k : w.key ≡ v.key = ap (λ (p : Place). p.key) place in
    λ i. record { table = t i; key = k i; text = text i }

unlike : (w : Write) (ws vs : List Write) → IsBelowAll write_place (write_place w) vs → text_at (w ∷ ws) (write_place w) ≡ text_at vs (write_place w) → ⊥
unlike w ws vs below same =
    let here = ap (option_map (λ (x : Write). x.text)) (here_at w ws) in
    let none = ap (option_map (λ (x : Write). x.text)) (none_at (write_place w) vs below) in
    cc

tails : (w v : Write) (ws vs : List Write) → write_place w ≡ write_place v → IsBelowAll write_place (write_place w) ws → IsBelowAll write_place (write_place v) vs
    → ((p : Place) → text_at (w ∷ ws) p ≡ text_at (v ∷ vs) p) → (p : Place) → text_at ws p ≡ text_at vs p
tails w v ws vs place below theirs same p = by (same_place (write_place w) p) refl
  where
    by : (b : Bool) → same_place (write_place w) p ≡ b → text_at ws p ≡ text_at vs p
    by true is =
        let it : write_place w ≡ p = place_is (write_place w) p is in
        ap (option_map (λ (x : Write). x.text))
        (subst (λ q. at ws q ≡ None) it (none_at (write_place w) ws below)
        ∙ sym (subst (λ q. at vs q ≡ None) (sym place ∙ it) (none_at (write_place v) vs theirs)))
    by false other =
        ap (option_map (λ (x : Write). x.text)) (sym (later_at w ws p other)) ∙ same p
        ∙ ap (option_map (λ (x : Write). x.text)) (later_at v vs p (subst (λ q. same_place q p ≡ false) place other))

pub same_writes : (ws vs : List Write) → IsOrdered write_place ws → IsOrdered write_place vs → ((p : Place) → text_at ws p ≡ text_at vs p) → ws ≡ vs
same_writes [] [] o q same = refl
same_writes (w ∷ ws) [] o q same = absurd (unlike w ws [] tt (same (write_place w)))
same_writes [] (v ∷ vs) o q same = absurd (unlike v vs [] tt (sym (same (write_place v))))
same_writes (w ∷ ws) (v ∷ vs) o q same =
    by (λ place. same_writes ws vs o.1 q.1 (tails w v ws vs place o.0 q.0 same)) (place_order (write_place w) (write_place v)) refl
  where
    by : (write_place w ≡ write_place v → ws ≡ vs) → (r : Ordering) → place_order (write_place w) (write_place v) ≡ r → w ∷ ws ≡ v ∷ vs
    by rest Less e = absurd (unlike w ws (v ∷ vs) (e, below_before write_place (write_place w) (write_place v) vs e q.0) (same (write_place w)))
    by rest Greater e =
        let less = turned (write_place w) (write_place v) e in
        absurd (unlike v vs (w ∷ ws) (less, below_before write_place (write_place v) (write_place w) ws less o.0) (sym (same (write_place v))))
    by rest Equal e =
        let place = equal_is (write_place w) (write_place v) e in
        let mine = ap (option_map (λ (x : Write). x.text)) (here_at w ws) in
        let yours = ap (option_map (λ (x : Write). x.text)) (subst (λ p. at (v ∷ vs) p ≡ Some v) (sym place) (here_at v vs)) in
        let both = same (write_place w) in
        let text : w.text ≡ v.text = cc in
        let behind = rest place in
        let head = same_write w v place text in
        cc

-- ---- what is put at a place follows from the rows

found : (P : Write → Type 0) (p : Place) (ws : List Write) (w : Write) → All P ws → at ws p ≡ Some w → P w × (write_place w ≡ p)
found P p [] w all is = cc
found P p (v ∷ ws) w all is = elim (cases_Bool (same_place (write_place v) p)) [
  | inl same ↦ (let it : Some v ≡ Some w = rw same at is in
      let v_is : v ≡ w = cc in
      (subst P v_is (All-head P v ws all), ap write_place (sym v_is) ∙ place_is (write_place v) p same))
  | inr other ↦ found P p ws w (All-tail P v ws all) (rw other at is)
]

module _ (was now : List Cell) (ordered : IsOrdered cell_place was) where
  text_now : (ws : List Write) → LeadsTo was now ws → (p : Place) → get now p.table p.key ≡ written ws p.table p.key (get was p.table p.key)
  text_now ws leads p = ap (λ cs. get cs p.table p.key) (sym leads.leads) ∙ get-apply was ws p.table p.key ordered leads.ordered

  -- where no write stands the rows have the same, and a write puts what they have now and hadn't
  abbrev Where : Place → Option Write → Type 0
  Where p None = get now p.table p.key ≡ get was p.table p.key
  Where p (Some w) = (w.text ≡ get now p.table p.key) × (get was p.table p.key ≢ w.text)

  text_where : (ws : List Write) → LeadsTo was now ws → (p : Place) (o : Option Write) → at ws p ≡ o → Where p o
  text_where ws leads p None is = text_now ws leads p ∙ ap (λ o. option_map_or (λ (w : Write). w.text) o (get was p.table p.key)) is
  text_where ws leads p (Some w) is =
      let f = found (λ (x : Write). get was x.table x.key ≢ x.text) p ws w leads.changes is in (
        sym (text_now ws leads p ∙ ap (λ o. option_map_or (λ (x : Write). x.text) o (get was p.table p.key)) is),
        subst (λ (q : Place). get was q.table q.key ≢ w.text) f.1 f.0,
      )

  texts_alike : (ws vs : List Write) → LeadsTo was now ws → LeadsTo was now vs → (p : Place) → text_at ws p ≡ text_at vs p
  texts_alike ws vs a b p = by (at ws p) (at vs p) refl refl
    where
      by : (o q : Option Write) → at ws p ≡ o → at vs p ≡ q → option_map (λ (w : Write). w.text) o ≡ option_map (λ (w : Write). w.text) q
      by None None e f = refl
      by (Some w) None e f =
          let mine = text_where ws a p (Some w) e in
          let yours = text_where vs b p None f in
          absurd (mine.1 (sym yours ∙ sym mine.0))
      by None (Some v) e f =
          let mine = text_where ws a p None e in
          let yours = text_where vs b p (Some v) f in
          absurd (yours.1 (sym mine ∙ sym yours.0))
      by (Some w) (Some v) e f =
          let mine = text_where ws a p (Some w) e in
          let yours = text_where vs b p (Some v) f in
          ap Some (mine.0 ∙ sym yours.0)

  pub leads_alone : (ws vs : List Write) → LeadsTo was now ws → LeadsTo was now vs → ws ≡ vs
  leads_alone ws vs a b = same_writes ws vs a.ordered b.ordered (texts_alike ws vs a b)
