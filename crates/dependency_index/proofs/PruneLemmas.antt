-- What it comes to that the labels before one leave the rows that they stand in.
use Rattle.std.proofs.Common.{◌≡◌, ℕ, zero, suc, ◌<◌, Bool, true, false, cond, not, ◌&&◌, ◌||◌, List, [], ◌∷◌, Option, length, get_or, map, refl, sym, ap, ◌∙◌, subst, arith, nat_eq, eq-eqb}
use Rattle.std.specs.List.{filter, list_any, All, Contains}
use Rattle.std.proofs.Math.Bool.{or-true}
use Rattle.std.proofs.lemmas.List.Elements.{All-filter}
use Rattle.key_labels.specs.HandedOn.{is_before}
use Rattle.key_labels.specs.Labels.{behind, is_other}
use Rattle.key_labels.proofs.ListLemmas.{filter-map}
use Rattle.dependency_index.specs.Numbers.{Rises}
use Rattle.dependency_index.specs.Reads.{label_of, labels_with, noted_behind}
use Rattle.dependency_index.specs.Rows.{IsPrunable}
use Rattle.dependency_index.specs.declared.noted.Noted.{Noted}
use Rattle.dependency_index.specs.declared.reads.ReadAt.{ReadAt}
use Rattle.dependency_index.proofs.IndexLemmas.{labels_all, labels_kept, labels_rise, map_if}
use Rattle.dependency_index.proofs.NumberLemmas.{absorb, member, member_kept, rises_kept}

module _ (order : List ℕ) (end : Option ℕ) where
  abbrev stays : ℕ → Bool
  stays x = not (is_before order end x)

  -- a row that was pruned has nothing more to lose
  pub behind_twice : (row : List ℕ) → behind order end (behind order end row) ≡ behind order end row
  behind_twice row = absorb stays stays (λ x h. h) row

  pruned_row : (label : ℕ) (row : List ℕ) → IsPrunable order end label row → IsPrunable order end label (behind order end row)
  pruned_row label row p = record {
    rising = rises_kept stays row p.rising;
    known = All-filter stays (Contains order) row p.known;
    pruned = λ _. behind_twice row;
  }

  -- a row stays one that can be pruned, whether it was or not
  pub prunable_still : (label : ℕ) (b : Bool) (start now : List ℕ) → now ≡ cond b (behind order end start) start → IsPrunable order end label start → IsPrunable order end label now
  prunable_still label true start now is p = let P : List ℕ → Type 0 = λ l. IsPrunable order end label l in subst P (sym is) (pruned_row label start p)
  prunable_still label false start now is p = let P : List ℕ → Type 0 = λ l. IsPrunable order end label l in subst P (sym is) p

  -- ---- the rows of what is noted

  module _ (test : ReadAt → Bool) where
    named_by : (l m : ℕ) (ls : List ℕ) (b : Bool) → list_any (nat_eq l) ls ≡ true → list_any (nat_eq l) (cond b (m ∷ ls) ls) ≡ true
    named_by l m ls true h = rw h (or-true (nat_eq l m))
    named_by l m ls false h = h

    -- a label stands in the row of what it reads
    named : (ns : List Noted) (i : ℕ) (n : Noted) → i < length ns → n ≡ get_or ns i n → list_any test n.reads ≡ true → member (label_of n) (labels_with test ns) ≡ true
    named [] i n lt is h = absurd (omega arith)
    named (m ∷ ns) zero n lt is h =
        let here : list_any test m.reads ≡ true = ap (λ (x : Noted). list_any test x.reads) (sym is) ∙ h in
        let own : nat_eq (label_of n) (label_of m) ≡ true = eq-eqb (label_of n) (label_of m) (ap label_of is) in
        rw (here, own) refl
    named (m ∷ ns) (suc i) n lt is h =
        ap (member (label_of n)) (map_if m (filter (λ (x : Noted). list_any test x.reads) ns) (list_any test m.reads))
        ∙ named_by (label_of n) (label_of m) (labels_with test ns) (list_any test m.reads) (named ns i n (omega arith) is h)

    -- a row without it would be another
    not_without : (label : ℕ) (row : List ℕ) → member label row ≡ true → filter (is_other label) row ≡ row → true ≡ false
    not_without label row there same =
        let own : nat_eq label label ≡ true = eq-eqb label label refl in
        let gone : member label (filter (is_other label) row) ≡ false = member_kept (is_other label) label row ∙ rw own refl in
        sym there ∙ ap (member label) (sym same) ∙ gone

    pub noted_prunable : (ns : List Noted) (i : ℕ) (n : Noted) → Rises (map label_of ns) → All (Contains order) (map label_of ns) → i < length ns → n ≡ get_or ns i n
        → list_any test n.reads ≡ true → IsPrunable order end (label_of n) (labels_with test ns)
    noted_prunable ns i n rising known lt is h = record {
      rising = labels_rise test ns rising;
      known = labels_all test (Contains order) ns known;
      pruned = λ same. let no = not_without (label_of n) (labels_with test ns) (named ns i n lt is h) same in cc;
    }

    -- where none of the labels before another has such a read, none of them stands in the row
    none_by : (n : Noted) (ns : List Noted) (h b rest : Bool) → list_any test n.reads ≡ h → is_before order end (label_of n) ≡ b → ((b && h) || rest) ≡ false
        → (rest ≡ false → behind order end (labels_with test ns) ≡ labels_with test ns) → behind order end (labels_with test (n ∷ ns)) ≡ labels_with test (n ∷ ns)
    none_by n ns true true rest has before none more = cc
    none_by n ns true false rest has before none more = rw (has, before) (ap (λ l. label_of n ∷ l) (more none))
    none_by n ns false true rest has before none more = rw has (more none)
    none_by n ns false false rest has before none more = rw has (more none)

    none_before : (ns : List Noted) → list_any (λ n. is_before order end (label_of n) && list_any test n.reads) ns ≡ false → behind order end (labels_with test ns) ≡ labels_with test ns
    none_before [] h = refl
    none_before (n ∷ ns) h =
        none_by n ns (list_any test n.reads) (is_before order end (label_of n)) (list_any (λ n. is_before order end (label_of n) && list_any test n.reads) ns) refl refl h (none_before ns)

    whole_by : (row now : List ℕ) (b : Bool) → now ≡ cond b (behind order end row) row → (b ≡ false → behind order end row ≡ row) → now ≡ behind order end row
    whole_by row now true is none = is
    whole_by row now false is none = is ∙ sym (none refl)

    -- once the rows of all were gone over
    pub all_pruned : (ns : List Noted) (row now : List ℕ) → row ≡ labels_with test ns
        → now ≡ cond (list_any (λ n. is_before order end (label_of n) && list_any test n.reads) ns) (behind order end row) row → now ≡ behind order end row
    all_pruned ns row now is edited =
        whole_by row now (list_any (λ n. is_before order end (label_of n) && list_any test n.reads) ns) edited
        (λ none. ap (behind order end) is ∙ none_before ns none ∙ sym is)

    -- those of what is noted still
    pub labels_behind : (ns : List Noted) → behind order end (labels_with test ns) ≡ labels_with test (noted_behind order end ns)
    labels_behind ns = sym (labels_kept test stays ns)

  pub behind_rise : (ns : List Noted) → Rises (map label_of ns) → Rises (map label_of (noted_behind order end ns))
  behind_rise ns r = let P : List ℕ → Type 0 = λ l. Rises l in subst P (filter-map label_of stays ns) (rises_kept stays (map label_of ns) r)
