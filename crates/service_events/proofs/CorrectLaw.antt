-- A correction of a program: entries that aren't folded and flights have another one in its place, and nothing else of them changes.
use Rattle.std.proofs.Common.{◌≡◌, ℕ, ◌≤◌, List, [], ◌∷◌, ◌++◌, map, length, drop, refl, sym, ap, ◌∙◌, subst}
use Rattle.std.proofs.lemmas.Bool.{cond_both}
use Rattle.std.proofs.lemmas.List.{length-take-le, take_at}
use Rattle.lang_programs.specs.Numbered.{Numbered}
use Rattle.request_log.specs.Entries.{corrected, has_program, with_correction}
use Rattle.request_log.specs.declared.entry.Entry.{Entry}
use Rattle.service_events.specs.Orders.{corrected_on}
use Rattle.service_events.specs.State.{Kept, folded, unfolded}
use Rattle.service_events.proofs.FoldLaw.{AreAlike, IsAlike, alike_append, alike_self, alike_selves, count_alike}
use Rattle.service_events.proofs.HorizonLemmas.{all_entries}

alike_put : (k : ℕ) (p : Numbered) (es : List Entry) → AreAlike es (map (corrected k p) es)
alike_put k p [] = tt
alike_put k p (e ∷ es) = (
  cond_both (has_program k e) (with_correction p e) e (λ y. IsAlike e y) (λ _. record { same = refl; seen = refl }) (λ _. alike_self e),
  alike_put k p es,
)

drop_front : {X : Type 0} (xs ys : List X) → drop (length xs) (xs ++ ys) ≡ ys
drop_front [] ys = refl
drop_front (x ∷ xs) ys = drop_front xs ys

module _ (s : Kept) (k : ℕ) (p : Numbered) where
  pub corrected_alike : AreAlike s.entries (corrected_on k p s).entries
  corrected_alike =
      subst (λ es. AreAlike es (folded s ++ map (corrected k p) (unfolded s))) (all_entries s)
      (alike_append (folded s) (folded s) (unfolded s) (map (corrected k p) (unfolded s)) (alike_selves (folded s)) (alike_put k p (unfolded s)))

  pub corrected_many : length (corrected_on k p s).entries ≡ length s.entries
  corrected_many = count_alike s.entries (corrected_on k p s).entries corrected_alike

  -- where the horizon stands within the log, the folded entries stay and the others are corrected
  module _ (within : s.horizon ≤ length s.entries) where
    many : length (folded s) ≡ s.horizon
    many = length-take-le s.horizon s.entries within

    pub corrected_stays : folded (corrected_on k p s) ≡ folded s
    corrected_stays = take_at (folded s) (map (corrected k p) (unfolded s)) s.horizon many

    pub corrected_unfolded : unfolded (corrected_on k p s) ≡ map (corrected k p) (unfolded s)
    corrected_unfolded =
        ap (λ h. drop h (folded s ++ map (corrected k p) (unfolded s))) (sym many) ∙ drop_front (folded s) (map (corrected k p) (unfolded s))
