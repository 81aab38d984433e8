-- All entries of a service, as its log keeps them: the folded ones, and behind them the others.
use Rattle.std.proofs.Common.{◌≡◌, ℕ, suc, ◌+◌, Bool, true, false, cond, List, [], ◌∷◌, ◌++◌, Option, Some, None, drop, find, insert, length, map, option_map, take, slice_get, refl, sym, ap, ◌∙◌, arith, length-append, nat_eq, ◌||◌, is_some}
use Rattle.std.specs.Option.{option_or}
use Rattle.std.proofs.lemmas.List.{length-map, map-append}
use Rattle.std.proofs.lemmas.List.Folds.{find-append}
use Rattle.request_log.specs.Entries.{has_id, with_entry, changed, AreReplaced, has_origin, replace, with_call}
use Rattle.request_log.specs.Folded.{as_entry, whole, has_caller, has_number}
use Rattle.request_log.specs.declared.entry.Entry.{Entry}
use Rattle.request_log.specs.declared.folded.Folded.{Folded}
use Rattle.service_events.specs.State.{folded, in_all, unfolded, is_past, program_for, program_or}
use Rattle.service_parts.specs.Parts.{kept, whole_log}
use Rattle.service_parts.specs.declared.parts.Parts.{Parts}
use Rattle.lang_core.specs.declared.request.Request.{Request}
use Rattle.local_repair.specs.Repairs.{KeptRepairer}
use Rattle.service_events.proofs.HorizonLemmas.{find_skips, with_later}
use Rattle.service_events.proofs.SearchLemmas.{none_changed, none_first}
use Rattle.std.specs.List.{list_any}
use Rattle.service_events.specs.Messages.{is_past_call}

pub drop_whole : (fs : List Folded) (es : List Entry) → drop (length fs) (map as_entry fs ++ es) ≡ es
drop_whole [] es = refl
drop_whole (f ∷ fs) es = drop_whole fs es

take_whole : (fs : List Folded) (es : List Entry) → take (length fs) (map as_entry fs ++ es) ≡ map as_entry fs
take_whole [] es = refl
take_whole (f ∷ fs) es = ap (λ l. as_entry f ∷ l) (take_whole fs es)

pub unfolded_kept : (p : Parts) → unfolded (kept p) ≡ p.repairer.entries
unfolded_kept p = drop_whole p.repairer.folded p.repairer.entries

pub folded_kept : (p : Parts) → folded (kept p) ≡ map as_entry p.repairer.folded
folded_kept p = take_whole p.repairer.folded p.repairer.entries

pub many_in_all : (fs : List Folded) (es : List Entry) → length (whole fs es) ≡ length fs + length es
many_in_all fs es = (let both = length-append (map as_entry fs) es in let front = length-map fs as_entry in omega (arith, both, front))

pub in_all_is : (p : Parts) → in_all (kept p) ≡ length p.repairer.entries + length p.flights.list
in_all_is p = ap (λ (l : List Entry). length l + length p.flights.list) (unfolded_kept p)

-- ---- what is found

-- an entry that isn't among the folded ones is found behind them
pub find_whole : (p : Entry → Bool) (fs : List Folded) (es : List Entry) → find p (whole fs es) ≡ option_or (find p (map as_entry fs)) (find p es)
find_whole p fs es = find-append p (map as_entry fs) es

-- what is found among one folded entry and others
found_first : (b c : Bool) (f : Folded) (rest : Option Entry) (kept : Option Folded) → b ≡ c → rest ≡ option_map as_entry kept → cond b (Some (as_entry f)) rest ≡ option_map as_entry (cond c (Some f) kept)
found_first true true f rest kept e later = refl
found_first true false f rest kept e later = cc
found_first false true f rest kept e later = cc
found_first false false f rest kept e later = later

-- a folded one by a test of what is kept of it
pub find_folded : (p : Entry → Bool) (q : Folded → Bool) → ((f : Folded) → p (as_entry f) ≡ q f) → (fs : List Folded) → find p (map as_entry fs) ≡ option_map as_entry (find q fs)
find_folded p q same [] = refl
find_folded p q same (f ∷ fs) = found_first (p (as_entry f)) (q f) f (find p (map as_entry fs)) (find q fs) (same f) (find_folded p q same fs)

find_past : (p : Entry → Bool) (fs : List Folded) (es : List Entry) → find p (map as_entry fs) ≡ None → find p (whole fs es) ≡ find p es
find_past p fs es none = find_skips p (map as_entry fs) es none

-- ---- changes behind the folded ones

pub whole_insert : (fs : List Folded) (es : List Entry) (at : ℕ) (x : Entry) → whole fs (insert es at x) ≡ insert (whole fs es) (length fs + at) x
whole_insert [] es at x = ap (λ k. insert es k x) (let same : at ≡ 0 + at = omega arith in same)
whole_insert (f ∷ fs) es at x =
    ap (λ l. as_entry f ∷ l) (whole_insert fs es at x)
    ∙ ap (λ k. insert (as_entry f ∷ whole fs es) k x) (let same : suc (length fs + at) ≡ suc (length fs) + at = omega arith in same)

-- what stands behind the folded ones
pub whole_get : (fs : List Folded) (es : List Entry) (at : ℕ) → slice_get (whole fs es) (length fs + at) ≡ slice_get es at
whole_get [] es at = ap (slice_get es) (let same : 0 + at ≡ at = omega arith in same)
whole_get (f ∷ fs) es at =
    ap (slice_get (as_entry f ∷ whole fs es)) (let same : suc (length fs) + at ≡ suc (length fs + at) = omega arith in same) ∙ whole_get fs es at

-- the program of an entry that is made there
pub program_behind : (p : Parts) (at : ℕ) → program_for (kept p) (length p.repairer.folded + at) ≡ program_or p.newest (slice_get p.repairer.entries at)
program_behind p at = ap (program_or p.newest) (whole_get p.repairer.folded p.repairer.entries at)

pub whole_push : (fs : List Folded) (es : List Entry) (x : Entry) → whole fs (es ++ x ∷ []) ≡ whole fs es ++ x ∷ []
whole_push [] es x = refl
whole_push (f ∷ fs) es x = ap (λ l. as_entry f ∷ l) (whole_push fs es x)

-- none of the folded ones has a number
none_folded : (fs : List Folded) (id : ℕ) → find (has_number id) fs ≡ None → find (has_id id) (map as_entry fs) ≡ None
none_folded fs id none = find_folded (has_id id) (has_number id) (λ f. refl) fs ∙ ap (option_map as_entry) none

whole_with : (fs : List Folded) (es : List Entry) (x : Entry) → find (has_number x.id) fs ≡ None → with_entry x (map as_entry fs ++ es) ≡ map as_entry fs ++ with_entry x es
whole_with [] es x none = refl
whole_with (f ∷ fs) es x none =
    let parts = none_first (nat_eq f.id x.id) f (find (has_number x.id) fs) none in
    with_later x (as_entry f) (map as_entry fs ++ es) parts.0 ∙ ap (λ l. as_entry f ∷ l) (whole_with fs es x parts.1)

whole_changed : (fs : List Folded) (es : List Entry) (id : ℕ) (g : Entry → Entry) → find (has_number id) fs ≡ None → changed id g (map as_entry fs ++ es) ≡ map as_entry fs ++ changed id g es
whole_changed fs es id g none =
    map-append (λ e. cond (has_id id e) (g e) e) (map as_entry fs) es ∙ ap (λ l. l ++ changed id g es) (none_changed (has_id id) g (map as_entry fs) (none_folded fs id none))

module _ (old new : KeptRepairer) (same : new.folded ≡ old.folded) where
  front : (es : List Entry) → whole new.folded es ≡ whole old.folded es
  front es = ap (λ fs. whole fs es) same

  pub pushed : (x : Entry) → new.entries ≡ old.entries ++ x ∷ [] → whole_log new ≡ whole_log old ++ x ∷ []
  pushed x is = front new.entries ∙ ap (whole old.folded) is ∙ whole_push old.folded old.entries x

  pub inserted : (at : ℕ) (x : Entry) → new.entries ≡ insert old.entries at x → whole_log new ≡ insert (whole_log old) (length old.folded + at) x
  inserted at x is = front new.entries ∙ ap (whole old.folded) is ∙ whole_insert old.folded old.entries at x

  pub amended : (x : Entry) → find (has_number x.id) old.folded ≡ None → new.entries ≡ with_entry x old.entries → whole_log new ≡ with_entry x (whole_log old)
  amended x none is = front new.entries ∙ ap (whole old.folded) is ∙ sym (whole_with old.folded old.entries x none)

  pub changed_behind : (id : ℕ) (g : Entry → Entry) → find (has_number id) old.folded ≡ None → new.entries ≡ changed id g old.entries → whole_log new ≡ changed id g (whole_log old)
  changed_behind id g none is = front new.entries ∙ ap (whole old.folded) is ∙ sym (whole_changed old.folded old.entries id g none)

  pub replaced_behind : (id : ℕ) (q : Request) → find (has_number id) old.folded ≡ None → AreReplaced id q old.entries new.entries → AreReplaced id q (whole_log old) (whole_log new)
  replaced_behind id q none h method path body is =
      changed_behind id (replace method path body) none
      (h method path body (ap (λ o. option_map (with_call method path body) (option_map (λ (e : Entry). e.request) o)) (sym (find_past (has_id id) old.folded old.entries (none_folded old.folded id none))) ∙ is))

-- ---- what is found of one

found_by : {Y : Type 0} (g : Entry → Y) (p : Entry → Bool) (q : Folded → Bool) → ((f : Folded) → p (as_entry f) ≡ q f) → (fs : List Folded) (es : List Entry)
    → option_map g (find p (whole fs es)) ≡ option_or (option_map (λ f. g (as_entry f)) (find q fs)) (option_map g (find p es))
found_by g p q same fs es =
    ap (option_map g) (find_whole p fs es ∙ ap (λ o. option_or o (find p es)) (find_folded p q same fs)) ∙ by (find q fs)
  where
    by : (o : Option Folded) → option_map g (option_or (option_map as_entry o) (find p es)) ≡ option_or (option_map (λ f. g (as_entry f)) o) (option_map g (find p es))
    by None = refl
    by (Some f) = refl

-- the entry of a call
pub call_found : (c : List ℕ) (n : ℕ) (fs : List Folded) (es : List Entry) → find (has_origin c n) (whole fs es)
    ≡ option_or (option_map as_entry (find (has_caller c n) fs)) (find (has_origin c n) es)
call_found c n fs es = find_whole (has_origin c n) fs es ∙ ap (λ o. option_or o (find (has_origin c n) es)) (find_folded (has_origin c n) (has_caller c n) (λ f. refl) fs)

pub request_found : (id : ℕ) (fs : List Folded) (es : List Entry) → option_map (λ (e : Entry). e.request) (find (has_id id) (whole fs es))
    ≡ option_or (option_map (λ (f : Folded). f.request) (find (has_number id) fs)) (option_map (λ (e : Entry). e.request) (find (has_id id) es))
request_found id fs es = found_by (λ (e : Entry). e.request) (has_id id) (has_number id) (λ f. refl) fs es

pub request_called : (c : List ℕ) (n : ℕ) (fs : List Folded) (es : List Entry) → option_map (λ (e : Entry). e.request) (find (has_origin c n) (whole fs es))
    ≡ option_or (option_map (λ (f : Folded). f.request) (find (has_caller c n) fs)) (option_map (λ (e : Entry). e.request) (find (has_origin c n) es))
request_called c n fs es = found_by (λ (e : Entry). e.request) (has_origin c n) (has_caller c n) (λ f. refl) fs es

pub id_called : (c : List ℕ) (n : ℕ) (fs : List Folded) (es : List Entry) → option_map (λ (e : Entry). e.id) (find (has_origin c n) (whole fs es))
    ≡ option_or (option_map (λ (f : Folded). f.id) (find (has_caller c n) fs)) (option_map (λ (e : Entry). e.id) (find (has_origin c n) es))
id_called c n fs es = found_by (λ (e : Entry). e.id) (has_origin c n) (has_caller c n) (λ f. refl) fs es

any_mapped : (number : ℕ) (fs : List Folded) → list_any (λ (e : Entry). list_any (nat_eq number) e.slots) (map as_entry fs) ≡ list_any (λ (f : Folded). list_any (nat_eq number) f.slots) fs
any_mapped number [] = refl
any_mapped number (f ∷ fs) = ap (λ b. list_any (nat_eq number) f.slots || b) (any_mapped number fs)

-- whether a call is one of a folded entry
pub past_call_is : (p : Parts) (number : ℕ) → is_past_call number (kept p) ≡ list_any (λ (f : Folded). list_any (nat_eq number) f.slots) p.repairer.folded
past_call_is p number = ap (list_any (λ (e : Entry). list_any (nat_eq number) e.slots)) (folded_kept p) ∙ any_mapped number p.repairer.folded

-- the folded entry of a call
pub past_call_found : (p : Parts) (c : List ℕ) (n : ℕ) → find (has_origin c n) (folded (kept p)) ≡ option_map as_entry (find (has_caller c n) p.repairer.folded)
past_call_found p c n = ap (find (has_origin c n)) (folded_kept p) ∙ find_folded (has_origin c n) (has_caller c n) (λ f. refl) p.repairer.folded

no_entry : (o : Option Folded) → option_map as_entry o ≡ None → o ≡ None
no_entry None h = refl
no_entry (Some f) h = cc

-- no folded entry has a number
pub none_past : (p : Parts) (id : ℕ) → find (has_id id) (folded (kept p)) ≡ None → find (has_number id) p.repairer.folded ≡ None
none_past p id none =
    no_entry (find (has_number id) p.repairer.folded)
    (sym (ap (find (has_id id)) (folded_kept p) ∙ find_folded (has_id id) (has_number id) (λ f. refl) p.repairer.folded) ∙ none)

some_kept : (o : Option Folded) → is_some (option_map as_entry o) ≡ is_some o
some_kept None = refl
some_kept (Some f) = refl

-- whether an entry is folded
pub past_entry_is : (p : Parts) (id : ℕ) → is_past id (kept p) ≡ is_some (find (has_number id) p.repairer.folded)
past_entry_is p id =
    ap is_some (ap (find (has_id id)) (folded_kept p) ∙ find_folded (has_id id) (has_number id) (λ f. refl) p.repairer.folded) ∙ some_kept (find (has_number id) p.repairer.folded)

-- the entry of a number
pub entry_found : (id : ℕ) (fs : List Folded) (es : List Entry) → find (has_id id) (whole fs es) ≡ option_or (option_map as_entry (find (has_number id) fs)) (find (has_id id) es)
entry_found id fs es = find_whole (has_id id) fs es ∙ ap (λ o. option_or o (find (has_id id) es)) (find_folded (has_id id) (has_number id) (λ f. refl) fs)
