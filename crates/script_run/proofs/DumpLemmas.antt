-- What is written of calls: of the pairs of two lists, one after the other, and of the tentative answer; of all entries; and of
-- programs.
use Rattle.std.proofs.Common.{ℕ, ◌≡◌, fold, ◌⊎◌, ◌+◌, ◌<◌, decimal, drop, get_or, length, inl, inr, map, List, [], ◌∷◌, ◌++◌, Result, Ok, Err, OnOk, append_assoc, flat_map, take, refl, sym, ap, ◌∙◌}
use Rattle.std.proofs.lemmas.List.{append-nil, flat_map_more, map-append, take-append-drop, take_more}
use Rattle.std.proofs.lemmas.List.Concat.{flat_map-append}
use Rattle.request_log.specs.Folded.{as_entry}
use Rattle.request_log.specs.declared.entry.Entry.{Entry}
use Rattle.request_log.specs.declared.folded.Folded.{Folded}
use Rattle.std.specs.List.{zip}
use Rattle.local_repair.specs.Steps.{tentative}
use Rattle.report_text.specs.Reports.{response_text}
use Rattle.lang_tree.specs.declared.program.Route.{Route}
use Rattle.journal_rows.specs.Programs.{brought_step, programs, with_brought}
use Rattle.journal_rows.specs.declared.orders.Command.{Command}
use Rattle.journal_rows.specs.declared.orders.Command.TheVariants.{Cancel, Restore, Replace, Create, Retry, Fold, Deploy, Correct, Rules}
use Rattle.journal_rows.specs.declared.row.Row.{Row}
use Rattle.journal_rows.specs.declared.row.Row.TheVariants.{Asked, Took, Acked, Answered, WasConfirmed, Sent, SawAck, Noted, SawAnswer, Confirmed, Ordered}
use Rattle.dump_lines.specs.Dumps.{program_line}
use Rattle.script_run.specs.Dumping.{brought_line, command_line}

none_left : {A B : Type 0} (ks : List A) (vs : List B) → (ks ≡ []) ⊎ (vs ≡ []) → zip ks vs ≡ []
none_left [] vs e = refl
none_left (k ∷ ks) [] e = refl
none_left (k ∷ ks) (v ∷ vs) (inl e) = let no : ⊥ = cc in absurd no
none_left (k ∷ ks) (v ∷ vs) (inr e) = let no : ⊥ = cc in absurd no

-- no pair is left, so all are written
pub pair_end : {A B : Type 0} (f : (A × B) → List ℕ) (all text : List ℕ) (ks : List A) (vs : List B)
    → all ≡ text ++ flat_map f (zip ks vs) → (ks ≡ []) ⊎ (vs ≡ []) → text ≡ all
pair_end f all text ks vs is none = sym (is ∙ ap (λ x. text ++ flat_map f x) (none_left ks vs none) ∙ append-nil text)

pub tentative_text : response_text tentative ≡ decimal 504
tentative_text = append-nil (decimal 504)

-- what is written of the first so many entries and then of the next is written of one more
pub one_more : (f : Entry → List ℕ) (before mid now : List ℕ) (entries : List Entry) (i : ℕ) (e d : Entry) → i < length entries → e ≡ get_or entries i d → mid ≡ before ++ flat_map f (take i entries)
    → now ≡ mid ++ f e → now ≡ before ++ flat_map f (take (i + 1) entries)
one_more f before mid now entries i e d inside is first then =
    then ∙ ap (λ (text : List ℕ). text ++ f e) first
    ∙ ap (λ (x : Entry). (before ++ flat_map f (take i entries)) ++ f x) is
    ∙ flat_map_more f before (take i entries) (get_or entries i d)
    ∙ ap (λ (xs : List Entry). before ++ flat_map f xs) (sym (take_more entries i d inside))

-- the same of folded entries, which are written as entries
pub one_folded : (f : Entry → List ℕ) (before mid now : List ℕ) (gone : List Folded) (i : ℕ) (e d : Folded) → i < length gone → e ≡ get_or gone i d
    → mid ≡ before ++ flat_map f (map as_entry (take i gone)) → now ≡ mid ++ f (as_entry e) → now ≡ before ++ flat_map f (map as_entry (take (i + 1) gone))
one_folded f before mid now gone i e d inside is first then =
    then ∙ ap (λ (text : List ℕ). text ++ f (as_entry e)) first
    ∙ ap (λ (x : Folded). (before ++ flat_map f (map as_entry (take i gone))) ++ f (as_entry x)) is
    ∙ flat_map_more f before (map as_entry (take i gone)) (as_entry (get_or gone i d))
    ∙ ap (λ (xs : List Entry). before ++ flat_map f xs)
    (sym (map-append as_entry (take i gone) (get_or gone i d ∷ [])) ∙ ap (map as_entry) (sym (take_more gone i d inside)))

-- what is written of the folded entries and then of the others is written of all entries
both_lines : (f : Entry → List ℕ) (n : ℕ) (entries : List Entry) (before : List ℕ) → (before ++ flat_map f (take n entries)) ++ flat_map f (drop n entries) ≡ before ++ flat_map f entries
both_lines f n entries before =
    append_assoc before (flat_map f (take n entries)) (flat_map f (drop n entries))
    ∙ ap (λ (lines : List ℕ). before ++ lines) (sym (flat_map-append f (take n entries) (drop n entries)) ∙ ap (flat_map f) (take-append-drop n entries))

pub all_lines : {X E : Type 0} (f : Entry → List ℕ) (n : ℕ) (entries : List Entry) (before mid now : List ℕ) (done : Result X E) → mid ≡ before ++ flat_map f (take n entries)
    → OnOk done (now ≡ mid ++ flat_map f (drop n entries)) → OnOk done (now ≡ before ++ flat_map f entries)
all_lines f n entries before mid now (Ok unit) first behind =
    behind ∙ ap (λ (text : List ℕ). text ++ flat_map f (drop n entries)) first ∙ both_lines f n entries before
all_lines f n entries before mid now (Err lacks) first behind = tt

-- ---- programs

-- one more
another : (list : List (List Route)) (p : List Route) → flat_map program_line (list ++ p ∷ []) ≡ flat_map program_line list ++ program_line p
another list p = flat_map-append program_line list (p ∷ []) ∙ ap (λ (b : List ℕ). flat_map program_line list ++ b) (append-nil (program_line p))

none_more : (list : List (List Route)) → flat_map program_line list ≡ flat_map program_line list ++ []
none_more list = sym (append-nil (flat_map program_line list))

command_text : (list : List (List Route)) (c : Command) → flat_map program_line (with_brought list c) ≡ flat_map program_line list ++ command_line c
command_text list (Cancel id) = none_more list
command_text list (Restore id) = none_more list
command_text list (Replace id method path body) = none_more list
command_text list (Create before after q) = none_more list
command_text list (Retry name) = none_more list
command_text list (Fold id) = none_more list
command_text list (Deploy p) = another list p
command_text list (Correct k p) = another list p
command_text list (Rules g) = none_more list

row_text : (list : List (List Route)) (row : Row) → flat_map program_line (brought_step list row) ≡ flat_map program_line list ++ brought_line row
row_text list (Asked a) = none_more list
row_text list (Took t) = none_more list
row_text list (Acked a) = none_more list
row_text list (Answered a) = none_more list
row_text list (WasConfirmed c) = none_more list
row_text list (Sent s) = none_more list
row_text list (SawAck a) = none_more list
row_text list (Noted n) = none_more list
row_text list (SawAnswer a) = none_more list
row_text list (Confirmed c) = none_more list
row_text list (Ordered o) = command_text list o.command

rows_text : (list : List (List Route)) (journal : List Row) → flat_map program_line (fold brought_step list journal) ≡ flat_map program_line list ++ flat_map brought_line journal
rows_text list [] = none_more list
rows_text list (row ∷ rows) =
    rows_text (brought_step list row) rows
    ∙ ap (λ (text : List ℕ). text ++ flat_map brought_line rows) (row_text list row)
    ∙ append_assoc (flat_map program_line list) (brought_line row) (flat_map brought_line rows)

-- what is written of the first program and then of each that an order brought is written of all programs
pub all_programs : {X E : Type 0} (first : List Route) (journal : List Row) (before mid now : List ℕ) (done : Result X E) → mid ≡ before ++ program_line first
    → OnOk done (now ≡ mid ++ flat_map brought_line journal) → OnOk done (now ≡ before ++ flat_map program_line (programs first journal))
all_programs first journal before mid now (Ok unit) is behind =
    let front : flat_map program_line (first ∷ []) ≡ program_line first = append-nil (program_line first) in
    behind ∙ ap (λ (text : List ℕ). text ++ flat_map brought_line journal) is
    ∙ append_assoc before (program_line first) (flat_map brought_line journal)
    ∙ ap (λ (lines : List ℕ). before ++ lines)
    (sym (rows_text (first ∷ []) journal ∙ ap (λ (text : List ℕ). text ++ flat_map brought_line journal) front))
all_programs first journal before mid now (Err lacks) is behind = tt
