-- What entries behind the folded ones become where the log changes behind the horizon.
use Rattle.std.proofs.Common.{◌≡◌, ℕ, zero, suc, ◌+◌, ◌≤◌, Bool, false, List, [], ◌∷◌, ◌++◌, All, map, length, take, drop, Some, None, find, insert, nat_eq, refl, sym, ap, ◌∙◌, subst, arith, append_assoc, take-append-drop, max}
use Rattle.std.specs.List.{position_or_len}
use Rattle.std.proofs.lemmas.List.Elements.{All-append, All-cons, All-drop, All-push, All-take}
use Rattle.request_log.specs.Entries.{has_id, IsDistinct, with_entry, changed}
use Rattle.request_log.specs.declared.entry.Entry.{Entry}
use Rattle.local_repair.specs.Current.{AllRuns}
use Rattle.service_events.specs.State.{Kept, folded, unfolded}
use Rattle.service_events.proofs.EntryPlaces.{set_later}
use Rattle.service_events.proofs.LogLemmas.{front_id}
use Rattle.service_events.proofs.RunLemmas.{HasRun}
use Rattle.service_events.proofs.SearchLemmas.{none_first, splits}
use Rattle.std.proofs.lemmas.List.{take-append-le, drop-append-le}

-- ---- searches in the first elements and behind them

pub none_front : {X : Type 0} (p : X → Bool) (xs ys : List X) → find p (xs ++ ys) ≡ None → find p xs ≡ None
none_front p [] ys h = refl
none_front p (x ∷ xs) ys h = (let parts = none_first (p x) x (find p (xs ++ ys)) h in rw parts.0 (none_front p xs ys parts.1))

-- what isn't among the first is found behind them
pub find_skips : {X : Type 0} (p : X → Bool) (xs ys : List X) → find p xs ≡ None → find p (xs ++ ys) ≡ find p ys
find_skips p [] ys h = refl
find_skips p (x ∷ xs) ys h = (let parts = none_first (p x) x (find p xs) h in rw parts.0 (find_skips p xs ys parts.1))

-- an element behind the first ones has a number that none of these has
pub number_behind : (front back : List Entry) (p : Entry → Bool) (e : Entry) → IsDistinct (front ++ back) → find p back ≡ Some e → find (has_id e.id) front ≡ None
number_behind front back p e apart found =
    let s = splits p back e found in
    let D : List Entry → Type 0 = λ l. IsDistinct l in
    let split : front ++ back ≡ (front ++ s.before) ++ e ∷ s.rest = ap (λ l. front ++ l) s.is ∙ sym (append_assoc front s.before (e ∷ s.rest)) in
    none_front (has_id e.id) front s.before (front_id (front ++ s.before) e s.rest (subst D split apart))

-- ---- an entry in the place of another one

pub with_later : (x e : Entry) (es : List Entry) → nat_eq e.id x.id ≡ false → with_entry x (e ∷ es) ≡ e ∷ with_entry x es
with_later x e es differs = rw differs (set_later e x es (position_or_len (has_id x.id) es))

with_front : (h : ℕ) (es : List Entry) (x : Entry) → find (has_id x.id) (take h es) ≡ None → take h (with_entry x es) ≡ take h es
with_front zero es x none = refl
with_front (suc h) [] x none = refl
with_front (suc h) (e ∷ es) x none =
    let parts = none_first (has_id x.id e) e (find (has_id x.id) (take h es)) none in
    ap (take (suc h)) (with_later x e es parts.0) ∙ ap (λ l. e ∷ l) (with_front h es x parts.1)

with_behind : (h : ℕ) (es : List Entry) (x : Entry) → find (has_id x.id) (take h es) ≡ None → drop h (with_entry x es) ≡ with_entry x (drop h es)
with_behind zero es x none = refl
with_behind (suc h) [] x none = refl
with_behind (suc h) (e ∷ es) x none =
    let parts = none_first (has_id x.id e) e (find (has_id x.id) (take h es)) none in
    ap (drop (suc h)) (with_later x e es parts.0) ∙ with_behind h es x parts.1

-- ---- entries that are changed

changed_front : (h : ℕ) (es : List Entry) (id : ℕ) (f : Entry → Entry) → find (has_id id) (take h es) ≡ None → take h (changed id f es) ≡ take h es
changed_front zero es id f none = refl
changed_front (suc h) [] id f none = refl
changed_front (suc h) (e ∷ es) id f none =
    (let parts = none_first (has_id id e) e (find (has_id id) (take h es)) none in rw parts.0 (ap (λ l. e ∷ l) (changed_front h es id f parts.1)))

changed_behind : (h : ℕ) (es : List Entry) (id : ℕ) (f : Entry → Entry) → drop h (changed id f es) ≡ changed id f (drop h es)
changed_behind zero es id f = refl
changed_behind (suc h) [] id f = refl
changed_behind (suc h) (e ∷ es) id f = changed_behind h es id f

-- ---- one entry more

insert_front : (h at : ℕ) (es : List Entry) (x : Entry) → h ≤ at → h ≤ length es → take h (insert es at x) ≡ take h es
insert_front zero at es x low few = refl
insert_front (suc h) zero es x low few = absurd (omega (arith, low))
insert_front (suc h) (suc at) [] x low few = absurd (omega (arith, few))
insert_front (suc h) (suc at) (e ∷ es) x low few = ap (λ l. e ∷ l) (insert_front h at es x (omega (arith, low)) (omega (arith, few)))

insert_behind : (h at : ℕ) (es : List Entry) (x : Entry) → h ≤ at → h ≤ length es → (k : ℕ) × (drop h (insert es at x) ≡ insert (drop h es) k x)
insert_behind zero at es x low few = (at, refl)
insert_behind (suc h) zero es x low few = absurd (omega (arith, low))
insert_behind (suc h) (suc at) [] x low few = absurd (omega (arith, few))
insert_behind (suc h) (suc at) (e ∷ es) x low few = insert_behind h at es x (omega (arith, low)) (omega (arith, few))

-- ---- the first ones changed each

pub mapped_front : {X : Type 0} (f : X → X) (k : ℕ) (xs : List X) → take k (map f (take k xs) ++ drop k xs) ≡ map f (take k xs)
mapped_front f zero xs = refl
mapped_front f (suc k) [] = refl
mapped_front f (suc k) (x ∷ xs) = ap (λ l. f x ∷ l) (mapped_front f k xs)

pub mapped_behind : {X : Type 0} (f : X → X) (k : ℕ) (xs : List X) → drop k (map f (take k xs) ++ drop k xs) ≡ drop k xs
mapped_behind f zero xs = refl
mapped_behind f (suc k) [] = refl
mapped_behind f (suc k) (x ∷ xs) = mapped_behind f k xs

-- ---- of a service

-- a place that is at least the horizon
pub behind_horizon : (s : Kept) (at : ℕ) → s.horizon ≤ max s.horizon at
behind_horizon s at = omega arith

-- all entries are the folded ones and the others
pub all_entries : (s : Kept) → folded s ++ unfolded s ≡ s.entries
all_entries s = take-append-drop s.horizon s.entries

-- an entry that is found and isn't folded stands behind
pub found_past : (s : Kept) (p : Entry → Bool) → find p (folded s) ≡ None → find p s.entries ≡ find p (unfolded s)
found_past s p none = ap (find p) (sym (all_entries s)) ∙ find_skips p (folded s) (unfolded s) none

-- an entry that stands behind has a number of its own
pub number_past : (s : Kept) (p : Entry → Bool) (e : Entry) → IsDistinct s.entries → find p (unfolded s) ≡ Some e → find (has_id e.id) (folded s) ≡ None
number_past s p e apart found = (let D : List Entry → Type 0 = λ l. IsDistinct l in number_behind (folded s) (unfolded s) p e (subst D (sym (all_entries s)) apart) found)

pub with_stays : (s : Kept) (x : Entry) → find (has_id x.id) (folded s) ≡ None → take s.horizon (with_entry x s.entries) ≡ folded s
with_stays s x none = with_front s.horizon s.entries x none

pub with_unfolded : (s : Kept) (x : Entry) → find (has_id x.id) (folded s) ≡ None → drop s.horizon (with_entry x s.entries) ≡ with_entry x (unfolded s)
with_unfolded s x none = with_behind s.horizon s.entries x none

pub changed_stays : (s : Kept) (id : ℕ) (f : Entry → Entry) → find (has_id id) (folded s) ≡ None → take s.horizon (changed id f s.entries) ≡ folded s
changed_stays s id f none = changed_front s.horizon s.entries id f none

pub changed_unfolded : (s : Kept) (id : ℕ) (f : Entry → Entry) → drop s.horizon (changed id f s.entries) ≡ changed id f (unfolded s)
changed_unfolded s id f = changed_behind s.horizon s.entries id f

pub insert_stays : (s : Kept) (at : ℕ) (x : Entry) → s.horizon ≤ at → s.horizon ≤ length s.entries → take s.horizon (insert s.entries at x) ≡ folded s
insert_stays s at x low few = insert_front s.horizon at s.entries x low few

pub push_stays : (s : Kept) (x : Entry) → s.horizon ≤ length s.entries → take s.horizon (s.entries ++ x ∷ []) ≡ folded s
push_stays s x few = take-append-le s.horizon s.entries (x ∷ []) few

pub push_unfolded : (s : Kept) (x : Entry) → s.horizon ≤ length s.entries → drop s.horizon (s.entries ++ x ∷ []) ≡ unfolded s ++ x ∷ []
push_unfolded s x few = drop-append-le s.horizon s.entries (x ∷ []) few

-- what holds of each holds of each with one more
pub all_inserted : (P : Entry → Type 0) (s : Kept) (at : ℕ) (x : Entry) → s.horizon ≤ at → s.horizon ≤ length s.entries → P x → All P (unfolded s)
    → All P (drop s.horizon (insert s.entries at x))
all_inserted P s at x low few here all =
    let k = insert_behind s.horizon at s.entries x low few in
    let es = unfolded s in
    subst (All P) (sym k.1) (All-append P (take k.0 es) (x ∷ drop k.0 es) (All-take P k.0 es all) (All-cons P x (drop k.0 es) here (All-drop P k.0 es all)))

-- ---- records are what runs gave

pub runs_put : (s : Kept) (at : ℕ) (x : Entry) → s.horizon ≤ at → s.horizon ≤ length s.entries → HasRun s.setting x → AllRuns s.setting (unfolded s)
    → AllRuns s.setting (drop s.horizon (insert s.entries at x))
runs_put s at x low few here runs =
    all_inserted (HasRun s.setting) s at x low few here runs

pub runs_push : (s : Kept) (x : Entry) → s.horizon ≤ length s.entries → HasRun s.setting x → AllRuns s.setting (unfolded s)
    → AllRuns s.setting (drop s.horizon (s.entries ++ x ∷ []))
runs_push s x few here runs =
    (let R : List Entry → Type 0 = λ l. AllRuns s.setting l in subst R (sym (push_unfolded s x few)) (All-push (HasRun s.setting) (unfolded s) x runs here))
