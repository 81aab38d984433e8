-- Entries of a log: which are alive, and which has a number or comes from a call.
use Rattle.std.specs.Prelude.{ℕ, ◌≡◌, ◌≤◌, Bool, ◌&&◌, not, List, [], ◌∷◌, Option, Some, None, nat_eq, length, find, slice_set, option_map, IsSomeAnd, if◌then◌else◌, map}
use Rattle.std.specs.List.{position_or_len}
use Rattle.lang_core.specs.HandedOn.{Method}
use Rattle.lang_core.specs.Origins.{is_call}
use Rattle.lang_core.specs.declared.ids.Origin.{Origin}
use Rattle.lang_core.specs.declared.ids.Origin.TheVariants.{Outside, Call}
use Rattle.lang_core.specs.declared.request.Request.{Request}
use Rattle.lang_programs.specs.Numbered.{Numbered}
use Rattle.lang_programs.specs.Under.{corrected_under, settled}
use Rattle.request_log.specs.declared.entry.Entry.{Entry}
use Rattle.request_log.specs.declared.entry.Made.{Made}
use Rattle.request_log.specs.declared.folded.Folded.{Folded}

-- its origin wants it, and no order has struck it
abbrev pub is_alive : Entry → Bool
is_alive e = e.wanted && not e.struck

-- the entry has this number
abbrev pub has_id : ℕ → Entry → Bool
has_id id e = nat_eq e.id id

-- the entry comes from this call
abbrev pub has_origin : List ℕ → ℕ → Entry → Bool
has_origin caller number e = is_call caller number e.origin

-- the entry that comes from the same call, if one does
abbrev pub find_call : Origin → List Entry → Option Entry
find_call Outside entries = None
find_call (Call caller number) entries = find (has_origin caller number) entries

-- no entry has this one's number, and none its origin where that is a call
pub record IsNew (entry : Entry) (entries : List Entry) : Type 0 where
  pub id : find (has_id entry.id) entries ≡ None
  pub origin : find_call entry.origin entries ≡ None

-- each is new to those after it: no number stands twice, and no call
abbrev pub IsDistinct : List Entry → Type 0
IsDistinct [] = Unit {0}
IsDistinct (e ∷ es) = IsNew e es × IsDistinct es

-- an entry of this number is there, and has the same origin
abbrev pub IsKnown : Entry → List Entry → Type 0
IsKnown entry entries = IsSomeAnd (find (has_id entry.id) entries) (λ old. old.origin ≡ entry.origin)

-- with this in place of the entry of its number
abbrev pub with_entry : Entry → List Entry → List Entry
with_entry entry entries = slice_set entries (position_or_len (has_id entry.id) entries) entry

-- an entry after one more run: its record, which is made under the entry's own program, its slots, the version of its answer, and how often it ran
abbrev pub with_run : Made → List ℕ → ℕ → ℕ → Entry → Entry
with_run made slots answer_version runs e =
    record e { under = settled e.under; made = Some made; slots = slots; answer_version = answer_version; runs = runs }

-- struck, or not any more
abbrev pub mark : Bool → Entry → Entry
mark struck e = record e { struck = struck }

-- another method, path and body; who asked and the chain stay
abbrev pub with_call : Method → List ℕ → List ℕ → Request → Request
with_call method path body q = record q { method = method; path = path; body = body }

-- the entry, with another request
abbrev pub asking : Request → Entry → Entry
asking q e = record e { request = q }

abbrev pub replace : Method → List ℕ → List ℕ → Entry → Entry
replace method path body e = asking (with_call method path body e.request) e

-- the entries, where the one of this number is changed so
abbrev pub changed : ℕ → (Entry → Entry) → List Entry → List Entry
changed id change entries = map (λ e. if has_id id e then change e else e) entries

-- the request of the entry of a number, if there is one
abbrev pub request_at : ℕ → List Entry → Option Request
request_at id entries = option_map (λ (e : Entry). e.request) (find (has_id id) entries)

-- where this request is the entry's own with another method, path and body, the entry of the number is replaced so
abbrev pub AreReplaced : ℕ → Request → List Entry → List Entry → Type 0
AreReplaced id q old new = (method : Method) (path body : List ℕ)
    → option_map (with_call method path body) (request_at id old) ≡ Some q
    → new ≡ changed id (replace method path body) old

-- the entry's program has this number
abbrev pub has_program : ℕ → Entry → Bool
has_program number e = nat_eq e.under.now.number number

-- the entry with this program; its record stays what it was made under
abbrev pub with_correction : Numbered → Entry → Entry
with_correction program e = record e { under = corrected_under program e.under }

-- an entry once this program stands in place of that of a number
abbrev pub corrected : ℕ → Numbered → Entry → Entry
corrected number program e = if has_program number e then with_correction program e else e

-- a log: its folded entries in order, and behind them the others
pub record KeptLog : Type 0 where
  pub folded : List Folded
  pub entries : List Entry

-- what each log keeps
pub record IsLog (entries : List Entry) : Type 0 where
  pub distinct : IsDistinct entries
  pub few : length entries ≤ 100000
