-- A created entry, and where it goes in a log.
use Rattle.std.specs.Prelude.{ℕ, ◌≡◌, ◌+◌, Bool, true, false, if◌then◌else◌, is_some, List, [], ◌∷◌, ◌++◌, length, Option, Some, None, unwrap_or, find, position, insert}
use Rattle.request_log.specs.Entries.{has_id}
use Rattle.request_log.specs.Folded.{has_number}
use Rattle.request_log.specs.HandedOn.{Inputs, Numbered, Request, under_of}
use Rattle.request_log.specs.declared.entry.Entry.{Entry}
use Rattle.request_log.specs.declared.folded.Folded.{Folded}
use Rattle.request_log.specs.HandedOn.{Outside}

-- an entry from outside, under this program, that never ran
abbrev pub created : ℕ → Request → Inputs → Numbered → Entry
created id request inputs program =
    record {
      id = id;
      origin = Outside;
      version = 0;
      request = request;
      wanted = true;
      struck = false;
      inputs = inputs;
      under = under_of program;
      made = None;
      slots = [];
      answer_version = 0;
      runs = 0;
    }

-- the place of the entry of this number, where one is given and known
abbrev pub known_place : Option ℕ → List Entry → Option ℕ
known_place None entries = None
known_place (Some id) entries = position (has_id id) entries

-- directly behind this place, or else at the end
abbrev pub behind_or : Option ℕ → ℕ → ℕ
behind_or None end = end
behind_or (Some at) end = at + 1

-- at the entry `before` where it is known, else behind the entry `after` where that is known, else at the end. Definitions alone ask this, of
-- all entries of a service; code asks `place_among`, and that both are one place is proved of services (`place_behind_all`)
abbrev pub place_between : Option ℕ → Option ℕ → List Entry → ℕ
place_between before after entries = unwrap_or (known_place before entries) (behind_or (known_place after entries) (length entries))

-- ---- in a log of which the first entries are folded

-- an entry of this number is folded, where one is given
abbrev pub names_folded : Option ℕ → List Folded → Bool
names_folded None folded = false
names_folded (Some id) folded = is_some (find (has_number id) folded)

-- at the front where the entry `after` is folded, else behind it where it is known, else at the end
abbrev pub place_behind : Option ℕ → List Folded → List Entry → ℕ
place_behind after folded entries = if names_folded after folded then 0 else behind_or (known_place after entries) (length entries)

-- among those that aren't folded: at the front where the entry `before` is folded, else at it where it is known, else as `after` says
abbrev pub place_among : Option ℕ → Option ℕ → List Folded → List Entry → ℕ
place_among before after folded entries =
    if names_folded before folded then 0 else unwrap_or (known_place before entries) (place_behind after folded entries)

-- ---- the same, by what stands beside the entry that is put there

-- the entry of this number, where one is given and known
abbrev pub named : Option ℕ → List Entry → Option Entry
named None entries = None
named (Some id) entries = find (has_id id) entries

-- what is put at this place stands directly before this entry
pub record StandsBefore (next : Entry) (at : ℕ) (entries : List Entry) : Type 0 where
  pub front : List Entry
  pub back : List Entry
  pub whole : entries ≡ front ++ next ∷ back
  pub put : (entry : Entry) → insert entries at entry ≡ front ++ entry ∷ (next ∷ back)

-- what is put at this place stands directly behind this entry
pub record StandsBehind (last : Entry) (at : ℕ) (entries : List Entry) : Type 0 where
  pub front : List Entry
  pub back : List Entry
  pub whole : entries ≡ front ++ last ∷ back
  pub put : (entry : Entry) → insert entries at entry ≡ front ++ last ∷ (entry ∷ back)

-- what is put at this place stands first
abbrev pub StandsFirst : ℕ → List Entry → Type 0
StandsFirst at entries = (entry : Entry) → insert entries at entry ≡ entry ∷ entries

-- what is put at this place stands last
abbrev pub StandsLast : ℕ → List Entry → Type 0
StandsLast at entries = (entry : Entry) → insert entries at entry ≡ entries ++ entry ∷ []

-- first where the one entry is folded, else before it where it is known; else first where the other is folded, else behind it where that is
-- known, else last
abbrev pub IsPlaced : Bool → Option Entry → Bool → Option Entry → ℕ → List Entry → Type 0
IsPlaced true next past last at entries = StandsFirst at entries
IsPlaced false (Some next) past last at entries = StandsBefore next at entries
IsPlaced false None true last at entries = StandsFirst at entries
IsPlaced false None false (Some last) at entries = StandsBehind last at entries
IsPlaced false None false None at entries = StandsLast at entries
