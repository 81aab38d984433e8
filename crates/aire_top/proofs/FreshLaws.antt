-- A world that begins with services which know each other is sound, nothing is repaired in it yet, and each message in it has a receiver.
use Rattle.std.proofs.Common.{◌≡◌, ℕ, ◌<◌, Bool, true, false, List, [], ◌∷◌, Option, Some, IsSome, All, length, map, not, cond, refl, sym, ap, subst, ◌∙◌, arith}
use Rattle.std.specs.List.{IsDistinct}
use Rattle.std.specs.Cmp.Lexicographic.{bytes_decides}
use Rattle.std.proofs.lemmas.List.{get_or-map, length-map}
use Rattle.std.proofs.lemmas.List.Elements.{All-nil, All-cons, All-filter, All-map, All-weaker}
use Rattle.std.proofs.lemmas.Map.Made.{AllPairs-from_IsDistinct}
use Rattle.lang_base.specs.Texts.{same_text}
use Rattle.service_events.specs.State.{Kept, me}
use Rattle.service_events.specs.Fits.{Fits}
use Rattle.service_events.proofs.StartLaw.{fits_start}
use Rattle.world_agreement.specs.Partners.{HasPartner, NamesDiffer, has_name, service_of}
use Rattle.world_events.specs.Live.{IsLiveWorld}
use Rattle.world_events.specs.Reach.{ArePeered, CallsPeers, GoesTo, IsReached}
use Rattle.world_events.specs.Sound.{IsSound}
use Rattle.script_run.proofs.HandedOn.{fresh_live, fresh_sound}
use Rattle.world_file.specs.Worlds.{IsAmong, KnowEachOther, name_of}
use Rattle.world_file.specs.declared.setup.Setup.{Setup}
use Rattle.aire_top.specs.Fresh.{fresh, fresh_service}

-- ---- names

pub fresh_names : (setups : List Setup) → map me (map fresh_service setups) ≡ map name_of setups
fresh_names [] = refl
fresh_names (setup ∷ setups) = ap (λ (names : List (List ℕ)). name_of setup ∷ names) (fresh_names setups)

differ_by_names : (services : List Kept) → IsDistinct same_text (map me services) → NamesDiffer services
differ_by_names services distinct = λ i j d before inside same.
    let there : j < length (map me services) = rw (length-map services me) inside in
    let first = get_or-map me services i d (me d) (omega (arith, before, inside)) in
    let second = get_or-map me services j d (me d) inside in
    AllPairs-from_IsDistinct bytes_decides (map me services) distinct i j (me d) before there (first ∙ same ∙ sym second)

pub names_differ : (setups : List Setup) → KnowEachOther setups → NamesDiffer (map fresh_service setups)
names_differ setups know =
    let D : List (List ℕ) → Type 0 = λ names. IsDistinct same_text names in differ_by_names (map fresh_service setups) (subst D (sym (fresh_names setups)) know.apart)

-- ---- peers

abbrev IsThere : List Kept → List ℕ → Type 0
IsThere services name = IsSome (service_of name services)

one_more : (b : Bool) (s : Kept) (o : Option Kept) → IsSome o → IsSome (cond b (Some s) o)
one_more true s o there = refl
one_more false s o there = there

all_there : (services : List Kept) → All (IsThere services) (map me services)
all_there [] = All-nil (IsThere [])
all_there (s ∷ services) =
    let itself : same_text (me s) (me s) ≡ true = (bytes_decides (me s) (me s)).1 refl in
    let first : IsThere (s ∷ services) (me s) = rw itself refl in
    let more = All-weaker (IsThere services) (IsThere (s ∷ services)) (λ name there. one_more (has_name name s) s (service_of name services) there) (map me services) (all_there services) in
    All-cons (IsThere (s ∷ services)) (me s) (map me services) first more

peers_there : (P : List ℕ → Type 0) (names : List (List ℕ)) → All P names → (setup : Setup) → IsAmong names setup → All P setup.setting.peers
peers_there P names all setup among =
    let A : List (List ℕ) → Type 0 = λ peers. All P peers in subst A (sym among) (All-filter (λ name. not (same_text name (name_of setup))) P names all)

pub peered : (setups : List Setup) → KnowEachOther setups → ArePeered (map fresh_service setups)
peered setups know =
    let services = map fresh_service setups in
    let A : List (List ℕ) → Type 0 = λ names. All (IsThere services) names in
    let all = subst A (fresh_names setups) (all_there services) in
    All-map (λ (s : Kept). All (IsThere services) s.setting.peers) fresh_service setups
    (All-weaker (IsAmong (map name_of setups)) (λ (setup : Setup). All (IsThere services) setup.setting.peers) (λ setup among. peers_there (IsThere services) (map name_of setups) all setup among) setups know.peers)

-- ---- what is fresh

each_fresh : (P : Kept → Type 0) → ((setup : Setup) → P (fresh_service setup)) → (setups : List Setup) → All P (map fresh_service setups)
each_fresh P holds [] = All-nil P
each_fresh P holds (setup ∷ setups) = All-cons P (fresh_service setup) (map fresh_service setups) (holds setup) (each_fresh P holds setups)

pub setups_sound : (setups : List Setup) → KnowEachOther setups → IsSound (fresh setups)
setups_sound setups know =
    let services = map fresh_service setups in
    fresh_sound services (names_differ setups know)
    (each_fresh Fits (λ setup. fits_start setup.setting setup.rules) setups)
    (each_fresh (λ (s : Kept). All (HasPartner services s) s.journal) (λ setup. All-nil (HasPartner services (fresh_service setup))) setups)
    (each_fresh (λ (s : Kept). s.flights ≡ []) (λ setup. refl) setups)

pub setups_live : (setups : List Setup) → IsLiveWorld (fresh setups)
setups_live setups =
    fresh_live (map fresh_service setups)
    (each_fresh (λ (s : Kept). s.journal ≡ []) (λ setup. refl) setups)
    (each_fresh (λ (s : Kept). s.flights ≡ []) (λ setup. refl) setups)

pub setups_reached : (setups : List Setup) → KnowEachOther setups → IsReached (fresh setups)
setups_reached setups know = record {
  peered = peered setups know;
  calls = each_fresh CallsPeers (λ setup. All-nil (GoesTo setup.setting.peers)) setups;
}
