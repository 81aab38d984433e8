-- Where services had answered nothing when they were opened, what journals answer since then is all that they answer.
use Rattle.std.proofs.Common.{◌≡◌, ℕ, zero, suc, List, [], ◌∷◌, Option, Some, None, get_or, map, refl, sym, subst, arith}
use Rattle.std.specs.List.{position}
use Rattle.std.specs.Option.{option_map_or}
use Rattle.lang_base.specs.Texts.{same_text}
use Rattle.journal_rows.specs.declared.verdict.Verdict.{Verdict}
use Rattle.service_events.specs.State.{Kept, me}
use Rattle.world_file.specs.declared.setup.Setup.{Setup}
use Rattle.node_run.specs.Ends.{IsGoodEnd, IsGoodEndSince}
use Rattle.node_run.specs.HandedOn.{Agrees, AgreesSince, IsWhole, IsWholeSince, Receipt, opened_at, since_of}
use Rattle.aire_top.specs.Fresh.{fresh_service}

-- journals count from their first rows on
abbrev AreFromStart : List ℕ → Type 0
AreFromStart since = (k : ℕ) → get_or since k 0 ≡ 0

fresh_from : (setups : List Setup) → AreFromStart (opened_at (map fresh_service setups))
fresh_from [] k = refl
fresh_from (setup ∷ setups) zero = refl
fresh_from (setup ∷ setups) (suc k) = fresh_from setups k

-- those of new services do
from_start : (setups : List Setup) (services : List Kept) → services ≡ map fresh_service setups → AreFromStart (opened_at services)
from_start setups services fresh = subst (λ (all : List Kept). AreFromStart (opened_at all)) (sym fresh) (fresh_from setups)

whole_from : (since : List ℕ) (services : List Kept) (receipts : List Receipt) → AreFromStart since → IsWholeSince since services receipts → IsWhole services receipts
whole_from since services receipts start whole = record {
  agree = λ at r there. (whole.agree at r there).0;
  each = λ k s place row here there live. whole.each k s place row here (let none = start k in omega (arith, none)) there live;
  once = whole.once;
}

pub good_from : (setups : List Setup) (opened services : List Kept) (receipts : List Receipt) (verdict : Verdict) → opened ≡ map fresh_service setups
    → IsGoodEndSince (opened_at opened) setups services receipts verdict → IsGoodEnd setups services receipts verdict
good_from setups opened services receipts verdict fresh end = record {
  set_so = end.set_so;
  fits = end.fits;
  allowed = end.allowed;
  replayed = end.replayed;
  whole = whole_from (opened_at opened) services receipts (from_start setups opened fresh) end.whole;
  sealed = end.sealed;
  judged = end.judged;
  legal = end.legal;
}

since_none : (setups : List Setup) (opened services : List Kept) (name : List ℕ) → opened ≡ map fresh_service setups → since_of name (opened_at opened) services ≡ 0
since_none setups opened services name fresh = by (position (λ (s : Kept). same_text (me s) name) services)
  where
    by : (place : Option ℕ) → option_map_or (λ (n : ℕ). get_or (opened_at opened) n 0) place 0 ≡ 0
    by None = refl
    by (Some n) = from_start setups opened fresh n

-- no answer is one of before
pub agrees_from : (setups : List Setup) (opened services : List Kept) (r : Receipt) → opened ≡ map fresh_service setups → Agrees services r
    → AgreesSince (opened_at opened) services r
agrees_from setups opened services r fresh agrees =
    (agrees, (let none = since_none setups opened services r.service fresh in omega (arith, none)))
