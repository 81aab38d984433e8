-- Where nothing is refused, a message's services have names and its chain is one.
use Rattle.std.proofs.Common.{◌≡◌, ℕ, Bool, true, false, List, [], ◌∷◌, None, IsTrue, map, ap, sym, ◌∙◌, ◌==◌}
use Rattle.std.specs.List.{All, list_all, slice_split}
use Rattle.std.proofs.lemmas.List.Folds.{list_all-map}
use Rattle.std.proofs.lemmas.List.Sums.{AllPass-from_list_all}
use Rattle.lang_core.specs.Names.{is_name}
use Rattle.http_header.specs.FieldValue.{FieldValue}
use Rattle.http_header.specs.HeaderMap.{Entries}
use Rattle.http_front.specs.declared.header.AireHeader.TheVariants as headers
use Rattle.http_front.specs.declared.message.WireRequest.{WireRequest}
use Rattle.wire_fields.specs.Fits.{AreNamed, IsChained}
use Rattle.wire_fields.specs.Forms.{is_chain}
use Rattle.wire_fields.specs.Rows.{call_headers, fetch_headers, first_refusal, set_headers, token_headers}
use Rattle.wire_fields.specs.Secrets.{Secrets}
use Rattle.wire_fields.proofs.FormLemmas.{good_last, named_first, neither}
use Rattle.aire_wire.specs.Incoming.{call_refusal, desired_refusal, fetch_refusal, is_deletion, set_refusal, token_refusal}

pub call_is_good : (me : List ℕ) (peers : Secrets) (request : WireRequest) → call_refusal me peers request ≡ None → AreNamed request.head × IsChained request.head
call_is_good me peers request none =
    let head = request.head in
    let fields : first_refusal head true call_headers ≡ None = (neither _ _ (neither _ _ none).0).0 in (
      named_first head (headers.ResponseId ∷ headers.NotifierUrl ∷ headers.Who ∷ headers.Chain ∷ []) fields,
      good_last head (headers.From ∷ headers.Dest ∷ headers.ResponseId ∷ headers.NotifierUrl ∷ headers.Who ∷ []) headers.Chain fields,
    )

chained : (head : Entries FieldValue) (deletion : Bool) → desired_refusal deletion head ≡ None → deletion ≡ false → IsChained head
chained head true none is = cc
chained head false none is = good_last head (headers.Method ∷ headers.Path ∷ headers.RequestWho ∷ []) headers.Chain none

pub set_is_good : (me : List ℕ) (peers : Secrets) (request : WireRequest) → set_refusal me peers request ≡ None
    → AreNamed request.head × (is_deletion request.head ≡ false → IsChained request.head)
set_is_good me peers request none =
    let head = request.head in
    let fields = neither (first_refusal head true set_headers) _ (neither _ _ none).0 in (
      named_first head (headers.ResponseId ∷ headers.Repair ∷ headers.Version ∷ headers.Who ∷ []) fields.0,
      chained head (is_deletion head) (neither (desired_refusal (is_deletion head) head) _ fields.1).0,
    )

pub token_is_good : (me : List ℕ) (peers : Secrets) (request : WireRequest) → token_refusal me peers request ≡ None → AreNamed request.head
token_is_good me peers request none =
    let others = headers.RequestId ∷ headers.ResponseId ∷ headers.Repair ∷ headers.AnswerVersion ∷ headers.Who ∷ [] in
    named_first request.head others (neither (first_refusal request.head true token_headers) _ (neither _ _ none).0).0

pub fetch_is_good : (me : List ℕ) (peers : Secrets) (request : WireRequest) → fetch_refusal me peers request ≡ None → AreNamed request.head
fetch_is_good me peers request none =
    let others = headers.ResponseId ∷ headers.AnswerVersion ∷ [] in
    named_first request.head others (neither (first_refusal request.head true fetch_headers) _ (neither _ _ none).0).0

-- the pieces of a chain are names
pub all_names : {X : Type 0} (text : X → List ℕ) (pieces : List X) (chain : List ℕ) → map text pieces ≡ slice_split (λ b. b == 44) chain → IsTrue (is_chain chain)
    → All (λ piece. IsTrue (is_name (text piece))) pieces
all_names text pieces chain are is =
    AllPass-from_list_all (λ piece. is_name (text piece)) pieces (sym (list_all-map is_name text pieces) ∙ ap (list_all is_name) are ∙ is)
