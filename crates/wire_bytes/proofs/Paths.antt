-- A request that bytes spell goes to a path.
use Rattle.std.proofs.Common.{◌≡◌, ℕ, Bool, true, false, cond, inl, inr, List, Option, Some, None, Result, Ok, Err, length, refl, sym, ap, ◌∙◌}
use Rattle.lang_tree.specs.Forms.{is_path}
use Rattle.lang_tree.specs.Methods.{method_named}
use Rattle.lang_tree.specs.declared.method.Method.{Method}
use Rattle.http_header.specs.FieldValue.{FieldValue}
use Rattle.http_header.specs.HeaderMap.{Entries}
use Rattle.http_front.specs.Fields.{head_of}
use Rattle.http_front.specs.Lengths.{body_length}
use Rattle.http_front.specs.Reading.{SpellsRequest, body_behind, request_behind, request_with}
use Rattle.http_front.specs.Requests.{StartsRequest, started}
use Rattle.http_front.specs.declared.message.FrontRefused.{FrontRefused}
use Rattle.http_front.specs.declared.message.FrontRefused.TheVariants.{BadHead}
use Rattle.http_front.specs.declared.message.WireRequest.{WireRequest}
use Rattle.http_front.specs.declared.request_head.RequestStart.{RequestStart}

started_path : (method : Option Method) (path : List ℕ) (head : Entries FieldValue) (long : Result ℕ FrontRefused) (start : RequestStart)
    → started method path head long ≡ Ok start → start.path ≡ path
started_path None path head long start is = cc
started_path (Some method) path head (Err why) start is = cc
started_path (Some method) path head (Ok n) start is =
    let made : RequestStart = record { method = method; path = path; head = head; length = n } in
    let it : made ≡ start = cc in
    sym (ap (λ (s : RequestStart). s.path) it)

path_by : (good : Bool) (method : Option Method) (path : List ℕ) (head : Entries FieldValue) (long : Result ℕ FrontRefused) (start : RequestStart)
    → is_path path ≡ good → cond good (started method path head long) (Err BadHead) ≡ Ok start → is_path start.path ≡ true
path_by true method path head long start good is = ap is_path (started_path method path head long start is) ∙ good
path_by false method path head long start good is = cc

start_path : (bytes : List ℕ) (start : RequestStart) → StartsRequest bytes (Ok start) → is_path start.path ≡ true
start_path bytes start (inl none) = let never = none.1 in cc
start_path bytes start (inr found) =
    let head = found.0 in
    path_by (is_path head.target) (method_named head.method) head.target (head_of head.fields) (body_length (head_of head.fields)) start refl (sym found.2)

with_path : (start : RequestStart) (body : Result (List ℕ) FrontRefused) (request : WireRequest) → request_with start body ≡ Ok request → request.path ≡ start.path
with_path start (Err why) request is = cc
with_path start (Ok text) request is =
    let made : WireRequest = record { method = start.method; path = start.path; head = start.head; body = text } in
    let it : made ≡ request = cc in
    sym (ap (λ (r : WireRequest). r.path) it)

behind_path : (head behind left : List ℕ) (start : Result RequestStart FrontRefused) (request : WireRequest) → StartsRequest head start
    → request_behind (length head) behind start ≡ (Ok request, left) → is_path request.path ≡ true
behind_path head behind left (Err why) request starts is = let never = ap (λ (p : Result WireRequest FrontRefused × List ℕ). p.0) is in cc
behind_path head behind left (Ok start) request starts is =
    let made = ap (λ (p : Result WireRequest FrontRefused × List ℕ). p.0) is in
    ap is_path (with_path start (body_behind (length head) start.length behind) request made) ∙ start_path head start starts

pub path_read : (bytes : List ℕ) (request : WireRequest) (left : List ℕ) → SpellsRequest bytes (Ok request) left → is_path request.path ≡ true
path_read bytes request left (inl unread) = let never = unread.1 in cc
path_read bytes request left (inr found) = behind_path found.0 found.1 left found.3.0 request found.3.1 found.3.2
