-- A request that was sealed with parts that are others in other words.
use Rattle.std.proofs.Common.{◌≡◌, ℕ, List, Result, sym}
use Rattle.std.specs.Result.{IfOk}
use Rattle.http_header.specs.FieldValue.{FieldValue}
use Rattle.http_header.specs.HeaderMap.{Entries}
use Rattle.http_front.specs.declared.message.WireRequest.{WireRequest}
use Rattle.lang_tree.specs.declared.method.Method.{Method}
use Rattle.aire_wire.specs.Written.{sealed}

pub sealed_from : {E : Type 0} (r : Result WireRequest E) (secret path named body said : List ℕ) (method : Method) (head made : Entries FieldValue)
    → head ≡ made → path ≡ named → body ≡ said
    → IfOk r (λ w. w ≡ sealed secret (record { method = method; path = path; head = head; body = body }))
    → IfOk r (λ w. w ≡ sealed secret (record { method = method; path = named; head = made; body = said }))
sealed_from r secret path named body said method head made h p b ok = rw (sym h, sym p, sym b) ok
