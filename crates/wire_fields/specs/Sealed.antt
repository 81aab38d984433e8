-- The bytes of a message that are sealed.
use Rattle.std.specs.Prelude.{ℕ, List, ◌++◌, codes, decimal}
use Rattle.std.specs.List.{flat_map}
use Rattle.http_header.specs.FieldValue.{FieldValue}
use Rattle.http_header.specs.HeaderMap.{Entries}
use Rattle.lang_tree.specs.Methods.{method_word}
use Rattle.http_front.specs.Writing.{Line, first_of_header}
use Rattle.http_front.specs.declared.header.AireHeader.{AireHeader}
use Rattle.lang_tree.specs.declared.method.Method.{Method}

abbrev pub sealed_line : Line → List ℕ
sealed_line field = field.0 ++ (codes ": " ++ (field.1 ++ codes "\n"))

-- the fields of these headers that a head has, in their order, an empty line, and the body
abbrev pub sealed_fields : Entries FieldValue → List AireHeader → List ℕ → List ℕ
sealed_fields head headers body = flat_map sealed_line (flat_map (first_of_header head) headers) ++ (codes "\n" ++ body)

-- of a request
abbrev pub sealed_request : Method → List ℕ → Entries FieldValue → List AireHeader → List ℕ → List ℕ
sealed_request method path head headers body =
    method_word method ++ (codes " " ++ (path ++ (codes "\n" ++ sealed_fields head headers body)))

-- of a response
abbrev pub sealed_response : ℕ → Entries FieldValue → List AireHeader → List ℕ → List ℕ
sealed_response status head headers body = decimal status ++ (codes "\n" ++ sealed_fields head headers body)
