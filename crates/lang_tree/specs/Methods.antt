-- The words of methods.
use Rattle.std.specs.Prelude.{ℕ, List, Option, Some, None, codes, if◌then◌else◌}
use Rattle.lang_base.specs.Texts.{same_text}
use Rattle.lang_tree.specs.declared.method.Method.{Method}
use Rattle.lang_tree.specs.declared.method.Method.TheVariants.{Get, Put, Post, Delete}

abbrev pub method_word : Method → List ℕ
method_word Get = codes "GET"
method_word Put = codes "PUT"
method_word Post = codes "POST"
method_word Delete = codes "DELETE"

-- the method with this word
abbrev pub method_named : List ℕ → Option Method
method_named word =
    if same_text word (codes "GET") then Some Get
    else (if same_text word (codes "PUT") then Some Put
    else (if same_text word (codes "POST") then Some Post
    else (if same_text word (codes "DELETE") then Some Delete
    else None)))
