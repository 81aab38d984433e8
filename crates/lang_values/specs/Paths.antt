-- The segments of a path, and the route that a request takes.
use Rattle.std.specs.Prelude.{ℕ, Bool, true, false, ◌&&◌, ◌||◌, List, [], ◌∷◌, Option, ◌==◌, codes, if◌then◌else◌}
use Rattle.std.specs.List.{find, slice_split}
use Rattle.lang_base.specs.Texts.{same_text}
use Rattle.lang_tree.specs.declared.method.Method.{Method}
use Rattle.lang_tree.specs.declared.method.Method.TheVariants.{Get, Put, Post, Delete}
use Rattle.lang_tree.specs.declared.program.Route.{Route}

abbrev pub past_slash : List ℕ → List ℕ
past_slash [] = []
past_slash (b ∷ bs) = if b == 47 then bs else b ∷ bs

-- a path without its first slash, cut at each slash
abbrev pub segments_of : List ℕ → List (List ℕ)
segments_of path = slice_split (λ b. b == 47) (past_slash path)

abbrev pub same_method : Method → Method → Bool
same_method Get Get = true
same_method Put Put = true
same_method Post Post = true
same_method Delete Delete = true
same_method _ _ = false

-- as many segments, each equal to the pattern's or where the pattern has a star
abbrev pub segments_match : List (List ℕ) → List (List ℕ) → Bool
segments_match [] [] = true
segments_match [] (s ∷ segments) = false
segments_match (p ∷ pattern) [] = false
segments_match (p ∷ pattern) (s ∷ segments) =
    (same_text p (codes "*") || same_text p s) && segments_match pattern segments

abbrev pub route_matches : Method → List (List ℕ) → Route → Bool
route_matches method segments r = same_method r.method method && segments_match (segments_of r.pattern) segments

-- the first route that matches
abbrev pub route_of : List Route → Method → List (List ℕ) → Option Route
route_of routes method segments = find (route_matches method segments) routes
