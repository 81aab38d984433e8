-- Reading statements, or routes, one after the other, as a loop does.
use Rattle.std.proofs.Common.{◌≡◌, ℕ, suc, ◌-◌, ◌+◌, ◌≤◌, ◌<◌, List, [], ◌∷◌, ◌++◌, length, Some, None, Result, Ok, Err, refl, sym, ap, ◌∙◌, append_assoc, arith}
use Rattle.std.proofs.lemmas.List.{append-nil}
use Rattle.lang_tokens.specs.declared.token.Token.{Token}
use Rattle.lang_tokens.specs.declared.token.Token.TheVariants as token
use Rattle.lang_tree.specs.declared.stmt.Stmt.{Stmt}
use Rattle.lang_tree.specs.declared.program.Route.{Route}
use Rattle.lang_reader.specs.declared.stop.Stop.{Stop}
use Rattle.lang_reader.specs.declared.stop.ReadFailed.{ReadFailed}
use Rattle.lang_reader.specs.declared.stop.ReadFailed.TheVariants as failed
use Rattle.lang_reader.specs.Reading.{◌>>=◌}
use Rattle.lang_reader.specs.Readers.{Fails, Read, refused, close_at, stmts_in, route_at, routes_in}

-- what was read before, and what is still read
abbrev pub with_stmts : List Stmt → Read (List Stmt) → Read (List Stmt)
with_stmts front read = read >>= λ x. Ok (front ++ x.0, x.1)

pub stmts_closed : (n : ℕ) (one : List Token → Read Stmt) (ts after : List Token) → close_at ts ≡ Some after → stmts_in (suc n) one ts ≡ Ok ([], after)
unfolding stmts_in
stmts_closed n one (token.Close ∷ ts) after e = cc
stmts_closed n one _ after e = absurd cc

pub stmts_next : (n : ℕ) (one : List Token → Read Stmt) (ts : List Token) → close_at ts ≡ None → stmts_in (suc n) one ts ≡ (one ts >>= λ s. stmts_in n one s.1 >>= λ more. Ok (s.0 ∷ more.0, more.1))
unfolding stmts_in
stmts_next n one (token.Close ∷ ts) e = absurd cc
stmts_next n one _ e = refl

regroup : (front : List Stmt) (s : Stmt) (read : Read (List Stmt)) → with_stmts front (read >>= λ x. Ok (s ∷ x.0, x.1)) ≡ with_stmts (front ++ s ∷ []) read
regroup front s (Ok x) = ap (λ (ss : List Stmt). Ok (ss, x.1)) (simp append_assoc)
regroup front s (Err f) = refl

pub stmts_go_on : (one : List Token → Read Stmt) (front : List Stmt) (count i : ℕ) (ts : List Token) (s : Stmt) (after : List Token) (total : Read (List Stmt)) → i < count → close_at ts ≡ None → one ts ≡ Ok (s, after)
    → with_stmts front (stmts_in (count - i) one ts) ≡ total → with_stmts (front ++ s ∷ []) (stmts_in (count - (i + 1)) one after) ≡ total
stmts_go_on one front count i ts s after total lt more h so_far =
    let k : count - i ≡ suc (count - (i + 1)) = omega arith in
    let e = stmts_next (count - (i + 1)) one ts more in
    let o : with_stmts front (stmts_in (count - i) one ts) ≡ with_stmts (front ++ s ∷ []) (stmts_in (count - (i + 1)) one after) = rw (k, e, h) (regroup front s (stmts_in (count - (i + 1)) one after)) in
    sym o ∙ so_far

pub stmts_fail : (e : ReadFailed) (one : List Token → Read Stmt) (front : List Stmt) (count i : ℕ) (ts : List Token) (total : Read (List Stmt)) → i < count → close_at ts ≡ None → Fails e (one ts)
    → with_stmts front (stmts_in (count - i) one ts) ≡ total → Fails e total
stmts_fail failed.NoMemory one front count i ts total lt more h so_far = tt
stmts_fail (failed.At f) one front count i ts total lt more h so_far =
    let k : count - i ≡ suc (count - (i + 1)) = omega arith in
    let e = stmts_next (count - (i + 1)) one ts more in
    let o : with_stmts front (stmts_in (count - i) one ts) ≡ Err f = rw (k, e, h) refl in
    sym so_far ∙ o

pub stmts_end : (one : List Token → Read Stmt) (front : List Stmt) (count i : ℕ) (ts after : List Token) (total : Read (List Stmt)) → i < count → close_at ts ≡ Some after → with_stmts front (stmts_in (count - i) one ts) ≡ total → total ≡ Ok (front, after)
stmts_end one front count i ts after total lt close so_far =
    let k : count - i ≡ suc (count - (i + 1)) = omega arith in
    let e = stmts_closed (count - (i + 1)) one ts after close in
    let o : with_stmts front (stmts_in (count - i) one ts) ≡ Ok (front, after) = rw (k, e) (ap (λ (ss : List Stmt). Ok (ss, after)) (append-nil front)) in
    sym so_far ∙ o

pub stmts_too_many : (one : List Token → Read Stmt) (front : List Stmt) (count i : ℕ) (ts : List Token) (total : Read (List Stmt)) → count ≤ i → with_stmts front (stmts_in (count - i) one ts) ≡ total → total ≡ Err (refused ts)
unfolding stmts_in
stmts_too_many one front count i ts total le so_far =
    let k : count - i ≡ 0 = omega arith in
    let o : with_stmts front (stmts_in (count - i) one ts) ≡ Err (refused ts) = rw k refl in
    sym so_far ∙ o

-- ---- routes

abbrev pub with_routes : List Route → Result (List Route) Stop → Result (List Route) Stop
with_routes front read = read >>= λ rs. Ok (front ++ rs)

pub routes_ended : (n : ℕ) → routes_in (suc n) [] ≡ Ok []
unfolding routes_in
routes_ended n = refl

pub routes_next : (n : ℕ) (ts : List Token) → 0 < length ts → routes_in (suc n) ts ≡ (route_at ts >>= λ r. routes_in n r.1 >>= λ more. Ok (r.0 ∷ more))
unfolding routes_in
routes_next n [] some = absurd (omega arith)
routes_next n (t ∷ ts) some = refl

routes_regroup : (front : List Route) (r : Route) (read : Result (List Route) Stop) → with_routes front (read >>= λ x. Ok (r ∷ x)) ≡ with_routes (front ++ r ∷ []) read
routes_regroup front r (Ok x) = ap (λ (rs : List Route). Ok rs) (simp append_assoc)
routes_regroup front r (Err f) = refl

pub routes_go_on : (front : List Route) (count i : ℕ) (ts : List Token) (r : Route) (after : List Token) (total : Result (List Route) Stop) → i < count → 0 < length ts → route_at ts ≡ Ok (r, after)
    → with_routes front (routes_in (count - i) ts) ≡ total → with_routes (front ++ r ∷ []) (routes_in (count - (i + 1)) after) ≡ total
routes_go_on front count i ts r after total lt some h so_far =
    let k : count - i ≡ suc (count - (i + 1)) = omega arith in
    let e = routes_next (count - (i + 1)) ts some in
    let o : with_routes front (routes_in (count - i) ts) ≡ with_routes (front ++ r ∷ []) (routes_in (count - (i + 1)) after) = rw (k, e, h) (routes_regroup front r (routes_in (count - (i + 1)) after)) in
    sym o ∙ so_far

pub routes_fail : (e : ReadFailed) (front : List Route) (count i : ℕ) (ts : List Token) (total : Result (List Route) Stop) → i < count → 0 < length ts → Fails e (route_at ts)
    → with_routes front (routes_in (count - i) ts) ≡ total → Fails e total
routes_fail failed.NoMemory front count i ts total lt some h so_far = tt
routes_fail (failed.At f) front count i ts total lt some h so_far =
    let k : count - i ≡ suc (count - (i + 1)) = omega arith in
    let e = routes_next (count - (i + 1)) ts some in
    let o : with_routes front (routes_in (count - i) ts) ≡ Err f = rw (k, e, h) refl in
    sym so_far ∙ o

pub routes_end : (front : List Route) (count i : ℕ) (ts : List Token) (total : Result (List Route) Stop) → i < count → length ts ≡ 0 → with_routes front (routes_in (count - i) ts) ≡ total → total ≡ Ok front
routes_end front count i [] total lt e so_far =
    let k : count - i ≡ suc (count - (i + 1)) = omega arith in
    let o : with_routes front (routes_in (count - i) []) ≡ Ok front = rw (k, routes_ended (count - (i + 1))) (ap (λ (rs : List Route). Ok rs) (append-nil front)) in
    sym so_far ∙ o
routes_end front count i (t ∷ ts) total lt e so_far = absurd (omega arith)

pub routes_too_many : (front : List Route) (count i : ℕ) (ts : List Token) (total : Result (List Route) Stop) → count ≤ i → with_routes front (routes_in (count - i) ts) ≡ total → total ≡ Err (refused ts)
unfolding routes_in
routes_too_many front count i ts total le so_far =
    let k : count - i ≡ 0 = omega arith in
    let o : with_routes front (routes_in (count - i) ts) ≡ Err (refused ts) = rw k refl in
    sym so_far ∙ o
