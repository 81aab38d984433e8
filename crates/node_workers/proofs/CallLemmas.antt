-- What a worker counts of its calls.
use Rattle.std.proofs.Common.{◌≡◌, ℕ, ◌+◌, ◌^◌, ◌<◌, ◌≤◌, inl, inr, ap, arith}
use Rattle.std.proofs.lemmas.Bool.{cases_lt}
use Rattle.io_edge.specs.Edge.{Rose}
use Rattle.io_links.specs.Exchanges.{Exchanges}
use Rattle.node_core.specs.declared.notes.Notes.{Notes as PassNotes}
use Rattle.node_exchanges.proofs.CallLemmas.{calls_on, none_made}
use Rattle.node_exchanges.specs.Calls.{CallsMade}
use Rattle.node_exchanges.specs.Endpoints.{Endpoint}
use Rattle.node_workers.specs.Calling.{CountsCalls}

-- a count that rises in one of two stretches rises in both together
rose_on : (top a b c x y z : ℕ) → (x < y → b + 1 < top → a < b) → (y < z → c + 1 < top → b < c) → a ≤ b → b ≤ c → x < z → c + 1 < top → a < c
rose_on top a b c x y z first second up on more room = elim (cases_lt x y) [
  | inl early ↦ (let rose = first early (omega (arith, room, on)) in omega (arith, rose, on))
  | inr late ↦ (let rose = second (omega (arith, more, late)) room in omega (arith, rose, up))
]

-- what is counted in two stretches
pub counts_on : (e : Endpoint) (n m k : PassNotes) (a b c : Exchanges) → CountsCalls e n m a b → CountsCalls e m k b c → CountsCalls e n k a c
counts_on e n m k a b c one two =
    let lost_one = one.lost_at_most in
    let lost_two = two.lost_at_most in
    let refused_one = one.refused_at_most in
    let refused_two = two.refused_at_most in
    let up = one.counted in
    let on = two.counted in
    record {
      lost = one.lost + two.lost;
      refused = one.refused + two.refused;
      lost_at_most = omega (arith, lost_one, lost_two);
      refused_at_most = omega (arith, refused_one, refused_two);
      calls = calls_on e one.lost two.lost one.refused two.refused a b c one.calls two.calls;
      rose = λ more room. rose_on (2 ^ 64) a.faults b.faults c.faults n.lost m.lost k.lost one.rose two.rose up on more room;
      counted = omega (arith, up, on);
    }

-- what is counted by one call
pub counts_one : (e : Endpoint) (n m : PassNotes) (l r : ℕ) (a b : Exchanges) → CallsMade e l r a b → (0 < l → Rose a.faults b.faults) → a.faults ≤ b.faults
    → m.lost ≤ n.lost + l → m.refused ≤ n.refused + r → CountsCalls e n m a b
counts_one e n m l r a b calls rose up lost refused =
    record {
      lost = l;
      refused = r;
      lost_at_most = lost;
      refused_at_most = refused;
      calls = calls;
      rose = λ more. rose (omega (arith, more, lost));
      counted = up;
    }

-- where nothing is counted, and no exchange was made
pub counts_none : (e : Endpoint) (n m : PassNotes) (a b : Exchanges) → m.lost ≡ n.lost → m.refused ≡ n.refused → b ≡ a → CountsCalls e n m a b
counts_none e n m a b lost refused same =
    let faults : b.faults ≡ a.faults = ap (λ (x : Exchanges). x.faults) same in
    record {
      lost = 0;
      refused = 0;
      lost_at_most = omega (arith, lost);
      refused_at_most = omega (arith, refused);
      calls = none_made e a b same;
      rose = λ more. absurd (omega (arith, more, lost));
      counted = omega (arith, faults);
    }

-- where no answer was told
pub counts_untold : (e : Endpoint) (n : PassNotes) (a b : Exchanges) → CallsMade e 0 0 a b → a.faults ≤ b.faults → CountsCalls e n n a b
counts_untold e n a b calls up =
    counts_one e n n 0 0 a b calls (λ more. absurd (omega (arith, more))) up (omega arith) (omega arith)
