-- What lines say, one behind another.
use Rattle.std.proofs.Common.{◌≡◌, ℕ, ◌+◌, ◌-◌, ◌^◌, ◌≤◌, List, min, refl, ap, ◌∙◌, subst, append_assoc, arith}
use Rattle.std.proofs.Math.Nat.{add-min-add_right, le-min, min-le_left, min-le_right}
use Rattle.std.proofs.lemmas.List.{append-nil}
use Rattle.script_run.specs.Counting.{both, capped, counted, no_counts, nothing_said, said_then}
use Rattle.script_run.specs.declared.counts.Counts.{Counts}
use Rattle.script_run.specs.declared.counts.Said.{Said}

same_counts : (a b : Counts) → a.lines ≡ b.lines → a.cancelled ≡ b.cancelled → a.rounds ≡ b.rounds → a.runs ≡ b.runs → a.posts ≡ b.posts → a ≡ b
same_counts a b l c r x p =
    ap (λ (n : ℕ). record { lines = n; cancelled = a.cancelled; rounds = a.rounds; runs = a.runs; posts = a.posts }) l
    ∙ ap (λ (n : ℕ). record { lines = b.lines; cancelled = n; rounds = a.rounds; runs = a.runs; posts = a.posts }) c
    ∙ ap (λ (n : ℕ). record { lines = b.lines; cancelled = b.cancelled; rounds = n; runs = a.runs; posts = a.posts }) r
    ∙ ap (λ (n : ℕ). record { lines = b.lines; cancelled = b.cancelled; rounds = b.rounds; runs = n; posts = a.posts }) x
    ∙ ap (λ (n : ℕ). record { lines = b.lines; cancelled = b.cancelled; rounds = b.rounds; runs = b.runs; posts = n }) p

both_assoc : (a b c : Counts) → both (both a b) c ≡ both a (both b c)
both_assoc a b c = same_counts (both (both a b) c) (both a (both b c)) (omega arith) (omega arith) (omega arith) (omega arith) (omega arith)

both_none : (a : Counts) → both a no_counts ≡ a
both_none a = same_counts (both a no_counts) a (omega arith) (omega arith) (omega arith) (omega arith) (omega arith)

none_both : (a : Counts) → both no_counts a ≡ a
none_both a = same_counts (both no_counts a) a (omega arith) (omega arith) (omega arith) (omega arith) (omega arith)

same_said : (a b : Said) → a.text ≡ b.text → a.counts ≡ b.counts → a ≡ b
same_said a b t c =
    ap (λ (x : List ℕ). record { text = x; counts = a.counts }) t ∙ ap (λ (x : Counts). record { text = b.text; counts = x }) c

pub said_assoc : (a b c : Said) → said_then (said_then a b) c ≡ said_then a (said_then b c)
said_assoc a b c =
    same_said (said_then (said_then a b) c) (said_then a (said_then b c)) (append_assoc a.text b.text c.text) (both_assoc a.counts b.counts c.counts)

pub then_nothing : (a : Said) → said_then a nothing_said ≡ a
then_nothing a = same_said (said_then a nothing_said) a (append-nil a.text) (both_none a.counts)

pub nothing_then : (a : Said) → said_then nothing_said a ≡ a
nothing_then a = same_said (said_then nothing_said a) a refl (none_both a.counts)

-- ---- as far as they are counted

min_more : (a b m : ℕ) → min (min a m + b) m ≡ min (a + b) m
min_more a b m =
    let low : min (min a m + b) m ≤ min (a + b) m = le-min (omega (arith, min-le_left (min a m + b) m, min-le_left a m)) (min-le_right (min a m + b) m) in
    let far : min (a + b) m ≤ m + b = omega (arith, min-le_right (a + b) m) in
    let L : ℕ → Type 0 = λ n. min (a + b) m ≤ n in
    let wide : min (a + b) m ≤ min a m + b = subst L (add-min-add_right a m b) (le-min (min-le_left (a + b) m) far) in
    let high : min (a + b) m ≤ min (min a m + b) m = le-min wide (min-le_right (a + b) m) in
    omega (arith, low, high)

pub capped_more : (a b : ℕ) → capped (capped a + b) ≡ capped (a + b)
capped_more a b = min_more a b (2 ^ 64 - 1)

-- what was counted, and more
pub counted_more : (a b : Counts) → counted (both (counted a) b) ≡ counted (both a b)
counted_more a b =
    same_counts (counted (both (counted a) b)) (counted (both a b)) (capped_more a.lines b.lines) (capped_more a.cancelled b.cancelled)
    (capped_more a.rounds b.rounds) (capped_more a.runs b.runs) (capped_more a.posts b.posts)
