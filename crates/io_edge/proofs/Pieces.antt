-- How several reads or writes add up: what crates above cite for their own loops over a source or a sink.
use Rattle.std.proofs.Common.{◌≡◌, ℕ, ◌+◌, ◌-◌, ◌<◌, ◌≤◌, List, [], ◌++◌, Some, take, drop, length, refl, subst, sym, ap, ◌∙◌, append_assoc, length-append, length-drop, arith}
use Rattle.std.proofs.lemmas.List.{append-nil, drop-drop, length-take, take-append-drop, take_all}
use Rattle.std.proofs.Math.Seq.{take-add}
use Rattle.io_edge.specs.Edge.{Reads, Took, TookUpTo, Writes, Wrote, WroteFront, WroteShort}

-- where nothing was taken
pub took_none : (a b : Reads) → b.left ≡ a.left → Took a b []
took_none a b same = λ all told. (all, same ∙ told, grind arith)

-- one piece was taken, and then another
pub took_more : (a b c : Reads) (xs ys : List ℕ) → Took a b xs → Took b c ys → Took a c (xs ++ ys)
took_more a b c xs ys first second = λ all told.
    let one = first all told in
    let two = second one.0 one.1 in
    (two.0, two.1, one.2 ∙ ap (λ rest. xs ++ rest) two.2 ∙ sym (append_assoc xs ys two.0))

-- where nothing was written
pub wrote_none : (a b : Writes) → b.written ≡ a.written → Wrote a b []
wrote_none a b same = λ all told. same ∙ told ∙ ap Some (sym (append-nil all))

-- one piece was written, and then another
pub wrote_more : (a b c : Writes) (xs ys : List ℕ) → Wrote a b xs → Wrote b c ys → Wrote a c (xs ++ ys)
wrote_more a b c xs ys first second = λ all told.
    second (all ++ xs) (first all told) ∙ ap Some (append_assoc all xs ys)

-- the first `at` bytes of a text were written, and nothing more
pub short_at : (a b c : Writes) (bytes : List ℕ) (at : ℕ) → at < length bytes → Wrote a b (take at bytes) → c.written ≡ b.written → WroteShort a c bytes
short_at a b c bytes at within first same = (
  take at bytes,
  drop at bytes,
  sym (take-append-drop at bytes),
  (λ none. omega (arith, within, length-drop at bytes, ap length none)),
  (λ all told. same ∙ first all told),
)

-- a front that isn't all of a text is a front of it
pub short_front : (a b : Writes) (bytes : List ℕ) → WroteShort a b bytes → WroteFront a b bytes
short_front a b bytes short = (short.0, (short.1, short.2), short.4)

-- the first `at` bytes of a text were written, and then the next n
pub piece_at : (a b c : Writes) (bytes : List ℕ) (at n : ℕ) → Wrote a b (take at bytes) → Wrote b c (take n (drop at bytes)) → Wrote a c (take (at + n) bytes)
piece_at a b c bytes at n first second =
    let both = wrote_more a b c (take at bytes) (take n (drop at bytes)) first second in
    let P : List ℕ → Type 0 = λ piece. Wrote a c piece in
    subst P (sym (take-add at n bytes)) both

-- a slice from a place to the end, as goals write it
pub slice_rest : (bytes : List ℕ) (at : ℕ) → take (length bytes - at) (drop at bytes) ≡ drop at bytes
slice_rest bytes at = take_all (length bytes - at) (drop at bytes) (omega (arith, length-drop at bytes))

-- a text was written, and then a front of what follows it
pub front_more : (a b c : Writes) (xs ys : List ℕ) → Wrote a b xs → WroteFront b c ys → WroteFront a c (xs ++ ys)
front_more a b c xs ys first second =
    let front = second.0 in
    let rest = second.1.0 in (
      xs ++ front,
      (rest, ap (λ (more : List ℕ). xs ++ more) second.1.1 ∙ sym (append_assoc xs front rest)),
      wrote_more a b c xs front first second.2,
    )

-- a text was written, and nothing of what follows it
pub front_of : (a b : Writes) (xs ys : List ℕ) → Wrote a b xs → WroteFront a b (xs ++ ys)
front_of a b xs ys first = (xs, (ys, refl), first)

-- a whole text is a front of itself
pub front_whole : (a b : Writes) (xs : List ℕ) → Wrote a b xs → WroteFront a b xs
front_whole a b xs all_of_it = (xs, ([], sym (append-nil xs)), all_of_it)

-- some bytes were taken, and then a piece of no more than n
pub up_to_piece : (most : ℕ) (a b c : Reads) (xs piece : List ℕ) (n : ℕ) → Took a b xs → Took b c (take n piece) → length xs + n ≤ most → TookUpTo most a c
up_to_piece most a b c xs piece n first second few = (
  xs ++ take n piece,
  omega (arith, length-append xs (take n piece), length-take n piece),
  took_more a b c xs (take n piece) first second,
)

-- what a read at a place of a text takes
pub took_at : (a b : Reads) (bytes : List ℕ) (at n : ℕ) → a.left ≡ Some (drop at bytes) → b.left ≡ Some (drop (at + n) bytes) → Took a b (take n (drop at bytes))
took_at a b bytes at n before now = λ all told. (
  drop (at + n) bytes,
  now,
  let stood : all ≡ drop at bytes = cc in
      stood ∙ sym (take-append-drop n (drop at bytes)) ∙ ap (λ (rest : List ℕ). take n (drop at bytes) ++ rest) (drop-drop n at bytes),
)
