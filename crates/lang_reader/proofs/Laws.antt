-- What a reader does, and that readers one behind the other do so too.
use Rattle.std.proofs.Common.{◌≡◌, ℕ, suc, List, [], ◌∷◌, ◌++◌, length, Result, Ok, Err, refl, sym, ap, subst, ◌∙◌, append_assoc, inl, inr, ◌⊎◌}
use Rattle.std.proofs.lemmas.List.{append-nil}
use Rattle.lang_reader.specs.Reading.{◌>>=◌, Read, Reader, bound, marked, gives}

-- how much is left where reading stops, and the same stop where another much is
pub record Stopping (E : Type 0) : Type 0 where
  pub left : E → ℕ
  pub moved : E → ℕ → E
  pub leaves : (s : E) (n : ℕ) → left (moved s n) ≡ n
  pub moves : (s : E) (m n : ℕ) → moved (moved s m) n ≡ moved s n

-- both begin with the same element
abbrev pub SameFirst : {T : Type 0} → List T → List T → Type 0
SameFirst [] more = ⊥
SameFirst (t ∷ ts) [] = ⊥
SameFirst (t ∷ ts) (u ∷ us) = t ≡ u

-- it is read again, whatever stands behind the first element behind it
pub record TookAgain {T E A : Type 0} (read : Reader T E A) (ts : List T) (x : A) (rest : List T) : Type 0 where
  pub front : List T
  pub is : ts ≡ front ++ rest
  pub always : (more : List T) → SameFirst rest more → read (front ++ more) ≡ Ok (x, more)

-- whatever stands behind the refused element, reading stops there, and so
pub record Stops {T E A : Type 0} (w : Stopping E) (read : List T → Result A E) (ts : List T) (s : E) : Type 0 where
  pub front : List T
  pub first : T
  pub back : List T
  pub is : ts ≡ front ++ (first ∷ back)
  pub left : w.left s ≡ suc (length back)
  pub always : (more : List T) → read (front ++ (first ∷ more)) ≡ Err (w.moved s (suc (length more)))

-- the same, or it stops at the end
abbrev pub StopsFirst : {T E A : Type 0} → Stopping E → (List T → Result A E) → List T → E → Type 0
StopsFirst w read ts s = (w.left s ≡ 0) ⊎ Stops w read ts s

-- what stands before the stop begins, behind `front`, something that is spelled so
pub record Begun {T E B : Type 0} (w : Stopping E) (front : List T) (all : B → List T) (ts : List T) (s : E) : Type 0 where
  pub begun : List T
  pub back : List T
  pub more : List T
  pub whole : B
  pub is : ts ≡ begun ++ back
  pub left : w.left s ≡ length back
  pub spelled : (front ++ begun) ++ more ≡ all whole

-- of what is taken: it is spelled so, it fits where the list was kept, and it is taken again
pub record Took {T E B : Type 0} (Kept : List T → Type 0) (front : List T) (read : Reader T E B) (all : B → List T) (Holds : B → Type 0) (ts : List T) (x : B) (rest : List T) : Type 0 where
  pub spelled : front ++ ts ≡ all x ++ rest
  pub holds : Kept ts → Holds x × Kept rest
  pub again : TookAgain read ts x rest

-- of a stop: it is the first, and what stands before it begins something
pub record Stopped {T E B : Type 0} (w : Stopping E) (front : List T) (read : Reader T E B) (all : B → List T) (ts : List T) (s : E) : Type 0 where
  pub first : StopsFirst w read ts s
  pub begun : Begun w front all ts s

-- the laws of a reader at a list, where `front` was read before
pub record LawsAt {T E B : Type 0} (w : Stopping E) (Kept : List T → Type 0) (front : List T) (read : Reader T E B) (all : B → List T) (Holds : B → Type 0) (ts : List T) : Type 0 where
  pub took : (x : B) (rest : List T) → read ts ≡ Ok (x, rest) → Took Kept front read all Holds ts x rest
  pub stopped : (s : E) → read ts ≡ Err s → Stopped w front read all ts s

-- something that is spelled so begins with `front`
pub record Completes {T B : Type 0} (front : List T) (all : B → List T) : Type 0 where
  pub more : List T
  pub whole : B
  pub spelled : front ++ more ≡ all whole

-- the laws of a reader that goes on behind `front`
pub record Reads {T E B : Type 0} (w : Stopping E) (Kept : List T → Type 0) (front : List T) (read : Reader T E B) (all : B → List T) (Holds : B → Type 0) : Type 0 where
  pub at : (ts : List T) → LawsAt w Kept front read all Holds ts
  pub some : Completes front all

-- ---- results

pub bind_ok : {A B E : Type 0} (r : Result A E) (f : A → Result B E) (y : B) → (r >>= f) ≡ Ok y → (x : A) × (r ≡ Ok x) × (f x ≡ Ok y)
bind_ok (Ok x) f y e = (x, refl, e)
bind_ok (Err d) f y e = absurd cc

abbrev pub done : {A E : Type 0} → A → Result A E
done x = Ok x

pub ok_is : {A E : Type 0} (x y : A) → done {E = E} x ≡ done y → x ≡ y
ok_is x y e = cc

abbrev pub failed : {A E : Type 0} → E → Result A E
failed s = Err s

pub err_is : {A E : Type 0} (d s : E) → failed {A = A} d ≡ failed s → d ≡ s
err_is d s e = cc

-- ---- fronts

same_front : {T : Type 0} (f rest more : List T) → SameFirst rest more → SameFirst (f ++ rest) (f ++ more)
same_front [] rest more h = h
same_front (t ∷ f) rest more h = refl

same_at : {T : Type 0} (f : List T) (t : T) (back more mid : List T) → mid ≡ f ++ (t ∷ back) → SameFirst mid (f ++ (t ∷ more))
same_at f t back more mid e = subst (λ m. SameFirst m (f ++ (t ∷ more))) (sym e) (same_front f (t ∷ back) (t ∷ more) refl)

regroup_four : {T : Type 0} (a b c d : List T) → (a ++ b) ++ (c ++ d) ≡ (a ++ (b ++ c)) ++ d
regroup_four a b c d = simp append_assoc

regroup_three : {T : Type 0} (a b c d : List T) → (a ++ (b ++ c)) ++ d ≡ ((a ++ b) ++ c) ++ d
regroup_three a b c d = simp append_assoc

-- ---- one reader behind the other

after_ok : {T E A B : Type 0} (r : Reader T E A) (f : A → Reader T E B) (ts mid : List T) (x : A) → r ts ≡ Ok (x, mid) → bound r f ts ≡ f x mid
after_ok r f ts mid x e = rw e refl

after_err : {T E A B : Type 0} (r : Reader T E A) (f : A → Reader T E B) (ts : List T) (s : E) → r ts ≡ Err s → bound r f ts ≡ Err s
after_err r f ts s e = rw e refl

took_both : {T E A B : Type 0} (r : Reader T E A) (f : A → Reader T E B) (ts mid rest : List T) (x : A) (y : B) → TookAgain r ts x mid → TookAgain (f x) mid y rest → TookAgain (bound r f) ts y rest
took_both r f ts mid rest x y a b = record {
  front = a.front ++ b.front;
  is = a.is ∙ ap (λ t. a.front ++ t) b.is ∙ sym (append_assoc a.front b.front rest);
  always = λ more h.
      ap (bound r f) (append_assoc a.front b.front more)
      ∙ after_ok r f (a.front ++ (b.front ++ more)) (b.front ++ more) x (a.always (b.front ++ more) (subst (λ m. SameFirst m (b.front ++ more)) (sym b.is) (same_front b.front rest more h)))
      ∙ b.always more h;
}

stops_second : {T E A B : Type 0} (w : Stopping E) (r : Reader T E A) (f : A → Reader T E B) (ts mid : List T) (x : A) (s : E) → TookAgain r ts x mid → StopsFirst w (f x) mid s → StopsFirst w (bound r f) ts s
stops_second w r f ts mid x s a (inl e) = inl e
stops_second w r f ts mid x s a (inr b) = inr (record {
  front = a.front ++ b.front;
  first = b.first;
  back = b.back;
  is = a.is ∙ ap (λ t. a.front ++ t) b.is ∙ sym (append_assoc a.front b.front (b.first ∷ b.back));
  left = b.left;
  always = λ more.
      ap (bound r f) (append_assoc a.front b.front (b.first ∷ more))
      ∙ after_ok r f (a.front ++ (b.front ++ (b.first ∷ more))) (b.front ++ (b.first ∷ more)) x (a.always (b.front ++ (b.first ∷ more)) (same_at b.front b.first b.back more mid b.is))
      ∙ b.always more;
})

stops_early : {T E A B : Type 0} (w : Stopping E) (r : Reader T E A) (f : A → Reader T E B) (ts : List T) (s : E) → StopsFirst w r ts s → StopsFirst w (bound r f) ts s
stops_early w r f ts s (inl e) = inl e
stops_early w r f ts s (inr a) = inr (record { front = a.front; first = a.first; back = a.back; is = a.is; left = a.left; always = λ more. after_err r f (a.front ++ (a.first ∷ more)) (w.moved s (suc (length more))) (a.always more) })

begun_early : {T E A B : Type 0} (w : Stopping E) (front : List T) (spells : A → List T) (all : B → List T) (ts : List T) (s : E) → ((x : A) → Completes (front ++ spells x) all) → Begun w [] spells ts s → Begun w front all ts s
begun_early w front spells all ts s next b =
    let n = next b.whole in
    record {
      begun = b.begun;
      back = b.back;
      more = b.more ++ n.more;
      whole = n.whole;
      is = b.is;
      left = b.left;
      spelled = regroup_four front b.begun b.more n.more ∙ ap (λ us. (front ++ us) ++ n.more) b.spelled ∙ n.spelled;
    }

begun_behind : {T E A B : Type 0} (w : Stopping E) (spells : A → List T) (front : List T) (all : B → List T) (ts mid : List T) (x : A) (s : E) → ts ≡ spells x ++ mid → Begun w (front ++ spells x) all mid s → Begun w front all ts s
begun_behind w spells front all ts mid x s e n = record {
  begun = spells x ++ n.begun;
  back = n.back;
  more = n.more;
  whole = n.whole;
  is = e ∙ ap (λ us. spells x ++ us) n.is ∙ sym (append_assoc (spells x) n.begun n.back);
  left = n.left;
  spelled = regroup_three front (spells x) n.begun n.more ∙ n.spelled;
}

bound_stops : {T E A B : Type 0} (w : Stopping E) (Kept : List T → Type 0) (front : List T) (r : Reader T E A) (f : A → Reader T E B) (spells : A → List T) (all : B → List T) (Part : A → Type 0) (Holds : B → Type 0) (ts : List T) (s : E) (got : Read T E A)
    → Reads w Kept [] r spells Part → ((x : A) → Reads w Kept (front ++ spells x) (f x) all (λ y. Part x → Holds y)) → r ts ≡ got → (got >>= λ p. f p.0 p.1) ≡ Err s → Stopped w front (bound r f) all ts s
bound_stops {T = T} {B = B} w Kept front r f spells all Part Holds ts s (Err d) a next e h =
    let k = (a.at ts).stopped s (e ∙ ap (λ z. Err z) (err_is {A = B × List T} d s h)) in
    record { first = stops_early w r f ts s k.first; begun = begun_early w front spells all ts s (λ x. (next x).some) k.begun }
bound_stops w Kept front r f spells all Part Holds ts s (Ok p) a next e h =
    let k = (a.at ts).took p.0 p.1 e in
    let n = ((next p.0).at p.1).stopped s h in
    record { first = stops_second w r f ts p.1 p.0 s k.again n.first; begun = begun_behind w spells front all ts p.1 p.0 s k.spelled n.begun }

-- what is read second may rest on what the first part has
pub reads_bound : {T E A B : Type 0} {w : Stopping E} {Kept : List T → Type 0} {front : List T} {r : Reader T E A} {f : A → Reader T E B} {spells : A → List T} {all : B → List T} {Part : A → Type 0} {Holds : B → Type 0}
    → Reads w Kept [] r spells Part → ((x : A) → Reads w Kept (front ++ spells x) (f x) all (λ y. Part x → Holds y)) → Reads w Kept front (bound r f) all Holds
reads_bound {B = B} {w = w} {Kept = Kept} {front = front} {r = r} {f = f} {spells = spells} {all = all} {Part = Part} {Holds = Holds} a next = record {
  at = λ ts. record {
    took = λ y rest h.
        let k = bind_ok (r ts) (λ p. f p.0 p.1) (y, rest) h in
        let x = k.0.0 in
        let mid = k.0.1 in
        let l = (a.at ts).took x mid k.1 in
        let n = ((next x).at mid).took y rest k.2 in
        record {
          spelled = ap (λ us. front ++ us) l.spelled ∙ sym (append_assoc front (spells x) mid) ∙ n.spelled;
          holds = λ kept. let p = l.holds kept in let q = n.holds p.1 in (q.0 p.0, q.1);
          again = took_both r f ts mid rest x y l.again n.again;
        };
    stopped = λ s h. bound_stops w Kept front r f spells all Part Holds ts s (r ts) a next refl h;
  };
  some =
      let n = (next a.some.whole).some in
      record {
        more = spells a.some.whole ++ n.more;
        whole = n.whole;
        spelled = sym (append_assoc front (spells a.some.whole) n.more) ∙ n.spelled;
      };
}

-- ---- a mark

-- the mark is this element, and nothing else; where it isn't there, reading stops at once
pub record IsMark {T E : Type 0} (w : Stopping E) (Kept : List T → Type 0) (m : List T → Result (List T) E) (t : T) : Type 0 where
  pub here : (ts : List T) → m (t ∷ ts) ≡ Ok ts
  pub took : (ts rest : List T) → m ts ≡ Ok rest → ts ≡ t ∷ rest
  pub stopped : (ts : List T) (s : E) → m ts ≡ Err s → StopsFirst w m ts s × (w.left s ≡ length ts)
  pub kept : (ts : List T) → Kept (t ∷ ts) → Kept ts

behind_ok : {T E B : Type 0} (m : List T → Result (List T) E) (f : Reader T E B) (ts mid : List T) → m ts ≡ Ok mid → marked m f ts ≡ f mid
behind_ok m f ts mid e = rw e refl

behind_err : {T E B : Type 0} (m : List T → Result (List T) E) (f : Reader T E B) (ts : List T) (s : E) → m ts ≡ Err s → marked m f ts ≡ Err s
behind_err m f ts s e = rw e refl

stops_at_mark : {T E B : Type 0} (w : Stopping E) (m : List T → Result (List T) E) (f : Reader T E B) (ts : List T) (s : E) → StopsFirst w m ts s → StopsFirst w (marked m f) ts s
stops_at_mark w m f ts s (inl e) = inl e
stops_at_mark w m f ts s (inr a) = inr (record { front = a.front; first = a.first; back = a.back; is = a.is; left = a.left; always = λ more. behind_err m f (a.front ++ (a.first ∷ more)) (w.moved s (suc (length more))) (a.always more) })

-- a reader that does with an element in front what another does without
pub took_behind : {T E B : Type 0} (read f : Reader T E B) (t : T) → ((ts : List T) → read (t ∷ ts) ≡ f ts) → (ts mid : List T) (x : B) (rest : List T) → ts ≡ t ∷ mid → TookAgain f mid x rest → TookAgain read ts x rest
took_behind read f t all ts mid x rest is a = record {
  front = t ∷ a.front;
  is = is ∙ ap (λ us. t ∷ us) a.is;
  always = λ more g. all (a.front ++ more) ∙ a.always more g;
}

pub stops_behind : {T E B : Type 0} (w : Stopping E) (read f : Reader T E B) (t : T) → ((ts : List T) → read (t ∷ ts) ≡ f ts) → (ts mid : List T) (s : E) → ts ≡ t ∷ mid → StopsFirst w f mid s → StopsFirst w read ts s
stops_behind w read f t all ts mid s is (inl e) = inl e
stops_behind w read f t all ts mid s is (inr a) = inr (record {
  front = t ∷ a.front;
  first = a.first;
  back = a.back;
  is = is ∙ ap (λ us. t ∷ us) a.is;
  left = a.left;
  always = λ more. all (a.front ++ (a.first ∷ more)) ∙ a.always more;
})

begun_head : {T E B : Type 0} (w : Stopping E) (front : List T) (t : T) (all : B → List T) (ts mid : List T) (s : E) → ts ≡ t ∷ mid → Begun w (front ++ (t ∷ [])) all mid s → Begun w front all ts s
begun_head w front t all ts mid s is n = record {
  begun = t ∷ n.begun;
  back = n.back;
  more = n.more;
  whole = n.whole;
  is = is ∙ ap (λ us. t ∷ us) n.is;
  left = n.left;
  spelled = regroup_three front (t ∷ []) n.begun n.more ∙ n.spelled;
}

complete_head : {T B : Type 0} (front : List T) (t : T) (all : B → List T) → Completes (front ++ (t ∷ [])) all → Completes front all
complete_head front t all n = record { more = t ∷ n.more; whole = n.whole; spelled = sym (append_assoc front (t ∷ []) n.more) ∙ n.spelled }

-- nothing was taken
begun_at_once : {T E B : Type 0} (w : Stopping E) (front : List T) (all : B → List T) (ts : List T) (s : E) → Completes front all → w.left s ≡ length ts → Begun w front all ts s
begun_at_once w front all ts s n e = record { begun = []; back = ts; more = n.more; whole = n.whole; is = refl; left = e; spelled = ap (λ us. us ++ n.more) (append-nil front) ∙ n.spelled }

mark_stops : {T E B : Type 0} (w : Stopping E) (Kept : List T → Type 0) (front : List T) (m : List T → Result (List T) E) (t : T) (f : Reader T E B) (all : B → List T) (Holds : B → Type 0) (ts : List T) (s : E) (got : Result (List T) E)
    → IsMark w Kept m t → Reads w Kept (front ++ (t ∷ [])) f all Holds → m ts ≡ got → (got >>= f) ≡ Err s → Stopped w front (marked m f) all ts s
mark_stops {T = T} {B = B} w Kept front m t f all Holds ts s (Err d) mark next e h =
    let k = mark.stopped ts s (e ∙ ap (λ z. Err z) (err_is {A = B × List T} d s h)) in
    record { first = stops_at_mark w m f ts s k.0; begun = begun_at_once w front all ts s (complete_head front t all next.some) k.1 }
mark_stops w Kept front m t f all Holds ts s (Ok mid) mark next e h =
    let n = (next.at mid).stopped s h in
    let is = mark.took ts mid e in
    record { first = stops_behind w (marked m f) f t (λ us. behind_ok m f (t ∷ us) us (mark.here us)) ts mid s is n.first; begun = begun_head w front t all ts mid s is n.begun }

pub reads_marked : {T E B : Type 0} {w : Stopping E} {Kept : List T → Type 0} {front : List T} {m : List T → Result (List T) E} {t : T} {f : Reader T E B} {all : B → List T} {Holds : B → Type 0}
    → IsMark w Kept m t → Reads w Kept (front ++ (t ∷ [])) f all Holds → Reads w Kept front (marked m f) all Holds
reads_marked {w = w} {Kept = Kept} {front = front} {m = m} {t = t} {f = f} {all = all} {Holds = Holds} mark next = record {
  at = λ ts. record {
    took = λ y rest h.
        let k = bind_ok (m ts) f (y, rest) h in
        let mid = k.0 in
        let is = mark.took ts mid k.1 in
        let n = (next.at mid).took y rest k.2 in
        record {
          spelled = ap (λ us. front ++ us) is ∙ sym (append_assoc front (t ∷ []) mid) ∙ n.spelled;
          holds = λ kept. n.holds (mark.kept mid (subst Kept is kept));
          again = took_behind (marked m f) f t (λ us. behind_ok m f (t ∷ us) us (mark.here us)) ts mid y rest is n.again;
        };
    stopped = λ s h. mark_stops w Kept front m t f all Holds ts s (m ts) mark next refl h;
  };
  some = complete_head front t all next.some;
}

-- ---- all is read

took_nothing : {T E B : Type 0} (y : B) (ts : List T) → TookAgain {E = E} (gives y) ts y ts
took_nothing y ts = record { front = []; is = refl; always = λ more g. refl }

pub reads_given : {T E B : Type 0} {w : Stopping E} {Kept : List T → Type 0} {front : List T} {y : B} {all : B → List T} {Holds : B → Type 0} → all y ≡ front → Holds y → Reads w Kept front (gives y) all Holds
reads_given {T = T} {E = E} {B = B} {w = w} {Kept = Kept} {front = front} {y = y} {all = all} {Holds = Holds} is holds = record {
  at = λ ts. record {
    took = λ x rest h.
        let this : Took Kept front (gives {E = E} y) all Holds ts y ts = record { spelled = ap (λ us. us ++ ts) (sym is); holds = λ kept. (holds, kept); again = took_nothing y ts } in
        subst (λ (p : B × List T). Took Kept front (gives {E = E} y) all Holds ts p.0 p.1) (ok_is {A = B × List T} {E = E} (y, ts) (x, rest) h) this;
    stopped = λ s h. absurd cc;
  };
  some = record { more = []; whole = y; spelled = append-nil front ∙ sym is };
}

-- ---- the first element decides

-- it is taken
pub laws_one : {T E B : Type 0} {w : Stopping E} {Kept : List T → Type 0} {read : Reader T E B} {all : B → List T} {Holds : B → Type 0} (t : T) (x : B)
    → ((ts : List T) → read (t ∷ ts) ≡ Ok (x, ts)) → all x ≡ t ∷ [] → ((ts : List T) → Kept (t ∷ ts) → Holds x × Kept ts) → (ts : List T) → LawsAt w Kept [] read all Holds (t ∷ ts)
laws_one {T = T} {E = E} {B = B} {w = w} {Kept = Kept} {read = read} {all = all} {Holds = Holds} t x takes is holds ts = record {
  took = λ y rest h.
      let this : Took Kept [] read all Holds (t ∷ ts) x ts = record { spelled = ap (λ us. us ++ ts) (sym is); holds = holds ts; again = record { front = t ∷ []; is = refl; always = λ more g. takes more } } in
      subst (λ (p : B × List T). Took Kept [] read all Holds (t ∷ ts) p.0 p.1) (ok_is {A = B × List T} {E = E} (x, ts) (y, rest) (sym (takes ts) ∙ h)) this;
  stopped = λ s h. absurd (let e = sym (takes ts) ∙ h in cc);
}

-- it says that nothing is taken
pub laws_none : {T E B : Type 0} {w : Stopping E} {Kept : List T → Type 0} {read : Reader T E B} {all : B → List T} {Holds : B → Type 0} (t : T) (x : B)
    → ((ts : List T) → read (t ∷ ts) ≡ Ok (x, t ∷ ts)) → all x ≡ [] → Holds x → (ts : List T) → LawsAt w Kept [] read all Holds (t ∷ ts)
laws_none {T = T} {E = E} {B = B} {w = w} {Kept = Kept} {read = read} {all = all} {Holds = Holds} t x takes is holds ts = record {
  took = λ y rest h.
      let this : Took Kept [] read all Holds (t ∷ ts) x (t ∷ ts) = record { spelled = ap (λ us. us ++ (t ∷ ts)) (sym is); holds = λ kept. (holds, kept); again = record { front = []; is = refl; always = stays } } in
      subst (λ (p : B × List T). Took Kept [] read all Holds (t ∷ ts) p.0 p.1) (ok_is {A = B × List T} {E = E} (x, t ∷ ts) (y, rest) (sym (takes ts) ∙ h)) this;
  stopped = λ s h. absurd (let e = sym (takes ts) ∙ h in cc);
} where
  stays : (more : List T) → SameFirst (t ∷ ts) more → read more ≡ Ok (x, more)
  stays [] g = absurd g
  stays (u ∷ us) g = subst (λ v. read (v ∷ us) ≡ Ok (x, v ∷ us)) g (takes us)

-- the list's end says so
pub laws_none_left : {T E B : Type 0} {w : Stopping E} {Kept : List T → Type 0} {read : Reader T E B} {all : B → List T} {Holds : B → Type 0} (x : B) → read [] ≡ Ok (x, []) → all x ≡ [] → Holds x → LawsAt w Kept [] read all Holds []
laws_none_left {T = T} {E = E} {B = B} {w = w} {Kept = Kept} {read = read} {all = all} {Holds = Holds} x takes is holds = record {
  took = λ y rest h.
      let this : Took Kept [] read all Holds [] x [] = record { spelled = ap (λ us. us ++ []) (sym is); holds = λ kept. (holds, kept); again = record { front = []; is = refl; always = λ more g. absurd g } } in
      subst (λ (p : B × List T). Took Kept [] read all Holds [] p.0 p.1) (ok_is {A = B × List T} {E = E} (x, []) (y, rest) (sym takes ∙ h)) this;
  stopped = λ s h. absurd (let e = sym takes ∙ h in cc);
}

-- it is refused
pub laws_stop : {T E B : Type 0} {w : Stopping E} {Kept : List T → Type 0} {read : Reader T E B} {all : B → List T} {Holds : B → Type 0} (t : T) (why : E) → Completes [] all
    → ((ts : List T) → read (t ∷ ts) ≡ Err (w.moved why (suc (length ts)))) → (ts : List T) → LawsAt w Kept [] read all Holds (t ∷ ts)
laws_stop {T = T} {E = E} {B = B} {w = w} {read = read} {all = all} {Holds = Holds} t why some stops ts = record {
  took = λ y rest h. absurd (let e = sym (stops ts) ∙ h in cc);
  stopped = λ s h.
      let n = suc (length ts) in
      let this : Stopped w [] read all (t ∷ ts) (w.moved why n) = record {
        first = inr (record { front = []; first = t; back = ts; is = refl; left = w.leaves why n; always = λ more. stops more ∙ ap (λ z. Err z) (sym (w.moves why n (suc (length more)))) });
        begun = begun_at_once w [] all (t ∷ ts) (w.moved why n) some (w.leaves why n);
      } in
      subst (λ z. Stopped w [] read all (t ∷ ts) z) (err_is {A = B × List T} (w.moved why n) s (sym (stops ts) ∙ h)) this;
}

-- the list ends too early
pub laws_end : {T E B : Type 0} {w : Stopping E} {Kept : List T → Type 0} {read : Reader T E B} {all : B → List T} {Holds : B → Type 0} (d : E) → Completes [] all → read [] ≡ Err d → w.left d ≡ 0 → LawsAt w Kept [] read all Holds []
laws_end {T = T} {E = E} {B = B} {w = w} {read = read} {all = all} {Holds = Holds} d some stops left = record {
  took = λ y rest h. absurd (let e = sym stops ∙ h in cc);
  stopped = λ s h.
      let this : Stopped w [] read all [] d = record { first = inl left; begun = begun_at_once w [] all [] d some left } in
      subst (λ z. Stopped w [] read all [] z) (err_is {A = B × List T} d s (sym stops ∙ h)) this;
}

-- another reader goes on behind it
pub laws_head : {T E B : Type 0} {w : Stopping E} {Kept : List T → Type 0} {read f : Reader T E B} {all : B → List T} {Holds : B → Type 0} (t : T)
    → ((ts : List T) → read (t ∷ ts) ≡ f ts) → ((ts : List T) → Kept (t ∷ ts) → Kept ts) → Reads w Kept (t ∷ []) f all Holds → (ts : List T) → LawsAt w Kept [] read all Holds (t ∷ ts)
laws_head {w = w} {read = read} {f = f} {all = all} {Holds = Holds} t goes tail next ts = record {
  took = λ y rest h.
      let n = (next.at ts).took y rest (sym (goes ts) ∙ h) in
      record { spelled = n.spelled; holds = λ kept. n.holds (tail ts kept); again = took_behind read f t goes (t ∷ ts) ts y rest refl n.again };
  stopped = λ s h.
      let n = (next.at ts).stopped s (sym (goes ts) ∙ h) in
      record { first = stops_behind w read f t goes (t ∷ ts) ts s refl n.first; begun = begun_head w [] t all (t ∷ ts) ts s refl n.begun };
}

-- ---- two readers that agree where the first element is the same

same_head : {T : Type 0} (ts front rest more : List T) → ts ≡ front ++ rest → SameFirst rest more → SameFirst ts (front ++ more)
same_head ts [] rest more e h = subst (λ us. SameFirst us more) (sym e) h
same_head ts (t ∷ front) rest more e h = subst (λ us. SameFirst us (t ∷ (front ++ more))) (sym e) refl

stops_as : {T E B : Type 0} (w : Stopping E) (read f : Reader T E B) (ts : List T) (s : E) → ((us : List T) → SameFirst ts us → read us ≡ f us) → StopsFirst w f ts s → StopsFirst w read ts s
stops_as w read f ts s agree (inl e) = inl e
stops_as w read f ts s agree (inr a) = inr (record {
  front = a.front;
  first = a.first;
  back = a.back;
  is = a.is;
  left = a.left;
  always = λ more. agree (a.front ++ (a.first ∷ more)) (same_head ts a.front (a.first ∷ a.back) (a.first ∷ more) a.is refl) ∙ a.always more;
})

pub laws_as : {T E B : Type 0} {w : Stopping E} {Kept : List T → Type 0} {read f : Reader T E B} {all : B → List T} {Holds : B → Type 0} (t : T) (ts : List T)
    → ((us : List T) → SameFirst (t ∷ ts) us → read us ≡ f us) → LawsAt w Kept [] f all Holds (t ∷ ts) → LawsAt w Kept [] read all Holds (t ∷ ts)
laws_as {w = w} {read = read} {f = f} {all = all} {Holds = Holds} t ts agree l =
    let same : read (t ∷ ts) ≡ f (t ∷ ts) = agree (t ∷ ts) refl in
    record {
      took = λ y rest h.
          let n = l.took y rest (sym same ∙ h) in
          let again = n.again in
          record {
            spelled = n.spelled;
            holds = n.holds;
            again = record { front = again.front; is = again.is; always = λ more g. agree (again.front ++ more) (same_head (t ∷ ts) again.front rest more again.is g) ∙ again.always more g };
          };
      stopped = λ s h.
          let n = l.stopped s (sym same ∙ h) in
          record { first = stops_as w read f (t ∷ ts) s agree n.first; begun = n.begun };
    }
