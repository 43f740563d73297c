-- Notes that come behind others.
use Rattle.std.proofs.Common.{◌≡◌, ◌⊎◌, inl, inr, ℕ, ◌+◌, ◌-◌, ◌<◌, ◌≤◌, Bool, true, false, cond, nat_lt, min, List, [], ◌∷◌, ◌++◌, length, map, take, get_or, refl, sym, ◌∙◌, ap, subst, append_assoc, arith}
use Rattle.std.proofs.lemmas.List.{append-nil, length-append, map-append, map_more, take_more, take_all}
use Rattle.std.proofs.lemmas.Bool.{lt-ltb, le-ltb, false≢true}
use Rattle.pp_terms.specs.tree.Range.{Span}
use Rattle.pp_draft.specs.declared.note.Note.{Note}
use Rattle.pp_seat.specs.Own.{IsNextRow}
use Rattle.pp_agenda.specs.Agendas.{parts_below, have_note, most_rows, AreRows, HasRows}

-- nothing came yet
pub put_none : {X : Type 0} (f : X → Note) (xs : List X) (old : List Note) → old ≡ old ++ map f (take 0 xs)
put_none f [] old = sym (append-nil old)
put_none f (x ∷ xs) old = sym (append-nil old)

-- one more came
pub put_more : {X : Type 0} (f : X → Note) (xs : List X) (i : ℕ) (x : X) (old so_far new : List Note) → i < length xs
    → so_far ≡ old ++ map f (take i xs) → new ≡ so_far ++ f (get_or xs i x) ∷ [] → new ≡ old ++ map f (take (i + 1) xs)
put_more f xs i x old so_far new lt is put =
    put ∙ ap (λ (ys : List Note). ys ++ f (get_or xs i x) ∷ []) is ∙ append_assoc old (map f (take i xs)) (f (get_or xs i x) ∷ [])
    ∙ ap (λ (ys : List Note). old ++ ys) (sym (map_more f xs i x lt))

pub put_length : (old new : List Note) (note : Note) → new ≡ old ++ note ∷ [] → length new ≡ length old + 1
put_length old new note put = ap (λ (ys : List Note). length ys) put ∙ length-append old (note ∷ [])

-- all came
pub put_all : {X : Type 0} (f : X → Note) (xs : List X) (i : ℕ) (old new : List Note) → length xs ≤ i → new ≡ old ++ map f (take i xs) → new ≡ old ++ map f xs
put_all f xs i old new all is = is ∙ ap (λ (ys : List _). old ++ map f ys) (take_all i xs all)

-- ---- news

parts-append : (limit : ℕ) (xs ys : List Span) → parts_below limit (xs ++ ys) ≡ parts_below limit xs ++ parts_below limit ys
parts-append limit [] ys = refl
parts-append limit (x ∷ xs) ys = by (nat_lt x.first limit) (parts-append limit xs ys)
  where
    part : Span
    part = record { first = x.first; last = min x.last (limit - 1) }

    by : (b : Bool) → parts_below limit (xs ++ ys) ≡ parts_below limit xs ++ parts_below limit ys
        → cond b (part ∷ parts_below limit (xs ++ ys)) (parts_below limit (xs ++ ys))
        ≡ cond b (part ∷ parts_below limit xs) (parts_below limit xs) ++ parts_below limit ys
    by true rest = ap (λ (zs : List Span). part ∷ zs) rest
    by false rest = rest

pub news_none : (limit : ℕ) (xs : List Span) (old : List Note) → old ≡ old ++ map have_note (parts_below limit (take 0 xs))
news_none limit [] old = sym (append-nil old)
news_none limit (x ∷ xs) old = sym (append-nil old)

-- a range more begins below the limit, or doesn't
pub news_more : (limit : ℕ) (xs : List Span) (i : ℕ) (x part : Span) (old so_far new : List Note) → i < length xs → x ≡ get_or xs i x
    → so_far ≡ old ++ map have_note (parts_below limit (take i xs))
    → ((x.first < limit) × (part ≡ record { first = x.first; last = min x.last (limit - 1) }) × (new ≡ so_far ++ have_note part ∷ [])) ⊎ ((limit ≤ x.first) × (new ≡ so_far))
    → new ≡ old ++ map have_note (parts_below limit (take (i + 1) xs))
news_more limit xs i x part old so_far new lt at is step =
    by step ∙ append_assoc old (map have_note (parts_below limit (take i xs))) (map have_note (parts_below limit (x ∷ [])))
    ∙ ap (λ (ys : List Note). old ++ ys) (sym (map-append have_note (parts_below limit (take i xs)) (parts_below limit (x ∷ []))))
    ∙ ap (λ (ys : List Span). old ++ map have_note ys)
    (sym (ap (parts_below limit) (take_more xs i x lt ∙ ap (λ (y : Span). take i xs ++ y ∷ []) (sym at)) ∙ parts-append limit (take i xs) (x ∷ [])))
  where
    cut : Span
    cut = record { first = x.first; last = min x.last (limit - 1) }

    one : (b : Bool) → nat_lt x.first limit ≡ b → parts_below limit (x ∷ []) ≡ cond b (cut ∷ []) []
    one b e = ap (λ (c : Bool). cond c (cut ∷ []) []) e

    by : ((x.first < limit) × (part ≡ cut) × (new ≡ so_far ++ have_note part ∷ [])) ⊎ ((limit ≤ x.first) × (new ≡ so_far))
        → new ≡ (old ++ map have_note (parts_below limit (take i xs))) ++ map have_note (parts_below limit (x ∷ []))
    by (inl (below, same, put)) =
        put ∙ ap (λ (ys : List Note). ys ++ have_note part ∷ []) is
        ∙ ap (λ (ys : List Span). (old ++ map have_note (parts_below limit (take i xs))) ++ map have_note ys)
        (ap (λ (z : Span). z ∷ []) same ∙ sym (one true (lt-ltb x.first limit below)))
    by (inr (above, kept)) =
        kept ∙ is ∙ sym (append-nil (old ++ map have_note (parts_below limit (take i xs))))
        ∙ ap (λ (ys : List Span). (old ++ map have_note (parts_below limit (take i xs))) ++ map have_note ys) (sym (one false (le-ltb x.first limit above)))

pub news_all : (limit : ℕ) (xs : List Span) (i : ℕ) (old new : List Note) → length xs ≤ i
    → new ≡ old ++ map have_note (parts_below limit (take i xs)) → new ≡ old ++ map have_note (parts_below limit xs)
news_all limit xs i old new all is = is ∙ ap (λ (ys : List Span). old ++ map have_note (parts_below limit ys)) (take_all i xs all)

-- ---- rows

-- Rows that come behind those so far are the rest of all.
abbrev pub RowsRest : (from : ℕ) (committed : List Bool) (old : List Note) (at left : ℕ) (so_far : List Note) → Type 0
RowsRest from committed old at left so_far = (more : List Span) → AreRows at committed left more → HasRows from committed 64 old (so_far ++ map have_note more)

pub rows_none : (from : ℕ) (committed : List Bool) (old : List Note) → RowsRest from committed old from 64 old
rows_none from committed old more are = record { rows = more; are_rows = are; is = refl }

pub rows_more : (from : ℕ) (committed : List Bool) (old : List Note) (at told last : ℕ) (so_far new : List Note) (row : Span) → told < 64 → last ≡ row.last
    → IsNextRow at committed row → new ≡ so_far ++ have_note row ∷ [] → RowsRest from committed old at (64 - told) so_far
    → RowsRest from committed old (last + 1) (64 - (told + 1)) new
rows_more from committed old at told last so_far new row few same is put rest more are =
    subst (λ (ys : List Note). HasRows from committed 64 old ys)
    (sym (ap (λ (ys : List Note). ys ++ map have_note more) put ∙ append_assoc so_far (have_note row ∷ []) (map have_note more)))
    (rest (row ∷ more) (some, is, subst (λ (n : ℕ). AreRows (n + 1) committed (64 - told - 1) more) same (subst (λ (n : ℕ). AreRows (last + 1) committed n more) fewer are)))
  where
    some : 0 < 64 - told
    some = omega arith

    fewer : 64 - (told + 1) ≡ 64 - told - 1
    fewer = omega arith

pub rows_end : (from : ℕ) (committed : List Bool) (old : List Note) (at left : ℕ) (so_far : List Note)
    → (left ≡ 0) ⊎ ((i : ℕ) → at ≤ i → get_or committed i false ≡ false) → RowsRest from committed old at left so_far
    → HasRows from committed 64 old so_far
rows_end from committed old at left so_far ends rest = subst (λ (ys : List Note). HasRows from committed 64 old ys) (append-nil so_far) (rest [] ends)

-- as many as there may be on a channel on which HAVE may go
pub rows_are : (tells : Bool) (cursor from : ℕ) (committed : List Bool) (old new : List Note) → tells ≡ true → from ≡ cursor
    → HasRows from committed 64 old new → HasRows cursor committed (most_rows tells) old new
rows_are true cursor from committed old new may same rows = subst (λ (n : ℕ). HasRows n committed 64 old new) same rows
rows_are false cursor from committed old new may same rows = absurd (false≢true may)
