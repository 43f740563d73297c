-- Numbers in rising order as ranges, number by number.
use Rattle.std.proofs.Common.{◌≡◌, ℕ, ◌+◌, ◌<◌, ◌≤◌, ◌==◌, Bool, ◌||◌, List, [], ◌∷◌, ◌++◌, length, drop, get_or, refl, sym, ◌∙◌, ap, subst, append_assoc, arith}
use Rattle.std.specs.List.{list_any}
use Rattle.std.proofs.lemmas.Bool.Decides.{nat_tests}
use Rattle.pp_terms.specs.tree.Range.{Span, within, has, IsRunsFrom}
use Rattle.pp_ranges.proofs.Runs.{runs_weaken}
use Rattle.pp_news.proofs.Rising.{IsRisingFrom, drop_at, drop_end, rising_at}

-- The ranges have the numbers of an open range and of those to come.
pub record IsRunsOver (first last : ℕ) (rest : List ℕ) (out : List Span) : Type 0 where
  pub same : (i : ℕ) → has out i ≡ (within (record { first = first; last = last }) i || list_any (λ c. c == i) rest)
  pub runs : IsRunsFrom first out
  pub few : length out ≤ length rest + 1

wider : (first last c i : ℕ) (b : Bool) → first ≤ last → last ≤ c → c ≤ last + 1
    → (within (record { first = first; last = c }) i || b) ≡ (within (record { first = first; last = last }) i || ((c == i) || b))
wider first last c i b order low near = grind (arith, nat_tests)

pub single : (c i : ℕ) → within (record { first = c; last = c }) i ≡ (c == i)
single c i = grind (arith, nat_tests)

pub runs_extend : (first last c : ℕ) (rest : List ℕ) (out : List Span) → first ≤ last → last ≤ c → c ≤ last + 1 → IsRunsOver first c rest out
    → IsRunsOver first last (c ∷ rest) out
runs_extend first last c rest out order low near h = record {
  same = λ i. h.same i ∙ wider first last c i (list_any (λ d. d == i) rest) order low near;
  runs = h.runs;
  few = let few = h.few in omega arith;
}

pub runs_close : (first last c : ℕ) (rest : List ℕ) (out : List Span) → first ≤ last → last + 1 < c → IsRunsOver c c rest out
    → IsRunsOver first last (c ∷ rest) (record { first = first; last = last } ∷ out)
runs_close first last c rest out order far h = record {
  same = λ i. ap (λ (b : Bool). within (record { first = first; last = last }) i || b)
      (h.same i ∙ ap (λ (b : Bool). b || list_any (λ d. d == i) rest) (single c i));
  runs = (omega arith, order, runs_weaken (last + 2) c out (omega arith) h.runs);
  few = let few = h.few in omega arith;
}

pub runs_last : (first last : ℕ) → first ≤ last → IsRunsOver first last [] (record { first = first; last = last } ∷ [])
runs_last first last order = record { same = λ i. refl; runs = (omega arith, order, tt); few = omega arith }

-- What the loop keeps: ranges that are done, an open one, and the numbers from an index on.
pub record RunsLoop (start : ℕ) (xs : List ℕ) (k first last : ℕ) (done : List Span) : Type 0 where
  pub follows : (out : List Span) → IsRunsOver first last (drop k xs) out → IsRunsOver start start xs (done ++ out)
  pub rising : IsRisingFrom last (drop k xs)
  pub order : first ≤ last

pub runs_begin : (start : ℕ) (xs : List ℕ) (done : List Span) → done ≡ [] → IsRisingFrom start xs → RunsLoop start xs 0 start start done
runs_begin start xs done none rising = record {
  follows = λ out h. subst (λ (ys : List Span). IsRunsOver start start xs (ys ++ out)) (sym none) h;
  rising = rising;
  order = omega arith;
}

module _ (start : ℕ) (xs : List ℕ) (k d first last first' last' : ℕ) (done done' : List Span) (lt : k < length xs) (h : RunsLoop start xs k first last done) where
  pub runs_low : last ≤ get_or xs k d
  runs_low = (rising_at last xs k d lt h.rising).0

  pub runs_extended : get_or xs k d ≤ last + 1 → done' ≡ done → first' ≡ first → last' ≡ get_or xs k d → RunsLoop start xs (k + 1) first' last' done'
  runs_extended near done_is first_is last_is =
      subst (λ (ys : List Span). RunsLoop start xs (k + 1) first' last' ys) (sym done_is)
      (subst (λ (f : ℕ). RunsLoop start xs (k + 1) f last' done) (sym first_is)
      (subst (λ (l : ℕ). RunsLoop start xs (k + 1) first l done) (sym last_is) (record {
        follows = λ out g. h.follows out (subst (λ (ys : List ℕ). IsRunsOver first last ys out) (sym (drop_at xs k d lt))
            (runs_extend first last (get_or xs k d) (drop (k + 1) xs) out h.order runs_low near g));
        rising = (rising_at last xs k d lt h.rising).1;
        order = let low = runs_low in let order = h.order in omega arith;
      })))

  pub runs_closed : last + 1 < get_or xs k d → done' ≡ done ++ record { first = first; last = last } ∷ [] → first' ≡ get_or xs k d → last' ≡ get_or xs k d
      → RunsLoop start xs (k + 1) first' last' done'
  runs_closed far done_is first_is last_is =
      subst (λ (f : ℕ). RunsLoop start xs (k + 1) f last' done') (sym first_is)
      (subst (λ (l : ℕ). RunsLoop start xs (k + 1) (get_or xs k d) l done') (sym last_is) (record {
        follows = λ out g. subst (λ (ys : List Span). IsRunsOver start start xs ys)
            (sym (ap (λ (ys : List Span). ys ++ out) done_is ∙ append_assoc done (record { first = first; last = last } ∷ []) out))
            (h.follows (record { first = first; last = last } ∷ out)
            (subst (λ (ys : List ℕ). IsRunsOver first last ys (record { first = first; last = last } ∷ out)) (sym (drop_at xs k d lt))
            (runs_close first last (get_or xs k d) (drop (k + 1) xs) out h.order far g)));
        rising = (rising_at last xs k d lt h.rising).1;
        order = omega arith;
      }))

-- after the last one
pub runs_end : (start : ℕ) (xs : List ℕ) (k first last : ℕ) (done done' : List Span) → length xs ≤ k → RunsLoop start xs k first last done
    → done' ≡ done ++ record { first = first; last = last } ∷ [] → IsRunsOver start start xs done'
runs_end start xs k first last done done' all h is =
    subst (λ (ys : List Span). IsRunsOver start start xs ys) (sym is)
    (h.follows (record { first = first; last = last } ∷ [])
    (subst (λ (ys : List ℕ). IsRunsOver first last ys (record { first = first; last = last } ∷ [])) (sym (drop_end xs k all)) (runs_last first last h.order)))

pub runs_same : (start : ℕ) (xs chunks : List ℕ) (out : List Span) → chunks ≡ start ∷ xs → IsRunsOver start start xs out → (i : ℕ)
    → has out i ≡ list_any (λ c. c == i) chunks
runs_same start xs chunks out is h i =
    h.same i ∙ ap (λ (b : Bool). b || list_any (λ c. c == i) xs) (single start i) ∙ ap (λ (ys : List ℕ). list_any (λ c. c == i) ys) (sym is)

pub runs_rise : (start : ℕ) (xs : List ℕ) (out : List Span) → IsRunsOver start start xs out → IsRunsFrom 0 out
runs_rise start xs out h = runs_weaken 0 start out (omega arith) h.runs
