-- The notes pass no committed chunk, and ask before they cancel.
use Rattle.std.proofs.Common.{◌≡◌, ℕ, ◌+◌, ◌-◌, ◌<◌, max, Bool, false, List, [], ◌∷◌, ◌++◌, map, get_or, refl, ◌∙◌, ap, subst, arith}
use Rattle.std.specs.List.{AllByRecursion}
use Rattle.pp_terms.specs.tree.Range.{Span}
use Rattle.pp_draft.specs.declared.note.Note.{Note}
use Rattle.pp_draft.specs.declared.note.Note.TheVariants.{Have, Request, Cancel}
use Rattle.pp_desk.specs.Steps.{cursor_behind, cursor_after}
use Rattle.pp_seats.specs.Sending.{PassesAll, requested, AsksFirst}
use Rattle.pp_agenda.specs.Agendas.{have_note, request_note, AreRows}

-- ---- the cursor

-- the note is no HAVE
abbrev pub IsQuiet : Note → Type 0
IsQuiet (Have range) = ⊥
IsQuiet _ = Unit {0}

pub quiet_passes : (held : ℕ → Bool) (cursor : ℕ) (xs : List Note) → AllByRecursion IsQuiet xs → PassesAll held cursor xs
quiet_passes held cursor [] a = tt
quiet_passes held cursor (Have range ∷ xs) a = absurd a.0
quiet_passes held cursor (_ ∷ xs) a = (tt, quiet_passes held cursor xs a.1)

pub quiet_stays : (cursor : ℕ) (xs : List Note) → AllByRecursion IsQuiet xs → cursor_after cursor xs ≡ cursor
quiet_stays cursor [] a = refl
quiet_stays cursor (Have range ∷ xs) a = absurd a.0
quiet_stays cursor (_ ∷ xs) a = quiet_stays cursor xs a.1

pub passes_both : (held : ℕ → Bool) (cursor : ℕ) (xs ys : List Note) → PassesAll held cursor xs → PassesAll held (cursor_after cursor xs) ys → PassesAll held cursor (xs ++ ys)
passes_both held cursor [] ys a b = b
passes_both held cursor (x ∷ xs) ys a b = (a.0, passes_both held (cursor_behind cursor x) xs ys a.1 b)

pub stays_both : (cursor : ℕ) (xs ys : List Note) → cursor_after cursor xs ≡ cursor → cursor_after cursor ys ≡ cursor → cursor_after cursor (xs ++ ys) ≡ cursor
stays_both cursor xs ys a b = go cursor xs ∙ ap (λ (n : ℕ). cursor_after n ys) a ∙ b
  where
    go : (from : ℕ) (zs : List Note) → cursor_after from (zs ++ ys) ≡ cursor_after (cursor_after from zs) ys
    go from [] = refl
    go from (z ∷ zs) = go (cursor_behind from z) zs

-- the range begins and ends below the cursor
pub record IsPassed (cursor : ℕ) (range : Span) : Type 0 where
  pub first : range.first < cursor
  pub last : range.last < cursor

pub passed_pass : (held : ℕ → Bool) (cursor : ℕ) (xs : List Span) → AllByRecursion (IsPassed cursor) xs → PassesAll held cursor (map have_note xs)
passed_pass held cursor [] a = tt
passed_pass held cursor (x ∷ xs) a = (
  (λ i low high. absurd (omega (arith, low, high, a.0.first))),
  subst (λ (n : ℕ). PassesAll held n (map have_note xs)) same (passed_pass held cursor xs a.1),
)
  where
    same : cursor ≡ max cursor (x.last + 1)
    same = omega (arith, a.0.last)

pub passed_stay : (cursor : ℕ) (xs : List Span) → AllByRecursion (IsPassed cursor) xs → cursor_after cursor (map have_note xs) ≡ cursor
passed_stay cursor [] a = refl
passed_stay cursor (x ∷ xs) a = ap (λ (n : ℕ). cursor_after n (map have_note xs)) same ∙ passed_stay cursor xs a.1
  where
    same : max cursor (x.last + 1) ≡ cursor
    same = omega (arith, a.0.last)

pub rows_pass : (held : ℕ → Bool) (from : ℕ) (committed : List Bool) (most : ℕ) (rows : List Span) → ((i : ℕ) → held i ≡ get_or committed i false)
    → AreRows from committed most rows → PassesAll held from (map have_note rows)
rows_pass held from committed most [] is are = tt
rows_pass held from committed most (row ∷ rows) is are = (
  (λ i low high. is i ∙ are.1.passed i low high),
  subst (λ (n : ℕ). PassesAll held n (map have_note rows)) same (rows_pass held (row.last + 1) committed (most - 1) rows is are.2),
)
  where
    same : row.last + 1 ≡ max from (row.last + 1)
    same = omega (arith, are.1.low, are.1.order)

-- ---- requests before cancellations

abbrev pub IsNoRequest : Note → Type 0
IsNoRequest (Request range) = ⊥
IsNoRequest _ = Unit {0}

abbrev pub IsNoCancel : Note → Type 0
IsNoCancel (Cancel range) = ⊥
IsNoCancel _ = Unit {0}

pub requested-append : (xs ys : List Note) → requested (xs ++ ys) ≡ requested xs ++ requested ys
requested-append [] ys = refl
requested-append (Request range ∷ xs) ys = ap (λ (zs : List Span). range ∷ zs) (requested-append xs ys)
requested-append (_ ∷ xs) ys = requested-append xs ys

pub requested_none : (xs : List Note) → AllByRecursion IsNoRequest xs → requested xs ≡ []
requested_none [] a = refl
requested_none (Request range ∷ xs) a = absurd a.0
requested_none (_ ∷ xs) a = requested_none xs a.1

pub requested-map : (xs : List Span) → requested (map request_note xs) ≡ xs
requested-map [] = refl
requested-map (x ∷ xs) = ap (λ (zs : List Span). x ∷ zs) (requested-map xs)

pub first_alone : (xs : List Note) → AllByRecursion IsNoCancel xs → AsksFirst xs
first_alone [] a = tt
first_alone (Cancel range ∷ xs) a = absurd a.0
first_alone (_ ∷ xs) a = first_alone xs a.1

-- where nothing is asked for
first_none : (xs : List Note) → AllByRecursion IsNoRequest xs → AsksFirst xs
first_none [] a = tt
first_none (Cancel range ∷ xs) a = requested_none xs a.1
first_none (Request range ∷ xs) a = absurd a.0
first_none (_ ∷ xs) a = first_none xs a.1

pub first_behind : (xs ys : List Note) → AsksFirst xs → AllByRecursion IsNoRequest ys → AsksFirst (xs ++ ys)
first_behind [] ys first none = first_none ys none
first_behind (Cancel range ∷ xs) ys first none = requested-append xs ys ∙ (λ t. first t ++ requested_none ys none t)
first_behind (_ ∷ xs) ys first none = first_behind xs ys first none
