-- A text that is read piece by piece.
use Rattle.std.proofs.Common.{◌≡◌, ◌↔◌, ℕ, suc, ◌+◌, ◌-◌, ◌<◌, eqb, cond, Bool, true, false, Option, Some, None, List, [], ◌∷◌, ◌++◌, length, refl, sym, ◌∙◌, ap, subst, codes, arith}
use Rattle.std.proofs.lemmas.List.{append-nil}
use Rattle.std.specs.Prelude.{MatchOption, ◌≢◌, slice_index_or}
use Rattle.std.specs.Borrow.{Bor}
use Rattle.std.proofs.lemmas.Bool.{eq-eqb, eqb-true}
use Rattle.pp_terms.specs.command.Report.{more_text, span_text}
use Rattle.pp_terms.specs.tree.Range.{Span}
use Rattle.pp_audit.specs.declared.reports.Walk.{Walk}
use Rattle.pp_audit.specs.Reports.{behind, behind_in, left_of, Reads, ended, begun_after, ranges_from, ranges_behind, comma, rest_text, left_behind}

-- ---- one piece

pub behind_whole : (piece rest : List ℕ) → behind piece (piece ++ rest) ≡ Some rest
unfolding behind
behind_whole [] rest = refl
behind_whole (x ∷ xs) rest = rw (eq-eqb x x refl) (behind_whole xs rest)

IsBehind : List ℕ → List ℕ → Option (List ℕ) → Type 0
IsBehind piece text None = Unit {0}
IsBehind piece text (Some rest) = text ≡ piece ++ rest

behind_is : (piece text : List ℕ) → IsBehind piece text (behind piece text)
unfolding behind IsBehind
behind_is [] text = refl
behind_is (x ∷ xs) [] = tt
behind_is (x ∷ xs) (y ∷ ys) = pick (eqb x y) refl (behind xs ys) (behind_is xs ys)
  where
    pick : (b : Bool) → eqb x y ≡ b → (o : Option (List ℕ)) → IsBehind xs ys o → IsBehind (x ∷ xs) (y ∷ ys) (cond b o None)
    pick true e None h = tt
    pick true e (Some rest) h = ap (λ (n : ℕ). n ∷ ys) (sym (eqb-true x y e)) ∙ ap (λ (zs : List ℕ). x ∷ zs) h
    pick false e o h = tt

pub behind_some : (piece text rest : List ℕ) → behind piece text ≡ Some rest → text ≡ piece ++ rest
unfolding IsBehind
behind_some piece text rest e = subst (λ (o : Option (List ℕ)). IsBehind piece text o) e (behind_is piece text)

behind_none : (piece text : List ℕ) → ((rest : List ℕ) → text ≡ piece ++ rest → ⊥) → behind piece text ≡ None
behind_none piece text none = pick (behind piece text) refl
  where
    pick : (o : Option (List ℕ)) → behind piece text ≡ o → o ≡ None
    pick None e = refl
    pick (Some rest) e = absurd (none rest (behind_some piece text rest e))

-- by what is left of the text
pub stripped : (piece text : List ℕ) (left : Option (Bor (List ℕ)))
    → MatchOption left ((rest : List ℕ) → text ≢ piece ++ rest) (λ rest. text ≡ piece ++ rest.now) → left_of left ≡ behind piece text
stripped piece text None h = sym (behind_none piece text h)
stripped piece text (Some rest) h = sym (ap (λ (t : List ℕ). behind piece t) h ∙ behind_whole piece rest.now)

-- ---- pieces one behind the other

behind_both : (a b text : List ℕ) → behind (a ++ b) text ≡ behind_in b (behind a text)
unfolding behind behind_in
behind_both [] b text = refl
behind_both (x ∷ xs) b [] = refl
behind_both (x ∷ xs) b (y ∷ ys) = pick (eqb x y) (behind_both xs b ys)
  where
    pick : (t : Bool) → behind (xs ++ b) ys ≡ behind_in b (behind xs ys) → cond t (behind (xs ++ b) ys) None ≡ behind_in b (cond t (behind xs ys) None)
    pick true same = same
    pick false same = refl

behind_in_both : (a b : List ℕ) (old : Option (List ℕ)) → behind_in (a ++ b) old ≡ behind_in b (behind_in a old)
unfolding behind_in
behind_in_both a b None = refl
behind_in_both a b (Some text) = behind_both a b text

pub behind_nothing : (old : Option (List ℕ)) → behind_in [] old ≡ old
unfolding behind behind_in
behind_nothing None = refl
behind_nothing (Some text) = refl

pub reads_both : (a b : List ℕ) (old mid new : Option (List ℕ)) → Reads a old mid → Reads b mid new → Reads (a ++ b) old new
reads_both a b old mid new first second = record {
  is = second.is ∙ ap (λ (o : Option (List ℕ)). behind_in b o) first.is ∙ sym (behind_in_both a b old);
}

pub reads_some : (piece text : List ℕ) (left : Option (Bor (List ℕ)))
    → MatchOption left ((rest : List ℕ) → text ≢ piece ++ rest) (λ rest. text ≡ piece ++ rest.now) → Reads piece (Some text) (left_of left)
unfolding behind_in
reads_some piece text left h = record { is = stripped piece text left h }

pub reads_none : (piece : List ℕ) → Reads piece None None
unfolding behind_in
reads_none piece = record { is = refl }

-- all of a text was read exactly where the text is the piece
pub read_whole : (piece text : List ℕ) (left : Option (List ℕ)) → Reads piece (Some text) left → (left ≡ Some []) ↔ (text ≡ piece)
unfolding behind_in
read_whole piece text left r = (
  λ e. behind_some piece text [] (sym r.is ∙ e) ∙ nothing_more piece,
  λ e. r.is ∙ ap (λ (t : List ℕ). behind piece t) (e ∙ sym (nothing_more piece)) ∙ behind_whole piece [],
)
  where
    nothing_more : (xs : List ℕ) → xs ++ [] ≡ xs
    nothing_more [] = refl
    nothing_more (x ∷ xs) = ap (λ (zs : List ℕ). x ∷ zs) (nothing_more xs)

-- ---- ranges

pub range_read : (is_more : Bool) (span : Span) (more : List Span) (old new : Option (List ℕ)) → Reads (comma is_more ++ span_text span) old new
    → behind_in (more_text more) new ≡ behind_in (rest_text is_more (span ∷ more)) old
range_read true span more old new r =
    ap (λ (o : Option (List ℕ)). behind_in (more_text more) o) r.is ∙ sym (behind_in_both (codes "," ++ span_text span) (more_text more) old)
range_read false span more old new r =
    ap (λ (o : Option (List ℕ)). behind_in (more_text more) o) r.is ∙ sym (behind_in_both (span_text span) (more_text more) old)

pub ended_here : (begun : Option ℕ) (i first last : ℕ) (is_in : Bool) → begun ≡ Some first → is_in ≡ false → last ≡ i - 1
    → (more : List Span) → record { first = first; last = last } ∷ more ≡ ended begun i is_in ++ more
ended_here begun i first last is_in e out at more =
    let one : ended begun i is_in ≡ record { first = first; last = i - 1 } ∷ [] =
    ap (λ (b : Option ℕ). ended b i is_in) e ∙ ap (λ (b : Bool). ended (Some first) i b) out in
    ap (λ (n : ℕ). record { first = first; last = n } ∷ more) at ∙ sym (ap (λ (spans : List Span). spans ++ more) one)

-- a walk over one number more
pub walk_step : (set : List Bool) (old new : Walk) (i : ℕ) (whole : Option (List ℕ)) → i < length set
    → new.begun ≡ begun_after old.begun i (slice_index_or set i false)
    → ((more : List Span) → left_behind new more ≡ left_behind old (ended old.begun i (slice_index_or set i false) ++ more))
    → left_behind old (ranges_behind set old.begun i) ≡ whole
    → left_behind new (ranges_behind set new.begun (i + 1)) ≡ whole
unfolding ranges_behind ranges_from
walk_step set old new i whole lt begun_is read_on before =
    let test : ℕ → Bool = λ k. slice_index_or set k false in
    let less : ℕ = length set - (i + 1) in
    let next : i + 1 ≡ suc i = omega arith in
    let count : length set - i ≡ suc (length set - (i + 1)) = omega (arith, lt) in
    ap (λ (o : Option ℕ). left_behind new (ranges_from test o (i + 1) less)) begun_is
    ∙ ap (λ (k : ℕ). left_behind new (ranges_from test (begun_after old.begun i (test i)) k less)) next
    ∙ read_on (ranges_from test (begun_after old.begun i (test i)) (suc i) less)
    ∙ ap (λ (n : ℕ). left_behind old (ranges_from test old.begun i n)) (sym count)
    ∙ before

walk_end : (set : List Bool) (old new : Walk) (number : ℕ) (whole : Option (List ℕ)) → number ≡ length set
    → ((more : List Span) → left_behind new more ≡ left_behind old (ended old.begun (length set) false ++ more))
    → left_behind old (ranges_behind set old.begun number) ≡ whole
    → left_behind new [] ≡ whole
unfolding ranges_behind ranges_from
walk_end set old new number whole at read_on before =
    let none : length set - length set ≡ 0 = omega arith in
    read_on [] ∙ ap (λ (spans : List Span). left_behind old spans) (append-nil (ended old.begun (length set) false))
    ∙ ap (λ (n : ℕ). left_behind old (ranges_from (λ k. slice_index_or set k false) old.begun (length set) n)) (sym none)
    ∙ ap (λ (n : ℕ). left_behind old (ranges_behind set old.begun n)) (sym at)
    ∙ before

-- ranges were read, or `none` stands there
pub walk_some : (set : List Bool) (old new : Walk) (number : ℕ) (whole : Option (List ℕ)) → number ≡ length set
    → ((more : List Span) → left_behind new more ≡ left_behind old (ended old.begun (length set) false ++ more))
    → left_behind old (ranges_behind set old.begun number) ≡ whole
    → new.is_more ≡ true → left_of new.left ≡ whole
walk_some set old new number whole at read_on before some =
    sym (behind_nothing (left_of new.left)) ∙ sym (ap (λ (b : Bool). behind_in (rest_text b []) (left_of new.left)) some)
    ∙ walk_end set old new number whole at read_on before

pub walk_none : (set : List Bool) (old new : Walk) (number : ℕ) (whole left : Option (List ℕ)) → number ≡ length set
    → ((more : List Span) → left_behind new more ≡ left_behind old (ended old.begun (length set) false ++ more))
    → left_behind old (ranges_behind set old.begun number) ≡ whole
    → new.is_more ≡ false → Reads (codes "none") (left_of new.left) left → left ≡ whole
walk_none set old new number whole left at read_on before none r =
    r.is ∙ sym (ap (λ (b : Bool). behind_in (rest_text b []) (left_of new.left)) none)
    ∙ walk_end set old new number whole at read_on before
