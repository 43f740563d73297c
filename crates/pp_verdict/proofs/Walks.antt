-- What was found entry by entry and life by life.
use Rattle.std.proofs.Common.{◌≡◌, ⊎_elim, ℕ, ◌+◌, ◌<◌, ◌≤◌, Bool, true, false, cond, add-one, append-nil, List, [], ◌∷◌, ◌++◌, length, get_or, min, take, drop, map, reverse, replicate, refl, sym, ◌∙◌, ap, subst, arith, get_or-set_other, get_or-set_same}
use Rattle.std.proofs.Math.ListN.{set}
use mir.Val.{bool_byte}
use Rattle.std.proofs.Math.Seq.{take-suc}
use Rattle.std.specs.List.{count_by}
use Rattle.std.proofs.lemmas.List.Sums.{sum_by-cons}
use Rattle.std.proofs.lemmas.Bool.{cases_lt}
use Rattle.std.proofs.lemmas.List.{get_or_default, get_or-replicate, reverse-append, map-append, take-append-drop, take_all, drop_all}
use Rattle.pp_terms.specs.format.Traffic.{Record}
use Rattle.pp_terms.specs.format.Descriptor.{Descriptor}
use Rattle.pp_terms.specs.tree.Book.{LookUp}
use Rattle.pp_traffic.specs.Past.{EachRecord}
use Rattle.pp_traffic.specs.Life.{Life}
use Rattle.pp_recorded.specs.declared.entry.Entry.{Entry}
use Rattle.pp_recorded.specs.Entries.{record_of, past}
use Rattle.pp_recorded.proofs.Pasts.{first, one_more}
use Rattle.pp_verdict.specs.Findings.{Finds, Notes, case_at, AreFound, AreNoted, AreAll, IsSettled}
use Rattle.pp_verdict.specs.Reaches.{reached, IsCovered}
use Rattle.pp_verdict.specs.declared.reaches.Reach.{Reach}
use Rattle.pp_verdict.specs.declared.findings.Finding.{Finding}
use Rattle.pp_verdict.proofs.Notes.{elsewhere_notes}
use Rattle.pp_verdict.specs.declared.findings.Finding.TheVariants.{Unseen}

-- one element at a place
pub one_at : {A : Type 0} (xs : List A) (k : ℕ) (x y : A) → k < length xs → x ≡ get_or xs k x → y ≡ get_or xs k y → x ≡ y
one_at xs k x y lt e f = e ∙ get_or_default xs k x y lt ∙ sym f

pub element_at : {A : Type 0} (xs : List A) (k : ℕ) → k < length xs → (x : A) × (x ≡ get_or xs k x)
element_at [] k lt = absurd (omega arith)
element_at (y ∷ ys) k lt = (get_or (y ∷ ys) k y, get_or_default (y ∷ ys) k y (get_or (y ∷ ys) k y) lt)

-- ---- one life

-- the finding of one entry more
pub noted_more : (d : Descriptor) (book : LookUp) (entries : List Entry) (life : Life) (old now : List Finding) (place : ℕ) (x0 : Entry) (f0 g0 : Finding)
    → place < length entries → length now ≡ length entries → x0 ≡ get_or entries place x0 → f0 ≡ get_or now place f0
    → ((k : ℕ) (x : Entry) (f g : Finding) → k < place → x ≡ get_or entries k x → f ≡ get_or old k f → g ≡ get_or now k g → Notes (case_at d book entries k x) life f g)
    → ((k : ℕ) (z : Finding) → place ≤ k → get_or now k z ≡ get_or old k z)
    → Notes (case_at d book entries place x0) life f0 g0
    → (k : ℕ) (x : Entry) (f g : Finding) → k < place + 1 → x ≡ get_or entries k x → f ≡ get_or old k f → g ≡ get_or (set now place g0) k g
    → Notes (case_at d book entries k x) life f g
noted_more d book entries life old now place x0 f0 g0 inside room x0_is f0_is before later here k x f g lt x_is f_is g_is = ⊎_elim
    (λ less. before k x f g less x_is f_is (g_is ∙ get_or-set_other now place k g0 g (λ e. omega (arith, e, less))))
    (λ ge.
    let same : k ≡ place = omega arith in
    let within : place < length now = omega arith in
    let x_same : x ≡ x0 = one_at entries place x x0 inside (subst (λ (n : ℕ). x ≡ get_or entries n x) same x_is) x0_is in
    let f_same : f ≡ f0 = one_at now place f f0 within
    (subst (λ (n : ℕ). f ≡ get_or old n f) same f_is ∙ sym (later place f (let le : place ≤ place = omega arith in le))) f0_is in
    let g_same : g ≡ g0 = subst (λ (n : ℕ). g ≡ get_or (set now place g0) n g) same g_is ∙ get_or-set_same now place g0 g within in
    subst (λ (n : ℕ). Notes (case_at d book entries n x) life f g) (sym same)
    (subst (λ (y : Entry). Notes (case_at d book entries place y) life f g) (sym x_same)
    (subst (λ (h : Finding). Notes (case_at d book entries place x0) life h g) (sym f_same)
    (subst (λ (h : Finding). Notes (case_at d book entries place x0) life f0 h) (sym g_same) here))))
    (cases_lt k place)

pub later_kept : (old now : List Finding) (place : ℕ) (g0 : Finding) → ((k : ℕ) (z : Finding) → place ≤ k → get_or now k z ≡ get_or old k z)
    → (k : ℕ) (z : Finding) → place + 1 ≤ k → get_or (set now place g0) k z ≡ get_or old k z
later_kept old now place g0 later k z le = get_or-set_other now place k g0 z (λ e. omega (arith, e, le)) ∙ later k z (omega (arith, le))

-- those of all, where no chunk is sent behind the place
pub noted_all : (d : Descriptor) (book : LookUp) (entries : List Entry) (r : Reach) (old now : List Finding) (place : ℕ)
    → min r.end (length entries) ≤ place → length now ≡ length entries → IsCovered d entries r
    → ((k : ℕ) (x : Entry) (f g : Finding) → k < place → x ≡ get_or entries k x → f ≡ get_or old k f → g ≡ get_or now k g → Notes (case_at d book entries k x) (reached r) f g)
    → ((k : ℕ) (z : Finding) → place ≤ k → get_or now k z ≡ get_or old k z)
    → AreNoted d book entries (reached r) old now
noted_all d book entries r old now place ends room covered noted later k x f g lt x_is f_is g_is = ⊎_elim
    (λ less. noted k x f g less x_is f_is g_is)
    (λ ge.
    let far : r.end ≤ k = omega (arith, ends, ge, lt) in
    let same : g ≡ f = one_at now k g f (omega (arith, lt, room)) g_is (f_is ∙ sym (later k f ge)) in
    subst (λ (h : Finding). Notes (case_at d book entries k x) (reached r) f h) (sym same)
    (elsewhere_notes (case_at d book entries k x) (reached r) f
    (λ on. covered k x on.chunk far lt x_is on.is.is (sym on.suits.at) on.suits.by)))
    (cases_lt k place)

-- ---- several lives

pub found_none : (d : Descriptor) (book : LookUp) (entries : List Entry) (findings : List Finding) (n : ℕ) → findings ≡ replicate n Unseen → n ≡ length entries
    → AreFound d book entries [] findings
found_none d book entries findings n are room k x f lt x_is f_is =
    let unseen : f ≡ Unseen = f_is ∙ ap (λ (fs : List Finding). get_or fs k f) are ∙ get_or-replicate n k Unseen f (omega (arith, lt, room)) in
    subst (λ (g : Finding). Finds (case_at d book entries k x) [] g) (sym unseen) (λ life has on. let none = has.1 in absurd (omega arith))

pub found_more : (d : Descriptor) (book : LookUp) (entries : List Entry) (lives : List Life) (life : Life) (old new : List Finding) → length old ≡ length entries
    → AreFound d book entries lives old → AreNoted d book entries life old new → AreFound d book entries (lives ++ life ∷ []) new
found_more d book entries lives life old new room found noted k x g lt x_is g_is =
    let f = element_at old k (omega (arith, lt, room)) in
    noted k x f.0 g lt x_is f.1 g_is lives (found k x f.0 lt x_is f.1)

-- ---- records

-- the records behind an entry, it, and those before
pub split_at : (xs : List Entry) (k : ℕ) (x : Entry) → k < length xs → x ≡ get_or xs k x → (later : List Record) × (past xs ≡ later ++ record_of x ∷ first k xs)
split_at xs k x lt is = (
  reverse (map record_of (drop (k + 1) xs)),
  ap (λ (ys : List Entry). past ys) (sym (take-append-drop (k + 1) xs))
      ∙ ap (λ (rs : List Record). reverse rs) (map-append record_of (take (k + 1) xs) (drop (k + 1) xs))
      ∙ reverse-append (map record_of (take (k + 1) xs)) (map record_of (drop (k + 1) xs))
      ∙ ap (λ (rs : List Record). reverse (map record_of (drop (k + 1) xs)) ++ rs) (one_more xs k x lt is),
)

pub record_there : (P : List Record → Record → Type 0) (later : List Record) (r : Record) (rs : List Record) → EachRecord P (later ++ r ∷ rs) → P rs r
record_there P [] r rs each = each.0
record_there P (x ∷ later) r rs each = record_there P later r rs each.1

-- ---- lists of lives

pub mapped_more : {A : Type 0} (f : A → Life) (xs : List A) (i : ℕ) (x : A) → i < length xs → x ≡ get_or xs i x → map f (take (i + 1) xs) ≡ map f (take i xs) ++ f x ∷ []
mapped_more {A} f xs i x lt is =
    ap (λ (n : ℕ). map f (take n xs)) (add-one i)
    ∙ ap (λ (ys : List A). map f ys) (take-suc xs i x lt)
    ∙ map-append f (take i xs) (get_or xs i x ∷ [])
    ∙ ap (λ (y : A). map f (take i xs) ++ f y ∷ []) (sym is)

pub mapped_all : {A : Type 0} (f : A → Life) (xs : List A) (i : ℕ) → length xs ≤ i → map f (take i xs) ≡ map f xs
mapped_all {A} f xs i le = ap (λ (ys : List A). map f ys) (take_all i xs le)

-- what was written through a slice of all findings
pub written_back : (old new : List Finding) (count : ℕ) → length new ≡ length old → length old ≤ count → take count (new ++ drop (length new) old) ≡ new
written_back old new count same le =
    let none : drop (length new) old ≡ [] = drop_all (length new) old (omega (arith, same)) in
    ap (λ (fs : List Finding). take count (new ++ fs)) none
    ∙ ap (λ (fs : List Finding). take count fs) (append-nil new)
    ∙ take_all count new (omega (arith, same, le))

-- ---- what is settled, and what is counted

pub settled_at : (d : Descriptor) (book : LookUp) (entries : List Entry) (findings : List Finding) (rooted : Type 0) (place : ℕ) (x : Entry) (f : Finding)
    → (rooted → (lives : List Life) × AreAll d entries lives × AreFound d book entries lives findings)
    → place < length entries → x ≡ get_or entries place x → f ≡ get_or findings place f
    → rooted → IsSettled (case_at d book entries place x) f
settled_at d book entries findings rooted place x f found lt x_is f_is r =
    let (lives, all, are) = found r in
    (lives, λ life. all place life, are place x f lt x_is f_is)

pub count_more : (p : Record → Bool) (r : Record) (rs : List Record) (has : Bool) (n m : ℕ) → has ≡ p r → n ≡ count_by p rs → m ≡ cond has 1 0 → n + m ≡ count_by p (r ∷ rs)
count_more p r rs has n m is so_far more =
    let here : m ≡ cond (p r) 1 0 = more ∙ ap (λ (b : Bool). cond b 1 0) is in
    let whole : count_by p (r ∷ rs) ≡ cond (p r) 1 0 + count_by p rs = sum_by-cons (λ (x : Record). cond (p x) 1 0) r rs in
    omega (arith, here, so_far, whole)

pub count_few : (has : Bool) (n m k : ℕ) → n ≤ k → m ≡ cond has 1 0 → n + m ≤ k + 1
count_few true n m k le is = omega (arith, le, is)
count_few false n m k le is = omega (arith, le, is)

pub byte_is : (has : Bool) → bool_byte has ≡ cond has 1 0
byte_is true = refl
byte_is false = refl
