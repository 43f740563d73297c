-- The last turn of a traffic, and the turns before it.
use Rattle.std.proofs.Common.{◌≡◌, ℕ, suc, ◌+◌, ◌-◌, ◌<◌, ◌≤◌, leb, not, Bool, true, false, ◌&&◌, ◌||◌, Option, Some, None, List, [], ◌∷◌, ◌++◌, length, get_or, take, drop, map, reverse, refl, sym, ◌∙◌, ap, arith}
use Rattle.std.specs.List.{list_any}
use Rattle.std.proofs.lemmas.List.{take-append-drop, map-append, reverse-append, length-append, drop_at}
use Rattle.std.proofs.lemmas.Bool.{le-leb, lt-leb}
use Rattle.pp_terms.specs.format.Traffic.{Record, Received, Quiet, Sent}
use Rattle.pp_traffic.specs.Past.{some_since}
use Rattle.pp_traffic.proofs.Plains.{none_from_end}
use Rattle.pp_terms.specs.format.Descriptor.{Descriptor}
use Rattle.pp_traffic.specs.Prompt.{lets_in}
use Rattle.pp_promises.specs.Answered.{is_newcomer, is_let_in}
use Rattle.pp_audit.specs.Clauses.{lets_in_last}
use Rattle.pp_promises.specs.LastTurn.{last_event, sent_since, earlier}
use Rattle.pp_recorded.specs.declared.entry.Entry.{Entry}
use Rattle.pp_recorded.specs.Entries.{record_of, past}
use Rattle.pp_audit.specs.Ends.{turn_start}
use Rattle.pp_recorded.proofs.Pasts.{first, one_more, length_first, length_past}

-- ---- before the first event

pub none_last : (past : List Record) → turn_start past ≡ 0 → last_event past ≡ None
none_last [] e = refl
none_last (Received at sender bytes ∷ b) e = absurd (omega (arith, e))
none_last (Quiet at ∷ b) e = absurd (omega (arith, e))
none_last (Sent moment receiver bytes ∷ b) e = none_last b e

-- ---- behind one

-- What was sent in the last turn, its event, and what was before it.
pub record IsTurn (past : List Record) (start : ℕ) : Type 0 where
  pub event : Record
  pub last : last_event past ≡ Some event
  pub split : past ≡ sent_since past ++ event ∷ earlier past
  pub place : length (earlier past) + 1 ≡ start

pub turn_of : (past : List Record) → 0 < turn_start past → IsTurn past (turn_start past)
turn_of [] lt = absurd (omega (arith, lt))
turn_of (Received at sender bytes ∷ b) lt = record { event = Received at sender bytes; last = refl; split = refl; place = refl }
turn_of (Quiet at ∷ b) lt = record { event = Quiet at; last = refl; split = refl; place = refl }
turn_of (Sent moment receiver bytes ∷ b) lt =
    let t = turn_of b lt in
    record { event = t.event; last = t.last; split = ap (λ (rs : List Record). Sent moment receiver bytes ∷ rs) t.split; place = t.place }

-- ---- the oldest records of a recorded list

-- what was before a place is what the first entries mean
pub first_parts : (xs : List Entry) (n : ℕ) → past xs ≡ reverse (map record_of (drop n xs)) ++ first n xs
first_parts xs n =
    ap (λ (ys : List Entry). reverse (map record_of ys)) (sym (take-append-drop n xs))
    ∙ ap (λ (rs : List Record). reverse rs) (map-append record_of (take n xs) (drop n xs))
    ∙ reverse-append (map record_of (take n xs)) (map record_of (drop n xs))

pub first_is : (xs : List Entry) (front before : List Record) (n : ℕ) → past xs ≡ front ++ before → length before ≡ n → first n xs ≡ before
first_is xs front before n e is =
    let later = reverse (map record_of (drop n xs)) in
    let whole : length (past xs) ≡ length front + length before = ap (λ (rs : List Record). length rs) e ∙ length-append front before in
    let le : n ≤ length xs = omega (arith, whole, is, length_past xs) in
    let same : length (past xs) ≡ length later + n =
    ap (λ (rs : List Record). length rs) (first_parts xs n) ∙ length-append later (first n xs) ∙ ap (λ (m : ℕ). length later + m) (length_first xs n le) in
    let alike : length later ≡ length front = omega (arith, whole, same, is) in
    sym (drop_at later (first n xs) (length front) alike)
    ∙ ap (λ (rs : List Record). drop (length front) rs) (sym (first_parts xs n) ∙ e)
    ∙ drop_at front before (length front) refl

-- ---- the last turn by places

-- the turns before the last one are the first entries, and its event is the one behind them
pub earlier_is : (xs : List Entry) → (t : IsTurn (past xs) (turn_start (past xs))) → first (turn_start (past xs) - 1) xs ≡ earlier (past xs)
earlier_is xs t =
    first_is xs (sent_since (past xs) ++ t.event ∷ []) (earlier (past xs)) (turn_start (past xs) - 1)
    (t.split ∙ assoc (sent_since (past xs)) t.event (earlier (past xs))) (omega (arith, t.place))
  where
    assoc : (a : List Record) (x : Record) (b : List Record) → a ++ x ∷ b ≡ (a ++ x ∷ []) ++ b
    assoc [] x b = refl
    assoc (y ∷ a) x b = ap (λ (rs : List Record). y ∷ rs) (assoc a x b)

head_same : (x y : Record) (xs ys : List Record) → x ∷ xs ≡ y ∷ ys → x ≡ y
head_same x y xs ys e = cc

pub event_is : (xs : List Entry) (x : Entry) → (t : IsTurn (past xs) (turn_start (past xs))) → turn_start (past xs) ≤ length xs
    → x ≡ get_or xs (turn_start (past xs) - 1) x → record_of x ≡ t.event
event_is xs x t le is =
    let n = turn_start (past xs) in
    head_same (record_of x) t.event (first (n - 1) xs) (earlier (past xs))
    (sym (one_more xs (n - 1) x (omega (arith, t.place, le)) is)
    ∙ ap (λ (m : ℕ). first m xs) (let e : n - 1 + 1 ≡ n = omega (arith, t.place) in e)
    ∙ first_is xs (sent_since (past xs)) (t.event ∷ earlier (past xs)) n t.split (let e : suc (length (earlier (past xs))) ≡ n = omega (arith, t.place) in e))

pub start_within : (past : List Record) → turn_start past ≤ length past
start_within [] = omega arith
start_within (Received at sender bytes ∷ b) = omega arith
start_within (Quiet at ∷ b) = omega arith
start_within (Sent moment receiver bytes ∷ b) = let le = start_within b in omega (arith, le)

none_from_event : (test : Record → Bool) (r : Record) (b : List Record) → false ≡ ((leb (length b + 1) (length b) && test r) || some_since test (length b + 1) b)
none_from_event test r b =
    rw (lt-leb (length b + 1) (length b) (omega arith)) (sym (none_from_end test (length b + 1) b (omega arith)))

-- what was sent since is what was sent from there on
pub since_start : (test : Record → Bool) (past : List Record) → list_any test (sent_since past) ≡ some_since test (turn_start past) past
since_start test [] = refl
since_start test (Received at sender bytes ∷ b) = none_from_event test (Received at sender bytes) b
since_start test (Quiet at ∷ b) = none_from_event test (Quiet at) b
since_start test (Sent moment receiver bytes ∷ b) =
    rw (le-leb (turn_start b) (length b) (start_within b)) (ap (λ (x : Bool). test (Sent moment receiver bytes) || x) (since_start test b))

none_earlier : (past : List Record) → turn_start past ≡ 0 → earlier past ≡ []
none_earlier [] e = refl
none_earlier (Received at sender bytes ∷ b) e = absurd (omega (arith, e))
none_earlier (Quiet at ∷ b) e = absurd (omega (arith, e))
none_earlier (Sent moment receiver bytes ∷ b) e = none_earlier b e

pub earlier_none : (xs : List Entry) (start : ℕ) → start ≡ turn_start (past xs) → start ≡ 0 → first 0 xs ≡ earlier (past xs)
earlier_none xs start is e = sym (none_earlier (past xs) (sym is ∙ e))

pub earlier_some : (xs : List Entry) (start : ℕ) → start ≡ turn_start (past xs) → (start ≡ 0 → ⊥) → first (start - 1) xs ≡ earlier (past xs)
earlier_some xs start is some =
    ap (λ (n : ℕ). first (n - 1) xs) is ∙ earlier_is xs (turn_of (past xs) (omega (arith, is, some)))

-- ---- newcomers

pub lets_none : (d : Descriptor) (past : List Record) (start : ℕ) → start ≡ turn_start past → start ≡ 0 → true ≡ lets_in_last d past
lets_none d past start is e = sym (ap (λ (o : Option Record). is_let_in d o (sent_since past) (earlier past)) (none_last past (sym is ∙ e)))

lets_by : (d : Descriptor) (xs : List Entry) (x : Entry) (start : ℕ) → start ≡ turn_start (past xs) → (start ≡ 0 → ⊥) → x ≡ get_or xs (start - 1) x
    → lets_in_last d (past xs) ≡ (not (is_newcomer d (record_of x) (first (start - 1) xs)) || some_since (lets_in d (record_of x)) start (past xs))
lets_by d xs x start is some at =
    let n = turn_start (past xs) in
    let t = turn_of (past xs) (omega (arith, is, some)) in
    let event : record_of x ≡ t.event =
    event_is xs x t (omega (arith, start_within (past xs), length_past xs)) (at ∙ ap (λ (m : ℕ). get_or xs (m - 1) x) is) in
    ap (λ (o : Option Record). is_let_in d o (sent_since (past xs)) (earlier (past xs))) (t.last ∙ ap (λ (r : Record). Some r) (sym event))
    ∙ ap (λ (rs : List Record). not (is_newcomer d (record_of x) rs) || list_any (lets_in d (record_of x)) (sent_since (past xs))) (sym (earlier_is xs t))
    ∙ ap (λ (b : Bool). not (is_newcomer d (record_of x) (first (n - 1) xs)) || b) (since_start (lets_in d (record_of x)) (past xs))
    ∙ ap (λ (m : ℕ). not (is_newcomer d (record_of x) (first (m - 1) xs)) || some_since (lets_in d (record_of x)) m (past xs)) (sym is)

pub lets_other : (d : Descriptor) (xs : List Entry) (x : Entry) (start : ℕ) → start ≡ turn_start (past xs) → start ≤ length xs → (start ≡ 0 → ⊥) → x ≡ get_or xs (start - 1) x
    → is_newcomer d (record_of x) (first (start - 1) xs) ≡ false → lets_in_last d (past xs) ≡ true
lets_other d xs x start is le some at e =
    lets_by d xs x start is some at ∙ ap (λ (b : Bool). not b || some_since (lets_in d (record_of x)) start (past xs)) e

pub lets_newcomer : (d : Descriptor) (xs : List Entry) (x : Entry) (start : ℕ) → start ≡ turn_start (past xs) → start ≤ length xs → (start ≡ 0 → ⊥) → x ≡ get_or xs (start - 1) x
    → is_newcomer d (record_of x) (first (start - 1) xs) ≡ true → lets_in_last d (past xs) ≡ some_since (lets_in d (record_of x)) start (past xs)
lets_newcomer d xs x start is le some at e =
    lets_by d xs x start is some at ∙ ap (λ (b : Bool). not b || some_since (lets_in d (record_of x)) start (past xs)) e
