-- No more seats are in use than records open a channel.
use Rattle.std.proofs.Common.{◌≡◌, ◌≢◌, inl, inr, ⊎_elim, ℕ, suc, ◌+◌, ◌<◌, ◌≤◌, cond, eqb, ltb, Bool, true, false, ◌&&◌, Option, Some, None, List, [], ◌∷◌, length, refl, sym, ◌∙◌, ap, subst, arith}
use Rattle.std.specs.Prelude.{is_some}
use Rattle.std.specs.List.{count_by}
use Rattle.std.proofs.lemmas.List.Sums.{sum_by-cons}
use Rattle.std.proofs.lemmas.Bool.{cases_Bool, cases_lt, both_ways, and_from, and_parts, or_cases, eqb-true, eqb-false, lt-ltb, le-ltb}
use Rattle.pp_terms.specs.format.Traffic as traffic
use Rattle.pp_terms.specs.format.Traffic.{Record, Received, Quiet, Sent}
use Rattle.pp_terms.specs.format.Descriptor.{Descriptor}
use Rattle.pp_terms.specs.format.Messages.{Message, Handshake}
use Rattle.pp_traffic.specs.Past.{read, comes_from, goes_to, is_number, is_at}
use Rattle.pp_traffic.specs.Life.{Life, greets, answers, begins, begins_as, begins_fitting}
use Rattle.pp_traffic.specs.Prompt.{first_source}
use Rattle.pp_traffic.proofs.OneMore.{at_within, at_more}
use Rattle.pp_channels.specs.Seats.{Seats, at_seat, channel_at, is_dialled}
use Rattle.pp_channels.specs.Timing.{is_greeted}
use Rattle.pp_channels.specs.declared.channel.Channel.{Channel}
use Rattle.pp_lives.specs.Reading.{opens, is_waiting}
use Rattle.pp_lives.specs.Standing.{Stands, Standing, AllBegun}
use Rattle.pp_lives.specs.Laws.{is_opening, SeatsOpened}
use Rattle.pp_lives.proofs.Telling.{fitting_begins}
use Rattle.pp_lives.proofs.Own.{stands_of}
use Rattle.pp_lives.proofs.Sent.{same_is}
use Rattle.pp_lives.proofs.Plainly.{fitting_source}
use Rattle.pp_lives.proofs.Arrivals.{living_of}

-- ---- seats by places

count_cons : {X : Type 0} (p : X → Bool) (x : X) (xs : List X) → count_by p (x ∷ xs) ≡ cond (p x) 1 0 + count_by p xs
count_cons p x xs = sum_by-cons (λ y. cond (p y) 1 0) x xs

abbrev counts : Option Channel → Bool → ℕ
counts None b = 0
counts (Some c) true = 1
counts (Some c) false = 0

-- how many of the seats are in use and have a place below n
abbrev below : (ℕ → ℕ) → ℕ → List (Option Channel) → ℕ
below place n [] = 0
below place n (o ∷ xs) = counts o (ltb (place 0) n) + below (λ i. place (suc i)) n xs

counts_none : (o : Option Channel) → counts o false ≡ 0
counts_none None = refl
counts_none (Some c) = refl

below_none : (place : ℕ → ℕ) (xs : List (Option Channel)) → below place 0 xs ≡ 0
below_none place [] = refl
below_none place (o ∷ xs) =
    let first : counts o (ltb (place 0) 0) ≡ 0 = ap (counts o) (le-ltb (place 0) 0 (omega arith)) ∙ counts_none o in
    let rest = below_none (λ i. place (suc i)) xs in
    omega (arith, first, rest)

ltb_same : (p n : ℕ) → p ≢ n → ltb p (suc n) ≡ ltb p n
ltb_same p n ne = ⊎_elim
    (λ low. lt-ltb p (suc n) (omega arith) ∙ sym (lt-ltb p n low))
    (λ high. let apart : suc n ≤ p = over p n high ne in le-ltb p (suc n) apart ∙ sym (le-ltb p n high))
    (cases_lt p n)
  where
    over : (p n : ℕ) → n ≤ p → p ≢ n → suc n ≤ p
    over p n le ne = ⊎_elim (λ lt. omega arith) (λ ge. absurd (ne (omega arith))) (cases_lt n p)

-- where no seat has place n
same_below : (place : ℕ → ℕ) (n : ℕ) (xs : List (Option Channel)) → ((i : ℕ) (c : Channel) → at_seat xs i ≡ Some c → place i ≢ n) → below place (suc n) xs ≡ below place n xs
same_below place n [] none = refl
same_below place n (o ∷ xs) none =
    let first : counts o (ltb (place 0) (suc n)) ≡ counts o (ltb (place 0) n) = by o (λ c is. none 0 c is) in
    let rest = same_below (λ i. place (suc i)) n xs (λ i c is. none (suc i) c is) in
    omega (arith, first, rest)
  where
    by : (o : Option Channel) → ((c : Channel) → o ≡ Some c → place 0 ≢ n) → counts o (ltb (place 0) (suc n)) ≡ counts o (ltb (place 0) n)
    by None ne = refl
    by (Some c) ne = ap (counts (Some c)) (ltb_same (place 0) n (ne c refl))

-- where one has it at most
abbrev IsOnce : (ℕ → ℕ) → ℕ → List (Option Channel) → Type 0
IsOnce place n xs = (i j : ℕ) (c e : Channel) → at_seat xs i ≡ Some c → at_seat xs j ≡ Some e → place i ≡ n → place j ≡ n → i ≡ j

counts_one : (o : Option Channel) (b : Bool) → counts o b ≤ 1
counts_one None b = omega arith
counts_one (Some c) true = omega arith
counts_one (Some c) false = omega arith

one_below : (place : ℕ → ℕ) (n : ℕ) (xs : List (Option Channel)) → IsOnce place n xs → below place (suc n) xs ≤ below place n xs + 1
one_below place n [] once = omega arith
one_below place n (None ∷ xs) once =
    let rest = one_below (λ i. place (suc i)) n xs (λ i j c e at_i at_j pi pj. let same = once (suc i) (suc j) c e at_i at_j pi pj in omega (arith, same)) in
    omega (arith, rest)
one_below place n (Some c ∷ xs) once = ⊎_elim
    (λ here.
    let place_is = eqb-true (place 0) n here in
    let rest = same_below (λ i. place (suc i)) n xs (λ i e is same. let clash : 0 ≡ suc i = once 0 (suc i) c e refl is place_is same in cc) in
    let first = counts_one (Some c) (ltb (place 0) (suc n)) in
    omega (arith, rest, first))
    (λ apart.
    let first : counts (Some c) (ltb (place 0) (suc n)) ≡ counts (Some c) (ltb (place 0) n) = ap (counts (Some c)) (ltb_same (place 0) n (eqb-false (place 0) n apart)) in
    let rest = one_below (λ i. place (suc i)) n xs (λ i j a e at_i at_j pi pj. let same = once (suc i) (suc j) a e at_i at_j pi pj in omega (arith, same)) in
    omega (arith, first, rest))
    (cases_Bool (eqb (place 0) n))

all_below : (place : ℕ → ℕ) (n : ℕ) (xs : List (Option Channel)) → ((i : ℕ) (c : Channel) → at_seat xs i ≡ Some c → place i < n) → count_by is_some xs ≡ below place n xs
all_below place n [] low = refl
all_below place n (None ∷ xs) low =
    let more : count_by is_some (None ∷ xs) ≡ 0 + count_by is_some xs = count_cons is_some None xs in
    let rest = all_below (λ i. place (suc i)) n xs (λ i c is. low (suc i) c is) in
    omega (arith, more, rest)
all_below place n (Some c ∷ xs) low =
    let first : counts (Some c) (ltb (place 0) n) ≡ 1 = ap (counts (Some c)) (lt-ltb (place 0) n (low 0 c refl)) in
    let more : count_by is_some (Some c ∷ xs) ≡ 1 + count_by is_some xs = count_cons is_some (Some c) xs in
    let rest = all_below (λ i. place (suc i)) n xs (λ i e is. low (suc i) e is) in
    omega (arith, more, first, rest)

-- ---- seats and records

-- seats whose places differ are no more than the records that stand there
below_count : (test : Record → Bool) (place : ℕ → ℕ) (xs : List (Option Channel)) (past : List Record)
    → ((i : ℕ) (c : Channel) → at_seat xs i ≡ Some c → place i < length past → is_at test (place i) past ≡ true)
    → ((n : ℕ) → IsOnce place n xs) → below place (length past) xs ≤ count_by test past
below_count test place xs [] passes once = let none = below_none place xs in omega (arith, none)
below_count test place xs (r ∷ before) passes once =
    let n = length before in
    let earlier = below_count test place xs before
    (λ i c is low. ⊎_elim
    (λ here. absurd (let same = eqb-true (place i) n (and_parts (eqb (place i) n) (test r) here).0 in omega (arith, same)))
    (λ rest. rest)
    (or_cases (eqb (place i) n && test r) (is_at test (place i) before) (passes i c is (omega arith)))) once in
    ⊎_elim
    (λ yes_it. let one = one_below place n xs (once n) in let more : count_by test (r ∷ before) ≡ 1 + count_by test before = count_cons test r before ∙ ap (λ (b : Bool). cond b 1 0 + count_by test before) yes_it in omega (arith, one, earlier, more))
    (λ not_it.
    let same = same_below place n xs (λ i c is place_is. ⊎_elim
    (λ here. both_ways (test r) not_it (and_parts (eqb (place i) n) (test r) here).1)
    (λ rest. let low = at_within test (place i) before rest in omega (arith, place_is))
    (or_cases (eqb (place i) n && test r) (is_at test (place i) before) (passes i c is (omega (arith, place_is))))) in
    let more : count_by test (r ∷ before) ≡ 0 + count_by test before = count_cons test r before ∙ ap (λ (b : Bool). cond b 1 0 + count_by test before) not_it in
    omega (arith, same, earlier, more))
    (cases_Bool (test r))

-- the record at a place passes each test that is passed there
both_at : (test other : Record → Bool) (place : ℕ) (past : List Record) → is_at test place past ≡ true → is_at other place past ≡ true → (r : Record) × (test r ≡ true) × (other r ≡ true)
both_at test other place [] e f = absurd cc
both_at test other place (r ∷ before) e f = ⊎_elim
    (λ here. (r, at_end test here e, at_end other here f))
    (λ apart. both_at test other place before (earlier test apart e) (earlier other apart f))
    (cases_Bool (eqb place (length before)))
  where
    at_end : (which : Record → Bool) → eqb place (length before) ≡ true → is_at which place (r ∷ before) ≡ true → which r ≡ true
    at_end which here w = ⊎_elim
        (λ both. (and_parts (eqb place (length before)) (which r) both).1)
        (λ rest. absurd (let low = at_within which place before rest in let same = eqb-true place (length before) here in omega (arith, same)))
        (or_cases (eqb place (length before) && which r) (is_at which place before) w)

    earlier : (which : Record → Bool) → eqb place (length before) ≡ false → is_at which place (r ∷ before) ≡ true → is_at which place before ≡ true
    earlier which apart w = ⊎_elim
        (λ both. absurd (both_ways (eqb place (length before)) apart (and_parts (eqb place (length before)) (which r) both).0))
        (λ rest. rest)
        (or_cases (eqb place (length before) && which r) (is_at which place before) w)

-- ---- what opens a channel

as_source : (number : ℕ) (ms : List Message) → begins_as number ms ≡ true → (begins ms ≡ true) × (number ≡ first_source ms)
as_source number [] e = absurd cc
as_source number (m ∷ ms) e = by m ms e
  where
    by : (m : Message) (ms : List Message) → begins_as number (m ∷ ms) ≡ true → (begins (m ∷ ms) ≡ true) × (number ≡ first_source (m ∷ ms))
    by (Handshake source options) ms e = (refl, sym (eqb-true source number e))
    by m ms e = absurd cc

came_same : (a b : traffic.Address) (r : Record) → comes_from a r ≡ true → comes_from b r ≡ true → a ≡ b
came_same a b (Received at sender bytes) e f = sym (same_is sender a e) ∙ same_is sender b f
came_same a b (Quiet at) e f = absurd cc
came_same a b (Sent moment receiver bytes) e f = absurd cc

came_went : (a b : traffic.Address) (r : Record) → comes_from a r ≡ true → goes_to b r ≡ true → ⊥
came_went a b (Received at sender bytes) e f = absurd cc
came_went a b (Quiet at) e f = absurd cc
came_went a b (Sent moment receiver bytes) e f = absurd cc

-- how a life was opened
record IsDialOpen (d : Descriptor) (life : Life) (r : Record) : Type 0 where
  goes : goes_to life.address r ≡ true
  zero_is : is_number 0 (read d r).channel ≡ true
  source : begins_as life.local (read d r).messages.read ≡ true

record IsAnswerOpen (d : Descriptor) (life : Life) (r : Record) : Type 0 where
  came : comes_from life.address r ≡ true
  zero_is : is_number 0 (read d r).channel ≡ true
  fitting : begins_fitting d false life.remote (read d r).messages.read ≡ true

dial_open : (d : Descriptor) (life : Life) (r : Record) → life.is_dialled ≡ true → opens d life r ≡ true → IsDialOpen d life r
dial_open d life r dialled_is e =
    let is : answers d life r ≡ true = subst (λ (b : Bool). cond b (answers d life r) (greets d life r) ≡ true) dialled_is e in
    let outer = and_parts (goes_to life.address r && is_number (cond life.is_dialled 0 life.remote) (read d r).channel) (begins_as life.local (read d r).messages.read) is in
    let inner = and_parts (goes_to life.address r) (is_number (cond life.is_dialled 0 life.remote) (read d r).channel) outer.0 in
    record { goes = inner.0; zero_is = subst (λ (b : Bool). is_number (cond b 0 life.remote) (read d r).channel ≡ true) dialled_is inner.1; source = outer.1 }

answer_open : (d : Descriptor) (life : Life) (r : Record) → life.is_dialled ≡ false → opens d life r ≡ true → IsAnswerOpen d life r
answer_open d life r answered e =
    let is : greets d life r ≡ true = subst (λ (b : Bool). cond b (answers d life r) (greets d life r) ≡ true) answered e in
    let outer = and_parts (comes_from life.address r && is_number (cond life.is_dialled life.local 0) (read d r).channel) (begins_fitting d life.is_dialled life.remote (read d r).messages.read) is in
    let inner = and_parts (comes_from life.address r) (is_number (cond life.is_dialled life.local 0) (read d r).channel) outer.0 in
    record {
      came = inner.0;
      zero_is = subst (λ (b : Bool). is_number (cond b life.local 0) (read d r).channel ≡ true) answered inner.1;
      fitting = subst (λ (b : Bool). begins_fitting d b life.remote (read d r).messages.read ≡ true) answered outer.1;
    }

opens_with : (d : Descriptor) (life : Life) (r : Record) → opens d life r ≡ true → is_opening d r ≡ true
opens_with d life r e = ⊎_elim
    (λ dialled_is. let o = dial_open d life r dialled_is e in
    and_from (is_number 0 (read d r).channel) (begins (read d r).messages.read) o.zero_is (as_source life.local (read d r).messages.read o.source).0)
    (λ answered. let o = answer_open d life r answered e in
    and_from (is_number 0 (read d r).channel) (begins (read d r).messages.read) o.zero_is (fitting_begins d false life.remote (read d r).messages.read o.fitting))
    (cases_Bool life.is_dialled)

-- ---- each seat has its own

abbrev opening_of : Option Life → ℕ
opening_of None = 0
opening_of (Some life) = life.opening

record HasLife (d : Descriptor) (lives : ℕ → Option Life) (past : List Record) (seat : ℕ) (c : Channel) : Type 0 where
  life : Life
  living : lives seat ≡ Some life
  stands : Stands d c life past
  place : opening_of (lives seat) ≡ life.opening

life_at : (d : Descriptor) (t : Seats) (lives : ℕ → Option Life) (past : List Record) → Standing d t lives past → AllBegun t → (seat : ℕ) (c : Channel) → channel_at t seat ≡ Some c → HasLife d lives past seat c
life_at d t lives past s all seat c there =
    let l = living_of d t lives past seat c s.seated there (⊎_elim (λ waits. inr (all seat c there waits)) (λ known. inl known) (cases_Bool (is_waiting c))) in
    record { life = l.0; living = l.1; stands = stands_of d (channel_at t seat) (lives seat) c l.0 past (s.seated.each seat) there l.1; place = ap opening_of l.1 }

own_opening : (d : Descriptor) (t : Seats) (lives : ℕ → Option Life) (past : List Record) → Standing d t lives past → AllBegun t
    → (i j : ℕ) (c e : Channel) → channel_at t i ≡ Some c → channel_at t j ≡ Some e → opening_of (lives i) ≡ opening_of (lives j) → i ≡ j
own_opening d t lives past s all i j c e at_i at_j same =
    let x = life_at d t lives past s all i c at_i in
    let y = life_at d t lives past s all j e at_j in
    let place : x.life.opening ≡ y.life.opening = sym x.place ∙ same ∙ y.place in
    let both = both_at (opens d x.life) (opens d y.life) y.life.opening past (subst (λ (n : ℕ). is_at (opens d x.life) n past ≡ true) place x.stands.opened) y.stands.opened in
    let r = both.0 in
    ⊎_elim
    (λ dialled_x. let o = dial_open d x.life r dialled_x both.1 in ⊎_elim
    (λ dialled_y. let p = dial_open d y.life r dialled_y both.2 in
    s.seated.are.differ i j c e at_i at_j (sym x.stands.local ∙ (as_source x.life.local (read d r).messages.read o.source).1 ∙ sym (as_source y.life.local (read d r).messages.read p.source).1 ∙ y.stands.local))
    (λ answered_y. absurd (came_went y.life.address x.life.address r (answer_open d y.life r answered_y both.2).came o.goes))
    (cases_Bool y.life.is_dialled))
    (λ answered_x. let o = answer_open d x.life r answered_x both.1 in ⊎_elim
    (λ dialled_y. absurd (came_went x.life.address y.life.address r o.came (dial_open d y.life r dialled_y both.2).goes))
    (λ answered_y. let p = answer_open d y.life r answered_y both.2 in
    let remote : x.life.remote ≡ y.life.remote = fitting_source d false x.life.remote (read d r).messages.read o.fitting ∙ sym (fitting_source d false y.life.remote (read d r).messages.read p.fitting) in
    s.seated.apart i j c e y.life.remote at_i at_j
    ((x.stands.remote (known c (sym x.stands.dialled ∙ answered_x))).0 ∙ ap (λ (n : ℕ). Some n) remote) (y.stands.remote (known e (sym y.stands.dialled ∙ answered_y))).0
    (sym x.stands.address ∙ came_same x.life.address y.life.address r o.came p.came ∙ y.stands.address))
    (cases_Bool y.life.is_dialled))
    (cases_Bool x.life.is_dialled)
  where
    known : (c : Channel) → is_dialled c.opening ≡ false → is_waiting c ≡ false
    known c answered = ap (λ (b : Bool). b && is_greeted c.state) answered

pub seats_opened : SeatsOpened
seats_opened d t lives past s all =
    let place : ℕ → ℕ = λ i. opening_of (lives i) in
    let low : (i : ℕ) (c : Channel) → at_seat t.channels i ≡ Some c → place i < length past = λ i c is.
    let x = life_at d t lives past s all i c is in let lt = at_within (opens d x.life) x.life.opening past x.stands.opened in let p = x.place in omega (arith, p) in
    let full = all_below place (length past) t.channels low in
    let few = below_count (is_opening d) place t.channels past
    (λ i c is lt. let x = life_at d t lives past s all i c is in
    subst (λ (n : ℕ). is_at (is_opening d) n past ≡ true) (sym x.place) (at_more (opens d x.life) (is_opening d) (λ r e. opens_with d x.life r e) x.life.opening past x.stands.opened))
    (λ n i j c e at_i at_j pi pj. own_opening d t lives past s all i j c e at_i at_j (pi ∙ sym pj)) in
    omega (arith, full, few)
