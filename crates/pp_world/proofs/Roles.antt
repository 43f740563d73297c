-- The words of a `peer` line are read as the role that has them, and no other words are read.
use Rattle.std.proofs.Common.{◌≡◌, ◌≢◌, ⊎_elim, ℕ, ◌≤◌, ◌==◌, nat_le, Bool, true, false, not, ◌&&◌, ◌||◌, Some, None, List, [], ◌∷◌, length, map, codes, decimal, Result, Ok, Err, refl, sym, ◌∙◌, ap, subst, arith}
use Rattle.std.specs.List.{AllByRecursion, list_any}
use Rattle.std.specs.Str.{bytes_eq}
use Rattle.std.specs.Cmp.Lexicographic.{same_text}
use Rattle.std.proofs.lemmas.Bool.{and_parts, and_from, or_parts, leb-true, le-leb, eqb-true, eq-eqb, ne_eqb, both_ways, cases_Bool}
use Rattle.std.proofs.lemmas.List.{length-map}
use Rattle.pp_terms.specs.command.Order.{Order, Sequential, Rarest, order_text}
use Rattle.pp_world.specs.ScheduleFault.{ScheduleKind}
use Rattle.pp_world.specs.ScheduleFault as wrong
use Rattle.pp_world.specs.Schedule.{Role, Seeds, Fetches, role_words}
use Rattle.pp_world.specs.ScheduleRead.{◌>>=◌, wants, found, peer_in, peers_in, order_of, next_peer, seed_in, fetch_in, role_of}
use Rattle.pp_world.proofs.Numbers.{bind_ok, where_ok, ok_where, wants_ok, found_ok, number_read, read_number}
use Rattle.pp_world.proofs.Steps.{never_ok, some_if, two_same}

-- Peer n seeds; or it dials 1 to 15 others, with numbers that a peer can have.
abbrev pub IsAlone : ℕ → Role → Type 0
IsAlone n Seeds = Unit {0}
IsAlone n (Fetches order dialled) = (1 ≤ length dialled) × (length dialled ≤ 15) × AllByRecursion (λ q. (q ≤ 15) × (q ≢ n)) dialled

-- ---- what was read

order_read : (word : List ℕ) (o : Order) → order_of word ≡ Some o → word ≡ order_text o
order_read word o h = ⊎_elim is (λ h. ⊎_elim is (λ h. absurd (let never : None ≡ Some o = h in cc))
    (some_if word (order_text Rarest) Rarest None o h))
    (some_if word (order_text Sequential) Sequential _ o h)
  where
    is : {x : Order} → (word ≡ order_text x) × (x ≡ o) → word ≡ order_text o
    is e = e.0 ∙ ap order_text e.1

read_order : (o : Order) → order_of (order_text o) ≡ Some o
read_order Sequential = refl
read_order Rarest = refl

abbrev list_or : List ℕ → Result (List ℕ) ScheduleKind → List ℕ
list_or x (Ok y) = y
list_or x (Err e) = x

peers_read : (ws : List (List ℕ)) (ps : List ℕ) → peers_in ws ≡ Ok ps → (ws ≡ map decimal ps) × AllByRecursion (λ q. q ≤ 15) ps
peers_read [] ps h = subst (λ (x : List ℕ). ([] ≡ map decimal x) × AllByRecursion (λ q. q ≤ 15) x) (ap (list_or []) h) (refl, tt)
peers_read (w ∷ ws) ps h =
    let (p, first, h2) = bind_ok (peer_in w) _ ps h in
    let (more, rest, h3) = bind_ok (peers_in ws) _ ps h2 in
    let a = number_read 0 15 p w (omega arith) first in
    let b = peers_read ws more rest in
    subst (λ (x : List ℕ). (w ∷ ws ≡ map decimal x) × AllByRecursion (λ q. q ≤ 15) x) (ap (list_or (p ∷ more)) h3)
    (two_same w (decimal p) ws (map decimal more) a.0 b.0, (a.2, b.1))

read_peers : (ps : List ℕ) → AllByRecursion (λ q. q ≤ 15) ps → peers_in (map decimal ps) ≡ Ok ps
read_peers [] all = refl
read_peers (p ∷ ps) all =
    ap (λ r. r >>= λ x. peers_in (map decimal ps) >>= λ xs. Ok (x ∷ xs)) (read_number 0 15 p (omega arith) (omega arith) all.0)
    ∙ ap (λ r. r >>= λ xs. Ok (p ∷ xs)) (read_peers ps all.1)

apart : (p : ℕ) (others : List ℕ) → list_any (λ q. q == p) others ≡ false → AllByRecursion (λ q. q ≢ p) others
apart p [] none = tt
apart p (q ∷ qs) none =
    let both = or_parts (q == p) (list_any (λ q. q == p) qs) none in
    (λ is. both_ways (q == p) both.0 (eq-eqb q p is), apart p qs both.1)

none_of : (p : ℕ) (others : List ℕ) → AllByRecursion (λ q. q ≢ p) others → list_any (λ q. q == p) others ≡ false
none_of p [] all = refl
none_of p (q ∷ qs) all = ap (λ (b : Bool). b || list_any (λ q. q == p) qs) (ne_eqb q p all.0) ∙ none_of p qs all.1

next_read : (next p who : ℕ) (others : List ℕ) → next_peer next p others ≡ Ok who → (p ≡ next) × AllByRecursion (λ q. q ≢ next) others
next_read next p who others h =
    let it = where_ok (p == next && not (list_any (λ q. q == p) others)) wrong.Peer p who h in
    let both = and_parts (p == next) (not (list_any (λ q. q == p) others)) it.0 in
    let same = eqb-true p next both.0 in (
      same,
      subst (λ (x : ℕ). AllByRecursion (λ q. q ≢ x) others) same (apart p others (none both.1)),
    )
  where
    none : {b : Bool} → not b ≡ true → b ≡ false
    none {b} h = ⊎_elim (λ is. absurd (both_ways (not b) (ap not is) h)) (λ is. is) (cases_Bool b)

read_next : (next : ℕ) (others : List ℕ) → AllByRecursion (λ q. q ≢ next) others → next_peer next next others ≡ Ok next
read_next next others all = ok_where (next == next && not (list_any (λ q. q == next) others)) wrong.Peer next
    (and_from (next == next) (not (list_any (λ q. q == next) others)) (eq-eqb next next refl) (ap not (none_of next others all)))

abbrev role_or : Role → Result Role ScheduleKind → Role
role_or x (Ok y) = y
role_or x (Err e) = x

-- The words behind the name are those of the role of the next peer.
abbrev pub IsReadAs : ℕ → List (List ℕ) → Role → Type 0
IsReadAs next rest role = (rest ≡ decimal next ∷ role_words role) × (next ≤ 15) × IsAlone next role

seed_read : (next : ℕ) (p kind : List ℕ) (role : Role) → seed_in next p kind ≡ Ok role → IsReadAs next (p ∷ kind ∷ []) role
seed_read next p kind role h =
    let (named, is, h2) = bind_ok (wants (bytes_eq kind (codes "seed")) wrong.Line) _ role h in
    let (n, first, h3) = bind_ok (peer_in p) _ role h2 in
    let (who, one, h4) = bind_ok (next_peer next n []) _ role h3 in
    let a = number_read 0 15 n p (omega arith) first in
    let b = next_read next n who [] one in
    subst (IsReadAs next (p ∷ kind ∷ [])) (ap (role_or Seeds) h4) (
      two_same p (decimal next) (kind ∷ []) (codes "seed" ∷ []) (a.0 ∙ ap decimal b.0)
          (ap (λ (x : List ℕ). x ∷ []) (same_text kind (codes "seed") (sym (wants_ok (bytes_eq kind (codes "seed")) wrong.Line named is)))),
      subst (λ (k : ℕ). k ≤ 15) b.0 a.2,
      tt,
    )

both_all : (next : ℕ) (ps : List ℕ) → AllByRecursion (λ q. q ≤ 15) ps → AllByRecursion (λ q. q ≢ next) ps
    → AllByRecursion (λ q. (q ≤ 15) × (q ≢ next)) ps
both_all next [] low ne = tt
both_all next (p ∷ ps) low ne = ((low.0, ne.0), both_all next ps low.1 ne.1)

lows : (next : ℕ) (ps : List ℕ) → AllByRecursion (λ q. (q ≤ 15) × (q ≢ next)) ps → AllByRecursion (λ q. q ≤ 15) ps
lows next [] all = tt
lows next (p ∷ ps) all = (all.0.0, lows next ps all.1)

aparts : (next : ℕ) (ps : List ℕ) → AllByRecursion (λ q. (q ≤ 15) × (q ≢ next)) ps → AllByRecursion (λ q. q ≢ next) ps
aparts next [] all = tt
aparts next (p ∷ ps) all = (all.0.1, aparts next ps all.1)

fetch_read : (next : ℕ) (p kind how q : List ℕ) (qs : List (List ℕ)) (role : Role) → fetch_in next p kind how (q ∷ qs) ≡ Ok role
    → IsReadAs next (p ∷ kind ∷ how ∷ q ∷ qs) role
fetch_read next p kind how q qs role h =
    let test = bytes_eq kind (codes "fetch") && nat_le (length (q ∷ qs)) 15 in
    let (named, is, h2) = bind_ok (wants test wrong.Line) _ role h in
    let (order, ordered, h3) = bind_ok (found wrong.Line (order_of how)) _ role h2 in
    let (n, first, h4) = bind_ok (peer_in p) _ role h3 in
    let (dialled, dials, h5) = bind_ok (peers_in (q ∷ qs)) _ role h4 in
    let (who, one, h6) = bind_ok (next_peer next n dialled) _ role h5 in
    let both = and_parts (bytes_eq kind (codes "fetch")) (nat_le (length (q ∷ qs)) 15) (wants_ok test wrong.Line named is) in
    let few = leb-true (length (q ∷ qs)) 15 both.1 in
    let a = number_read 0 15 n p (omega arith) first in
    let b = next_read next n who dialled one in
    let c = peers_read (q ∷ qs) dialled dials in
    let many : length (q ∷ qs) ≡ length dialled = ap length c.0 ∙ length-map dialled decimal in
    subst (IsReadAs next (p ∷ kind ∷ how ∷ q ∷ qs)) (ap (role_or (Fetches order dialled)) h6) (
      two_same p (decimal next) (kind ∷ how ∷ q ∷ qs) (codes "fetch" ∷ order_text order ∷ map decimal dialled) (a.0 ∙ ap decimal b.0)
          (two_same kind (codes "fetch") (how ∷ q ∷ qs) (order_text order ∷ map decimal dialled) (same_text kind (codes "fetch") (sym both.0))
          (two_same how (order_text order) (q ∷ qs) (map decimal dialled) (order_read how order (found_ok wrong.Line (order_of how) order ordered)) c.0)),
      subst (λ (k : ℕ). k ≤ 15) b.0 a.2,
      (omega (arith, many), omega (arith, many, few), both_all next dialled c.1 b.1),
    )

pub role_read : (next : ℕ) (rest : List (List ℕ)) (role : Role) → role_of next rest ≡ Ok role → IsReadAs next rest role
role_read next [] role h = absurd (never_ok wrong.Line role h)
role_read next (p ∷ []) role h = absurd (never_ok wrong.Line role h)
role_read next (p ∷ kind ∷ []) role h = seed_read next p kind role h
role_read next (p ∷ kind ∷ how ∷ []) role h = absurd (never_ok wrong.Line role h)
role_read next (p ∷ kind ∷ how ∷ q ∷ qs) role h = fetch_read next p kind how q qs role h

-- ---- what is read of a role's words

pub read_role : (next : ℕ) (role : Role) → next ≤ 15 → IsAlone next role → role_of next (decimal next ∷ role_words role) ≡ Ok role
read_role next Seeds low alone =
    ap (λ r. r >>= λ n. next_peer next n [] >>= λ who. Ok Seeds) (read_number 0 15 next (omega arith) (omega arith) low)
    ∙ ap (λ r. r >>= λ who. Ok Seeds) (read_next next [] tt)
read_role next (Fetches order []) low alone = absurd (let some = alone.0 in omega (arith, some))
read_role next (Fetches order (q ∷ qs)) low alone =
    let dialled = q ∷ qs in
    let few : nat_le (length (map decimal (q ∷ qs))) 15 ≡ true =
    le-leb (length (map decimal (q ∷ qs))) 15 (let same = length-map (q ∷ qs) decimal in let most = alone.1 in omega (arith, same, most)) in
    ap (λ b. wants b wrong.Line >>= λ named. found wrong.Line (order_of (order_text order)) >>= λ o. peer_in (decimal next) >>= λ n.
    peers_in (map decimal (q ∷ qs)) >>= λ ps. next_peer next n ps >>= λ who. Ok (Fetches o ps)) few
    ∙ ap (λ x. found wrong.Line x >>= λ o. peer_in (decimal next) >>= λ n. peers_in (map decimal (q ∷ qs)) >>= λ ps. next_peer next n ps >>= λ who.
    Ok (Fetches o ps)) (read_order order)
    ∙ ap (λ r. r >>= λ n. peers_in (map decimal (q ∷ qs)) >>= λ ps. next_peer next n ps >>= λ who. Ok (Fetches order ps))
    (read_number 0 15 next (omega arith) (omega arith) low)
    ∙ ap (λ r. r >>= λ ps. next_peer next next ps >>= λ who. Ok (Fetches order ps)) (read_peers (q ∷ qs) (lows next (q ∷ qs) alone.2))
    ∙ ap (λ r. r >>= λ who. Ok (Fetches order (q ∷ qs))) (read_next next (q ∷ qs) (aparts next (q ∷ qs) alone.2))
