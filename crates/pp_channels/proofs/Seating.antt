-- Seats and what stands there.
use Rattle.std.proofs.Common.{◌≡◌, ◌≢◌, ℕ, zero, suc, ◌+◌, ◌<◌, Bool, true, false, Option, Some, None, List, [], ◌∷◌, length, refl, sym, ◌∙◌, ap, subst, inl, inr, replicate, get_or, arith}
use Rattle.std.specs.Prelude.{◌↔◌, IfSome, IsSome, IsNone, is_none, is_some, not, cond, nat_lt, position, count_by}
use Rattle.std.proofs.lemmas.List.Quantifiers.{position-Some}
use Rattle.std.specs.Prelude.{map}
use Rattle.std.proofs.Math.ListN.{set, get_or-map}
use Rattle.std.proofs.lemmas.Option.{same_Some}
use Rattle.std.specs.Prelude.{Vec}
use Rattle.std.specs.Vec.{with_item, with_items}
use Rattle.rand_chacha.specs.ChaCha.{ChaCha}
use Rattle.std.proofs.lemmas.List.{length-replicate, length-map, length-set, with_items_is}
use Rattle.std.specs.List.{position_or_len}
use Rattle.std.proofs.lemmas.List.Sums.{prefix_len_passes, sum_by-set, sum_by-cons}
use Rattle.std.proofs.lemmas.Bool.{and_parts, ne_eqb, eqb-true, cases_lt, cond-true, lt-ltb, not-true}
use Rattle.pp_outside.specs.declared.link.Address.{Address}
use Rattle.pp_channels.specs.declared.channel.Channel.{Channel}
use Rattle.pp_channels.specs.Seats.{Seats, at_seat, channel_at, IsUsedSeat, IsFull, AreSeats, has_local, has_address, is_found, after_drop, closed, used_of}

-- a list of free seats has no channel
pub none_there : (n seat : ℕ) → at_seat (replicate n None) seat ≡ None
none_there zero seat = refl
none_there (suc n) zero = refl
none_there (suc n) (suc seat) = none_there n seat

none_free : {P : Type 0} (seat : ℕ) (c : Channel) → at_seat (replicate 64 None) seat ≡ Some c → P
none_free seat c there = let none = none_there 64 seat in cc

pub all_free : AreSeats (replicate 64 None)
all_free = record {
  seats = length-replicate {A = Option Channel} 64 None;
  some = λ seat c there. none_free seat c there;
  differ = λ seat other c d there also same. none_free seat c there;
}

-- A number that a channel has is no other seat's.
alone : (channels : List (Option Channel)) (number seat other : ℕ) (o p : Option Channel) → AreSeats channels → at_seat channels seat ≡ o
    → at_seat channels other ≡ p → has_local number o ≡ true → other ≢ seat → has_local number p ≡ false
alone channels number seat other None p seats at also has ne = cc
alone channels number seat other (Some c) None seats at also has ne = refl
alone channels number seat other (Some c) (Some d) seats at also has ne =
    ne_eqb d.local number (λ same. ne (seats.differ other seat d c also at (same ∙ sym (eqb-true c.local number has))))

pub found_alone : (number : ℕ) (a : Address) (s : Seats) (items : List (Option Channel)) (found : Option ℕ) → AreSeats items → items ≡ s.channels
    → found ≡ position (is_found number a) items
    → IfSome found (λ seat. (other : ℕ) → other ≢ seat → has_local number (channel_at s other) ≡ false)
found_alone number a s items None are same is = tt
found_alone number a s items (Some seat) are same is = λ other ne.
    let there = position-Some (is_found number a) items seat None (sym is) in
    let has = and_parts (has_local number (at_seat items seat)) (has_address a (at_seat items seat)) there.1 in
    subst (λ xs. has_local number (at_seat xs other) ≡ false) same
    (alone items number seat other (at_seat items seat) (at_seat items other) are refl refl has.0 ne)

-- A seat that is set free has no channel, and the others are as they were.
kept : (channels : List (Option Channel)) (seat other : ℕ) (c : Channel) → at_seat (set channels seat None) other ≡ Some c → at_seat channels other ≡ Some c
kept [] seat other c there = there
kept (o ∷ channels) zero zero c there = cc
kept (o ∷ channels) zero (suc other) c there = there
kept (o ∷ channels) (suc seat) zero c there = there
kept (o ∷ channels) (suc seat) (suc other) c there = kept channels seat other c there

pub is_free : (channels : List (Option Channel)) (seat : ℕ) → at_seat (set channels seat None) seat ≡ None
is_free [] seat = refl
is_free (o ∷ channels) zero = refl
is_free (o ∷ channels) (suc seat) = is_free channels seat

-- Dropping another channel leaves a channel its number.
was : (dropped : Channel) (o : Option Channel) (c : Channel) → after_drop (Some dropped) o ≡ Some c → (d : Channel) × (o ≡ Some d) × (d.local ≡ c.local)
was dropped None c is = cc
was dropped (Some d) c is = (d, refl, ap (λ (x : Channel). x.local) (same_Some _ _ is))

pub after_drop_there : (dropped : Channel) (channels : List (Option Channel)) (seat : ℕ) →
    at_seat (map (after_drop (Some dropped)) channels) seat ≡ after_drop (Some dropped) (at_seat channels seat)
after_drop_there dropped channels seat = get_or-map (after_drop (Some dropped)) channels seat None

-- A channel after one was dropped was there before, with its number.
before_drop : (dropped : Channel) (channels : List (Option Channel)) (seat other : ℕ) (c : Channel)
    → at_seat (map (after_drop (Some dropped)) (set channels seat None)) other ≡ Some c
    → (d : Channel) × (at_seat channels other ≡ Some d) × (d.local ≡ c.local)
before_drop dropped channels seat other c there =
    let old = was dropped (at_seat (set channels seat None) other) c (sym (after_drop_there dropped (set channels seat None) other) ∙ there) in
    (old.0, kept channels seat other old.0 old.1, old.2)

pub seats_after_drop : (dropped : Channel) (channels : List (Option Channel)) (seat : ℕ) → AreSeats channels
    → AreSeats (map (after_drop (Some dropped)) (set channels seat None))
seats_after_drop dropped channels seat are = record {
  seats = length-map (set channels seat None) (after_drop (Some dropped)) ∙ length-set channels seat None ∙ are.seats;
  some = λ other c there. (let old = before_drop dropped channels seat other c there in
      let low = are.some other old.0 old.1 in omega (arith, old.2));
  differ = λ other third c d there also same. (let one = before_drop dropped channels seat other c there in
      let two = before_drop dropped channels seat third d also in
      are.differ other third one.0 two.0 one.1 two.1 (one.2 ∙ same ∙ sym two.2));
}

-- the elements behind a loan of all, after one was set free and the others were marked
pub marked_items : {Z : Type 0} (seats : Vec (Option Channel) Z) (seat : ℕ) (dropped : Channel) (lent back : List (Option Channel))
    → lent ≡ set seats.items seat None → length lent ≡ seats.len → back ≡ map (after_drop (Some dropped)) lent
    → (with_items (with_item seats seat None) back).items ≡ map (after_drop (Some dropped)) (set seats.items seat None)
marked_items seats seat dropped lent back is long marked =
    with_items_is (with_item seats seat None) back (ap (λ xs. length xs) marked ∙ length-map lent (after_drop (Some dropped)) ∙ long)
    ∙ marked ∙ ap (map (after_drop (Some dropped))) is

pub closes : (s : Seats) (items : List (Option Channel)) (numbers : ChaCha) (seat : ℕ) (dropped : Channel)
    → record { channels = items; numbers = numbers } ≡ s → channel_at s seat ≡ Some dropped
    → record { channels = map (after_drop (Some dropped)) (set items seat None); numbers = numbers } ≡ closed s seat
closes s items numbers seat dropped view is =
    let with_dropped : Option Channel → Seats = λ o. record { channels = map (after_drop o) (set s.channels seat None); numbers = s.numbers } in
    let from_parts : Seats → Seats = λ t. record { channels = map (after_drop (Some dropped)) (set t.channels seat None); numbers = t.numbers } in
    ap from_parts view ∙ ap with_dropped (sym is)

-- ---- seats that were looked for

-- Where no place is found, no element passes.
none_passes : {X : Type 0} (test : X → Bool) (xs : List X) (k : ℕ) (d : X) → None ≡ position test xs → k < length xs → test (get_or xs k d) ≡ false
none_passes test xs k d none lt = elim (cases_lt (position_or_len test xs) (length xs)) [
  | inl low ↦ (let some : position test xs ≡ Some (position_or_len test xs) =
      cond-true (nat_lt (position_or_len test xs) (length xs)) (Some (position_or_len test xs)) None (lt-ltb (position_or_len test xs) (length xs) low) in cc)
  | inr past ↦ not-true (test (get_or xs k d)) (prefix_len_passes (λ x. not (test x)) xs k d (omega arith))
]

used_passing : (test : Option Channel → Bool) (o : Option Channel) → test None ≡ false → test o ≡ true → IsSome o
used_passing test None none passes = cc
used_passing test (Some c) none passes = refl

-- A seat that was found by a test that no free seat passes is in use.
pub found_used : (test : Option Channel → Bool) (s : Seats) (items : List (Option Channel)) (found : Option ℕ) → test None ≡ false → AreSeats items
    → items ≡ s.channels → found ≡ position test items → IfSome found (IsUsedSeat s)
found_used test s items None none are same is = tt
found_used test s items (Some seat) none are same is =
    let there = position-Some test items seat None (sym is) in
    (omega (arith, are.seats), subst (λ xs. IsSome (at_seat xs seat)) same (used_passing test (at_seat items seat) none there.1))

not_free : (o : Option Channel) → is_none o ≡ false → IsSome o
not_free None full = cc
not_free (Some c) full = refl

free_unused : {P : Type 0} (o : Option Channel) → is_none o ≡ true → IsSome o → P
free_unused None free used = cc
free_unused (Some c) free used = cc

-- No free seat is found exactly where all are in use.
pub none_free_full : (s : Seats) (items : List (Option Channel)) (found : Option ℕ) → AreSeats items → items ≡ s.channels
    → found ≡ position is_none items → IsNone found ↔ IsFull s
none_free_full s items None are same is = (
  λ none seat lt. subst (λ xs. IsSome (at_seat xs seat)) same
      (not_free (at_seat items seat) (none_passes is_none items seat None is (omega (arith, are.seats)))),
  λ full. refl,
)
none_free_full s items (Some seat) are same is =
    let there = position-Some is_none items seat None (sym is) in (
      λ none. cc,
      λ full. free_unused (at_seat items seat) there.1
          (subst (λ xs. IsSome (at_seat xs seat)) (sym same) (full seat (omega (arith, are.seats)))),
    )

-- ---- how many are in use

abbrev one_if : Option Channel → ℕ
one_if o = cond (is_some o) 1 0

none_is : (o : Option Channel) → is_none o ≡ true → one_if o ≡ 0
none_is None e = refl
none_is (Some c) e = cc

-- A channel at a free seat is one more.
pub used_more : (channels : List (Option Channel)) (seat : ℕ) (c : Channel) → Some seat ≡ position is_none channels
    → count_by is_some (set channels seat (Some c)) ≡ count_by is_some channels + 1
used_more channels seat c is =
    let there = position-Some is_none channels seat None (sym is) in
    let free : one_if (at_seat channels seat) ≡ 0 = none_is (at_seat channels seat) there.1 in
    let sums = sum_by-set one_if channels seat (Some c) None there.0 in
    omega (arith, sums, free)

after_drop_used : (dropped o : Option Channel) → one_if (after_drop dropped o) ≡ one_if o
after_drop_used dropped None = refl
after_drop_used dropped (Some c) = refl

used_after_drop : (dropped : Option Channel) (channels : List (Option Channel)) → count_by is_some (map (after_drop dropped) channels) ≡ count_by is_some channels
used_after_drop dropped [] = refl
used_after_drop dropped (o ∷ channels) =
    let rest = used_after_drop dropped channels in
    sum_by-cons one_if (after_drop dropped o) (map (after_drop dropped) channels)
    ∙ omega (arith, rest, after_drop_used dropped o)
    ∙ sym (sum_by-cons one_if o channels)

-- One that is dropped is one fewer.
pub used_less : (s : Seats) (seat : ℕ) (c : Channel) → channel_at s seat ≡ Some c → seat < length s.channels → used_of (closed s seat) + 1 ≡ used_of s
used_less s seat c there lt =
    let sums = sum_by-set one_if s.channels seat None None lt in
    let one : one_if (at_seat s.channels seat) ≡ 1 = ap one_if there in
    let rest = used_after_drop (channel_at s seat) (set s.channels seat None) in
    omega (arith, sums, one, rest)
