-- Changes of the seats, as of lists.
use Rattle.std.proofs.Common.{◌≡◌, ◌≢◌, ⊎_elim, ℕ, zero, suc, ◌<◌, eqb, true, false, ◌||◌, Option, Some, None, List, [], ◌∷◌, length, refl, sym, ◌∙◌, ap, subst, arith}
use Rattle.std.specs.Prelude.{option_map, is_none, position, IsSome, unwrap_or, map}
use Rattle.std.proofs.Math.ListN.{set}
use Rattle.std.proofs.lemmas.List.{get_or-set_same, get_or-set_other, length-set}
use Rattle.std.proofs.lemmas.List.Quantifiers.{position-Some}
use Rattle.std.proofs.lemmas.Option.{same_Some}
use Rattle.std.proofs.lemmas.Bool.{cases_Bool, cond-true, cond-false, or_parts, eqb-true, eqb-false, eqb-true, eq-eqb}
use Rattle.rand_chacha.specs.ChaCha.{next_word}
use Rattle.pp_outside.specs.declared.link.Address.{Address}
use Rattle.pp_channels.specs.Seats.{Seats, at_seat, channel_at, AreSeats, changed, closed, with_channel, with_channel_at, free_seat, is_used, least_unused, number_from, has_local, after_drop}
use Rattle.pp_channels.specs.declared.channel.Channel.{Channel}
use Rattle.pp_channels.proofs.Seating.{seats_after_drop, is_free, after_drop_there}
use Rattle.pp_channels.proofs.Numbering.{found_unused, found_is, unused_there}
use Rattle.pp_lives.specs.Calls.{Changes, Drops}

-- ---- seats

pub within : (xs : List (Option Channel)) (seat : ℕ) (c : Channel) → at_seat xs seat ≡ Some c → seat < length xs
within [] seat c there = absurd cc
within (o ∷ xs) zero c there = omega arith
within (o ∷ xs) (suc seat) c there = let lt = within xs seat c there in omega arith

pub changed_is : (t : Seats) (seat : ℕ) (c : Channel) (f : Channel → Channel) → channel_at t seat ≡ Some c → Changes t (changed t seat f) seat (Some (f c))
changed_is t seat c f there =
    let lt = within t.channels seat c there in
    record {
      there = get_or-set_same t.channels seat (option_map f (channel_at t seat)) None lt ∙ ap (option_map f) there;
      others = λ other ne. get_or-set_other t.channels seat other (option_map f (channel_at t seat)) None ne;
    }

pub changes_then : (t u v : Seats) (seat : ℕ) (x y : Option Channel) → Changes t u seat x → Changes u v seat y → Changes t v seat y
changes_then t u v seat x y first then = record {
  there = then.there;
  others = λ other ne. then.others other ne ∙ first.others other ne;
}

pub are_changed : (t : Seats) (seat : ℕ) (c : Channel) (f : Channel → Channel) → AreSeats t.channels → channel_at t seat ≡ Some c → (f c).local ≡ c.local → AreSeats (changed t seat f).channels
are_changed t seat c f are there same =
    let ch = changed_is t seat c f there in
    let was : (other : ℕ) (e : Channel) → channel_at (changed t seat f) other ≡ Some e → (e0 : Channel) × (channel_at t other ≡ Some e0) × (e.local ≡ e0.local) = λ other e also. ⊎_elim
    (λ here. (c, ap (channel_at t) (eqb-true other seat here) ∙ there, ap (λ (x : Channel). x.local) (sym (same_Some (f c) e (sym ch.there ∙ ap (channel_at (changed t seat f)) (sym (eqb-true other seat here)) ∙ also))) ∙ same))
    (λ apart. (e, sym (ch.others other (eqb-false other seat apart)) ∙ also, refl))
    (cases_Bool (eqb other seat)) in
    record {
      seats = length-set t.channels seat (option_map f (channel_at t seat)) ∙ are.seats;
      some = λ other e also. let w = was other e also in let some = are.some other w.0 w.1 in omega (arith, w.2);
      differ = λ one other a e at_one at_other alike. let x = was one a at_one in let y = was other e at_other in are.differ one other x.0 y.0 x.1 y.1 (sym x.2 ∙ alike ∙ y.2);
    }

-- ---- dropping

pub dropped_is : (t : Seats) (seat : ℕ) (c : Channel) → channel_at t seat ≡ Some c → Drops t (closed t seat) seat c
dropped_is t seat c there =
    let new : Seats = closed t seat in
    let lists : new.channels ≡ map (after_drop (Some c)) (set t.channels seat None) = ap (λ (o : Option Channel). map (after_drop o) (set t.channels seat None)) there in
    record {
      was = there;
      free = ap (λ (xs : List (Option Channel)). at_seat xs seat) lists ∙ after_drop_there c (set t.channels seat None) seat ∙ ap (after_drop (Some c)) (is_free t.channels seat);
      others = λ other ne. ap (λ (xs : List (Option Channel)). at_seat xs other) lists ∙ after_drop_there c (set t.channels seat None) other
          ∙ ap (after_drop (Some c)) (get_or-set_other t.channels seat other None None ne);
    }

pub are_dropped : (t : Seats) (seat : ℕ) (c : Channel) → AreSeats t.channels → channel_at t seat ≡ Some c → AreSeats (closed t seat).channels
are_dropped t seat c are there =
    subst (λ (o : Option Channel). AreSeats (map (after_drop o) (set t.channels seat None))) (sym there) (seats_after_drop c t.channels seat are)

-- a channel that was changed at its seat, and dropped then: it was dropped
pub changed_dropped : (t u v : Seats) (seat : ℕ) (c c' : Channel) → channel_at t seat ≡ Some c → c'.address ≡ c.address → Changes t u seat (Some c') → Drops u v seat c' → Drops t v seat c
changed_dropped t u v seat c c' there same ch drops = record {
  was = there;
  free = drops.free;
  others = λ other ne. drops.others other ne ∙ ap (after_drop (Some c')) (ch.others other ne) ∙ by_address (channel_at t other);
}
  where
    by_address : (o : Option Channel) → after_drop (Some c') o ≡ after_drop (Some c) o
    by_address None = refl
    by_address (Some e) = ap (λ (a : Address). after_drop (Some (record c { address = a })) (Some e)) same

-- ---- new channels

free_is : (o : Option Channel) → is_none o ≡ true → o ≡ None
free_is None e = refl
free_is (Some c) e = absurd cc

some_is : (o : Option ℕ) → IsSome o → (k : ℕ) × (o ≡ Some k)
some_is None e = cc
some_is (Some k) e = (k, refl)

pub number_new : (channels : List (Option Channel)) (seat word : ℕ) → position is_none channels ≡ Some seat
    → (0 < number_from channels word) × ((other : ℕ) → has_local (number_from channels word) (at_seat channels other) ≡ false)
number_new channels seat word free = ⊎_elim
    (λ taken.
    let k = some_is (least_unused channels) (found_unused channels (position is_none channels) refl (subst (λ (o : Option ℕ). IsSome o) (sym free) refl)) in
    let found = found_is (is_used channels) 1 (length channels) k.0 k.1 in
    let is : number_from channels word ≡ k.0 = cond-true (eqb word 0 || is_used channels word) (unwrap_or (least_unused channels) 0) word taken ∙ ap (λ (o : Option ℕ). unwrap_or o 0) k.1 in
    (omega (arith, found.0, is), λ other. ap (λ (n : ℕ). has_local n (at_seat channels other)) is ∙ unused_there channels k.0 other found.1))
    (λ fresh.
    let parts = or_parts (eqb word 0) (is_used channels word) fresh in
    let is : number_from channels word ≡ word = cond-false (eqb word 0 || is_used channels word) (unwrap_or (least_unused channels) 0) word fresh in
    let some : word ≢ 0 = eqb-false word 0 parts.0 in
    (omega (arith, is), λ other. ap (λ (n : ℕ). has_local n (at_seat channels other)) is ∙ unused_there channels word other parts.1))
    (cases_Bool (eqb word 0 || is_used channels word))

-- A channel was made at the least free seat.
pub record IsMade (t new : Seats) (seat : ℕ) (make : ℕ → Channel) : Type 0 where
  pub number : ℕ
  pub some : 0 < number
  pub free : channel_at t seat ≡ None
  pub change : Changes t new seat (Some (make number))
  pub are : AreSeats new.channels

pub made_is : (t : Seats) (seat : ℕ) (make : ℕ → Channel) → ((n : ℕ) → (make n).local ≡ n) → AreSeats t.channels → free_seat t ≡ Some seat
    → IsMade t (with_channel make t) seat make
made_is t seat make local are free =
    let word = (next_word 10 t.numbers).0 in
    let n = number_from t.channels word in
    let new : Seats = with_channel make t in
    let place = position-Some is_none t.channels seat None free in
    let number = number_new t.channels seat word free in
    let lists : new.channels ≡ set t.channels seat (Some (make n)) = ap (λ (o : Option ℕ). (with_channel_at o make t).channels) free in
    let ch : Changes t new seat (Some (make n)) = record {
      there = ap (λ (xs : List (Option Channel)). at_seat xs seat) lists ∙ get_or-set_same t.channels seat (Some (make n)) None place.0;
      others = λ other ne. ap (λ (xs : List (Option Channel)). at_seat xs other) lists ∙ get_or-set_other t.channels seat other (Some (make n)) None ne;
    } in
    let mine : (other : ℕ) (e : Channel) → eqb other seat ≡ true → channel_at new other ≡ Some e → make n ≡ e = λ other e same also. same_Some (make n) e (sym ch.there ∙ ap (channel_at new) (sym (eqb-true other seat same)) ∙ also) in
    let was : (other : ℕ) (e : Channel) → eqb other seat ≡ false → channel_at new other ≡ Some e → channel_at t other ≡ Some e = λ other e apart also. sym (ch.others other (eqb-false other seat apart)) ∙ also in
    record {
      number = n;
      some = number.0;
      free = free_is (channel_at t seat) place.1;
      change = ch;
      are = record {
        seats = ap (λ (xs : List (Option Channel)). length xs) lists ∙ length-set t.channels seat (Some (make n)) ∙ are.seats;
        some = λ other e also. ⊎_elim
            (λ same. let l = ap (λ (x : Channel). x.local) (sym (mine other e same also)) ∙ local n in let some = number.0 in omega arith)
            (λ apart. are.some other e (was other e apart also))
            (cases_Bool (eqb other seat));
        differ = λ one other a e at_one at_other alike. ⊎_elim
            (λ one_is. ⊎_elim
            (λ other_is. eqb-true one seat one_is ∙ sym (eqb-true other seat other_is))
            (λ other_apart. absurd (clash e n (channel_at t other) (was other e other_apart at_other) (number.1 other) (sym alike ∙ ap (λ (x : Channel). x.local) (sym (mine one a one_is at_one)) ∙ local n)))
            (cases_Bool (eqb other seat)))
            (λ one_apart. ⊎_elim
            (λ other_is. absurd (clash a n (channel_at t one) (was one a one_apart at_one) (number.1 one) (alike ∙ ap (λ (x : Channel). x.local) (sym (mine other e other_is at_other)) ∙ local n)))
            (λ other_apart. are.differ one other a e (was one a one_apart at_one) (was other e other_apart at_other) alike)
            (cases_Bool (eqb other seat)))
            (cases_Bool (eqb one seat));
      };
    }
  where
    clash : (e : Channel) (n : ℕ) (o : Option Channel) → o ≡ Some e → has_local n o ≡ false → e.local ≡ n → ⊥
    clash e n o is none same = let has : has_local n o ≡ true = ap (has_local n) is ∙ eq-eqb e.local n same in cc
