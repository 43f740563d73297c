-- What a write does to a file, and which images a write and a sync leave.
use Rattle.std.proofs.Common.{◌≡◌, ◌⊎◌, inl, inr, ⊎_elim, ℕ, zero, suc, ◌+◌, ◌<◌, ◌≤◌, min, max, List, [], ◌∷◌, ◌++◌, length, get_or, drop, map, refl, sym, ◌∙◌, ap, subst, arith}
use Rattle.std.proofs.lemmas.List.{places}
use Rattle.std.proofs.lemmas.Grind.{same_number_lists}
use Rattle.std.proofs.lemmas.Bool.{cases_lt}
use Rattle.std.specs.List.{range_with_len}
use Rattle.std.proofs.lemmas.List.FromFn.{length-map-range_with_len, get_or-map-range_with_len}
use Rattle.pp_terms.specs.disk.Store.{IsWithin, AreApart, Has}
use Rattle.pp_terms.specs.disk.Disk.{Write, Epoch, History, IsPending, end_of, IsImage, WasImage, MayLeave, MayLeaveSince, Throughout, moment_of, written, pends, after_write, settled, IsOver}

pub length-written : (old : List ℕ) (place : ℕ) (bytes : List ℕ) → length (written old place bytes) ≡ max (length old) (place + length bytes)
length-written old place bytes = grind (arith, places)

pub written_inside : (old : List ℕ) (place : ℕ) (bytes : List ℕ) (k : ℕ) → k < length bytes → get_or (written old place bytes) (place + k) 0 ≡ get_or bytes k 0
written_inside old place bytes k within = grind (arith, places)

pub written_outside : (old : List ℕ) (place : ℕ) (bytes : List ℕ) (k : ℕ) → (IsWithin place (length bytes) k → ⊥) → get_or (written old place bytes) k 0 ≡ get_or old k 0
written_outside old place bytes k outside = ⊎_elim (λ below. grind (arith, places)) (λ above. let past : place + length bytes ≤ k = ⊎_elim (λ lt. absurd (outside (above, lt))) (λ le. le) (cases_lt k (place + length bytes)) in grind (arith, places)) (cases_lt k place)

-- where nothing is pending the image is what is durable
pub sole_image : (bytes image : List ℕ) → IsImage (record { durable = bytes; pending = [] }) image → image ≡ bytes
sole_image bytes image is =
    same_number_lists image bytes (omega (arith, is.no_shorter, is.no_longer)) (λ k lt. is.stays k (omega (arith, is.no_shorter, is.no_longer)) (λ p. p))

pub is_sole : (bytes : List ℕ) → IsImage (record { durable = bytes; pending = [] }) bytes
is_sole bytes = record { no_shorter = omega arith; no_longer = omega arith; stays = λ k lt none. refl }

drop_all : {X : Type 0} (xs : List X) → drop (length xs) xs ≡ []
drop_all [] = refl
drop_all (x ∷ xs) = drop_all xs

-- since this moment there is no other
pub since_now : (h : History) (image : List ℕ) → MayLeaveSince h (moment_of h) image → MayLeave h image
since_now h image (inl now) = now
since_now h image (inr was) = absurd (subst (λ (past : List Epoch). WasImage past image) (drop_all h.past) was)

drop_push : {X : Type 0} (n : ℕ) (xs : List X) (x : X) → n ≤ length xs → drop n (xs ++ x ∷ []) ≡ drop n xs ++ x ∷ []
drop_push zero xs x le = refl
drop_push (suc n) [] x le = absurd (omega arith)
drop_push (suc n) (y ∷ xs) x le = drop_push n xs x (omega arith)

was_push : (past : List Epoch) (epoch : Epoch) (image : List ℕ) → WasImage (past ++ epoch ∷ []) image → WasImage past image ⊎ IsImage epoch image
was_push [] epoch image (inl is) = inr is
was_push [] epoch image (inr none) = absurd none
was_push (e ∷ past) epoch image (inl is) = inl (inl is)
was_push (e ∷ past) epoch image (inr was) = ⊎_elim (λ w. inl (inr w)) (λ is. inr is) (was_push past epoch image was)

-- Since a moment before a sync or a crash: an image from before it, or what it left.
pub since_settled : (h : History) (moment : ℕ) (bytes image : List ℕ) → moment ≤ moment_of h
    → MayLeaveSince (settled h bytes) moment image → MayLeaveSince h moment image ⊎ (image ≡ bytes)
since_settled h moment bytes image le (inl now) = inr (sole_image bytes image now)
since_settled h moment bytes image le (inr was) =
    let pushed = subst (λ (past : List Epoch). WasImage past image) (drop_push moment h.past h.epoch le) was in
    ⊎_elim (λ earlier. inl (inr earlier)) (λ is. inl (inl is)) (was_push (drop moment h.past) h.epoch image pushed)

pub moment-settled : (h : History) (bytes : List ℕ) → moment_of (settled h bytes) ≡ suc (moment_of h)
moment-settled h bytes = length_push h.past
  where
    length_push : (past : List Epoch) → length (past ++ h.epoch ∷ []) ≡ suc (length past)
    length_push [] = refl
    length_push (e ∷ past) = ap suc (length_push past)

within? : (place size k : ℕ) → IsWithin place size k ⊎ (IsWithin place size k → ⊥)
within? place size k = ⊎_elim (λ below. inr (λ w. absurd (omega (arith, w.0)))) (λ from. ⊎_elim (λ lt. inl (from, lt)) (λ past. inr (λ w. absurd (omega (arith, w.1)))) (cases_lt k (place + size))) (cases_lt k place)

pending? : (ws : List Write) (k : ℕ) → IsPending ws k ⊎ (IsPending ws k → ⊥)
pending? [] k = inr (λ none. none)
pending? (w ∷ ws) k = ⊎_elim (λ within. inl (inl within)) (λ outside. ⊎_elim (λ later. inl (inr later)) (λ none. inr (λ p. ⊎_elim outside none p)) (pending? ws k)) (within? w.place (length w.bytes) k)

-- a byte of the image from which a write made this one
byte : Epoch → List ℕ → ℕ → ℕ
byte epoch image k =
    ⊎_elim (λ _. get_or image k 0) (λ _. ⊎_elim (λ _. get_or epoch.durable k 0) (λ _. get_or image k 0) (cases_lt k (length epoch.durable))) (pending? epoch.pending k)

byte_fixed : (epoch : Epoch) (image : List ℕ) (k : ℕ) → k < length epoch.durable → (IsPending epoch.pending k → ⊥) → byte epoch image k ≡ get_or epoch.durable k 0
unfolding byte
byte_fixed epoch image k lt none = elim (pending? epoch.pending k) as (λ d. ⊎_elim (λ _. get_or image k 0) (λ _. ⊎_elim (λ _. get_or epoch.durable k 0) (λ _. get_or image k 0) (cases_lt k (length epoch.durable))) d ≡ get_or epoch.durable k 0) [
  | inl is ↦ absurd (none is)
  | inr isnt ↦ elim (cases_lt k (length epoch.durable)) as (λ d. ⊎_elim (λ _. get_or epoch.durable k 0) (λ _. get_or image k 0) d ≡ get_or epoch.durable k 0) [ inl below ↦ refl | inr above ↦ absurd (omega arith) ]
]

byte_outside : (epoch : Epoch) (place : ℕ) (bytes image : List ℕ) (k : ℕ) → IsImage (pends epoch place bytes) image → (IsWithin place (length bytes) k → ⊥) → byte epoch image k ≡ get_or image k 0
unfolding byte
byte_outside epoch place bytes image k is outside = elim (pending? epoch.pending k) as (λ d. ⊎_elim (λ _. get_or image k 0) (λ _. ⊎_elim (λ _. get_or epoch.durable k 0) (λ _. get_or image k 0) (cases_lt k (length epoch.durable))) d ≡ get_or image k 0) [
  | inl pending ↦ refl
  | inr none ↦ elim (cases_lt k (length epoch.durable)) as (λ d. ⊎_elim (λ _. get_or epoch.durable k 0) (λ _. get_or image k 0) d ≡ get_or image k 0) [
    | inl below ↦ sym (is.stays k below (λ p. ⊎_elim outside none p))
    | inr above ↦ refl
  ]
]

-- An image after a write is an image from before it with any bytes in the range, and perhaps more past its end.
pub over_image : (epoch : Epoch) (place : ℕ) (bytes image : List ℕ) → IsImage (pends epoch place bytes) image
    → (under : List ℕ) × IsImage epoch under × IsOver place (length bytes) under image
over_image epoch place bytes image is =
    let n = min (length image) (max (length epoch.durable) (end_of epoch.pending)) in
    let under = map (byte epoch image) (range_with_len 0 n) in
    let long : length under ≡ n = length-map-range_with_len (byte epoch image) 0 n in
    let at : (k : ℕ) → k < n → get_or under k 0 ≡ byte epoch image k = λ k lt. get_or-map-range_with_len (byte epoch image) 0 n k k 0 lt (omega arith) in (
      under,
      record {
        no_shorter = omega (arith, is.no_shorter, long);
        no_longer = omega (arith, long);
        stays = λ k lt none. at k (omega (arith, is.no_shorter)) ∙ byte_fixed epoch image k lt none;
      },
      record {
        no_shorter = omega (arith, long);
        outside = λ k lt outside. sym (at k (omega (arith, long, lt)) ∙ byte_outside epoch place bytes image k is outside);
      },
    )

-- What holds of every image and survives other bytes in a range, and more past the end, holds of every image after a
-- write there.
pub throughout_write : (h : History) (moment place : ℕ) (bytes : List ℕ) (P : List ℕ → Type 0)
    → ((under image : List ℕ) → IsOver place (length bytes) under image → P under → P image)
    → Throughout h moment P → Throughout (after_write h place bytes) moment P
throughout_write h moment place bytes P survives holds image (inl now) =
    let from = over_image h.epoch place bytes image now in survives from.0 image from.2 (holds from.0 (inl from.1))
throughout_write h moment place bytes P survives holds image (inr was) = holds image (inr was)

-- bytes survive a write elsewhere
pub has_over : (place size at : ℕ) (kept under image : List ℕ) → AreApart at (length kept) place size → IsOver place size under image → Has at kept under → Has at kept image
has_over place size at kept under image apart over has = record {
  inside = omega (arith, has.inside, over.no_shorter);
  same = λ k lt. over.outside (at + k) (omega (arith, has.inside)) (λ w. ⊎_elim (λ before. omega (arith, w.0)) (λ behind. omega (arith, w.1)) apart) ∙ has.same k lt;
}

pub throughout_write_elsewhere : (h : History) (moment place at : ℕ) (bytes kept : List ℕ) → AreApart at (length kept) place (length bytes)
    → Throughout h moment (Has at kept) → Throughout (after_write h place bytes) moment (Has at kept)
throughout_write_elsewhere h moment place at bytes kept apart =
    throughout_write h moment place bytes (Has at kept) (λ under image over has. has_over place (length bytes) at kept under image apart over has)

-- What holds of every image, and of what is settled, holds of every image afterwards.
pub throughout_settled : (h : History) (moment : ℕ) (bytes : List ℕ) (P : List ℕ → Type 0) → moment ≤ moment_of h
    → Throughout h moment P → P bytes → Throughout (settled h bytes) moment P
throughout_settled h moment bytes P le holds here image since =
    ⊎_elim (holds image) (λ is. subst P (sym is) here) (since_settled h moment bytes image le since)
