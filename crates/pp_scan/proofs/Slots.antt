-- The slots under a node, and the gates that are read in them.
use Rattle.std.proofs.Common.{◌≡◌, ◌⊎◌, inl, inr, ⊎_elim, ℕ, suc, ◌+◌, ◌-◌, ◌*◌, ◌/◌, ◌^◌, ◌<◌, ◌≤◌, Bool, true, false, Option, None, List, get_or, sym, ◌∙◌, ap, subst, arith}
use Rattle.std.specs.Prelude.{is_some}
use Rattle.std.proofs.Math.Nat.{le-div_iff_mul-le}
use Rattle.std.proofs.lemmas.Nat.{pow_pos}
use Rattle.std.proofs.lemmas.Bool.{cases_lt, cases_eq}
use Rattle.pp_terms.specs.tree.Tree.{above}
use Rattle.pp_terms.specs.tree.Book.{LookUp}
use Rattle.pp_terms.specs.format.Descriptor.{Descriptor, chunks_of, height_of}
use Rattle.pp_terms.specs.disk.Image.{is_open}
use Rattle.pp_terms.specs.disk.Store.{pair_slot}
use Rattle.pp_terms.proofs.Peaks.{above_is}
use Rattle.pp_terms.proofs.Facts.{which_half}
use Rattle.pp_scan.specs.Layers.{IsUnder, IsBareUnder}
use Rattle.pp_scan.specs.Gates.{IsSlotUnder, ShowsGates}
use Rattle.pp_scan.proofs.Layering.{under_child, bare_child, layer_up}

-- ---- leaves under a node

pub above_range : (n c q : ℕ) → above n c ≡ q → (q * 2 ^ n ≤ c) × (c < (q + 1) * 2 ^ n)
above_range n c q is =
    let pos : 0 < 2 ^ n = pow_pos n in
    let counted : c / 2 ^ n ≡ q = sym (above_is n c) ∙ is in
    let low : q ≤ c / 2 ^ n = omega (arith, counted) in (
      (le-div_iff_mul-le pos).0 low,
      ⊎_elim (λ lt. lt)
          (λ le. let high : q + 1 ≤ c / 2 ^ n = (le-div_iff_mul-le pos).1 le in absurd (omega (arith, counted, high)))
          (cases_lt c ((q + 1) * 2 ^ n)),
    )

pub range_above : (n c q : ℕ) → q * 2 ^ n ≤ c → c < (q + 1) * 2 ^ n → above n c ≡ q
range_above n c q from to =
    let pos : 0 < 2 ^ n = pow_pos n in
    let low : q ≤ c / 2 ^ n = (le-div_iff_mul-le pos).1 from in
    above_is n c ∙ ⊎_elim (λ (lt : c / 2 ^ n < q + 1). omega (arith, low, lt))
    (λ high. let le : (q + 1) * 2 ^ n ≤ c = (le-div_iff_mul-le pos).0 high in absurd (omega (arith, le, to)))
    (cases_lt (c / 2 ^ n) (q + 1))

-- a leaf under a node is one of its range, and the other way round
pub leaf_range : (k i s : ℕ) → IsUnder k i 0 s → (i * 2 ^ k ≤ s) × (s < (i + 1) * 2 ^ k)
leaf_range k i s under =
    above_range k s i (ap (λ (n : ℕ). above n s) (let e : k ≡ under.down = omega (arith, under.layer) in e) ∙ under.way)

pub range_leaf : (k i s : ℕ) → 0 < k → i * 2 ^ k ≤ s → s < (i + 1) * 2 ^ k → IsUnder k i 0 s
range_leaf k i s some from to = record { down = k; some = some; layer = omega arith; way = range_above k s i from to }

-- ---- slots under a node

-- the range of a node's slots, by its halves
sizes : (k i : ℕ) → (i * 2 ^ suc k ≡ 2 * (i * 2 ^ k)) × ((i + 1) * 2 ^ suc k ≡ 2 * (i * 2 ^ k) + 2 * 2 ^ k)
    × (2 * i * 2 ^ k ≡ 2 * (i * 2 ^ k)) × ((2 * i + 1) * 2 ^ k ≡ 2 * (i * 2 ^ k) + 2 ^ k)
    × ((2 * i + 1 + 1) * 2 ^ k ≡ 2 * (i * 2 ^ k) + 2 * 2 ^ k)
sizes k i = (grind arith, grind arith, grind arith, grind arith, grind arith)

pub no_slot : (k i s : ℕ) → k ≡ 0 → IsSlotUnder k i s → ⊥
no_slot k i s none under =
    let one : 2 ^ k ≡ 1 = ap (λ (n : ℕ). 2 ^ n) none in
    let low : i * 2 ^ k ≡ i = grind arith in
    let high : (i + 1) * 2 ^ k ≡ i + 1 = grind arith in
    omega (arith, under.from, under.to, low, high)

pub slot_halves : (k i s : ℕ) → IsSlotUnder (suc k) i s → (s ≡ pair_slot k i) ⊎ (IsSlotUnder k (2 * i) s ⊎ IsSlotUnder k (2 * i + 1) s)
slot_halves k i s under =
    let size = sizes k i in
    let pos : 0 < 2 ^ k = pow_pos k in
    ⊎_elim
    (λ left. inr (inl (record { from = omega (arith, under.from, size.0, size.2); to = omega (arith, left, size.2, size.3) })))
    (λ past. ⊎_elim
    (λ here. inl (omega (arith, here, past, size.0, pos)))
    (λ right. inr (inr (record { from = omega (arith, right, size.3); to = omega (arith, under.to, size.1, size.4) })))
    (cases_lt s (2 * (i * 2 ^ k) + 2 ^ k)))
    (cases_lt (s + 1) (2 * (i * 2 ^ k) + 2 ^ k))

pub pair_slot_under : (k i : ℕ) → IsSlotUnder (suc k) i (pair_slot k i)
pair_slot_under k i =
    let size = sizes k i in
    let pos : 0 < 2 ^ k = pow_pos k in
    record { from = omega (arith, pos, size.0); to = omega (arith, pos, size.0, size.1) }

pub half_slot : (k i c s : ℕ) → c / 2 ≡ i → IsSlotUnder k c s → IsSlotUnder (suc k) i s
half_slot k i c s half under =
    let size = sizes k i in
    ⊎_elim
    (λ even. let low : c * 2 ^ k ≡ 2 * i * 2 ^ k = ap (λ (n : ℕ). n * 2 ^ k) even in
    let high : (c + 1) * 2 ^ k ≡ (2 * i + 1) * 2 ^ k = ap (λ (n : ℕ). (n + 1) * 2 ^ k) even in
    record { from = omega (arith, under.from, low, size.0, size.2); to = omega (arith, under.to, high, size.1, size.3) })
    (λ odd. let low : c * 2 ^ k ≡ (2 * i + 1) * 2 ^ k = ap (λ (n : ℕ). n * 2 ^ k) odd in
    let high : (c + 1) * 2 ^ k ≡ (2 * i + 1 + 1) * 2 ^ k = ap (λ (n : ℕ). (n + 1) * 2 ^ k) odd in
    record { from = omega (arith, under.from, low, size.0, size.3); to = omega (arith, under.to, high, size.1, size.4) })
    (which_half c i half)

pub not_left : (k i : ℕ) → IsSlotUnder k (2 * i) (pair_slot k i) → ⊥
not_left k i under = let size = sizes k i in let pos : 0 < 2 ^ k = pow_pos k in omega (arith, under.to, size.0, size.3, pos)

pub not_right : (k i : ℕ) → IsSlotUnder k (2 * i + 1) (pair_slot k i) → ⊥
not_right k i under = let size = sizes k i in let pos : 0 < 2 ^ k = pow_pos k in omega (arith, under.from, size.0, size.3, pos)

pub left_not_right : (k i s : ℕ) → IsSlotUnder k (2 * i) s → IsSlotUnder k (2 * i + 1) s → ⊥
left_not_right k i s left right = omega (arith, left.to, right.from)

pub left_leaf : (k i s : ℕ) → IsSlotUnder k (2 * i) s → IsUnder k (2 * i + 1) 0 s → ⊥
left_leaf k i s left right = let range = leaf_range k (2 * i + 1) s right in omega (arith, left.to, range.0)

-- ---- what a set tells of gates

not_some : (o : Option (List ℕ)) → o ≡ None → is_some o ≡ true → ⊥
not_some o none some = cc

-- where the left child isn't in the book, no leaf under the node is
pub gates_none : (d : Descriptor) (reads : List ℕ) (k i : ℕ) (old new : LookUp) (set : List Bool) → IsBareUnder (suc k) i old
    → ((l j : ℕ) → ((l ≡ k) × (j / 2 ≡ i) → ⊥) → new l j ≡ old l j) → new k (2 * i) ≡ None → ShowsGates d reads (suc k) i new set
gates_none d reads k i old new set bare others none s under inside some =
    let size = sizes k i in
    let range : IsUnder (suc k) i 0 s = range_leaf (suc k) i s (omega arith) under.from (omega (arith, under.to)) in
    absurd (⊎_elim
    (λ child. let zero_is : k ≡ 0 = sym child.0 in
    let one : 2 ^ k ≡ 1 = ap (λ (n : ℕ). 2 ^ n) zero_is in
    let low : i * 2 ^ k ≡ i = grind arith in
    let at : s ≡ 2 * i = omega (arith, under.from, under.to, size.0, size.1, one, low) in
    not_some (new 0 s) (ap (λ (n : ℕ). new n s) child.0 ∙ ap (λ (m : ℕ). new k m) at ∙ none) some)
    (λ deeper. ⊎_elim
    (λ left. not_some (new 0 s) (bare_child k i (2 * i) old new others (omega arith) bare 0 s left) some)
    (λ right. not_some (new 0 s) (bare_child k i (2 * i + 1) old new others (omega arith) bare 0 s right) some)
    deeper)
    (under_child k i 0 s range))

-- The gate beside the node's pair, and those under its halves.
pub gates_halves : (d : Descriptor) (reads : List ℕ) (k i : ℕ) (mid end : LookUp) (one two three : List Bool)
    → (pair_slot k i < chunks_of d → get_or one (pair_slot k i) false ≡ is_open d reads (pair_slot k i))
    → ((s : ℕ) → (IsSlotUnder k (2 * i) s → ⊥) → get_or two s false ≡ get_or one s false) → ShowsGates d reads k (2 * i) mid two
    → ((l j : ℕ) → (IsUnder k (2 * i + 1) l j → ⊥) → end l j ≡ mid l j)
    → ((s : ℕ) → (IsSlotUnder k (2 * i + 1) s → ⊥) → get_or three s false ≡ get_or two s false) → ShowsGates d reads k (2 * i + 1) end three
    → ShowsGates d reads (suc k) i end three
gates_halves d reads k i mid end one two three gate elsewhere left others elsewhere' right s under inside some = ⊎_elim
    (λ here. subst (λ (n : ℕ). get_or three n false ≡ is_open d reads n) (sym here)
    (elsewhere' (pair_slot k i) (not_right k i) ∙ elsewhere (pair_slot k i) (not_left k i) ∙ gate (subst (λ (n : ℕ). n < chunks_of d) here inside)))
    (λ half. ⊎_elim
    (λ in_left. elsewhere' s (left_not_right k i s in_left) ∙ left s in_left inside
    (ap (λ (o : Option (List ℕ)). is_some o) (sym (others 0 s (left_leaf k i s in_left))) ∙ some))
    (λ in_right. right s in_right inside some)
    half)
    (slot_halves k i s under)

-- ---- the same, as the code counts layers

pub gates_bare : (d : Descriptor) (reads : List ℕ) (k i : ℕ) (old new : LookUp) (set : List Bool) → 0 < k → IsBareUnder k i old
    → ((l j : ℕ) → ((l ≡ k - 1) × (j / 2 ≡ i) → ⊥) → new l j ≡ old l j) → new (k - 1) (2 * i) ≡ None → ShowsGates d reads k i new set
gates_bare d reads k i old new set some bare others none =
    subst (λ (n : ℕ). ShowsGates d reads n i new set) (layer_up k some)
    (gates_none d reads (k - 1) i old new set (subst (λ (n : ℕ). IsBareUnder n i old) (sym (layer_up k some)) bare) others none)

pub gates_both : (d : Descriptor) (reads : List ℕ) (k i : ℕ) (mid end : LookUp) (one two three : List Bool) → 0 < k
    → (pair_slot (k - 1) i < chunks_of d → get_or one (pair_slot (k - 1) i) false ≡ is_open d reads (pair_slot (k - 1) i))
    → ((s : ℕ) → (IsSlotUnder (k - 1) (2 * i) s → ⊥) → get_or two s false ≡ get_or one s false) → ShowsGates d reads (k - 1) (2 * i) mid two
    → ((l j : ℕ) → (IsUnder (k - 1) (2 * i + 1) l j → ⊥) → end l j ≡ mid l j)
    → ((s : ℕ) → (IsSlotUnder (k - 1) (2 * i + 1) s → ⊥) → get_or three s false ≡ get_or two s false)
    → ShowsGates d reads (k - 1) (2 * i + 1) end three → ShowsGates d reads k i end three
gates_both d reads k i mid end one two three some gate elsewhere left others elsewhere' right =
    subst (λ (n : ℕ). ShowsGates d reads n i end three) (layer_up k some)
    (gates_halves d reads (k - 1) i mid end one two three gate elsewhere left others elsewhere' right)

pub elsewhere_slot : (k i s : ℕ) (old new : List Bool) → 0 < k
    → ((s : ℕ) → (s ≡ pair_slot (k - 1) i → ⊥) → get_or new s false ≡ get_or old s false) → (IsSlotUnder k i s → ⊥)
    → get_or new s false ≡ get_or old s false
elsewhere_slot k i s old new some others off =
    others s (λ here. off (subst (λ (n : ℕ). IsSlotUnder n i s) (layer_up k some)
    (subst (λ (m : ℕ). IsSlotUnder (suc (k - 1)) i m) (sym here) (pair_slot_under (k - 1) i))))

pub elsewhere_side : (k i c s : ℕ) (old new mid : List Bool) → 0 < k → c / 2 ≡ i
    → ((s : ℕ) → (IsSlotUnder k i s → ⊥) → get_or new s false ≡ get_or old s false)
    → ((s : ℕ) → (IsSlotUnder (k - 1) c s → ⊥) → get_or mid s false ≡ get_or new s false)
    → (IsSlotUnder k i s → ⊥) → get_or mid s false ≡ get_or old s false
elsewhere_side k i c s old new mid some half one two off =
    two s (λ u. off (subst (λ (n : ℕ). IsSlotUnder n i s) (layer_up k some) (half_slot (k - 1) i c s half u))) ∙ one s off

-- ---- the whole tree

-- each chunk's slot lies under the root, or is the last
pub slot_or_last : (d : Descriptor) (s : ℕ) → chunks_of d ≤ 2 ^ height_of d → s < chunks_of d
    → IsSlotUnder (height_of d) 0 s ⊎ (suc s ≡ 2 ^ height_of d)
slot_or_last d s fits inside = ⊎_elim
    (λ lt. inl (record { from = omega arith; to = omega (arith, lt) }))
    (λ le. inr (omega (arith, le, fits, inside)))
    (cases_lt (s + 1) (2 ^ height_of d))
