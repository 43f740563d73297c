-- The steps of the two loops that cover a range.
use Rattle.std.proofs.Common.{◌≡◌, ℕ, suc, ◌+◌, ◌*◌, ◌/◌, ◌%◌, ◌^◌, ◌<◌, ◌≤◌, List, [], ◌∷◌, ◌++◌, length, map, sym, ◌∙◌, ap, subst, arith}
use Rattle.std.proofs.lemmas.List.{length-append, map-append}
use Rattle.pp_tree.specs.declared.node.Node.{Node}
use Rattle.pp_tree.specs.Node.{node_of}
use Rattle.pp_tree.proofs.BinNumbers.{shifted}
use Rattle.pp_ranges.specs.Covering.{IsMultiple, IsCoverTo}
use Rattle.pp_ranges.proofs.Dyadic.{cover_more, odd_highest, last_highest, quotient_of, even_multiple, odd_multiple, lower_multiple, next_multiple}

pub climb_on : (first end at k step q at' : ℕ) (items items' : List Node)
    → IsCoverTo first end at (map node_of items) → IsMultiple k at → length items ≤ k → end < 2 ^ 32 + at
    → q ≡ at / 2 ^ k → q % 2 ≡ 1 → k < 32 → step ≡ 1 * 2 ^ k % 18446744073709551616 → at + step ≤ end
    → at' ≡ at + step → items' ≡ items ++ record { layer = k; offset = q } ∷ []
    → IsCoverTo first end at' (map node_of items') × IsMultiple (k + 1) at' × (at' ≤ end) × (length items' ≤ k + 1)
    × (k + 1 ≤ 32) × (end < 2 ^ 32 + at')
climb_on first end at k step q at' items items' cover multiple few part q_is odd low step_is fits at_is items_is =
    let small : k < 64 = omega arith in
    let step_at : step ≡ 2 ^ k = step_is ∙ shifted k small in
    let next : at' ≡ at + 2 ^ k = at_is ∙ ap (λ n. at + n) step_at in
    let room : at + 2 ^ k ≤ end = omega (arith, step_at) in
    let here : at ≡ q * 2 ^ k = quotient_of at k multiple ∙ ap (λ n. n * 2 ^ k) (sym q_is) in
    let x : Node = record { layer = k; offset = q } in
    let grown : map node_of items' ≡ map node_of items ++ record { layer = k; offset = q } ∷ [] =
    ap (λ xs. map node_of xs) items_is ∙ map-append node_of items (x ∷ []) in
    let size : length items' ≡ length items + 1 = ap (λ xs. length xs) items_is ∙ length-append items (x ∷ []) in
    let more = cover_more first end at k q (map node_of items) cover here room (odd_highest end at k q here odd) in (
      subst (λ a. IsCoverTo first end a (map node_of items')) (sym next)
          (subst (λ ns. IsCoverTo first end (at + 2 ^ k) ns) (sym grown) more),
      subst (λ a. IsMultiple (k + 1) a) (sym next) (odd_multiple at k q here odd),
      omega (arith, next),
      omega (arith, size),
      omega arith,
      omega (arith, next),
    )

pub climb_past : (first end at k q at' : ℕ) (items items' : List Node) → IsCoverTo first end at (map node_of items)
    → IsMultiple k at → at ≤ end → length items ≤ k → end < 2 ^ 32 + at → q ≡ at / 2 ^ k → (q % 2 ≡ 1 → ⊥) → k < 32
    → at' ≡ at → items' ≡ items
    → IsCoverTo first end at' (map node_of items') × IsMultiple (k + 1) at' × (at' ≤ end) × (length items' ≤ k + 1)
    × (k + 1 ≤ 32) × (end < 2 ^ 32 + at')
climb_past first end at k q at' items items' cover multiple inside few part q_is even low at_is items_is =
    let size : length items' ≡ length items = ap (λ xs. length xs) items_is in (
      subst (λ a. IsCoverTo first end a (map node_of items')) (sym at_is)
          (subst (λ xs. IsCoverTo first end at (map node_of xs)) (sym items_is) cover),
      subst (λ a. IsMultiple (k + 1) a) (sym at_is)
          (even_multiple at k q (quotient_of at k multiple ∙ ap (λ n. n * 2 ^ k) (sym q_is)) even),
      omega arith,
      omega (arith, size),
      omega arith,
      omega arith,
    )

pub descend_on : (low end at k m step q at' : ℕ) (items items' : List Node) → suc k ≡ m
    → IsMultiple m at → end < at + 2 ^ m → q ≡ at / 2 ^ k → k < 32 → step ≡ 1 * 2 ^ k % 18446744073709551616
    → at + step ≤ end → at' ≡ at + step → items' ≡ items ++ record { layer = k; offset = q } ∷ []
    → IsCoverTo low end at (map node_of items) → IsCoverTo low end at' (map node_of items')
descend_on low end at k m step q at' items items' up multiple over q_is small step_is fits at_is items_is cover =
    let shift : k < 64 = omega arith in
    let step_at : step ≡ 2 ^ k = step_is ∙ shifted k shift in
    let next : at' ≡ at + 2 ^ k = at_is ∙ ap (λ n. at + n) step_at in
    let room : at + 2 ^ k ≤ end = omega (arith, step_at) in
    let lower = lower_multiple at k (subst (λ n. IsMultiple n at) (sym up) multiple) in
    let here : at ≡ q * 2 ^ k = quotient_of at k lower ∙ ap (λ n. n * 2 ^ k) (sym q_is) in
    let over' : end < at + 2 ^ suc k = subst (λ n. end < at + 2 ^ n) (sym up) over in
    let x : Node = record { layer = k; offset = q } in
    let grown : map node_of items' ≡ map node_of items ++ record { layer = k; offset = q } ∷ [] =
    ap (λ xs. map node_of xs) items_is ∙ map-append node_of items (x ∷ []) in
    subst (λ a. IsCoverTo low end a (map node_of items')) (sym next)
    (subst (λ ns. IsCoverTo low end (at + 2 ^ k) ns) (sym grown)
    (cover_more low end at k q (map node_of items) cover here room (last_highest end at k over')))

-- the numbers after a step down, with a node or without
pub descend_facts : (end at k m step : ℕ) → suc k ≡ m → IsMultiple m at → end < at + 2 ^ m → k < 32
    → step ≡ 1 * 2 ^ k % 18446744073709551616 → IsMultiple k at × IsMultiple k (at + step) × (end < at + step + 2 ^ k) × (step ≡ 2 ^ k)
descend_facts end at k m step up multiple over small step_is =
    let shift : k < 64 = omega arith in
    let step_at : step ≡ 2 ^ k = step_is ∙ shifted k shift in
    let lower = lower_multiple at k (subst (λ n. IsMultiple n at) (sym up) multiple) in
    let over' : end < at + 2 ^ suc k = subst (λ n. end < at + 2 ^ n) (sym up) over in
    let two : 2 ^ suc k ≡ 2 * 2 ^ k = grind arith in
    (lower, subst (λ n. IsMultiple k (at + n)) (sym step_at) (next_multiple at k lower), omega (arith, step_at, over', two), step_at)
