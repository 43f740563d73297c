-- No path is complete for a chunk of a number that 32 bits don't hold.
use Rattle.std.proofs.Common.{◌≡◌, ⊎_elim, ℕ, zero, suc, ◌+◌, ◌*◌, ◌/◌, ◌^◌, ◌<◌, ◌≤◌, leb, ltb, Bool, true, false, not, ◌&&◌, ◌||◌, List, [], ◌∷◌, refl, ◌∙◌, ap, arith, add-one}
use Rattle.std.specs.List.{list_all}
use Rattle.std.proofs.lemmas.Bool.{cases_Bool, le-ltb}
use Rattle.std.proofs.Math.Nat.{mul-le-mul_right, pow-succ'}
use Rattle.std.proofs.Math.Pow.{pow_mono}
use Rattle.pp_terms.specs.format.Messages.{Message, Handshake, Data, Ack, Have, Integrity, Pex4, PexReq, Request, Cancel, Choke, Unchoke, Pex6}
use Rattle.pp_terms.specs.tree.Bins.{first_leaf, parent_of, sibling_of}
use Rattle.pp_terms.specs.tree.Range.{Span}
use Rattle.pp_terms.specs.tree.Tree.{Node, height, is_peak, peaks, leaf_at}
use Rattle.pp_terms.proofs.Peaks.{peak_found, below_full}
use Rattle.pp_traffic.specs.Hashes.{meets, tells, told_by, is_told, completes_from, completes}
use Rattle.pp_traffic.specs.Story.{Line, Heard, Said, Taken}
use Rattle.pp_traffic.proofs.PlansInBooks.{full_bound}

-- The leaves under a node end behind a far one, and the node lies in one of the lowest layers.
record IsFar (chunks layers : ℕ) (n : Node) : Type 0 where
  few : chunks ≤ 2 ^ 20
  wide : 2 ^ 32 < (n.offset + 1) * 2 ^ n.layer
  low : n.layer + layers ≤ 21

widens : (j k : ℕ) → (j + 1) * 2 ^ k ≤ (j / 2 + 1) * 2 ^ (k + 1)
widens j k =
    let step : 2 ^ (k + 1) ≡ 2 * 2 ^ k = ap (λ (n : ℕ). 2 ^ n) (add-one k) ∙ pow-succ' 2 k in
    let round : j + 1 ≤ 2 * (j / 2 + 1) = omega arith in
    let wide : (j + 1) * 2 ^ k ≤ 2 * (j / 2 + 1) * 2 ^ k = mul-le-mul_right (2 ^ k) round in
    let same : (j / 2 + 1) * 2 ^ (k + 1) ≡ (j / 2 + 1) * (2 * 2 ^ k) = ap (λ (p : ℕ). (j / 2 + 1) * p) step in
    by (j / 2 + 1) (2 ^ k) ((j + 1) * 2 ^ k) ((j / 2 + 1) * 2 ^ (k + 1)) wide same
  where
    by : (a p x y : ℕ) → x ≤ 2 * a * p → y ≡ a * (2 * p) → x ≤ y
    by a p x y le e = let twice : a * (2 * p) ≡ 2 * a * p = omega arith in omega (arith, le, e, twice)

parent_far : (chunks layers : ℕ) (n : Node) → IsFar chunks (suc layers) n → IsFar chunks layers (parent_of n)
parent_far chunks layers n far = record {
  few = far.few;
  wide = (let w = far.wide in let more = widens n.offset n.layer in omega (arith, w, more));
  low = (let l = far.low in omega (arith, l));
}

no_peak : (chunks layers : ℕ) (n : Node) → IsFar chunks layers n → is_peak chunks n ≡ false
no_peak chunks layers n far = ⊎_elim
    (λ peak.
    let found = peak_found chunks n peak in
    let last = found.2 in
    let full = full_bound chunks n (below_full chunks n (omega (arith, last))) in
    let few = far.few in let wide = far.wide in absurd (omega (arith, full, few, wide)))
    (λ other. other)
    (cases_Bool (is_peak chunks n))

behind : (chunks layers : ℕ) (n : Node) → IsFar chunks (suc layers) n → chunks ≤ first_leaf (parent_of n)
behind chunks layers n far =
    let wide = far.wide in
    let few = far.few in
    let low = far.low in
    let more = widens n.offset n.layer in
    let size : 2 ^ (n.layer + 1) ≤ 2 ^ 21 = pow_mono (let le : n.layer + 1 ≤ 21 = omega (arith, low) in le) in
    let split : (n.offset / 2 + 1) * 2 ^ (n.layer + 1) ≡ n.offset / 2 * 2 ^ (n.layer + 1) + 2 ^ (n.layer + 1) = omega arith in
    omega (arith, wide, few, more, size, split)

none_of : (x y p l m : Bool) → p ≡ false → m ≡ false → (x && y && (p || (l && m))) ≡ false
none_of true true p true m e f = rw (e, f) refl
none_of true true p false m e f = rw e refl
none_of true false p l m e f = refl
none_of false y p l m e f = refl

tells_none : (chunks layers : ℕ) (span : Span) (n : Node) → IsFar chunks (suc layers) n → tells chunks span n ≡ false
tells_none chunks layers span n far =
    none_of (ltb span.first chunks) (leb span.first span.last) (is_peak chunks n) (ltb n.layer (height chunks)) (meets chunks span (parent_of n))
    (no_peak chunks (suc layers) n far) (rw (le-ltb (first_leaf (parent_of n)) chunks (behind chunks layers n far)) refl)

untold_by : (chunks layers : ℕ) (n : Node) (m : Message) → IsFar chunks (suc layers) n → told_by chunks n m ≡ false
untold_by chunks layers n (Ack span delay) far = tells_none chunks layers span n far
untold_by chunks layers n (Have span) far = tells_none chunks layers span n far
untold_by chunks layers n (Handshake source options) far = refl
untold_by chunks layers n (Data chunk sent_at bytes) far = refl
untold_by chunks layers n (Integrity span digest) far = refl
untold_by chunks layers n (Pex4 address port) far = refl
untold_by chunks layers n PexReq far = refl
untold_by chunks layers n (Request span) far = refl
untold_by chunks layers n (Cancel span) far = refl
untold_by chunks layers n Choke far = refl
untold_by chunks layers n Unchoke far = refl
untold_by chunks layers n (Pex6 address port) far = refl

untold : (chunks layers : ℕ) (story : List Line) (n : Node) → IsFar chunks (suc layers) n → is_told chunks story n ≡ false
untold chunks layers [] n far = refl
untold chunks layers (Heard now m ∷ before) n far = ap (λ (b : Bool). b || is_told chunks before n) (untold_by chunks layers n m far) ∙ untold chunks layers before n far
untold chunks layers (Said now m ∷ before) n far = untold chunks layers before n far
untold chunks layers (Taken now ∷ before) n far = untold chunks layers before n far

never : (t p a s more : Bool) → t ≡ false → p ≡ false → more ≡ false → (t || (p && a) || (not p && s && more)) ≡ false
never t p a true more e f g = rw (e, f, g) refl
never t p a false more e f g = rw (e, f) refl

far_from : (layers chunks : ℕ) (brought : Node → Bool) (story : List Line) (n : Node) → IsFar chunks layers n → completes_from layers chunks brought (is_told chunks story) n ≡ false
far_from zero chunks brought story n far = refl
far_from (suc layers) chunks brought story n far =
    never (is_told chunks story n) (is_peak chunks n) (list_all (λ p. brought p || is_told chunks story p) (peaks chunks))
    (brought (sibling_of n) || is_told chunks story (sibling_of n)) (completes_from layers chunks brought (is_told chunks story) (parent_of n))
    (untold chunks layers story n far) (no_peak chunks (suc layers) n far)
    (far_from layers chunks brought story (parent_of n) (parent_far chunks layers n far))

pub far_chunk : (chunks : ℕ) (brought : Node → Bool) (story : List Line) (i : ℕ) → chunks ≤ 2 ^ 20 → height chunks ≤ 20 → 2 ^ 32 ≤ i
    → completes chunks brought (is_told chunks story) i ≡ false
far_chunk chunks brought story i few low far =
    far_from (height chunks + 1) chunks brought story (leaf_at i) (record { few = few; wide = (let one : (i + 1) * 2 ^ 0 ≡ i + 1 = omega arith in omega (arith, far, one)); low = omega (arith, low) })
