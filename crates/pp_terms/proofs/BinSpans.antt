-- The leaves of a bin, and the bin of its leaves.
use Rattle.std.proofs.Common.{◌≡◌, ℕ, zero, suc, ◌+◌, ◌*◌, ◌/◌, ◌%◌, ◌^◌, ◌<◌, ◌⊎◌, refl, sym, ap, subst, ◌∙◌, arith, inl, inr}
use Rattle.std.proofs.lemmas.Bool.{eq-eqb, ne_eqb, cases_eq}
use Rattle.std.proofs.Math.Nat.{pow-suc, mul_assoc, add-mul}
use Rattle.std.proofs.lemmas.Nat.{pow_pos}
use Rattle.pp_terms.specs.tree.Tree.{Node}
use Rattle.pp_terms.specs.tree.Bins.{bin_of, first_leaf, last_leaf}
use Rattle.pp_terms.specs.format.Messages.{IsBinSpan, only, leaves_of}
use Rattle.pp_terms.specs.tree.Range.{Span}

pub span_same : (s t : Span) → s.first ≡ t.first → s.last ≡ t.last → s ≡ t
span_same s t p q =
    let one : s ≡ record { first = t.first; last = s.last } = ap (λ (x : ℕ). let r : Span = record { first = x; last = s.last } in r) p in
    let two : record { first = t.first; last = s.last } ≡ t = ap (λ (x : ℕ). let r : Span = record { first = t.first; last = x } in r) q in
    one ∙ two

-- the leaves under a node
abbrev under : Node → Span
under n = record { first = first_leaf n; last = last_leaf n }

under_leaf : (i : ℕ) → under (record { layer = 0; offset = i }) ≡ only i
under_leaf i = span_same (under (record { layer = 0; offset = i })) (only i) (omega arith) (omega arith)

-- an even bin is a leaf
pub leaves_of_even : (bits bin : ℕ) → bin % 2 ≡ 0 → leaves_of bits bin ≡ only (bin / 2)
unfolding leaves_of
leaves_of_even zero bin even = under_leaf (bin / 2)
leaves_of_even (suc bits) bin even = rw (eq-eqb (bin % 2) 0 even) (under_leaf (bin / 2))

-- the leaves of an odd bin, from those of its half
abbrev pub twice : Span → Span
twice half = record { first = 2 * half.first; last = 2 * half.last + 1 }

doubled : (o k : ℕ) → o * 2 ^ suc k ≡ 2 * (o * 2 ^ k)
doubled o k =
    let e : o * 2 ^ suc k ≡ o * (2 ^ k * 2) = ap (λ (x : ℕ). o * x) (pow-suc 2 k) in
    let f : (o * 2 ^ k) * 2 ≡ o * (2 ^ k * 2) = mul_assoc o (2 ^ k) 2 in
    omega (arith, e, f)

some_leaves : (o k : ℕ) → 0 < (o + 1) * 2 ^ k
some_leaves o k =
    let more : (o + 1) * 2 ^ k ≡ o * 2 ^ k + 1 * 2 ^ k = add-mul o 1 (2 ^ k) in
    omega (arith, more, pow_pos k)

-- a layer higher
under_higher : (n : Node) → twice (under n) ≡ under (record n { layer = n.layer + 1 })
under_higher n =
    let up : n.layer + 1 ≡ suc n.layer = omega arith in
    let low : n.offset * 2 ^ (n.layer + 1) ≡ 2 * (n.offset * 2 ^ n.layer) = ap (λ (k : ℕ). n.offset * 2 ^ k) up ∙ doubled n.offset n.layer in
    let high : (n.offset + 1) * 2 ^ (n.layer + 1) ≡ 2 * ((n.offset + 1) * 2 ^ n.layer) =
    ap (λ (k : ℕ). (n.offset + 1) * 2 ^ k) up ∙ doubled (n.offset + 1) n.layer in
    span_same (twice (under n)) (under (record n { layer = n.layer + 1 }))
    (omega (arith, low)) (omega (arith, high, some_leaves n.offset n.layer))

odd_is : (bits bin : ℕ) → bin % 2 ≡ 1 → twice (leaves_of bits (bin / 2)) ≡ leaves_of (suc bits) bin
unfolding leaves_of
odd_is bits bin odd = rw (ne_eqb (bin % 2) 0 (λ e. absurd (omega (arith, e, odd)))) (under_higher (bin_of bits (bin / 2)))

pub leaves_of_odd : (bits bin : ℕ) (half : Span) → (bin % 2 ≡ 0 → ⊥) → bin < 2 ^ bits
    → ((b : ℕ) → bin / 2 < 2 ^ b → half ≡ leaves_of b (bin / 2)) → twice half ≡ leaves_of bits bin
leaves_of_odd zero bin half odd low e =
    let small : bin ≡ 0 = omega arith in absurd (odd (rw small refl))
leaves_of_odd (suc bits) bin half odd low e =
    let power : 2 ^ suc bits ≡ 2 ^ bits * 2 = pow-suc 2 bits in
    let h : half ≡ leaves_of bits (bin / 2) = e bits (omega (arith, power, low)) in
    ap twice h ∙ odd_is bits bin (omega (arith, odd))

-- a leaf is the span of one bin
pub bin_leaf : (n : ℕ) → IsBinSpan (only n)
bin_leaf n = record { layer = 0; offset = n; begins = omega arith; ends = omega arith }

-- the halves of the ends of a span
abbrev pub half : Span → Span
half s = record { first = s.first / 2; last = s.last / 2 }

-- Several leaves of one bin begin at an even one and end at an odd one, and their halves are those of one bin.
pub record Halves (s : Span) : Type 0 where
  pub even : s.first % 2 ≡ 0
  pub odd : s.last % 2 ≡ 1
  pub halves : IsBinSpan (half s)

halves_at : (s : Span) (k offset : ℕ) → s.first < s.last → s.first ≡ offset * 2 ^ k → s.last + 1 ≡ (offset + 1) * 2 ^ k → Halves s
halves_at s zero offset some begins ends = absurd (omega arith)
halves_at s (suc k) offset some begins ends =
    let low : s.first ≡ 2 * (offset * 2 ^ k) = begins ∙ doubled offset k in
    let high : s.last + 1 ≡ 2 * ((offset + 1) * 2 ^ k) = ends ∙ doubled (offset + 1) k in
    record {
      even = omega (arith, low);
      odd = omega (arith, high);
      halves = record { layer = k; offset = offset; begins = omega (arith, low); ends = omega (arith, high) };
    }

pub bin_halves : (s : Span) → s.first < s.last → IsBinSpan s → Halves s
bin_halves s some bin = halves_at s bin.layer bin.offset some bin.begins bin.ends

-- and the other way
pub bin_twice : (s : Span) → Halves s → IsBinSpan s
bin_twice s h = record {
  layer = suc h.halves.layer;
  offset = h.halves.offset;
  begins = let e : 2 * (s.first / 2) ≡ 2 * (h.halves.offset * 2 ^ h.halves.layer) = ap (λ (x : ℕ). 2 * x) h.halves.begins in
      omega (arith, doubled h.halves.offset h.halves.layer, e, h.even);
  ends = let e : 2 * (s.last / 2 + 1) ≡ 2 * ((h.halves.offset + 1) * 2 ^ h.halves.layer) = ap (λ (x : ℕ). 2 * x) h.halves.ends in
      omega (arith, doubled (h.halves.offset + 1) h.halves.layer, e, h.odd);
}

-- ---- the bin of a span

even_bin : (n : ℕ) → ((n + n) % 2 ≡ 0) × ((n + n) / 2 ≡ n)
even_bin n = (omega arith, omega arith)

odd_bin : (s : Span) → s.first % 2 ≡ 0 → s.last % 2 ≡ 1
    → ((s.first + s.last) % 2 ≡ 1) × ((s.first + s.last) / 2 ≡ s.first / 2 + s.last / 2) × (twice (half s) ≡ s)
odd_bin s even odd =
    let low : 2 * (s.first / 2) ≡ s.first = omega arith in
    let high : 2 * (s.last / 2) + 1 ≡ s.last = omega arith in
    (omega arith, omega arith, span_same (twice (half s)) s low high)

grows : (k offset : ℕ) (s : Span) → s.first ≡ offset * 2 ^ suc k → s.last + 1 ≡ (offset + 1) * 2 ^ suc k → s.first < s.last
grows k offset s begins ends =
    let low : s.first ≡ 2 * (offset * 2 ^ k) = begins ∙ doubled offset k in
    let high : s.last + 1 ≡ 2 * ((offset + 1) * 2 ^ k) = ends ∙ doubled (offset + 1) k in
    let more : (offset + 1) * 2 ^ k ≡ offset * 2 ^ k + 2 ^ k = add-mul offset 1 (2 ^ k) ∙ let one : offset * 2 ^ k + 1 * 2 ^ k ≡ offset * 2 ^ k + 2 ^ k = omega arith in one in
    omega (arith, low, high, more, pow_pos k)

at_layer : (k offset : ℕ) (s : Span) (bits : ℕ) → s.first ≡ offset * 2 ^ k → s.last + 1 ≡ (offset + 1) * 2 ^ k
    → s.first + s.last < 2 ^ bits → leaves_of bits (s.first + s.last) ≡ s
at_layer zero offset s bits begins ends low =
    let first : s.first ≡ offset = omega arith in
    let last : s.last ≡ offset = omega arith in
    let bin : s.first + s.last ≡ offset + offset = omega arith in
    let even : (s.first + s.last) % 2 ≡ 0 = omega arith in
    let half_is : (s.first + s.last) / 2 ≡ offset = omega arith in
    leaves_of_even bits (s.first + s.last) even ∙ ap only half_is ∙ span_same (only offset) s (sym first) (sym last)
at_layer (suc k) offset s bits begins ends low =
    let some : s.first < s.last = grows k offset s begins ends in
    let h : Halves s = halves_at s (suc k) offset some begins ends in
    let b = odd_bin s h.even h.odd in
    let first : s.first ≡ 2 * (offset * 2 ^ k) = begins ∙ doubled offset k in
    let last : s.last + 1 ≡ 2 * ((offset + 1) * 2 ^ k) = ends ∙ doubled (offset + 1) k in
    let odd : (s.first + s.last) % 2 ≡ 0 → ⊥ = λ e. absurd (omega (arith, e, b.0)) in
    sym (leaves_of_odd bits (s.first + s.last) (half s) odd low
    (λ more less. sym (ap (λ (x : ℕ). leaves_of more x) b.1
    ∙ at_layer k offset (half s) more (omega (arith, first)) (omega (arith, last)) (omega (arith, b.1, less)))))
    ∙ b.2

-- the leaves of the bin of a span are that span
pub leaves_of_bin : (s : Span) (bits : ℕ) → IsBinSpan s → s.first + s.last < 2 ^ bits → leaves_of bits (s.first + s.last) ≡ s
leaves_of_bin s bits bin low = at_layer bin.layer bin.offset s bits bin.begins bin.ends low

-- ---- the span of a bin

-- The leaves are those of this bin.
pub record AreLeaves (bin : ℕ) (s : Span) : Type 0 where
  pub span : IsBinSpan s
  pub sum : s.first + s.last ≡ bin

parity : (n : ℕ) → (n % 2 ≡ 0) ⊎ (n % 2 ≡ 1)
parity n = elim (cases_eq (n % 2) 0) [ inl e ↦ inl e | inr e ↦ inr (omega (arith, e)) ]

twice_are : (bin : ℕ) (s : Span) → bin % 2 ≡ 1 → AreLeaves (bin / 2) s → AreLeaves bin (twice s)
twice_are bin s odd h =
    let low : 2 * s.first / 2 ≡ s.first = omega arith in
    let high : (2 * s.last + 1) / 2 ≡ s.last = omega arith in
    let same : half (twice s) ≡ s = span_same (half (twice s)) s low high in
    record {
      span = bin_twice (twice s) (record { even = omega arith; odd = omega arith; halves = subst IsBinSpan (sym same) h.span });
      sum = omega (arith, h.sum, odd);
    }

pub leaves_are : (bits bin : ℕ) → bin < 2 ^ bits → AreLeaves bin (leaves_of bits bin)
leaves_are zero bin low =
    let e : leaves_of zero bin ≡ only (bin / 2) = leaves_of_even zero bin (omega arith) in
    subst (AreLeaves bin) (sym e) (record { span = bin_leaf (bin / 2); sum = omega arith })
leaves_are (suc bits) bin low =
    elim (parity bin) [
      | inl even ↦
          subst (AreLeaves bin) (sym (leaves_of_even (suc bits) bin even)) (record { span = bin_leaf (bin / 2); sum = omega (arith, even) })
      | inr odd ↦
          let power : 2 ^ suc bits ≡ 2 ^ bits * 2 = pow-suc 2 bits in
          let below : bin / 2 < 2 ^ bits = omega (arith, power, low) in
          let h = leaves_are bits (bin / 2) below in
          let e : twice (leaves_of bits (bin / 2)) ≡ leaves_of (suc bits) bin = odd_is bits bin odd in
          subst (AreLeaves bin) e (twice_are bin (leaves_of bits (bin / 2)) odd h)
    ]
