-- What one span more makes known.
use Rattle.std.proofs.Common.{◌≡◌, ℕ, ◌+◌, ◌-◌, ◌*◌, ◌^◌, ◌<◌, ◌≤◌, nat_le, nat_lt, Bool, true, false, ◌&&◌, ◌||◌, List, ◌∷◌, refl, sym, ◌∙◌, ap, arith}
use Rattle.std.proofs.lemmas.Nat.{pow_pos}
use Rattle.std.proofs.lemmas.Bool.Decides.{nat_tests}
use Rattle.pp_terms.specs.tree.Tree.{Node, height, is_peak}
use Rattle.pp_terms.specs.tree.Bins.{parent_of}
use Rattle.pp_terms.specs.tree.Range.{Span}
use Rattle.pp_traffic.specs.Hashes.{meets, tells}
use Rattle.pp_tree.specs.Bits.{bit_of}
use Rattle.pp_plan.specs.Told.{ToldNodes, knows, is_marked, some_among, tells_any, IsToldBy}
use Rattle.pp_plan.proofs.Among.{among_same, among_either, among_none, among_between}

-- the chunks of a span that lie under a node
between_leaves : (chunks first last offset width : ℕ) → last < chunks → 0 < width
    → (nat_lt 0 width && (nat_le (offset * width) last && nat_lt first (offset * width + width)))
    ≡ (nat_lt (offset * width) chunks && nat_le (offset * width) last && nat_le first ((offset + 1) * width - 1))
between_leaves chunks first last offset width inside some =
    let end : (offset + 1) * width ≡ offset * width + width = omega arith in
    rw end (by_numbers (offset * width))
  where
    by_numbers : (start : ℕ) → (nat_lt 0 width && (nat_le start last && nat_lt first (start + width)))
        ≡ (nat_lt start chunks && nat_le start last && nat_le first (start + width - 1))
    by_numbers start = grind (arith, nat_tests)

-- some chunk under a node is told of once a span more is
under_more : (old new : ℕ → Bool) (chunks : ℕ) (span : Span) (n : Node) → span.first ≤ span.last → span.last < chunks
    → ((i : ℕ) → new i ≡ (old i || (nat_le span.first i && nat_le i span.last)))
    → some_among new (n.offset * 2 ^ n.layer) (2 ^ n.layer) ≡ (some_among old (n.offset * 2 ^ n.layer) (2 ^ n.layer) || meets chunks span n)
under_more old new chunks span n order inside more =
    let start : ℕ = n.offset * 2 ^ n.layer in
    among_same new (λ i. old i || (nat_le span.first i && nat_le i span.last)) start (2 ^ n.layer) more
    ∙ among_either old (λ i. nat_le span.first i && nat_le i span.last) start (2 ^ n.layer)
    ∙ ap (λ (b : Bool). some_among old start (2 ^ n.layer) || b)
    (among_between span.first span.last start (2 ^ n.layer) order
    ∙ between_leaves chunks span.first span.last n.offset (2 ^ n.layer) inside (pow_pos n.layer))

joined : (s p l u m : Bool) → (s ≡ false → u ≡ false) → (true && (p || (l && (u || m)))) ≡ ((s && (p || (l && u))) || (p || (l && m)))
joined true true l u m none = refl
joined true false true true m none = refl
joined true false true false m none = refl
joined true false false u m none = refl
joined false true l u m none = refl
joined false false false u m none = refl
joined false false true u m none = ap (λ (b : Bool). b || m) (none refl)

-- so the peer knows what it knew, and what the span tells
pub told_more : (old new : ToldNodes) (span : Span) → new.chunks ≡ old.chunks → new.some ≡ true → span.first ≤ span.last → span.last < old.chunks
    → (old.some ≡ false → (i : ℕ) → bit_of old.told i ≡ false)
    → ((i : ℕ) → bit_of new.told i ≡ (bit_of old.told i || (nat_le span.first i && nat_le i span.last)))
    → (n : Node) → knows new n ≡ (knows old n || tells old.chunks span n)
told_more old new span same is_some order inside none more n =
    let before : ℕ → Bool = bit_of old.told in
    let after : ℕ → Bool = bit_of new.told in
    let above : Node = parent_of n in
    let start : ℕ = above.offset * 2 ^ above.layer in
    let width : ℕ = 2 ^ above.layer in
    let begins : (nat_lt span.first old.chunks && nat_le span.first span.last) ≡ true = grind (arith, nat_tests) in
    let layers : nat_le (n.layer + 1) (height old.chunks) ≡ nat_lt n.layer (height old.chunks) = grind (arith, nat_tests) in
    ap (λ (b : Bool). b && (is_peak new.chunks n || is_marked new above)) is_some
    ∙ ap (λ (c : ℕ). true && (is_peak c n || (nat_le above.layer (height c) && some_among after start width))) same
    ∙ ap (λ (b : Bool). true && (is_peak old.chunks n || (nat_le above.layer (height old.chunks) && b))) (under_more before after old.chunks span above order inside more)
    ∙ joined old.some (is_peak old.chunks n) (nat_le above.layer (height old.chunks)) (some_among before start width) (meets old.chunks span above)
    (λ e. among_none before start width (λ i low high. none e i))
    ∙ sym (ap (λ (b : Bool). knows old n || (b && (is_peak old.chunks n || (nat_lt n.layer (height old.chunks) && meets old.chunks span above)))) begins
    ∙ ap (λ (b : Bool). knows old n || (is_peak old.chunks n || (b && meets old.chunks span above))) (sym layers))

-- and of all ranges so far
pub told_by_more : (old new : ToldNodes) (span : Span) (ranges : List Span) → new.chunks ≡ old.chunks
    → ((n : Node) → knows new n ≡ (knows old n || tells old.chunks span n)) → IsToldBy ranges old → IsToldBy (span ∷ ranges) new
told_by_more old new span ranges same more is n =
    more n ∙ ap (λ (b : Bool). b || tells old.chunks span n) (is n) ∙ swap (tells_any old.chunks ranges n) (tells old.chunks span n)
    ∙ ap (λ (k : ℕ). tells k span n || tells_any k ranges n) (sym same)
  where
    swap : (a b : Bool) → (a || b) ≡ (b || a)
    swap true true = refl
    swap true false = refl
    swap false true = refl
    swap false false = refl
