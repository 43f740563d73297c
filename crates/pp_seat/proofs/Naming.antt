-- Which node an INTEGRITY names.
use Rattle.std.proofs.Common.{◌≡◌, ⊎_elim, ℕ, zero, suc, ◌+◌, ◌-◌, ◌*◌, ◌/◌, ◌^◌, ◌<◌, ◌≤◌, min, nat_lt, nat_le, Bool, true, false, cond, ◌&&◌, Option, Some, None, List, ◌∷◌, take, refl, sym, ◌∙◌, ap, arith, pow-suc}
use Rattle.std.proofs.lemmas.Bool.{cases_lt, cond-true, false_from_ne_true, lt-ltb, le-leb}
use Rattle.std.proofs.lemmas.Bool.Decides.{nat_tests}
use Rattle.std.proofs.lemmas.List.{take-take}
use Rattle.std.proofs.lemmas.Nat.{pow_pos}
use Rattle.std.proofs.Math.Nat.{mul-div_cancel}
use Rattle.std.proofs.Math.Pow.{pow_mono}
use Rattle.pp_terms.specs.tree.Tree.{Node}
use Rattle.pp_terms.specs.tree.Range.{Span, leaves_of}
use Rattle.pp_terms.specs.tree.Claims.{Claim}
use Rattle.pp_terms.specs.format.Messages.{Message}
use Rattle.pp_traffic.specs.Story.{Line, Heard}
use Rattle.pp_traffic.specs.Hashes.{is_span_of}
use Rattle.pp_traffic.specs.Claims.{node_over, node_below, cut_to, named, with_claim, with_claims_of, claims_in}
use Rattle.pp_seat.specs.Lines.{inside, with_proven}
use Rattle.pp_seat.proofs.Spans.{IsPart}

-- A message that claims nothing leaves the claims as they are.
pub unclaimed : (chunks now : ℕ) (is_proven : Bool) (m : Message) (before : List Line) → with_claims_of chunks m (claims_in chunks before) ≡ claims_in chunks before
    → claims_in chunks (with_proven (Heard now m) is_proven before) ≡ claims_in chunks before
unclaimed chunks now true m before same = same
unclaimed chunks now false m before same = refl

-- the node over a span
record IsOver (n : Node) (span : Span) : Type 0 where
  first : n.offset * 2 ^ n.layer ≡ span.first
  last : (n.offset + 1) * 2 ^ n.layer - 1 ≡ span.last

over_is : (n : Node) (span : Span) → is_span_of n span ≡ true → IsOver n span
over_is n span e = record { first = grind (arith, nat_tests); last = grind (arith, nat_tests) }

is_over : (n : Node) (span : Span) → IsOver n span → is_span_of n span ≡ true
is_over n span o = let first = o.first in let last = o.last in grind (arith, nat_tests)

-- a power of two is at most half of a greater one
halves : (i j : ℕ) → i < j → 2 ^ i * 2 ≤ 2 ^ j
halves i j lt =
    let twice : 2 ^ suc i ≡ 2 ^ i * 2 = pow-suc 2 i in
    let more : 2 ^ suc i ≤ 2 ^ j = pow_mono {i = suc i} {j = j} (omega arith) in
    omega (arith, twice, more)

-- two nodes over a span are of one layer
same_layer : (n m : Node) (span : Span) → IsOver n span → IsOver m span → n.layer < m.layer → ⊥
same_layer n m span o p lt =
    let half : 2 ^ n.layer * 2 ≤ 2 ^ m.layer = halves n.layer m.layer lt in
    let some : 0 < 2 ^ n.layer = pow_pos n.layer in
    let first = o.first in
    let last = o.last in
    let other_first = p.first in
    let other_last = p.last in
    omega arith

below_is : (layers : ℕ) (n : Node) (span : Span) → IsOver n span → n.layer < layers → node_below layers span ≡ Some n
below_is zero n span o lt = absurd (omega arith)
below_is (suc layer) n span o lt = ⊎_elim
    (λ (less : n.layer < layer).
    ap (λ (b : Bool). cond b (Some (node_over layer span)) (node_below layer span)) (other less) ∙ below_is layer n span o less)
    (λ (more : layer ≤ n.layer). here (omega arith))
    (cases_lt n.layer layer)
  where
    other : {k : ℕ} → n.layer < k → is_span_of (node_over k span) span ≡ false
    other {k} less = false_from_ne_true _ (λ e. same_layer n (node_over k span) span o (over_is (node_over k span) span e) less)

    offset_is : span.first / 2 ^ n.layer ≡ n.offset
    offset_is = ap (λ (x : ℕ). x / 2 ^ n.layer) (sym o.first) ∙ mul-div_cancel n.offset (pow_pos n.layer)

    there : node_over n.layer span ≡ n
    there = ap (λ (x : ℕ). record { layer = n.layer; offset = x }) offset_is

    here : layer ≡ n.layer → node_below (suc layer) span ≡ Some n
    here same =
        let node : node_over layer span ≡ n = ap (λ (k : ℕ). node_over k span) same ∙ there in
        let found : is_span_of (node_over layer span) span ≡ true = ap (λ (x : Node). is_span_of x span) node ∙ is_over n span o in
        ap (λ (b : Bool). cond b (Some (node_over layer span)) (node_below layer span)) found ∙ ap (λ (x : Node). Some x) node

below_none : (layers : ℕ) (span : Span) → ((n : Node) → IsOver n span → ⊥) → node_below layers span ≡ None
below_none zero span none = refl
below_none (suc layer) span none =
    ap (λ (b : Bool). cond b (Some (node_over layer span)) (node_below layer span))
    (false_from_ne_true (is_span_of (node_over layer span) span) (λ e. none (node_over layer span) (over_is (node_over layer span) span e)))
    ∙ below_none layer span none

part_is : (chunks : ℕ) (span part : Span) → IsPart chunks span part → cut_to chunks span ≡ part
part_is chunks span part p = let first = p.first in let last = p.last in same part.first part.last first last
  where
    same : (first last : ℕ) → first ≡ span.first → last ≡ min span.last (chunks - 1) → cut_to chunks span ≡ record { first = first; last = last }
    same first last p q = rw (p, q) refl

over_leaves : (n : Node) (part : Span) → leaves_of n ≡ part → IsOver n part
over_leaves n part e = record { first = ap (λ (s : Span). s.first) e; last = ap (λ (s : Span). s.last) e }

leaves_over : (n : Node) (part : Span) → IsOver n part → leaves_of n ≡ part
leaves_over n part o = same part.first part.last o.first o.last
  where
    same : (first last : ℕ) → n.offset * 2 ^ n.layer ≡ first → (n.offset + 1) * 2 ^ n.layer - 1 ≡ last → leaves_of n ≡ record { first = first; last = last }
    same first last p q = rw (← p, ← q) refl

named_below : (chunks : ℕ) (span part : Span) → IsPart chunks span part → named chunks span ≡ node_below 21 part
named_below chunks span part p =
    cond-true (nat_lt span.first chunks) (node_below 21 (cut_to chunks span)) None (lt-ltb span.first chunks p.low)
    ∙ ap (node_below 21) (part_is chunks span part p)

pub named_is : (chunks : ℕ) (span part : Span) (n : Node) → IsPart chunks span part → leaves_of n ≡ part → chunks ≤ 2 ^ 20 → named chunks span ≡ Some n
named_is chunks span part n p leaves most =
    let o = over_leaves n part leaves in
    named_below chunks span part p ∙ below_is 21 n part o (low o)
  where
    low : IsOver n part → n.layer < 21
    low o = ⊎_elim (λ lt. lt)
        (λ (high : 21 ≤ n.layer).
        let up : 2 ^ 21 ≤ 2 ^ n.layer = pow_mono high in
        let times : 2 ^ n.layer ≤ (n.offset + 1) * 2 ^ n.layer = omega arith in
        let last = o.last in
        let end = p.last in
        let front = p.low in
        absurd (omega arith))
        (cases_lt n.layer 21)

pub named_none : (chunks : ℕ) (span part : Span) → IsPart chunks span part → ((n : Node) → leaves_of n ≡ part → ⊥) → named chunks span ≡ None
named_none chunks span part p none = named_below chunks span part p ∙ below_none 21 part (λ n o. none n (leaves_over n part o))

pub named_out : (chunks : ℕ) (span : Span) → inside chunks span ≡ None → named chunks span ≡ None
named_out chunks span is = by (nat_lt span.first chunks) refl
  where
    ordered : (lt le : Bool) → cond (lt && le) (Some (cut_to chunks span)) None ≡ None → lt ≡ true → le ≡ true → ⊥
    ordered true true e p q = absurd cc
    ordered true false e p q = absurd cc
    ordered false le e p q = absurd cc

    wrong : (n : Node) → IsOver n (cut_to chunks span) → nat_lt span.first chunks ≡ true → ⊥
    wrong n o lt =
        let first = o.first in
        let last = o.last in
        let some : 0 < 2 ^ n.layer = pow_pos n.layer in
        ordered (nat_lt span.first chunks) (nat_le span.first span.last) is lt (le-leb span.first span.last (omega arith))

    by : (b : Bool) → nat_lt span.first chunks ≡ b → cond b (node_below 21 (cut_to chunks span)) None ≡ None
    by true lt = below_none 21 (cut_to chunks span) (λ n o. wrong n o lt)
    by false lt = refl

-- a claim more, of which 128 are kept
pub claimed_more : (chunks : ℕ) (span : Span) (n : Node) (digest : List ℕ) (claims all : List Claim) → named chunks span ≡ Some n → claims ≡ take 128 all
    → take 128 (record { node = n; digest = digest } ∷ claims) ≡ take 128 (with_claim (named chunks span) digest all)
claimed_more chunks span n digest claims all names is =
    ap (λ (xs : List Claim). take 128 (record { node = n; digest = digest } ∷ xs)) is
    ∙ ap (λ (xs : List Claim). record { node = n; digest = digest } ∷ xs) (take-take 127 128 all (omega arith))
    ∙ ap (λ (o : Option Node). take 128 (with_claim o digest all)) (sym names)
