-- Which node an INTEGRITY claims, or that it claims none.
use Rattle.std.proofs.Common.{◌≡◌, ◌^◌, Option, Some, None, List, ◌∷◌, take, ℕ, sym, ◌∙◌, ap, lit≤}
use Rattle.pp_terms.specs.tree.Tree.{Node}
use Rattle.pp_terms.specs.tree.Range.{Span, leaves_of}
use Rattle.pp_traffic.specs.Claims.{named}
use Rattle.pp_counts.specs.declared.note.Note.{Note}
use Rattle.pp_counts.specs.declared.note.Note.TheVariants as notes
use Rattle.pp_seat.specs.Lines.{inside}
use Rattle.pp_seat.proofs.Spans.{part_of}
use Rattle.pp_seat.proofs.Naming.{named_is, named_none, named_out}
use Rattle.pp_learner.specs.Rows.{RowState, with_claim, outside_or, not_a_node_or}

pub outside_claim : (span : Span) (digest : List ℕ) (row : RowState) → inside (2 ^ 20) span ≡ None → row ≡ with_claim (named (2 ^ 20) span) digest row
outside_claim span digest row is = sym (ap (λ (o : Option Node). with_claim o digest row) (named_out (2 ^ 20) span is))

pub outside_note : (span : Span) (rest : Option Note) → inside (2 ^ 20) span ≡ None → Some notes.Outside ≡ outside_or (inside (2 ^ 20) span) rest
outside_note span rest is = sym (ap (λ (o : Option Span). outside_or o rest) is)

module _ (span part : Span) (is : inside (2 ^ 20) span ≡ Some part) where
  pub node_is : (n : Node) → leaves_of n ≡ part → named (2 ^ 20) span ≡ Some n
  node_is n leaves = named_is (2 ^ 20) span part n (part_of (2 ^ 20) span part is) leaves (lit≤ tt)

  pub node_is_none : ((n : Node) → leaves_of n ≡ part → ⊥) → named (2 ^ 20) span ≡ None
  node_is_none none = named_none (2 ^ 20) span part (part_of (2 ^ 20) span part is) none

  pub with_node : (n : Node) (digest : List ℕ) (row : RowState) → leaves_of n ≡ part
      → record row { claims = take 128 (record { node = n; digest = digest } ∷ row.claims) } ≡ with_claim (named (2 ^ 20) span) digest row
  with_node n digest row leaves = sym (ap (λ (o : Option Node). with_claim o digest row) (node_is n leaves))

  pub without_node : (digest : List ℕ) (row : RowState) → ((n : Node) → leaves_of n ≡ part → ⊥) → row ≡ with_claim (named (2 ^ 20) span) digest row
  without_node digest row none = sym (ap (λ (o : Option Node). with_claim o digest row) (node_is_none none))

  pub noted_node : (n : Node) → leaves_of n ≡ part → None ≡ outside_or (inside (2 ^ 20) span) (not_a_node_or (named (2 ^ 20) span) None)
  noted_node n leaves = sym (ap (λ (o : Option Span). outside_or o (not_a_node_or (named (2 ^ 20) span) None)) is ∙ ap (λ (o : Option Node). not_a_node_or o None) (node_is n leaves))

  pub noted_none : ((n : Node) → leaves_of n ≡ part → ⊥) → Some notes.NotANode ≡ outside_or (inside (2 ^ 20) span) (not_a_node_or (named (2 ^ 20) span) None)
  noted_none none = sym (ap (λ (o : Option Span). outside_or o (not_a_node_or (named (2 ^ 20) span) None)) is ∙ ap (λ (o : Option Node). not_a_node_or o None) (node_is_none none))
