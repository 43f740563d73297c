-- The node that a span names, layer by layer.
use Rattle.std.proofs.Common.{◌≡◌, ℕ, zero, suc, ◌≤◌, Bool, true, false, cond, Some, None, ◌∙◌, ap, refl, arith}
use Rattle.pp_terms.specs.tree.Range.{Span}
use Rattle.pp_traffic.specs.Claims.{node_over, node_below}
use Rattle.pp_traffic.specs.Hashes.{is_span_of}

pub found_below : (layers m : ℕ) (span : Span) → layers ≡ suc m → is_span_of (node_over m span) span ≡ true → node_below layers span ≡ Some (node_over m span)
found_below layers m span is here =
    ap (λ (n : ℕ). node_below n span) is ∙ ap (λ (b : Bool). cond b (Some (node_over m span)) (node_below m span)) here

pub passed_below : (layers m : ℕ) (span : Span) → layers ≡ suc m → is_span_of (node_over m span) span ≡ false → node_below layers span ≡ node_below m span
passed_below layers m span is other =
    ap (λ (n : ℕ). node_below n span) is ∙ ap (λ (b : Bool). cond b (Some (node_over m span)) (node_below m span)) other

pub none_below : (layers : ℕ) (span : Span) → layers ≤ 0 → node_below layers span ≡ None
none_below zero span le = refl
none_below (suc layers) span le = absurd (omega arith)
