use Rattle.std.proofs.Common.{◌≡◌, ◌/◌, ◌%◌, ◌==◌, ◌&&◌, ap, ◌∙◌}
use Rattle.pp_tree.proofs.Packing.{masked}
use Rattle.pp_avail.specs.Rows.{is_among}
use Rattle.pp_avail.proofs.Counting.{part_bit, part_order}
use Rattle.pp_avail.proofs.avail.part.Goals as goal
use Rattle.pp_avail.proofs.avail.part.Goals.{then-first-w, else-first-w, then-last-w, else-last-w}

pub returns : goal.returns
returns c = λ i.
    let first_here : c.args.first / 64 ≡ c.args.w → c.if-first-w.low ≡ c.args.first % 64 =
    λ e. elim c.if-first-w.branch [ then-first-w b ↦ b.low-is | else-first-w b ↦ absurd (b.if-first-w.false e) ] in
    let first_before : (c.args.first / 64 ≡ c.args.w → ⊥) → c.if-first-w.low ≡ 0 =
    λ e. elim c.if-first-w.branch [ then-first-w b ↦ absurd (e b.if-first-w.true) | else-first-w b ↦ b.low-is ] in
    let last_here : c.args.last / 64 ≡ c.args.w → c.if-last-w.high ≡ c.args.last % 64 =
    λ e. elim c.if-last-w.branch [ then-last-w b ↦ b.high-is | else-last-w b ↦ absurd (b.if-last-w.false e) ] in
    let last_past : (c.args.last / 64 ≡ c.args.w → ⊥) → c.if-last-w.high ≡ 63 =
    λ e. elim c.if-last-w.branch [ then-last-w b ↦ absurd (e b.if-last-w.true) | else-last-w b ↦ b.high-is ] in
    ap (λ m. is_among c.args.w m i) c.mask.ensures
    ∙ ap (λ b. i / 64 == c.args.w && b) (masked c.if-first-w.low c.if-last-w.high (i % 64) (part_order c.args.w c.args.first c.args.last c.if-first-w.low c.if-last-w.high c.requires.order first_here first_before last_here last_past))
    ∙ part_bit c.args.w c.args.first c.args.last c.if-first-w.low c.if-last-w.high i c.requires.low c.requires.high c.requires.order first_here first_before last_here last_past
