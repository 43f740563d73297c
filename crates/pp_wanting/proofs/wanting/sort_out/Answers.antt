use Rattle.std.proofs.Common.{◌≡◌, inl, inr, ℕ, sym, ◌∙◌, ap, arith, get_or, not, nat_lt, ◌&&◌, false}
use Rattle.pp_wanting.proofs.Wantings.{sorted_first, sorted_more, held_all}
use Rattle.pp_wanting.proofs.wanting.sort_out.Goals as goal
use Rattle.pp_wanting.proofs.wanting.sort_out.Goals.{then-contains, else-contains}

pub loop-i-init : goal.loop-i-init
loop-i-init c = sorted_first c.args.held.now c.args.had.now c.args.wanted.now c.args.chunks c.requires.had c.requires.wanted

pub insert-requires : goal.insert-requires
insert-requires c = omega (arith, c.loop-i.invariant.had_size, c.loop-i-test.true)

pub insert-requires-else-contains : goal.insert-requires-else-contains
insert-requires-else-contains c = omega (arith, c.loop-i.invariant.wanted_size, c.loop-i-test.true)

pub loop-i-preserved : goal.loop-i-preserved
loop-i-preserved c =
    sorted_more c.args.held.now c.loop-i.had c.loop-i.wanted c.if-contains.had c.if-contains.wanted c.args.chunks c.loop-i.i c.loop-i-test.true c.loop-i.invariant
    (elim c.if-contains.branch [
      | then-contains w ↦ inl (sym w.if-contains.ensures, w.had-is ∙ w.insert.ensures, w.wanted-is)
      | else-contains w ↦ inr (sym w.if-contains.ensures, w.had-is, w.wanted-is ∙ w.insert-else-contains.ensures)
    ])

pub returns-clause-had_size : goal.returns-clause-had_size
returns-clause-had_size c = c.loop-i.invariant.had_size

pub returns-clause-wanted_size : goal.returns-clause-wanted_size
returns-clause-wanted_size c = c.loop-i.invariant.wanted_size

pub returns-clause-had : goal.returns-clause-had
returns-clause-had c =
    let end : c.loop-i.i ≡ c.args.chunks = omega (arith, c.loop-i.auto.i-end, c.loop-i-test.false) in
    held_all c.loop-i.had c.args.held.now c.args.chunks c.requires.held
    (λ k. c.loop-i.invariant.had_are k ∙ ap (λ (n : ℕ). nat_lt k n && get_or c.args.held.now k false) end)

pub returns-clause-wanted : goal.returns-clause-wanted
returns-clause-wanted c k =
    let end : c.loop-i.i ≡ c.args.chunks = omega (arith, c.loop-i.auto.i-end, c.loop-i-test.false) in
    c.loop-i.invariant.wanted_are k ∙ ap (λ (n : ℕ). nat_lt k n && not (get_or c.args.held.now k false)) end
