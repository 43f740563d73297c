use Rattle.std.proofs.Common.{◌≡◌, ℕ, List, refl, sym, ◌∙◌, ap, subst, arith, get_or, vec_len, vec_capacity}
use Rattle.std.specs.List.Sorted.{IsNonDecreasing}
use Rattle.pp_news.specs.declared.acknowledgement.Acknowledgement.{Acknowledgement}
use Rattle.pp_news.specs.News.{IsPushed}
use Rattle.pp_news.proofs.Rising.{rising_tail}
use Rattle.pp_news.proofs.JoinSteps.{IsOpen, own_first, own_all, open_new, join_begin, own_at, join_extended, join_closed, join_end}
use Rattle.pp_news.proofs.stretches.join.Goals as goal
use Rattle.pp_news.proofs.stretches.join.Goals.{then-chunk-end, else-chunk-end}

pub end_from-end-requires : goal.end_from-end-requires
end_from-end-requires c =
    c.requires.committed c.in-Some.start.now (own_first c.args.tickets.now c.in-Some.start.now c.in-Some.others.now
    (own_all c.args.tickets.now c.args.chunks.now c.in-Some.start.now c.in-Some.others.now c.requires.chunks c.in-Some.ensures.cases.0))

pub loop-chunk-init : goal.loop-chunk-init
loop-chunk-init c =
    let own = own_all c.args.tickets.now c.args.chunks.now c.in-Some.start.now c.in-Some.others.now c.requires.chunks c.in-Some.ensures.cases.0 in
    let first = own_first c.args.tickets.now c.in-Some.start.now c.in-Some.others.now own in record {
      steps = join_begin c.args.committed.now c.args.tickets.now c.in-Some.start.now c.end_from-end.result c.in-Some.others.now c.clear.new.self.items c.clear.ensures.items
          (rising_tail c.in-Some.start.now c.in-Some.others.now (subst IsNonDecreasing c.in-Some.ensures.cases.0 c.requires.rising)) own
          (open_new c.args.committed.now c.args.tickets.now c.in-Some.start.now c.end_from-end.result first (c.requires.committed c.in-Some.start.now first)
          c.end_from-end.ensures.low c.end_from-end.ensures.all c.end_from-end.ensures.absent);
      few = omega arith;
      room = refl;
    }

pub end_from-end-requires-then-chunk-end : goal.end_from-end-requires-then-chunk-end
end_from-end-requires-then-chunk-end c =
    c.requires.committed _ (own_at c.args.committed.now c.args.tickets.now c.in-Some.start.now c.in-Some.others.now c.loop-chunk.chunk-index 0 c.loop-chunk.first
    c.loop-chunk.last c.loop-chunk.end c.loop-chunk.acknowledgements.items c.loop-chunk-test.true c.loop-chunk.invariant.steps)

pub loop-chunk-preserved : goal.loop-chunk-preserved
loop-chunk-preserved c =
    let own = own_at c.args.committed.now c.args.tickets.now c.in-Some.start.now c.in-Some.others.now c.loop-chunk.chunk-index 0 c.loop-chunk.first
    c.loop-chunk.last c.loop-chunk.end c.loop-chunk.acknowledgements.items c.loop-chunk-test.true c.loop-chunk.invariant.steps in
    let stands = c.requires.committed (get_or c.in-Some.others.now c.loop-chunk.chunk-index 0) own in
    elim c.if-chunk-end.branch [
      | then-chunk-end w ↦ record {
        steps = join_closed c.args.committed.now c.args.tickets.now c.in-Some.start.now c.in-Some.others.now c.loop-chunk.chunk-index 0 c.loop-chunk.first
            c.loop-chunk.last c.loop-chunk.end c.loop-chunk.acknowledgements.items c.loop-chunk-test.true c.loop-chunk.invariant.steps _ _ _ _ stands
            w.if-chunk-end.true
            (subst (λ (ys : List Acknowledgement). IsPushed c.loop-chunk.first c.loop-chunk.last c.args.tickets.now c.loop-chunk.acknowledgements.items ys)
            (sym (ap (λ v. v.items) w.acknowledgements-is)) w.push.ensures.items)
            (subst (λ (n : ℕ). IsOpen c.args.committed.now c.args.tickets.now (get_or c.in-Some.others.now c.loop-chunk.chunk-index 0)
            (get_or c.in-Some.others.now c.loop-chunk.chunk-index 0) n) (sym w.end-is)
            (open_new c.args.committed.now c.args.tickets.now (get_or c.in-Some.others.now c.loop-chunk.chunk-index 0) w.end_from-end-then-chunk-end.result own stands
            w.end_from-end-then-chunk-end.ensures.low w.end_from-end-then-chunk-end.ensures.all w.end_from-end-then-chunk-end.ensures.absent))
            w.first-is w.last-is;
        few = let size : vec_len c.if-chunk-end.acknowledgements ≡ vec_len w.push.new.acknowledgements = ap (λ v. vec_len v) w.acknowledgements-is in
            let more = w.push.ensures.len in let few = c.loop-chunk.invariant.few in omega (arith, size, more, few);
        room = ap (λ v. vec_capacity v) w.acknowledgements-is ∙ w.push.ensures.room ∙ c.loop-chunk.invariant.room;
      }
      | else-chunk-end w ↦ record {
        steps = join_extended c.args.committed.now c.args.tickets.now c.in-Some.start.now c.in-Some.others.now c.loop-chunk.chunk-index 0 c.loop-chunk.first
            c.loop-chunk.last c.loop-chunk.end c.loop-chunk.acknowledgements.items c.loop-chunk-test.true c.loop-chunk.invariant.steps _ _ _ _ stands
            w.if-chunk-end.false (ap (λ v. v.items) w.acknowledgements-is) w.first-is w.last-is w.end-is;
        few = let size : vec_len c.if-chunk-end.acknowledgements ≡ vec_len c.loop-chunk.acknowledgements = ap (λ v. vec_len v) w.acknowledgements-is in
            let few = c.loop-chunk.invariant.few in omega (arith, size, few);
        room = ap (λ v. vec_capacity v) w.acknowledgements-is ∙ c.loop-chunk.invariant.room;
      }
    ]

pub returns-clause-joined : goal.returns-clause-joined
returns-clause-joined c =
    join_end c.args.committed.now c.args.tickets.now c.in-Some.start.now c.in-Some.others.now c.args.chunks.now c.loop-chunk.chunk-index c.loop-chunk.first
    c.loop-chunk.last c.loop-chunk.end c.loop-chunk.acknowledgements.items _ (omega arith) c.loop-chunk.invariant.steps c.push-2.ensures.items c.requires.chunks
    c.in-Some.ensures.cases.0 c.requires.few
