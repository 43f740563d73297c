use Rattle.std.proofs.Common.{◌≡◌, ℕ, ◌<◌, ◌≤◌, Bool, true, false, Some, List, length, refl, sym, ap, ◌∙◌, subst, arith}
use Rattle.std.specs.Prelude.{MatchOption, slice_index_or}
use Rattle.pp_seat.specs.Seats.{SeatState}
use Rattle.pp_seats.specs.Standing.{SeatsState}
use Rattle.pp_seats.specs.Serving.{IsReadied}
use Rattle.pp_seats.proofs.Lists.{got}
use Rattle.pp_seats.proofs.Launching.{EndsRun, readied_at, passes_over, run_ends}
use Rattle.pp_seats.proofs.seats.Seats.serve.Goals as goal

pub returns-then-next-first : goal.returns-then-next-first
returns-then-next-first g c =
    let p : SeatsState = record { descriptor = c.self.inside.descriptor; table = c.self.inside.lives; seats = c.self.inside.seats.items; moment = c.self.inside.moment } in
    let r = readied_at p c.args.seat c.in-Some.next c.index_mut.result.now
    (subst (λ (q : SeatsState). IsReadied q c.args.seat c.in-Some.next) (sym c.self.view_is) c.in-Some.ensures)
    (got c.self.inside.seats.items c.args.seat c.index_mut.result.now (omega (arith, c.self.invariant.0, c.requires.seat)) ∙ ap (λ (s : SeatState). Some s) (sym c.index_mut.ensures.value)) in
    let ends : EndsRun c.args.chunks.now.store.now.committed c.in-Some.next.chunk c.unwrap_or-first.result =
    subst (λ (n : ℕ). EndsRun c.args.chunks.now.store.now.committed c.in-Some.next.chunk n) (sym c.unwrap_or-first.ensures)
    (run_ends c.args.chunks.now.store.now.committed c.in-Some.next.chunk c.chunks.result c.first_from-committed.result
    (omega (arith, r.content, c.chunks.ensures.chunks))
    (subst (λ (set : List Bool). MatchOption c.first_from-committed.result ((k : ℕ) → c.in-Some.next.chunk ≤ k → slice_index_or set k false ≡ false)
    (λ e. (c.in-Some.next.chunk ≤ e) × (e < length set) × (slice_index_or set e false ≡ true) × ((k : ℕ) → c.in-Some.next.chunk ≤ k → k < e → slice_index_or set k false ≡ false)))
    c.committed.ensures c.first_from-committed.ensures)) in (
      refl,
      refl,
      rw (← c.self.view_is) (passes_over p _ c.args.seat c.args.chunks.now.store.now r.far c.index_mut.result.now c.drop_below.new.self c.in-Some.next.chunk c.unwrap_or-first.result
          r.may (ends.none c.in-Some.next.chunk (omega arith) c.if-next-first.true) c.if-next-first.true r.runs ends.none
          c.drop_below.ensures.exact c.drop_below.ensures.passed refl),
    )

pub launch-requires-clause-committed : goal.launch-requires-clause-committed
launch-requires-clause-committed g c =
    let r = subst (λ (q : SeatsState). IsReadied q c.args.seat c.in-Some.next) (sym c.self.view_is) c.in-Some.ensures in
    (run_ends c.args.chunks.now.store.now.committed c.in-Some.next.chunk c.chunks.result c.first_from-committed.result
    (omega (arith, r.content, c.chunks.ensures.chunks))
    (subst (λ (set : List Bool). MatchOption c.first_from-committed.result ((k : ℕ) → c.in-Some.next.chunk ≤ k → slice_index_or set k false ≡ false)
    (λ e. (c.in-Some.next.chunk ≤ e) × (e < length set) × (slice_index_or set e false ≡ true) × ((k : ℕ) → c.in-Some.next.chunk ≤ k → k < e → slice_index_or set k false ≡ false)))
    c.committed.ensures c.first_from-committed.ensures)).at
    (omega (arith, c.if-next-first.false, c.unwrap_or-first.ensures))
