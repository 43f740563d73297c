use Rattle.std.proofs.Common.{ℕ, subst, arith}
use Rattle.pp_seats.specs.Standing.{AllHold}
use Rattle.pp_seats.proofs.seats.Seats.new.Goals as goal

pub invariant_of-result : goal.invariant_of-result
invariant_of-result c = (
  (c.in_ok-new_seats.ensures).0,
  subst (λ (n : ℕ). AllHold n c.in_ok-new_seats.field-0.items) c.chunks.ensures.chunks (c.in_ok-new_seats.ensures).1,
  omega (arith, c.in_ok-vec.field-0.ok.0, c.in_ok-vec.ensures.len),
)
