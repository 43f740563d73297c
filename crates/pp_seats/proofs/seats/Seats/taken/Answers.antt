use Rattle.std.proofs.Common.{◌≡◌, List, ◌∷◌, length, map, drop, sym, ◌∙◌, ap, subst, arith}
use Rattle.pp_terms.specs.format.Descriptor.{chunks_of}
use Rattle.pp_seat.specs.Seats.{SeatState}
use Rattle.pp_seats.specs.Standing.{SeatsState, AllHold, StandsFor}
use Rattle.pp_seats.specs.Hearing.{Ready, looked_up}
use Rattle.pp_seats.proofs.Lists.{refilled, mapped_holds}
use Rattle.pp_seats.proofs.Looking.{all_look}
use Rattle.pp_seats.proofs.seats.Seats.taken.Goals as goal

pub invariant_of-self : goal.invariant_of-self
invariant_of-self c =
    let items = c.self.inside.seats.items in
    let is : c.look_up.new.seats ≡ map (looked_up c.self.inside.moment) items = c.look_up.ensures ∙ ap (map (looked_up c.self.inside.moment)) c.deref_mut.ensures.value in
    let len : c.self.inside.seats.len ≡ length c.look_up.new.seats =
    omega (arith, c.look_up.auto.seats, ap (λ (xs : List SeatState). length xs) c.deref_mut.ensures.value, c.self.inside.seats.ok.0) in
    let e = refilled c.look_up.new.seats (drop (length c.look_up.new.seats) items) c.self.inside.seats.len len in (
      ap (λ (xs : List SeatState). length xs) e ∙ omega (arith, len, c.self.invariant.0, c.self.inside.seats.ok.0),
      subst (λ (xs : List SeatState). AllHold (chunks_of c.self.inside.descriptor) xs) (sym (e ∙ is))
          (mapped_holds (chunks_of c.self.inside.descriptor) c.self.inside.moment items c.self.invariant.1),
      c.self.invariant.2,
    )

pub returns-clause-stands : goal.returns-clause-stands
returns-clause-stands c x most r past h =
    let items = c.self.inside.seats.items in
    let is : c.look_up.new.seats ≡ map (looked_up c.self.inside.moment) items = c.look_up.ensures ∙ ap (map (looked_up c.self.inside.moment)) c.deref_mut.ensures.value in
    let len : c.self.inside.seats.len ≡ length c.look_up.new.seats =
    omega (arith, c.look_up.auto.seats, ap (λ (xs : List SeatState). length xs) c.deref_mut.ensures.value, c.self.inside.seats.ok.0) in
    let e = refilled c.look_up.new.seats (drop (length c.look_up.new.seats) items) c.self.inside.seats.len len in
    let p : SeatsState = record { descriptor = c.self.inside.descriptor; table = c.self.inside.lives; seats = items; moment = c.self.inside.moment } in
    subst (λ (xs : List SeatState). StandsFor x most (record p { seats = xs }) (r ∷ past)) (sym (e ∙ is))
    (all_look x most p r past (subst (λ (q : SeatsState). Ready x most q r past) (sym c.self.view_is) h))
