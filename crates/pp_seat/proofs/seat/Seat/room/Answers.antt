use Rattle.std.proofs.Common.{◌≡◌, ◌<◌, ◌≤◌, ◌-◌, ℕ, List, length, sym, ◌∙◌, ap, subst}
use Rattle.pp_promises.specs.OwnSide.{most_asked}
use Rattle.pp_requests.specs.declared.asking.Asking.{Asking}
use Rattle.pp_seat.proofs.Asking.{room_left}
use Rattle.pp_seat.proofs.Stops.{room_for_more}
use Rattle.pp_seat.proofs.seat.Seat.room.Goals as goal

pub returns-clause-some : goal.returns-clause-some
returns-clause-some c f lost t =
    let value : c.saturating_sub.result ≡ most_asked c.self.inside.stopped - length c.self.inside.own =
    c.saturating_sub.ensures ∙ ap (λ (n : ℕ). n - length c.entries.result.now) c.most_asked.ensures
    ∙ ap (λ (xs : List Asking). most_asked c.self.inside.stopped - length xs) c.entries.ensures.same in
    let few : length c.self.inside.own ≤ 32 = subst (λ (xs : List Asking). length xs ≤ 32) c.entries.ensures.same (subst (λ (xs : List Asking). length xs ≤ 32) (sym c.entries.ensures.same) c.entries.ensures.few) in
    rw (← c.self.view_is) (λ h fresh named. subst (λ (n : ℕ). 0 < n) (sym value) (room_left f lost _ t few c.entries.ensures.rising h fresh named))

pub returns-clause-outstanding : goal.returns-clause-outstanding
returns-clause-outstanding c d life past =
    let value : c.saturating_sub.result ≡ most_asked c.self.inside.stopped - length c.self.inside.own =
    c.saturating_sub.ensures ∙ ap (λ (n : ℕ). n - length c.entries.result.now) c.most_asked.ensures
    ∙ ap (λ (xs : List Asking). most_asked c.self.inside.stopped - length xs) c.entries.ensures.same in
    rw (← c.self.view_is) (λ is none kept same may. subst (λ (n : ℕ). 0 < n) (sym value) (room_for_more d life past _ _ c.entries.ensures.rising is none kept same may))
