-- A seat is dropped.
use Rattle.std.proofs.Common.{◌≡◌, ◌≢◌, inl, inr, ⊎_elim, ℕ, eqb, Bool, true, ◌||◌, Option, Some, None, List, refl, sym, ◌∙◌, ap, subst}
use Rattle.std.proofs.lemmas.Bool.{cases_Bool, or_left, or_right, and_parts, eqb-true, eqb-false}
use Rattle.std.proofs.lemmas.Option.{same_Some}
use Rattle.pp_terms.specs.format.Traffic.{Record}
use Rattle.pp_terms.specs.format.Descriptor.{Descriptor}
use Rattle.pp_traffic.specs.Life.{Life}
use Rattle.pp_outside.specs.Outside.{address_of, is_same}
use Rattle.pp_outside.specs.declared.link.Address.{Address}
use Rattle.pp_channels.specs.Seats.{AreSeats, is_source, has_remote, after_drop}
use Rattle.pp_channels.specs.declared.channel.Channel.{Channel}
use Rattle.pp_lives.specs.Reading.{is_waiting}
use Rattle.pp_channels.specs.Seats.{Seats, channel_at}
use Rattle.pp_lives.specs.Standing.{Stands, StandsAt, read_of, read_at, WaitsBlank, Seated}
use Rattle.pp_lives.specs.Calls.{Drops, Ends}
use Rattle.pp_lives.proofs.Each.{each_by}

abbrev pub Shadowed : Channel → Channel → Channel
Shadowed dropped e = record e { shadowed = e.shadowed || is_same dropped.address e.address }

-- a channel that may be shadowed now stands as it stood
stands_shadowed : (d : Descriptor) (b : Bool) (e : Channel) (life : Life) (past : List Record) → Stands d e life past → Stands d (record e { shadowed = b }) life past
stands_shadowed d b e life past s = record {
  address = s.address;
  local = s.local;
  dialled = s.dialled;
  remote = s.remote;
  local_some = s.local_some;
  opened = s.opened;
  made = s.made;
  goes = let g = s.goes in record { open_still = g.open_still; has_begun = g.has_begun; proven = g.proven; heard = g.heard; greeted = g.greeted; bare = g.bare };
}

at_dropped : (d : Descriptor) (dropped : Channel) (o : Option Channel) (l : Option Life) (past : List Record) → StandsAt d o l past
    → StandsAt d (after_drop (Some dropped) o) l past
at_dropped d dropped None l past s = tt
at_dropped d dropped (Some e) None past s = record { none = s.none; waits = s.waits }
at_dropped d dropped (Some e) (Some life) past s = stands_shadowed d (e.shadowed || is_same dropped.address e.address) e life past s

told_dropped : (d : Descriptor) (dropped : Channel) (o : Option Channel) (l : Option Life) (past : List Record) → read_of d (after_drop (Some dropped) o) l past ≡ read_of d o l past
told_dropped d dropped None l past = refl
told_dropped d dropped (Some e) None past = refl
told_dropped d dropped (Some e) (Some life) past = refl

-- what stands at a seat after one was dropped
was_there : (dropped : Channel) (o : Option Channel) (e : Channel) → after_drop (Some dropped) o ≡ Some e → (e0 : Channel) × (o ≡ Some e0) × (e ≡ Shadowed dropped e0)
was_there dropped None e is = absurd cc
was_there dropped (Some e0) e is = (e0, refl, sym (same_Some (Shadowed dropped e0) e is))

pub before_drop : (t new : Seats) (seat : ℕ) (c : Channel) → Drops t new seat c → (other : ℕ) (e : Channel) → channel_at new other ≡ Some e
    → (other ≢ seat) × ((e0 : Channel) × (channel_at t other ≡ Some e0) × (e ≡ Shadowed c e0))
before_drop t new seat c drops other e there =
    let ne : other ≢ seat = λ same. (let none = ap (channel_at new) same ∙ drops.free in cc) in
    (ne, was_there c (channel_at t other) e (sym (drops.others other ne) ∙ there))

pub dropped_seated : (d : Descriptor) (t new : Seats) (lives : ℕ → Option Life) (seat : ℕ) (c : Channel) (past : List Record)
    → Seated d t lives past → AreSeats new.channels → Drops t new seat c → Seated d new lives past
dropped_seated d t new lives seat c past s are drops = record {
  are = are;
  each = each_by (λ (k : ℕ). StandsAt d (channel_at new k) (lives k) past) seat
      (subst (λ (o : Option Channel). StandsAt d o (lives seat) past) (sym drops.free) tt)
      (λ other ne. subst (λ (o : Option Channel). StandsAt d o (lives other) past) (sym (drops.others other ne))
      (at_dropped d c (channel_at t other) (lives other) past (s.each other)));
  apart = λ one other a e remote at_one at_other ra re same.
      let x = (before_drop t new seat c drops one a at_one).1 in
      let y = (before_drop t new seat c drops other e at_other).1 in
      s.apart one other x.0 y.0 remote x.1 y.1 (ap (λ (z : Channel). z.remote) (sym x.2) ∙ ra) (ap (λ (z : Channel). z.remote) (sym y.2) ∙ re)
      (ap (λ (z : Channel). address_of z.address) (sym x.2) ∙ same ∙ ap (λ (z : Channel). address_of z.address) y.2);
  blank = λ other e life there living waits.
      let b = before_drop t new seat c drops other e there in
      let e0 = b.1.0 in
      subst (λ (z : Channel). WaitsBlank d new z life past) (sym b.1.2)
      (λ remote some. ⊎_elim
      (λ blank. inl blank)
      (λ elsewhere. ⊎_elim
      (λ shadowed. inr (inl (or_left e0.shadowed (is_same c.address e0.address) shadowed)))
      (λ source. ⊎_elim
      (λ same. inr (inl (or_right e0.shadowed (is_same c.address e0.address) (source_same e0.address remote c
      (subst (λ (o : Option Channel). is_source e0.address remote o ≡ true) (ap (channel_at t) (eqb-true source.0 seat same) ∙ drops.was) source.1)))))
      (λ apart. inr (inr (
        source.0,
        subst (λ (o : Option Channel). is_source e0.address remote o ≡ true) (sym (drops.others source.0 (eqb-false source.0 seat apart)))
            (source_dropped e0.address remote c (channel_at t source.0) source.1),
      )))
      (cases_Bool (eqb source.0 seat)))
      elsewhere)
      (s.blank other e0 life b.1.1 living (ap is_waiting (sym b.1.2) ∙ waits) remote some));
  unknown = λ other e there waits.
      let b = before_drop t new seat c drops other e there in
      ap (λ (z : Channel). z.remote) b.1.2 ∙ s.unknown other b.1.0 b.1.1 (ap is_waiting (sym b.1.2) ∙ waits);
}
  where
    source_same : (a : Address) (remote : ℕ) (x : Channel) → is_source a remote (Some x) ≡ true → is_same x.address a ≡ true
    source_same a remote x e = (and_parts (has_remote remote x.remote) (is_same x.address a) e).1

    source_dropped : (a : Address) (remote : ℕ) (dropped : Channel) (o : Option Channel) → is_source a remote o ≡ true → is_source a remote (after_drop (Some dropped) o) ≡ true
    source_dropped a remote dropped None e = e
    source_dropped a remote dropped (Some x) e = e

pub dropped_tells : (d : Descriptor) (t new : Seats) (lives : ℕ → Option Life) (seat : ℕ) (c : Channel) (past : List Record) → Drops t new seat c
    → Ends seat (read_at d t lives past) (read_at d new lives past)
dropped_tells d t new lives seat c past drops = record {
  own = ap (λ (o : Option Channel). read_of d o (lives seat) past) drops.free;
  others = λ other ne. ap (λ (o : Option Channel). read_of d o (lives other) past) (drops.others other ne) ∙ told_dropped d c (channel_at t other) (lives other) past;
}
