-- A channel that a record isn't on was there before with its life.
use Rattle.std.proofs.Common.{◌≡◌, ◌≢◌, ⊎_elim, ℕ, eqb, Option, Some, List, refl, sym, ◌∙◌, ap}
use Rattle.std.proofs.lemmas.Bool.{cases_Bool, eqb-true, eqb-false}
use Rattle.std.proofs.lemmas.Option.{same_Some}
use Rattle.pp_terms.specs.format.Traffic.{Record}
use Rattle.pp_terms.specs.format.Descriptor.{Descriptor}
use Rattle.pp_traffic.specs.Life.{Life}
use Rattle.pp_channels.specs.Seats.{Seats, channel_at}
use Rattle.pp_channels.specs.declared.channel.Channel.{Channel}
use Rattle.pp_lives.specs.Reading.{is_waiting}
use Rattle.pp_lives.specs.Standing.{Seated}
use Rattle.pp_lives.specs.Calls.{Changes, Drops}
use Rattle.pp_lives.specs.Arrived.{PassesAt}
use Rattle.pp_lives.proofs.Staying.{Misses, began}
use Rattle.pp_lives.proofs.Own.{stands_of}
use Rattle.pp_lives.proofs.Closing.{before_drop}

-- the channel that stood at a seat, and waited as it does now
abbrev pub Was : Seats → ℕ → Channel → Type 0
Was t seat c' = (c : Channel) × (channel_at t seat ≡ Some c) × (is_waiting c ≡ is_waiting c')

-- where one seat is changed
pub was_same : (t new : Seats) (seat other : ℕ) (c c' : Channel) → channel_at t seat ≡ Some c → is_waiting c ≡ is_waiting c' → Changes t new seat (Some c')
    → (e : Channel) → channel_at new other ≡ Some e → Was t other e
was_same t new seat other c c' there waits ch e also = ⊎_elim
    (λ same. (
      c,
      ap (channel_at t) (eqb-true other seat same) ∙ there,
      waits ∙ ap is_waiting (same_Some c' e (sym ch.there ∙ ap (channel_at new) (sym (eqb-true other seat same)) ∙ also)),
    ))
    (λ apart. (e, sym (ch.others other (eqb-false other seat apart)) ∙ also, refl))
    (cases_Bool (eqb other seat))

pub was_apart : (t new : Seats) (seat other : ℕ) (o : Option Channel) → other ≢ seat → Changes t new seat o
    → (e : Channel) → channel_at new other ≡ Some e → Was t other e
was_apart t new seat other o ne ch e also = (e, sym (ch.others other ne) ∙ also, refl)

-- and where one is dropped
pub dropped_same : (t new : Seats) (seat other : ℕ) (c : Channel) → Drops t new seat c → (e : Channel) → channel_at new other ≡ Some e → Was t other e
dropped_same t new seat other c drops e also =
    let b = before_drop t new seat c drops other e also in (b.1.0, b.1.1, ap is_waiting (sym b.1.2))

pub passes_of : (d : Descriptor) (t new : Seats) (lives later : ℕ → Option Life) (r : Record) (past : List Record) (seat : ℕ) → Seated d t lives past
    → ((e : Channel) → channel_at new seat ≡ Some e → Was t seat e) → later seat ≡ lives seat
    → ((c : Channel) (life : Life) → channel_at t seat ≡ Some c → lives seat ≡ Some life → Misses d c life r)
    → PassesAt d t new lives later r past seat
passes_of d t new lives later r past seat s was same misses e life also known living =
    let c = was e also in
    let there : lives seat ≡ Some life = sym same ∙ living in
    let st = stands_of d (channel_at t seat) (lives seat) c.0 life past (s.each seat) c.1 there in
    record {
      there = record { channel = c.0; was = c.1; known = c.2 ∙ known; living = there; begun = began d c.0 life past st };
      apart = (misses c.0 life c.1 there).known (c.2 ∙ known);
    }
