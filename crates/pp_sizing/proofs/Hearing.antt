-- The event in the buffer.
use Rattle.std.proofs.Common.{◌≡◌, ℕ, List, [], ◌∷◌, length, take, refl, sym, ◌∙◌, ap, subst, arith}
use Rattle.std.proofs.lemmas.List.{length-take-le}
use Rattle.pp_terms.specs.format.Traffic.{LinkState, Record, GainsRecords}
use Rattle.pp_outside.specs.Arrivals.{IsEvent}
use Rattle.pp_outside.specs.Outside.{record_of, size_of, FitsIn}
use Rattle.pp_outside.specs.declared.link.Event.{Event}
use Rattle.pp_outside.specs.declared.link.Event.TheVariants.{Datagram, Quiet}
use Rattle.pp_learner.specs.Laws.{came}

event_fits : (event : Event) (buffer : List ℕ) → length buffer ≡ 65536 → FitsIn event buffer → IsEvent event (take (size_of event) buffer)
event_fits (Datagram sender len at) buffer whole fits =
    let is = length-take-le len buffer fits in (sym is, omega (arith, is, fits, whole))
event_fits (Quiet at) buffer whole fits = refl

same_record : (event : Event) (buffer : List ℕ) → came event (take (size_of event) buffer) ≡ record_of event buffer
same_record (Datagram sender len at) buffer = refl
same_record (Quiet at) buffer = refl

-- a wait that gave an event, which lies at the front of the buffer
module _ (event : Event) (buffer : List ℕ) (n : ℕ) (is : n ≡ size_of event) where
  pub bytes_fit : length buffer ≡ 65536 → FitsIn event buffer → IsEvent event (take n buffer)
  bytes_fit whole fits = subst (λ (m : ℕ). IsEvent event (take m buffer)) (sym is) (event_fits event buffer whole fits)

  record_is : came event (take n buffer) ≡ record_of event buffer
  record_is = ap (λ (m : ℕ). came event (take m buffer)) is ∙ same_record event buffer

  pub gained_event : (old new : LinkState) → GainsRecords old.traffic (record_of event buffer ∷ []) new.traffic
      → GainsRecords old.traffic (came event (take n buffer) ∷ []) new.traffic
  gained_event old new gained = subst (λ (r : Record). GainsRecords old.traffic (r ∷ []) new.traffic) (sym record_is) gained
