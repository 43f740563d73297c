-- What the calls of a holding come to over many calls.
use Rattle.std.proofs.Common.{◌≡◌, ℕ, Bool, true, false, List, [], ◌∷◌, ◌++◌, length, refl, sym, ◌∙◌, ap, subst, arith}
use Rattle.std.proofs.lemmas.Bool.{leb-true}
use Rattle.std.proofs.lemmas.List.{length-map, length-append, take_all}
use Rattle.pp_promises.specs.Batches.{Batch, most_pending, is_full, after_put, after_puts, after_read, after_event, CommitsInTime}
use Rattle.pp_promises.specs.Laws.{BatchesAreInTime}
use Rattle.pp_store.proofs.Gated.{gated_sound}
use Rattle.pp_holding.specs.Queue.{pending_of, most_tickets}
use Rattle.pp_holding.specs.Holding.{HoldingState, batch_of, AreTied}
use Rattle.pp_holding.specs.Stock.{may_be_open}
use Rattle.pp_holding.specs.Laws.{AdvancesCompose, KeptIsSound, CommittedStays, PutsCompose, EventsAreInTime, TicketsFit}
use Rattle.pp_holding.proofs.Advancing.{advances_none, advances_twice, advances_reading}

pub advances_compose : AdvancesCompose
advances_compose = record { none = advances_none; twice = advances_twice; reading = advances_reading }

pub kept_is_sound : KeptIsSound
kept_is_sound since s kept image at = gated_sound s.store.descriptor (may_be_open s.store) image (kept.gated image at)

pub committed_stays : CommittedStays
committed_stays since old new kept advances i at = advances.goes_on kept.known i at _ (omega arith) (kept.stands i at)

puts_both : (one two : List ℕ) (now : ℕ) (b : Batch) → after_puts (one ++ two) now b ≡ after_puts two now (after_puts one now b)
puts_both [] two now b = refl
puts_both (i ∷ one) two now b = puts_both one two now (after_put i now b)

pub puts_compose : PutsCompose
puts_compose = puts_both

not_full : (s : HoldingState) → AreTied s → s.store.live ≡ true → is_full (batch_of s) ≡ false
not_full s tied live = pick (is_full (batch_of s)) refl
  where
    size : length (batch_of s).pending ≡ length s.queue.waiting
    size = length-map s.queue.waiting pending_of

    pick : (b : Bool) → is_full (batch_of s) ≡ b → b ≡ false
    pick true e = let le = leb-true most_pending (length (batch_of s).pending) e in let few = tied.few live in absurd (omega (arith, le, few, size))
    pick false e = refl

pub events_are_in_time : BatchesAreInTime → EventsAreInTime
events_are_in_time batches is_quiet stored now old mid new tied live puts settled =
    let same : batch_of new ≡ after_event is_quiet stored now (batch_of old) = settled ∙ ap (λ (b : Batch). after_read is_quiet now b) puts in
    subst (λ (b : Batch). CommitsInTime is_quiet stored now (batch_of old) b) (sym same) (batches is_quiet stored now (batch_of old) (not_full old tied live))

pub tickets_fit : TicketsFit
tickets_fit tickets more few = take_all most_tickets (tickets ++ more) (let size = length-append tickets more in omega (arith, few, size))
