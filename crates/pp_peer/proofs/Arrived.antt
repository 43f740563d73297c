-- What a datagram and an event do to a peer.
use Rattle.std.proofs.Common.{◌≡◌, ℕ, ◌<◌, ◌≤◌, Bool, true, false, nat_lt, List, length, take, refl, sym, ◌∙◌, ap, subst, arith}
use Rattle.std.specs.Prelude.{if◌then◌else◌, Result, OnOk}
use Rattle.std.proofs.lemmas.Bool.Decides.{nat_tests}
use Rattle.std.proofs.lemmas.List.{take_all}
use Rattle.pp_terms.specs.Count.{one_more}
use Rattle.pp_terms.specs.disk.Disk.{DiskState}
use Rattle.pp_terms.specs.format.Descriptor.{Descriptor}
use Rattle.pp_terms.specs.format.Messages.{Message}
use Rattle.pp_terms.specs.format.Traffic.{Received}
use Rattle.pp_promises.specs.Batches.{after_puts, after_read, CommitsInTime}
use Rattle.pp_holding.specs.Laws.{EventsAreInTime}
use Rattle.pp_counts.specs.declared.counts.Counts.{Counts}
use Rattle.pp_outside.specs.Arrivals.{IsEvent}
use Rattle.pp_outside.specs.Outside.{record_of, address_of}
use Rattle.pp_outside.specs.declared.link.Address.{Address}
use Rattle.pp_outside.specs.declared.link.Event.{Event}
use Rattle.pp_outside.specs.declared.link.Event.TheVariants as events
use Rattle.pp_channels.specs.Seats.{Seats}
use Rattle.pp_lives.specs.Arriving.{Arrives, IsBehind}
use Rattle.pp_lives.specs.declared.arriving.Arrival.{Arrival}
use Rattle.pp_lives.specs.declared.arriving.Arrival.TheVariants as arrivals
use Rattle.pp_holding.specs.Holding.{HoldingState, batch_of, stock_of, AreTied}
use Rattle.pp_holding.specs.Stock.{Advances}
use Rattle.pp_holding.proofs.Advancing.{advances_twice}
use Rattle.pp_seats.specs.Standing.{SeatsState}
use Rattle.pp_seats.specs.Hearing.{IsRead, OnceRead}
use Rattle.pp_peer.specs.declared.parts.Parts.{Parts}
use Rattle.pp_peer.specs.Taking.{read_at, after_some, KeepsCounts, Keeps}
use Rattle.pp_peer.specs.Absorbing.{counted, with_short, Advanced, Stocks, InTime, IsHeard}
use Rattle.pp_peer.specs.Standing.{KeepsContent}
use Rattle.pp_peer.proofs.Content.{content_twice}
use Rattle.pp_peer.proofs.Counted.{counts_twice}
use Rattle.pp_peer.proofs.Heard.{ok_then}

is_short : (n : ℕ) → n < 4 → nat_lt n 4 ≡ true
is_short n lt = grind (arith, nat_tests)

is_long : (n : ℕ) → 4 ≤ n → nat_lt n 4 ≡ false
is_long n le = grind (arith, nat_tests)

kept_short : (bytes : List ℕ) (k : Counts) → 4 ≤ length bytes → k.short ≡ (with_short bytes k).short
kept_short bytes k le = sym (ap (λ (b : Bool). if b then one_more k.short else k.short) (is_long (length bytes) le))

-- what is counted of an arrival
pub arrival_counts : (d : Descriptor) (t new : Seats) (sender : Address) (now : ℕ) (bytes : List ℕ) (k : Counts) (result : Arrival) → Arrives d t sender now bytes result new
    → KeepsCounts (with_short bytes k) (after_some (counted result) k)
arrival_counts d t new sender now bytes k arrivals.Short a = record {
  turns = refl;
  datagrams = refl;
  sent = refl;
  unheld = refl;
  short = sym (ap (λ (b : Bool). if b then one_more k.short else k.short) (is_short (length bytes) a.0));
  damaged = refl;
  read_faults = refl;
  send_faults = refl;
  receive_faults = refl;
}
arrival_counts d t new sender now bytes k arrivals.NoGreeting a = record {
  turns = refl;
  datagrams = refl;
  sent = refl;
  short = kept_short bytes k a.long;
  unheld = refl;
  damaged = refl;
  read_faults = refl;
  send_faults = refl;
  receive_faults = refl;
}
arrival_counts d t new sender now bytes k arrivals.Unwelcome a = record {
  turns = refl;
  datagrams = refl;
  sent = refl;
  short = kept_short bytes k a.long;
  unheld = refl;
  damaged = refl;
  read_faults = refl;
  send_faults = refl;
  receive_faults = refl;
}
arrival_counts d t new sender now bytes k (arrivals.Again seat) a = record {
  turns = refl;
  datagrams = refl;
  sent = refl;
  short = kept_short bytes k a.long;
  unheld = refl;
  damaged = refl;
  read_faults = refl;
  send_faults = refl;
  receive_faults = refl;
}
arrival_counts d t new sender now bytes k (arrivals.Late seat) a = record {
  turns = refl;
  datagrams = refl;
  sent = refl;
  short = kept_short bytes k a.long;
  unheld = refl;
  damaged = refl;
  read_faults = refl;
  send_faults = refl;
  receive_faults = refl;
}
arrival_counts d t new sender now bytes k arrivals.Unseated a = record {
  turns = refl;
  datagrams = refl;
  sent = refl;
  short = kept_short bytes k a.long;
  unheld = refl;
  damaged = refl;
  read_faults = refl;
  send_faults = refl;
  receive_faults = refl;
}
arrival_counts d t new sender now bytes k (arrivals.Opened seat next) a = record {
  turns = refl;
  datagrams = refl;
  sent = refl;
  short = kept_short bytes k a.long;
  unheld = refl;
  damaged = refl;
  read_faults = refl;
  send_faults = refl;
  receive_faults = refl;
}
arrival_counts d t new sender now bytes k arrivals.NoChannel a = record {
  turns = refl;
  datagrams = refl;
  sent = refl;
  short = kept_short bytes k a.long;
  unheld = refl;
  damaged = refl;
  read_faults = refl;
  send_faults = refl;
  receive_faults = refl;
}
arrival_counts d t new sender now bytes k (arrivals.NoReply seat) a = record {
  turns = refl;
  datagrams = refl;
  sent = refl;
  short = kept_short bytes k a.long;
  unheld = refl;
  damaged = refl;
  read_faults = refl;
  send_faults = refl;
  receive_faults = refl;
}
arrival_counts d t new sender now bytes k (arrivals.Cut seat) a = record {
  turns = refl;
  datagrams = refl;
  sent = refl;
  short = kept_short bytes k a.long;
  unheld = refl;
  damaged = refl;
  read_faults = refl;
  send_faults = refl;
  receive_faults = refl;
}
arrival_counts d t new sender now bytes k (arrivals.Differs seat) a = record {
  turns = refl;
  datagrams = refl;
  sent = refl;
  short = kept_short bytes k a.long;
  unheld = refl;
  damaged = refl;
  read_faults = refl;
  send_faults = refl;
  receive_faults = refl;
}
arrival_counts d t new sender now bytes k (arrivals.Given seat) a = record {
  turns = refl;
  datagrams = refl;
  sent = refl;
  short = kept_short bytes k a.long;
  unheld = refl;
  damaged = refl;
  read_faults = refl;
  send_faults = refl;
  receive_faults = refl;
}
arrival_counts d t new sender now bytes k (arrivals.Replied seat) a = record {
  turns = refl;
  datagrams = refl;
  sent = refl;
  short = kept_short bytes k a.long;
  unheld = refl;
  damaged = refl;
  read_faults = refl;
  send_faults = refl;
  receive_faults = refl;
}
arrival_counts d t new sender now bytes k (arrivals.Heard seat) a = record {
  turns = refl;
  datagrams = refl;
  sent = refl;
  short = kept_short bytes k a.long;
  unheld = refl;
  damaged = refl;
  read_faults = refl;
  send_faults = refl;
  receive_faults = refl;
}

pub datagram_advanced : (bytes : List ℕ) (old mid new : Parts) (counts : Counts) (disk left : DiskState) → mid.holding ≡ old.holding → mid.counts ≡ counts
    → KeepsCounts (with_short bytes old.counts) counts → KeepsContent old mid → Keeps mid new disk left → Advanced (with_short bytes old.counts) old new disk left
datagram_advanced bytes old mid new counts disk left same are kept content keeps = record {
  advances = subst (λ (h : HoldingState). Advances (stock_of h disk) (stock_of new.holding left)) same keeps.advances;
  counts_are = counts_twice (with_short bytes old.counts) mid.counts new.counts (subst (λ (k : Counts). KeepsCounts (with_short bytes old.counts) k) (sym are) kept) keeps.counts;
  content = content_twice old mid new content keeps.content;
}

pub stocks_from : {T E : Type 0} (r : Result T E) (old mid new : Parts) → mid.holding ≡ old.holding → OnOk r (Stocks mid new) → OnOk r (Stocks old new)
stocks_from r old mid new same s = ok_then r (λ (x : Stocks mid new). record {
  stored = x.stored;
  puts = x.puts ∙ ap (λ (h : HoldingState). after_puts x.stored new.seats.moment (batch_of h)) same;
  live = λ l. x.live (ap (λ (h : HoldingState). h.store.live) same ∙ l);
}) s

-- the messages of a datagram were heard where they are to be
pub once_heard : (P : SeatsState → Type 0) (d : Descriptor) (bytes : List ℕ) (p : SeatsState) (mid new : Parts) (result : Arrival) → p.descriptor ≡ d → mid.seats ≡ p
    → IsBehind d bytes result → IsHeard bytes result mid new → OnceRead d bytes result P p → P new.seats
once_heard P d bytes p mid new (arrivals.Opened seat next) swarm same behind heard once =
    once new.seats (subst (λ (ms : List Message). IsRead seat ms p new.seats) behind.1
    (subst (λ (e : Descriptor). IsRead seat (read_at e bytes next) p new.seats) swarm
    (subst (λ (q : SeatsState). IsRead seat (read_at q.descriptor bytes next) q new.seats) same heard)))
once_heard P d bytes p mid new (arrivals.Replied seat) swarm same behind heard once =
    once new.seats (subst (λ (e : Descriptor). IsRead seat (read_at e bytes 4) p new.seats) swarm
    (subst (λ (q : SeatsState). IsRead seat (read_at q.descriptor bytes 4) q new.seats) same heard))
once_heard P d bytes p mid new (arrivals.Heard seat) swarm same behind heard once =
    once new.seats (subst (λ (e : Descriptor). IsRead seat (read_at e bytes 4) p new.seats) swarm
    (subst (λ (q : SeatsState). IsRead seat (read_at q.descriptor bytes 4) q new.seats) same heard))
once_heard P d bytes p mid new arrivals.Short swarm same behind heard once = subst P (sym (heard ∙ same)) once
once_heard P d bytes p mid new arrivals.NoGreeting swarm same behind heard once = subst P (sym (heard ∙ same)) once
once_heard P d bytes p mid new arrivals.Unwelcome swarm same behind heard once = subst P (sym (heard ∙ same)) once
once_heard P d bytes p mid new (arrivals.Again k) swarm same behind heard once = subst P (sym (heard ∙ same)) once
once_heard P d bytes p mid new (arrivals.Late k) swarm same behind heard once = subst P (sym (heard ∙ same)) once
once_heard P d bytes p mid new arrivals.Unseated swarm same behind heard once = subst P (sym (heard ∙ same)) once
once_heard P d bytes p mid new arrivals.NoChannel swarm same behind heard once = subst P (sym (heard ∙ same)) once
once_heard P d bytes p mid new (arrivals.NoReply k) swarm same behind heard once = subst P (sym (heard ∙ same)) once
once_heard P d bytes p mid new (arrivals.Cut k) swarm same behind heard once = subst P (sym (heard ∙ same)) once
once_heard P d bytes p mid new (arrivals.Differs k) swarm same behind heard once = subst P (sym (heard ∙ same)) once
once_heard P d bytes p mid new (arrivals.Given k) swarm same behind heard once = subst P (sym (heard ∙ same)) once

-- the record of a datagram
pub datagram_is : (e : Event) (bytes : List ℕ) (sender : Address) (len at : ℕ) → e ≡ events.Datagram sender len at → IsEvent e bytes
    → record_of e bytes ≡ Received at (address_of sender) bytes
datagram_is e bytes sender len at is fits =
    ap (λ (x : Event). record_of x bytes) is
    ∙ ap (λ (bs : List ℕ). Received at (address_of sender) bs) (ap (λ (n : ℕ). take n bytes) (subst (λ (x : Event). IsEvent x bytes) is fits).0 ∙ take_all (length bytes) bytes (omega arith))

-- What is pending was committed, or not.
pub settled_advanced : (k : Counts) (old mid new : Parts) (held : HoldingState) (disk half left : DiskState) → Advanced k old mid disk half → new.holding ≡ held
    → Advances (stock_of mid.holding half) (stock_of held left) → new.counts ≡ mid.counts → KeepsContent mid new → Advanced k old new disk left
settled_advanced k old mid new held disk half left a same advances counts content = record {
  advances = subst (λ (h : HoldingState). Advances (stock_of old.holding disk) (stock_of h left)) (sym same)
      (advances_twice (stock_of old.holding disk) (stock_of mid.holding half) (stock_of held left) a.advances advances);
  counts_are = subst (λ (c : Counts). KeepsCounts k c) (sym counts) a.counts_are;
  content = content_twice old mid new a.content content;
}

-- Chunks that were put at one moment, and then the end of the event, commit in time.
pub timed : (quiet asked : Bool) (at : ℕ) (old mid new : Parts) → EventsAreInTime → AreTied old.holding → asked ≡ quiet → at ≡ mid.seats.moment
    → new.seats.moment ≡ mid.seats.moment → Stocks old mid → batch_of new.holding ≡ after_read asked at (batch_of mid.holding)
    → old.holding.store.live ≡ true → InTime quiet old new
timed quiet asked at old mid new events tied is when same s batch live = record {
  stored = s.stored;
  in_time = subst (λ (n : ℕ). CommitsInTime quiet s.stored n (batch_of old.holding) (batch_of new.holding)) (sym same)
      (events quiet s.stored mid.seats.moment old.holding mid.holding new.holding tied live s.puts
      (batch ∙ ap (λ (b : Bool). after_read b at (batch_of mid.holding)) is ∙ ap (λ (n : ℕ). after_read quiet n (batch_of mid.holding)) when));
}
