-- What went stays so while the book grows and more is committed, and what comes adds nothing to it.
use Rattle.std.proofs.Common.{◌≡◌, ℕ, ◌+◌, nat_lt, Bool, true, false, cond, Option, List, [], ◌∷◌, ◌++◌, length, take, sym, ◌∙◌, ap, subst, arith}
use Rattle.std.specs.Prelude.{if◌then◌else◌}
use Rattle.std.specs.List.{AllByRecursion}
use Rattle.std.proofs.lemmas.List.{take_all}
use Rattle.pp_terms.specs.Count.{capped, one_more}
use Rattle.pp_terms.specs.disk.Disk.{DiskState}
use Rattle.pp_terms.specs.format.Traffic.{Address, Record, Received, Quiet, Sent}
use Rattle.pp_terms.specs.format.Descriptor.{Descriptor}
use Rattle.pp_terms.specs.format.Messages.{Message, Handshake, Data, Ack, Have, Integrity, Pex4, PexReq, Request, Cancel, Choke, Unchoke, Pex6}
use Rattle.pp_terms.specs.tree.Book.{LookUp, IsRooted}
use Rattle.pp_tree.specs.Book.{entry}
use Rattle.pp_traffic.specs.Past.{read}
use Rattle.pp_traffic.specs.Hashes.{Carries}
use Rattle.pp_traffic.specs.Meter.{lets_send}
use Rattle.pp_traffic.specs.Serving.{Window, ServesFrom, Serves, ServesAll}
use Rattle.pp_traffic.specs.Keeping.{EachAnnounced}
use Rattle.pp_traffic.specs.Tallied.{came, came_short}
use Rattle.pp_promises.specs.Datagrams.{PlansAll}
use Rattle.pp_promises.specs.Served.{is_announced}
use Rattle.pp_paths.specs.Judge.{KeepsEntries}
use Rattle.pp_counts.specs.declared.counts.Counts.{Counts}
use Rattle.pp_outside.specs.Arrivals.{IsEvent}
use Rattle.pp_outside.specs.Outside.{record_of}
use Rattle.pp_outside.specs.declared.link.Event.{Event}
use Rattle.pp_outside.specs.declared.link.Event.TheVariants as events
use Rattle.pp_store.specs.Store.{is_committed}
use Rattle.pp_seats.specs.Standing.{Setting}
use Rattle.pp_seats.specs.Sending.{HoldsAnnounced}
use Rattle.pp_peer.specs.Taking.{KeepsCounts}
use Rattle.pp_peer.specs.declared.parts.Parts.{Parts}
use Rattle.pp_peer.specs.Standing.{Beginning, setting, Fetches, IsTied, Ledger, StandsFor}
use Rattle.pp_peer.specs.Absorbing.{with_event, Advanced, KeepsSeats}

-- ---- a book that grows

module _ (d : Descriptor) (old new : LookUp) (window : Window) (entries : KeepsEntries old new) (rooted : IsRooted d new) where
  carries : (m : Message) → Carries old m → Carries new m
  carries (Integrity span digest) c = (c.0, c.1, entries c.0.layer c.0.offset digest c.2)
  carries (Handshake source options) c = c
  carries (Data chunk sent_at bytes) c = c
  carries (Ack span delay) c = c
  carries (Have span) c = c
  carries (Pex4 address port) c = c
  carries PexReq c = c
  carries (Request span) c = c
  carries (Cancel span) c = c
  carries Choke c = c
  carries Unchoke c = c
  carries (Pex6 address port) c = c

  carry_all : (ms : List Message) → AllByRecursion (Carries old) ms → AllByRecursion (Carries new) ms
  carry_all [] all = tt
  carry_all (m ∷ ms) all = (carries m all.0, carry_all ms all.1)

  serves_from : (past : List Record) (receiver : Address) (channel : Option ℕ) (front ms : List Message)
      → ServesFrom d old window past receiver channel front ms → ServesFrom d new window past receiver channel front ms
  serves_from past receiver channel front [] s = tt
  serves_from past receiver channel front (Data i sent_at bytes ∷ rest) s = record {
    last = s.last;
    backed = record {
      rooted = rooted;
      within = s.backed.within;
      whole = s.backed.whole;
      leaf = entries 0 i _ s.backed.leaf;
    };
    hashes = carry_all front s.hashes;
    peer = s.peer;
  }
  serves_from past receiver channel front (Handshake source options ∷ rest) s = serves_from past receiver channel (front ++ Handshake source options ∷ []) rest s
  serves_from past receiver channel front (Ack span delay ∷ rest) s = serves_from past receiver channel (front ++ Ack span delay ∷ []) rest s
  serves_from past receiver channel front (Have span ∷ rest) s = serves_from past receiver channel (front ++ Have span ∷ []) rest s
  serves_from past receiver channel front (Integrity span digest ∷ rest) s = serves_from past receiver channel (front ++ Integrity span digest ∷ []) rest s
  serves_from past receiver channel front (Pex4 address port ∷ rest) s = serves_from past receiver channel (front ++ Pex4 address port ∷ []) rest s
  serves_from past receiver channel front (PexReq ∷ rest) s = serves_from past receiver channel (front ++ PexReq ∷ []) rest s
  serves_from past receiver channel front (Request span ∷ rest) s = serves_from past receiver channel (front ++ Request span ∷ []) rest s
  serves_from past receiver channel front (Cancel span ∷ rest) s = serves_from past receiver channel (front ++ Cancel span ∷ []) rest s
  serves_from past receiver channel front (Choke ∷ rest) s = serves_from past receiver channel (front ++ Choke ∷ []) rest s
  serves_from past receiver channel front (Unchoke ∷ rest) s = serves_from past receiver channel (front ++ Unchoke ∷ []) rest s
  serves_from past receiver channel front (Pex6 address port ∷ rest) s = serves_from past receiver channel (front ++ Pex6 address port ∷ []) rest s

  serves_more : (r : Record) (past : List Record) → Serves d old window past r → Serves d new window past r
  serves_more (Received at sender bytes) past s = tt
  serves_more (Quiet at) past s = tt
  serves_more (Sent moment receiver bytes) past s =
      let it = read d (Sent moment receiver bytes) in serves_from past receiver it.channel [] it.messages.read s

  pub serves_on : (past : List Record) → ServesAll d old window past → ServesAll d new window past
  serves_on [] s = tt
  serves_on (r ∷ past) s = (serves_more r past s.0, serves_on past s.1)

-- ---- what was announced

pub announced_on : (d : Descriptor) (P Q : ℕ → ℕ → Type 0) (past : List Record) → ((moment i : ℕ) → P moment i → Q moment i)
    → EachAnnounced d P past → EachAnnounced d Q past
announced_on d P Q [] f a = tt
announced_on d P Q (Received at sender bytes ∷ past) f a = announced_on d P Q past f a
announced_on d P Q (Quiet at ∷ past) f a = announced_on d P Q past f a
announced_on d P Q (Sent moment receiver bytes ∷ past) f a = (λ i e. f moment i (a.0 i e), announced_on d P Q past f a.1)

-- ---- counts

pub capped_more : (n : ℕ) → one_more (capped n) ≡ capped (n + 1)
capped_more n = omega arith

short_more : (is_short : Bool) (k n : ℕ) → k ≡ capped n → (if is_short then one_more k else k) ≡ capped (cond is_short (n + 1) n)
short_more true k n e = ap one_more e ∙ capped_more n
short_more false k n e = e

pub tied_more : (e : Event) (bytes : List ℕ) (k new : Counts) (past : List Record) → IsEvent e bytes → KeepsCounts (with_event e bytes k) new → IsTied k past
    → IsTied new (record_of e bytes ∷ past)
tied_more (events.Datagram sender len at) bytes k new past is keeps tied = record {
  datagrams = keeps.datagrams ∙ ap one_more tied.datagrams ∙ capped_more (came past);
  short = keeps.short ∙ short_more (nat_lt (length bytes) 4) k.short (came_short past) tied.short
      ∙ ap (λ (bs : List ℕ). capped (cond (nat_lt (length bs) 4) (came_short past + 1) (came_short past))) (sym (ap (λ (n : ℕ). take n bytes) is.0 ∙ take_all (length bytes) bytes (omega arith)));
  sent = keeps.sent ∙ tied.sent;
}
tied_more (events.Quiet at) bytes k new past is keeps tied = record {
  datagrams = keeps.datagrams ∙ tied.datagrams;
  short = keeps.short ∙ tied.short;
  sent = keeps.sent ∙ tied.sent;
}

-- ---- the whole

-- What comes adds nothing to what went, and what was announced stays committed.
pub ledger_on : (e : Event) (bytes : List ℕ) (old new : Parts) (disk left : DiskState) (b : Beginning) (past : List Record) → IsEvent e bytes
    → Advanced (with_event e bytes old.counts) old new disk left → IsRooted new.holding.store.descriptor (entry new.holding.book) → Ledger b old past
    → Ledger b new (record_of e bytes ∷ past)
ledger_on e bytes old new disk left b past is a rooted l = record {
  swarm = a.advances.descriptor ∙ l.swarm;
  served = more_served e (serves_on b.d (entry old.holding.book) (entry new.holding.book) (lets_send b.d.chunk) a.advances.entries
      (subst (λ (d : Descriptor). IsRooted d (entry new.holding.book)) (a.advances.descriptor ∙ l.swarm) rooted) past l.served);
  plans = more_plans e l.plans;
  announced = more_announced _ e (announced_on b.d _ _ past (λ moment i p. (a.advances.committed i p.0, p.1)) l.announced);
  tied = tied_more e bytes old.counts new.counts past is a.counts_are l.tied;
}
  where
    more_served : (e : Event) → ServesAll b.d (entry new.holding.book) (lets_send b.d.chunk) past
        → ServesAll b.d (entry new.holding.book) (lets_send b.d.chunk) (record_of e bytes ∷ past)
    more_served (events.Datagram sender len at) s = (tt, s)
    more_served (events.Quiet at) s = (tt, s)

    more_plans : (e : Event) → PlansAll b.d (lets_send b.d.chunk) past → PlansAll b.d (lets_send b.d.chunk) (record_of e bytes ∷ past)
    more_plans (events.Datagram sender len at) s = (tt, s)
    more_plans (events.Quiet at) s = (tt, s)

    more_announced : (P : ℕ → ℕ → Type 0) (e : Event) → EachAnnounced b.d P past → EachAnnounced b.d P (record_of e bytes ∷ past)
    more_announced P (events.Datagram sender len at) s = s
    more_announced P (events.Quiet at) s = s

-- Nor does it announce anything.
pub holds_on : (e : Event) (bytes : List ℕ) (x : Setting) (held more : ℕ → Bool) (past : List Record) → ((i : ℕ) → held i ≡ true → more i ≡ true)
    → HoldsAnnounced x held past → HoldsAnnounced x more (record_of e bytes ∷ past)
holds_on e bytes x held more past grows h = record {
  found = λ i f. grows i (h.found i f);
  announced = λ i f. grows i (h.announced i (before e i f));
  known = λ seat i f. grows i (h.known seat i f);
}
  where
    before : (e : Event) (i : ℕ) → is_announced x.d i (record_of e bytes ∷ past) ≡ true → is_announced x.d i past ≡ true
    before (events.Datagram sender len at) i f = f
    before (events.Quiet at) i f = f

pub stands_on : (e : Event) (bytes : List ℕ) (old new : Parts) (disk left : DiskState) (b : Beginning) (most : ℕ) (past : List Record) → IsEvent e bytes
    → Advanced (with_event e bytes old.counts) old new disk left → IsRooted new.holding.store.descriptor (entry new.holding.book)
    → KeepsSeats (record_of e bytes) old new → (Fetches old → Fetches new) → StandsFor b most old past → StandsFor b most new (record_of e bytes ∷ past)
stands_on e bytes old new disk left b most past is a rooted seats fetches s = record {
  ledger = ledger_on e bytes old new disk left b past is a rooted s.ledger;
  known_of = s.known_of;
  seats = seats (setting b s.known_of) most past s.seats;
  holds = holds_on e bytes (setting b s.known_of) (is_committed old.holding.store) (is_committed new.holding.store) past a.advances.committed s.holds;
  fetches = fetches s.fetches;
}
