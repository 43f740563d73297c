-- What is sent step by step, and one record more of what went.
use Rattle.std.proofs.Common.{◌≡◌, ℕ, ◌+◌, ◌≤◌, Bool, true, ◌||◌, Option, List, [], ◌∷◌, ◌++◌, refl, sym, ◌∙◌, ap, subst, arith, append_assoc}
use Rattle.std.specs.List.{AllByRecursion, list_any}
use Rattle.std.proofs.lemmas.List.Folds.{list_any-append}
use Rattle.pp_terms.specs.Count.{one_more}
use Rattle.pp_terms.specs.disk.Disk.{History, moment_of}
use Rattle.pp_terms.specs.format.Traffic.{Address, Record, Sent}
use Rattle.pp_terms.specs.format.Descriptor.{Descriptor}
use Rattle.pp_terms.specs.format.Messages.{Message, Handshake, Data, Ack, Have, Integrity, Pex4, PexReq, Request, Cancel, Choke, Unchoke, Pex6}
use Rattle.pp_terms.specs.tree.Book.{LookUp}
use Rattle.pp_terms.proofs.Risings.{gains_nothing, gains_twice}
use Rattle.pp_tree.specs.Book.{entry}
use Rattle.pp_traffic.specs.Past.{read}
use Rattle.pp_traffic.specs.Committed.{requests}
use Rattle.pp_traffic.specs.Meter.{lets_send}
use Rattle.pp_traffic.specs.Serving.{Window, ServesFrom, Serves, ServesAll}
use Rattle.pp_traffic.specs.Keeping.{announces}
use Rattle.pp_traffic.specs.Tallied.{went}
use Rattle.pp_promises.specs.Datagrams.{PlansFrom, Plans}
use Rattle.pp_store.specs.Store.{is_committed}
use Rattle.pp_counts.specs.declared.counts.Counts.{Counts}
use Rattle.pp_desk.specs.Hearing.{IsNoData}
use Rattle.pp_holding.specs.Holding.{HoldingState}
use Rattle.pp_peer.specs.declared.parts.Parts.{Parts}
use Rattle.pp_peer.specs.Standing.{Beginning, Ledger, StandsFor}
use Rattle.pp_peer.specs.Flushing.{IsOurs, Scene, Flushes}
use Rattle.pp_peer.proofs.Ledgers.{announced_on, capped_more}

-- ---- steps

pub all_both : (P : Record → Type 0) (xs ys : List Record) → AllByRecursion P xs → AllByRecursion P ys → AllByRecursion P (xs ++ ys)
all_both P [] ys a b = b
all_both P (x ∷ xs) ys a b = (a.0, all_both P xs ys a.1 b)

unfoldable pub flushes_none : (s : Scene) → Flushes 0 s s
flushes_none s = record {
  added = [];
  gained = gains_nothing s.link.traffic s.link.traffic refl;
  nexts = refl;
  bound = refl;
  later = omega arith;
  ours = tt;
  seeds = λ none. record { fetching = none; asks = refl };
  waits = record { turns = refl; receive_faults = refl };
  reads = record { tells = refl; honest = refl; same = refl; faults = omega arith; hard = omega arith };
  holding = refl;
  swarm = refl;
  moment = refl;
  stands = λ b most past since h. subst (λ (n : ℕ). StandsFor b n s.parts past) (zero_more most) h;
}
  where
    zero_more : (n : ℕ) → n ≡ n + 0
    zero_more n = omega arith

unfoldable pub flushes_twice : (m n : ℕ) (a b c : Scene) → Flushes m a b → Flushes n b c → Flushes (m + n) a c
flushes_twice m n a b c one two = record {
  added = two.added ++ one.added;
  gained = gains_twice a.link.traffic b.link.traffic c.link.traffic one.added two.added one.gained two.gained;
  nexts = two.nexts ∙ one.nexts;
  bound = two.bound ∙ one.bound;
  later = omega (arith, one.later, two.later);
  ours = all_both (IsOurs a.parts.seats.descriptor (moment_of a.disk.history)) two.added one.added
      (subst (λ (d : Descriptor). AllByRecursion (IsOurs d (moment_of a.disk.history)) two.added) one.swarm
      (subst (λ (h : History). AllByRecursion (IsOurs b.parts.seats.descriptor (moment_of h)) two.added) one.reads.same two.ours))
      one.ours;
  seeds = λ none.
      let first = one.seeds none in
      let then = two.seeds first.fetching in
      record {
        fetching = then.fetching;
        asks = list_any-append (requests a.parts.seats.descriptor) two.added one.added
            ∙ ap (λ (x : Bool). x || list_any (requests a.parts.seats.descriptor) one.added)
            (ap (λ (d : Descriptor). list_any (requests d) two.added) (sym one.swarm) ∙ then.asks)
            ∙ first.asks;
      };
  waits = record { turns = two.waits.turns ∙ one.waits.turns; receive_faults = two.waits.receive_faults ∙ one.waits.receive_faults };
  reads = record {
    tells = two.reads.tells ∙ one.reads.tells;
    honest = two.reads.honest ∙ one.reads.honest;
    same = two.reads.same ∙ one.reads.same;
    faults = omega (arith, one.reads.faults, two.reads.faults);
    hard = omega (arith, one.reads.hard, two.reads.hard);
  };
  holding = two.holding ∙ one.holding;
  swarm = two.swarm ∙ one.swarm;
  moment = two.moment ∙ one.moment;
  stands = λ x most past since h.
      subst (λ (k : ℕ). StandsFor x k c.parts ((two.added ++ one.added) ++ past)) (sum most)
      (subst (λ (rs : List Record). StandsFor x ((most + m) + n) c.parts rs) (sym (append_assoc two.added one.added past))
      (two.stands x (most + m) (one.added ++ past)
      (subst (λ (h : History). x.since ≤ moment_of h) (sym one.reads.same) since) (one.stands x most past since h)));
}
  where
    sum : (k : ℕ) → (k + m) + n ≡ k + (m + n)
    sum k = omega arith

pub twice_added : (m n : ℕ) (a b c : Scene) (one : Flushes m a b) (two : Flushes n b c) → (flushes_twice m n a b c one two).added ≡ two.added ++ one.added
unfolding flushes_twice
twice_added m n a b c one two = refl

pub none_added : (s : Scene) → (flushes_none s).added ≡ []
unfolding flushes_none
none_added s = refl

-- ---- datagrams without a chunk

pub serves_plain : (d : Descriptor) (book : LookUp) (window : Window) (past : List Record) (receiver : Address) (channel : Option ℕ) (front ms : List Message)
    → AllByRecursion IsNoData ms → ServesFrom d book window past receiver channel front ms
serves_plain d book window past receiver channel front [] a = tt
serves_plain d book window past receiver channel front (Data i sent_at bytes ∷ ms) a = absurd a.0
serves_plain d book window past receiver channel front (Handshake source options ∷ ms) a = serves_plain d book window past receiver channel _ ms a.1
serves_plain d book window past receiver channel front (Ack span delay ∷ ms) a = serves_plain d book window past receiver channel _ ms a.1
serves_plain d book window past receiver channel front (Have span ∷ ms) a = serves_plain d book window past receiver channel _ ms a.1
serves_plain d book window past receiver channel front (Integrity span digest ∷ ms) a = serves_plain d book window past receiver channel _ ms a.1
serves_plain d book window past receiver channel front (Pex4 address port ∷ ms) a = serves_plain d book window past receiver channel _ ms a.1
serves_plain d book window past receiver channel front (PexReq ∷ ms) a = serves_plain d book window past receiver channel _ ms a.1
serves_plain d book window past receiver channel front (Request span ∷ ms) a = serves_plain d book window past receiver channel _ ms a.1
serves_plain d book window past receiver channel front (Cancel span ∷ ms) a = serves_plain d book window past receiver channel _ ms a.1
serves_plain d book window past receiver channel front (Choke ∷ ms) a = serves_plain d book window past receiver channel _ ms a.1
serves_plain d book window past receiver channel front (Unchoke ∷ ms) a = serves_plain d book window past receiver channel _ ms a.1
serves_plain d book window past receiver channel front (Pex6 address port ∷ ms) a = serves_plain d book window past receiver channel _ ms a.1

pub plans_plain : (d : Descriptor) (window : Window) (past : List Record) (receiver : Address) (channel : Option ℕ) (front ms : List Message)
    → AllByRecursion IsNoData ms → PlansFrom d window past receiver channel front ms
plans_plain d window past receiver channel front [] a = tt
plans_plain d window past receiver channel front (Data i sent_at bytes ∷ ms) a = absurd a.0
plans_plain d window past receiver channel front (Handshake source options ∷ ms) a = plans_plain d window past receiver channel _ ms a.1
plans_plain d window past receiver channel front (Ack span delay ∷ ms) a = plans_plain d window past receiver channel _ ms a.1
plans_plain d window past receiver channel front (Have span ∷ ms) a = plans_plain d window past receiver channel _ ms a.1
plans_plain d window past receiver channel front (Integrity span digest ∷ ms) a = plans_plain d window past receiver channel _ ms a.1
plans_plain d window past receiver channel front (Pex4 address port ∷ ms) a = plans_plain d window past receiver channel _ ms a.1
plans_plain d window past receiver channel front (PexReq ∷ ms) a = plans_plain d window past receiver channel _ ms a.1
plans_plain d window past receiver channel front (Request span ∷ ms) a = plans_plain d window past receiver channel _ ms a.1
plans_plain d window past receiver channel front (Cancel span ∷ ms) a = plans_plain d window past receiver channel _ ms a.1
plans_plain d window past receiver channel front (Choke ∷ ms) a = plans_plain d window past receiver channel _ ms a.1
plans_plain d window past receiver channel front (Unchoke ∷ ms) a = plans_plain d window past receiver channel _ ms a.1
plans_plain d window past receiver channel front (Pex6 address port ∷ ms) a = plans_plain d window past receiver channel _ ms a.1

-- ---- one record more

-- A datagram was counted as sent, and no other count that the records tell changed.
pub record CountsSent (old new : Counts) : Type 0 where
  pub datagrams : new.datagrams ≡ old.datagrams
  pub short : new.short ≡ old.short
  pub sent : new.sent ≡ one_more old.sent

pub ledger_sent : (b : Beginning) (old new : Parts) (moment : ℕ) (receiver : Address) (bytes : List ℕ) (past : List Record) → new.holding ≡ old.holding
    → CountsSent old.counts new.counts
    → Serves b.d (entry old.holding.book) (lets_send b.d.chunk) past (Sent moment receiver bytes) → Plans b.d (lets_send b.d.chunk) past (Sent moment receiver bytes)
    → ((i : ℕ) → announces i (read b.d (Sent moment receiver bytes)).messages.read ≡ true → is_committed old.holding.store i ≡ true) → b.since ≤ moment
    → Ledger b old past → Ledger b new (Sent moment receiver bytes ∷ past)
ledger_sent b old new moment receiver bytes past same counts serves plans announced since l = record {
  swarm = ap (λ (h : HoldingState). h.store.descriptor) same ∙ l.swarm;
  served = (
    subst (λ (h : HoldingState). Serves b.d (entry h.book) (lets_send b.d.chunk) past (Sent moment receiver bytes)) (sym same) serves,
    subst (λ (h : HoldingState). ServesAll b.d (entry h.book) (lets_send b.d.chunk) past) (sym same) l.served,
  );
  plans = (plans, l.plans);
  announced = (
    λ i e. (ap (λ (h : HoldingState). is_committed h.store i) same ∙ announced i e, since),
    announced_on b.d _ _ past (λ at i p. (ap (λ (h : HoldingState). is_committed h.store i) same ∙ p.0, p.1)) l.announced,
  );
  tied = record {
    datagrams = counts.datagrams ∙ l.tied.datagrams;
    short = counts.short ∙ l.tied.short;
    sent = counts.sent ∙ ap one_more l.tied.sent ∙ capped_more (went past);
  };
}
