-- All that goes out in one turn, and the peer stands for it.
use Rattle.std.proofs.Common.{◌≡◌, ℕ, ◌+◌, Option, Some, None, [], length, refl, sym, ◌∙◌, ap, subst, arith}
use Rattle.std.proofs.lemmas.Option.{same_Some}
use Rattle.pp_terms.specs.disk.Disk.{DiskState}
use Rattle.pp_terms.specs.format.Descriptor.{chunks_of}
use Rattle.pp_terms.specs.format.Traffic.{LinkState}
use Rattle.pp_fetching.specs.Fetching.{FetchState}
use Rattle.pp_wanting.specs.Wants.{WantState}
use Rattle.pp_peer.specs.declared.parts.Parts.{Parts}
use Rattle.pp_peer.specs.Flushing.{Scene, Flushes}
use Rattle.pp_peer.specs.Greeting.{wanted_of, Drops, GivesUp}
use Rattle.pp_peer.specs.Dialling.{OnlyDials}
use Rattle.pp_peer.specs.Serving.{OnlySeats}
use Rattle.pp_peer.specs.Standing.{IsWhole}
use Rattle.pp_peer.proofs.Flushed.{flushes_twice}
use Rattle.pp_peer.proofs.Turned.{IsQuiet, quiet_flushes}

-- ---- what is wanted

none_wanted : (old new : Option FetchState) → wanted_of new ≡ wanted_of old → old ≡ None → new ≡ None
none_wanted old None same none = refl
none_wanted None (Some f) same none = absurd cc
none_wanted (Some g) (Some f) same none = absurd cc

had_kept : (old new : Option FetchState) (chunks : ℕ) → wanted_of new ≡ wanted_of old → ((f : FetchState) → old ≡ Some f → length f.want.had ≡ chunks)
    → (f : FetchState) → new ≡ Some f → length f.want.had ≡ chunks
had_kept None new chunks same content f e = let x : Some (record { had = f.want.had; asked = []; limit = f.want.limit }) ≡ None = sym (ap wanted_of e) ∙ same in absurd cc
had_kept (Some g) new chunks same content f e =
    ap (λ (w : WantState). length w.had) (same_Some (record { had = f.want.had; asked = []; limit = f.want.limit })
    (record { had = g.want.had; asked = []; limit = g.want.limit }) (sym (ap wanted_of e) ∙ same))
    ∙ content g refl

-- the same content of the same swarm
wholly : (old new : Parts) → new.holding ≡ old.holding → new.seats.descriptor ≡ old.seats.descriptor → wanted_of new.fetching ≡ wanted_of old.fetching
    → IsWhole old → IsWhole new
wholly old new holding swarm wanted w = record {
  swarm = swarm ∙ w.swarm ∙ ap (λ h. h.store.descriptor) (sym holding);
  content = λ f e. had_kept old.fetching new.fetching (chunks_of old.holding.store.descriptor) wanted w.content f e ∙ ap (λ h. chunks_of h.store.descriptor) (sym holding);
}

-- ---- what ends

pub drops_quiet : (old new : Parts) → Drops old new → IsQuiet old new
drops_quiet old new d = record {
  holding = ap (λ (p : Parts). p.holding) d.rest;
  swarm = d.swarm;
  moment = d.moment;
  fetching = none_wanted old.fetching new.fetching d.wanted;
  waits = record { turns = ap (λ (p : Parts). p.counts.turns) d.rest; receive_faults = ap (λ (p : Parts). p.counts.receive_faults) d.rest };
  stands = d.stands;
}

pub drops_whole : (old new : Parts) → Drops old new → IsWhole old → IsWhole new
drops_whole old new d = wholly old new (ap (λ (p : Parts). p.holding) d.rest) d.swarm d.wanted

pub gives_quiet : (old new : Parts) → GivesUp old new → IsQuiet old new
gives_quiet old new d = record {
  holding = ap (λ (p : Parts). p.holding) d.rest;
  swarm = ap (λ (p : Parts). p.seats.descriptor) d.rest;
  moment = ap (λ (p : Parts). p.seats.moment) d.rest;
  fetching = none_wanted old.fetching new.fetching d.wanted;
  waits = record { turns = ap (λ (p : Parts). p.counts.turns) d.rest; receive_faults = ap (λ (p : Parts). p.counts.receive_faults) d.rest };
  stands = d.stands;
}

pub gives_whole : (old new : Parts) → GivesUp old new → IsWhole old → IsWhole new
gives_whole old new d = wholly old new (ap (λ (p : Parts). p.holding) d.rest) (ap (λ (p : Parts). p.seats.descriptor) d.rest) d.wanted

-- ---- what goes

pub dials_whole : (old new : Scene) → OnlyDials old.parts new.parts → Flushes 0 old new → IsWhole old.parts → IsWhole new.parts
dials_whole old new only f = wholly old.parts new.parts f.holding f.swarm (ap (λ (p : Parts). wanted_of p.fetching) only)

pub serves_whole : (refused : ℕ) (old new : Scene) → OnlySeats old.parts new.parts → Flushes refused old new → IsWhole old.parts → IsWhole new.parts
serves_whole refused old new only f = wholly old.parts new.parts f.holding f.swarm (ap (λ (p : Parts). wanted_of p.fetching) only)

-- all of it, one after the other
pub all_flushes : (unsaid unserved : ℕ) (p0 p1 p2 p3 p4 p5 p6 : Parts) (l0 l3 l5 l6 : LinkState) (disk left : DiskState) → IsQuiet p0 p1 → IsQuiet p1 p2
    → Flushes 0 (record { parts = p2; link = l0; disk = disk }) (record { parts = p3; link = l3; disk = disk }) → IsQuiet p3 p4
    → Flushes unsaid (record { parts = p4; link = l3; disk = disk }) (record { parts = p5; link = l5; disk = disk })
    → Flushes unserved (record { parts = p5; link = l5; disk = disk }) (record { parts = p6; link = l6; disk = left })
    → Flushes (unsaid + unserved) (record { parts = p0; link = l0; disk = disk }) (record { parts = p6; link = l6; disk = left })
all_flushes unsaid unserved p0 p1 p2 p3 p4 p5 p6 l0 l3 l5 l6 disk left drops gives dials turns says serves =
    subst (λ (n : ℕ). Flushes n (at p0 l0 disk) (at p6 l6 left)) (sum unsaid unserved)
    (flushes_twice ((((0 + 0) + 0) + 0) + unsaid) unserved (at p0 l0 disk) (at p5 l5 disk) (at p6 l6 left)
    (flushes_twice (((0 + 0) + 0) + 0) unsaid (at p0 l0 disk) (at p4 l3 disk) (at p5 l5 disk)
    (flushes_twice ((0 + 0) + 0) 0 (at p0 l0 disk) (at p3 l3 disk) (at p4 l3 disk)
    (flushes_twice (0 + 0) 0 (at p0 l0 disk) (at p2 l0 disk) (at p3 l3 disk)
    (flushes_twice 0 0 (at p0 l0 disk) (at p1 l0 disk) (at p2 l0 disk) (quiet_flushes p0 p1 l0 disk drops) (quiet_flushes p1 p2 l0 disk gives)) dials)
    (quiet_flushes p3 p4 l3 disk turns)) says) serves)
  where
    at : Parts → LinkState → DiskState → Scene
    at p l d = record { parts = p; link = l; disk = d }

    sum : (n m : ℕ) → ((((0 + 0) + 0) + 0) + n) + m ≡ n + m
    sum n m = omega arith
