-- What a flush leaves, and what closing the channels does, over another link that gains the same records.
use Rattle.std.proofs.Common.{◌≡◌, ℕ, List, ap, sym, subst}
use Rattle.pp_terms.specs.disk.Disk.{DiskState}
use Rattle.pp_terms.specs.format.Traffic.{LinkState, Record}
use Rattle.pp_peer.specs.Flushing.{Scene, Flushes}
use Rattle.pp_peer.specs.Greeting.{Parting}
use Rattle.pp_core.specs.Peers.{PeerState}
use Rattle.pp_core.specs.Promising.{Promises}
use Rattle.pp_core.specs.Turning.{Closes}
use Rattle.pp_turns.specs.Alike.{GainsAlike}
use Rattle.pp_turns.specs.Taking.{Finishes}
use Rattle.pp_turns.specs.Turning.{Post}
use Rattle.pp_turns.proofs.Steps.{Flushed}
use Rattle.pp_turns.proofs.Turned.{finish_whole}

-- a link that refused as often as another
abbrev pub as_often : LinkState → LinkState → LinkState
as_often one other = record other { faults = one.faults }

often_is : (one other : LinkState) → other.faults ≡ one.faults → as_often one other ≡ other
often_is one other is = ap (λ (n : ℕ). record other { faults = n }) (sym is)

-- the same scene over another link
abbrev over : LinkState → Scene → Scene
over link s = record s { link = as_often s.link link }

abbrev flushes_alike : (refused : ℕ) (old new : Scene) (seen seen' : LinkState) → GainsAlike old.link new.link seen seen'
    → Flushes refused old new → Flushes refused (over seen old) (over seen' new)
flushes_alike refused old new seen seen' alike f = record {
  added = f.added;
  gained = alike.gained f.added f.gained;
  nexts = alike.nexts;
  bound = alike.bound;
  later = f.later;
  ours = f.ours;
  seeds = f.seeds;
  waits = f.waits;
  reads = f.reads;
  holding = f.holding;
  swarm = f.swarm;
  moment = f.moment;
  stands = f.stands;
}

-- the same post over another link
abbrev across : LinkState → Post → Post
across link p = record p { link = as_often p.link link }

abbrev flushed_alike : (refused : ℕ) (old new : Post) (seen seen' : LinkState) → GainsAlike old.link new.link seen seen'
    → Flushed refused old new → Flushed refused (across seen old) (across seen' new)
flushed_alike refused old new seen seen' alike c = record {
  sent = c.sent;
  flushes = flushes_alike refused _ _ seen seen' alike c.flushes;
  goes = c.goes;
  rest = c.rest;
}

promises_alike : (refused : ℕ) (old new : PeerState) (link later seen seen' : LinkState) (disk left : DiskState) (added : List Record)
    → GainsAlike link later seen seen' → Promises refused old new link later disk left added
    → Promises refused old new (as_often link seen) (as_often later seen') disk left added
promises_alike refused old new link later seen seen' disk left added alike p = record {
  closes_none = λ b most past before since stands is. p.closes_none b most past (alike.tells before is).0 since stands (alike.tells before is).1;
  serves = p.serves;
  lost = λ reads. p.lost (record { known = reads.known; there = reads.there });
  wrote = λ b most past before since stands is. p.wrote b most past (alike.tells before is).0 since stands (alike.tells before is).1;
  keeps_up = λ b most past before stands is. p.keeps_up b most past (alike.tells before is).0 stands (alike.tells before is).1;
  lets_in = λ event bytes start absorbs fits b most still past before stands now is.
      p.lets_in event bytes start absorbs fits b most still past (alike.tells before is).0 stands now (alike.tells before is).1;
  dials = λ b most addresses past before stands are short few is.
      p.dials b most addresses past (alike.tells before is).0 stands are short few (alike.tells before is).1;
  unchoked = λ b most past before stands is. p.unchoked b most past (alike.tells before is).0 stands (alike.tells before is).1;
  told = λ b most past before since stands is. p.told b most past (alike.tells before is).0 since stands (alike.tells before is).1;
  tells = λ b most past before h since stands is. p.tells b most past (alike.tells before is).0 h since stands (alike.tells before is).1;
  taken = p.taken;
  unrepeated = p.unrepeated;
  acks = λ b most past before since stands is. p.acks b most past (alike.tells before is).0 since stands (alike.tells before is).1;
  acknowledges = λ event bytes start absorbs b most past before since stands is.
      p.acknowledges event bytes start absorbs b most past (alike.tells before is).0 since stands (alike.tells before is).1;
  offers = p.offers;
  asks = p.asks;
  below = λ b most past before n stands is. p.below b most past (alike.tells before is).0 n stands (alike.tells before is).1;
  limit = p.limit;
}

pub finish_alike : (old new : Post) (refused : ℕ) → (course : Flushed refused old new)
    → Promises refused old.peer new.peer old.link new.link old.disk new.disk course.flushes.added → (seen seen' : LinkState)
    → GainsAlike old.link new.link seen seen' → Finishes (record old { link = seen }) (record new { link = seen' })
finish_alike old new refused course promises seen seen' alike =
    subst (λ (l : LinkState). Finishes (record old { link = l }) (record new { link = seen' })) (often_is old.link seen alike.before)
    (subst (λ (l : LinkState). Finishes (across seen old) (record new { link = l })) (often_is new.link seen' alike.after)
    (finish_whole (across seen old) (across seen' new) refused (flushed_alike refused old new seen seen' alike course)
    (promises_alike refused old.peer new.peer old.link new.link seen seen' old.disk new.disk course.flushes.added alike promises)))

parting_alike : (old new : Scene) (seen seen' : LinkState) → GainsAlike old.link new.link seen seen'
    → (p : Parting 64 old new) → Parting 64 (over seen old) (over seen' new)
parting_alike old new seen seen' alike p = record {
  flushes = flushes_alike 0 old new seen seen' alike p.flushes;
  each = p.each;
  others = p.others;
  once = p.once;
  counted = p.counted;
  fars = p.fars;
  rest = p.rest;
}

closes_often : (old new : PeerState) (link later seen seen' : LinkState) (disk : DiskState) → GainsAlike link later seen seen'
    → Closes old new link later disk → Closes old new (as_often link seen) (as_often later seen') disk
unfolding parting_alike
closes_often old new link later seen seen' disk alike c = record {
  parting = parting_alike _ _ seen seen' alike c.parting;
  goes = c.goes;
  rest = c.rest;
}

-- The channels closed over the other link, too.
pub closes_alike : (old new : PeerState) (link later seen seen' : LinkState) (disk : DiskState) → GainsAlike link later seen seen'
    → Closes old new link later disk → Closes old new seen seen' disk
closes_alike old new link later seen seen' disk alike c =
    subst (λ (l : LinkState). Closes old new l seen' disk) (often_is link seen alike.before)
    (subst (λ (l : LinkState). Closes old new (as_often link seen) l disk) (often_is later seen' alike.after)
    (closes_often old new link later seen seen' disk alike c))
