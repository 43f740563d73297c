-- What a flush leaves, in the words of what a peer promises.
use Rattle.std.proofs.Common.{ℕ, ◌<◌, List, ◌∙◌, ap}
use Rattle.std.proofs.lemmas.Bool.{or_left}
use Rattle.pp_terms.specs.disk.Disk.{DiskState}
use Rattle.pp_terms.specs.format.Descriptor.{chunks_of}
use Rattle.pp_terms.specs.format.Traffic.{LinkState, Record}
use Rattle.pp_holding.specs.Holding.{HasWaiting}
use Rattle.pp_peer.specs.Delivering.{ReadsRight}
use Rattle.pp_peer.proofs.Dialled.{all_dialling}
use Rattle.pp_core.specs.Keeping.{IsKeeping}
use Rattle.pp_core.specs.Peers.{PeerState}
use Rattle.pp_core.specs.Promising.{Promises}
use Rattle.pp_core.specs.Turning.{scene, Sends}
use Rattle.pp_core.proofs.Acknowledging.{turn_acknowledges}
use Rattle.pp_core.proofs.Below.{flush_asks_below}
use Rattle.pp_core.proofs.Closing.{flush_closes_none}
use Rattle.pp_core.proofs.Counted.{sends_counted}
use Rattle.pp_core.proofs.Dialled.{first_dials}
use Rattle.pp_core.proofs.Firsts.{flush_acks, flush_unrepeated}
use Rattle.pp_core.proofs.LatelySent.{flush_wrote}
use Rattle.pp_core.proofs.LetsIn.{turn_lets_in}
use Rattle.pp_core.proofs.Offered.{flush_offers, flush_asks_all, sends_limit}
use Rattle.pp_core.proofs.Remembered.{flush_keeps, flush_taken}
use Rattle.pp_core.proofs.Served.{flush_serves}
use Rattle.pp_core.proofs.StaysTold.{all_below}
use Rattle.pp_core.proofs.Telling.{flush_tells}
use Rattle.pp_core.proofs.Unchoked.{flush_unchoked}
use Rattle.pp_core.proofs.Writing.{flush_keeps_up}

-- What is committed reads right while the peer keeps its disk.
pub keeping_reads : (since : ℕ) (p : PeerState) (link : LinkState) (disk : DiskState) (past : List Record) → IsKeeping since p disk past
    → ReadsRight (scene p.parts link disk)
keeping_reads since p link disk past k = record {
  known = k.kept.known;
  there = λ i committed. k.kept.agrees.chunks i (or_left _ _ committed);
}

pub flush_promises : (refused : ℕ) (old new : PeerState) (link later : LinkState) (disk left : DiskState)
    → (course : Sends refused old new link later disk left)
    → HasWaiting old.parts.holding.store old.parts.holding.queue.waiting → 0 < old.parts.holding.store.descriptor.chunk
    → Promises refused old new link later disk left course.flushes.added
flush_promises refused old new link later disk left course waits some = record {
  closes_none = flush_closes_none refused old new link later disk left course;
  serves = λ b most past h since stands found. flush_serves refused old new link later disk left course waits.committed_size some b most past h since stands found;
  lost = sends_counted refused old new link later disk left course
      (all_dialling old.dials new.dials (scene course.sends.given link disk) course.sends.dials_all.0 course.sends.dialled
      course.sends.dials_all.1 course.sends.dials_all.2).flushes.later;
  wrote = λ b most past before since stands tells keeps. flush_wrote refused old new link later disk left course b most past before since stands tells keeps;
  unchoked = λ b most past before stands tells was. flush_unchoked refused old new link later disk left course b most past before stands tells was;
  told = λ b most past before since stands tells none keeps. flush_keeps refused old new link later disk left course b most past before since stands
      tells none keeps;
  tells = λ b most past before h since stands tells none found keeps. flush_tells refused old new link later disk left course b most past before h
      since stands (waits.committed_size ∙ ap chunks_of stands.ledger.swarm) tells none found (all_below b.d old.parts past keeps.told) keeps.passes;
  taken = flush_taken refused old new link later disk left course;
  unrepeated = flush_unrepeated refused old new link later disk left course;
  acks = λ b most past before since stands tells none book acks. flush_acks refused old new link later disk left course b most past before since stands
      tells none book acks;
  acknowledges = λ event bytes start absorbs b most past before since stands tells book awaits.
      turn_acknowledges refused event bytes (record old { parts = start }) old new link later disk left absorbs course b most past before since stands
      tells book awaits;
  dials = λ b most addresses past before stands are_new short few tells counts.
      first_dials refused old new link later disk left course b most addresses past before stands are_new short few tells counts;
  lets_in = λ event bytes start absorbs fits b most still past before was stands tells.
      turn_lets_in event bytes refused (record old { parts = start }) old new link later disk left absorbs course fits b most still past before was
      stands tells;
  offers = λ b most past since stands keeps. flush_offers refused old new link later disk left course b most past since stands keeps;
  asks = λ b most past n since stands keeps is inside others contains.
      flush_asks_all refused old new link later disk left course b most past since stands keeps n waits is inside others contains;
  limit = sends_limit refused old new link later disk left course;
  below = λ b most past before n stands tells is. flush_asks_below refused old new link later disk left course b most past before n stands tells is;
  keeps_up = λ b most past before stands tells keeps. flush_keeps_up refused old new link later disk left course b most past before stands keeps tells;
}
