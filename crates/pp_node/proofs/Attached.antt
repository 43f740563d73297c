-- A run, from what it does once its disk was attached.
use Rattle.std.proofs.Common.{ℕ, ◌<◌, List, Ok, arith}
use Rattle.pp_terms.specs.disk.Disk.{DiskState, IsKnown, DoesAttach}
use Rattle.pp_terms.specs.command.Stream.{SourceState, SinkState}
use Rattle.pp_terms.proofs.Knowing.{known_on}
use Rattle.pp_node.specs.declared.status.Status.{Status}
use Rattle.pp_node.specs.declared.status.Status.TheVariants.{Done, Usage, NotAStore, Incomplete, DiskFault, LinkFault, SourceFault, SinkFault, NotEmpty, ContentSize, Schedule, Memory, Damaged, AuditNo, Recording, NoLife, TooLarge, Shape}
use Rattle.pp_terms.specs.format.Traffic.{LinkState}
use Rattle.pp_tree.specs.Book.{BookState}
use Rattle.pp_node.specs.Outside.{outside}
use Rattle.pp_node.specs.Run.{IsStored, ImportsIn, IsImportRun}

module _ {E : Type 0} {name : List ℕ} (chunk : ℕ) (source source' : SourceState) (sink sink' : SinkState) (old mid new : DiskState) (attached : DoesAttach {E = E} old name (Ok tt) mid) where
  known_mid : IsKnown old → IsKnown mid
  known_mid = known_on old mid attached.call.tells attached.call.honest

  stored_since : IsStored chunk source mid new → IsStored chunk source old new
  stored_since s = record { fits = s.fits; stored = λ known. s.stored (known_mid known) }

  pub ends_since : (link : LinkState) (book : BookState) (status : Status) → ImportsIn status chunk (outside mid link source sink book) (outside new link source' sink' book)
      → ImportsIn status chunk (outside old link source sink book) (outside new link source' sink' book)
  ends_since link book Done e = record { import = stored_since e.import; printed = e.printed }
  ends_since link book DiskFault e = record {
    risen = λ below. let r : mid.faults < new.faults = e.risen below in omega (arith, attached.call.cause.later, r);
    hard = λ below. let r : mid.hard < new.hard = e.hard below in omega (arith, attached.hard_cause.later, r);
    said = e.said;
  }
  ends_since link book SourceFault e = record { risen = e.risen; no_store = λ known. e.no_store (known_mid known); said = e.said }
  ends_since link book SinkFault e = record { import = stored_since e.import; risen = e.risen }
  ends_since link book NotEmpty e = record {
    len = e.len;
    some = e.some;
    counted = λ known. e.counted (known_mid known);
    unwritten = λ known. e.unwritten (known_mid known);
    unread = e.unread;
    said = e.said;
  }
  ends_since link book ContentSize e = record { count = e.count; either = e.either; counted = e.counted; no_store = λ known. e.no_store (known_mid known); said = e.said }
  ends_since link book Usage e = e
  ends_since link book NotAStore e = e
  ends_since link book LinkFault e = e
  ends_since link book Incomplete e = e
  ends_since link book Schedule e = e
  ends_since link book Memory e = e
  ends_since link book Damaged e = e
  ends_since link book AuditNo e = e
  ends_since link book Recording e = e
  ends_since link book NoLife e = e
  ends_since link book TooLarge e = e
  ends_since link book Shape e = e

  pub run_since : (status : Status) → IsImportRun status chunk source source' mid new → IsImportRun status chunk source source' old new
  run_since status r = record {
    whole = λ known. r.whole (known_mid known);
    sound = λ known. r.sound (known_mid known);
    no_store = λ known. r.no_store (known_mid known);
    refused = λ known. r.refused (known_mid known);
    unwritten = λ known. r.unwritten (known_mid known);
    unread = λ known. r.unread (known_mid known);
    takes = r.takes;
  }
