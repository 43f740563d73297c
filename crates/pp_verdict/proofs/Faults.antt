-- A record at which a part fails doesn't serve.
use Rattle.std.proofs.Common.{List}
use Rattle.pp_terms.specs.format.Traffic.{Record}
use Rattle.pp_terms.specs.format.Descriptor.{Descriptor}
use Rattle.pp_terms.specs.tree.Book.{LookUp}
use Rattle.pp_traffic.specs.Life.{Life}
use Rattle.pp_traffic.specs.Serving.{window_of}
use Rattle.pp_verdict.specs.Chunks.{SentChunk}
use Rattle.pp_verdict.specs.Faults.{Suits, Passes, FailsOn, FailsOnLives, FailsChunk, FaultsDoNotServe}
use Rattle.pp_verdict.specs.declared.answer.Part.{Part}
use Rattle.pp_verdict.specs.declared.answer.Part.TheVariants as parts
use Rattle.pp_verdict.proofs.Chunks.{IsServing, serves_chunk}

-- a chunk serves on a life that it suits and where it passes
pub serving_suits : (d : Descriptor) (book : LookUp) (past : List Record) (c : SentChunk) → IsServing d book (window_of d) past c
    → (life : Life) × Suits d past c life × Passes d book past c life
serving_suits d book past c s =
    let a = s.peer.answers in (
      s.peer.life,
      record { at = s.peer.at; by = s.peer.by; alive = a.alive },
      record { asked_for = a.asked_for; unchoked = (a.unchoked, a.heard); hashes = (s.hashes, a.whole_path); room = a.in_window },
    )

pub fault_on : (d : Descriptor) (book : LookUp) (past : List Record) (c : SentChunk) (life : Life) (part : Part) → FailsOn d book past c life part → Passes d book past c life → ⊥
fault_on d book past c life parts.Tail f p = f
fault_on d book past c life parts.Backed f p = f
fault_on d book past c life parts.Life f p = f
fault_on d book past c life parts.Asked f p = f p.asked_for
fault_on d book past c life parts.Unchoked f p = f.1 p.unchoked
fault_on d book past c life parts.Hashes f p = f.2 p.hashes
fault_on d book past c life parts.Window f p = f.3 p.room

on_lives : (d : Descriptor) (book : LookUp) (past : List Record) (c : SentChunk) (part : Part) → FailsOnLives d book past c part → IsServing d book (window_of d) past c → ⊥
on_lives d book past c part f s = let p = serving_suits d book past c s in f.none p.0 p.1 p.2

fault_serves : (d : Descriptor) (book : LookUp) (past : List Record) (c : SentChunk) (part : Part) → FailsChunk d book past c part → IsServing d book (window_of d) past c → ⊥
fault_serves d book past c parts.Tail f s = f s.last
fault_serves d book past c parts.Backed f s = f.1 s.backed
fault_serves d book past c parts.Life f s = let p = serving_suits d book past c s in f.2 p.0 p.1
fault_serves d book past c parts.Asked f s = on_lives d book past c parts.Asked f.2 s
fault_serves d book past c parts.Unchoked f s = on_lives d book past c parts.Unchoked f.2 s
fault_serves d book past c parts.Hashes f s = on_lives d book past c parts.Hashes f.2 s
fault_serves d book past c parts.Window f s = on_lives d book past c parts.Window f.2 s

pub faults_do_not_serve : FaultsDoNotServe
faults_do_not_serve d book before r part f s = fault_serves d book before f.0 part f.2 (serves_chunk d book (window_of d) before r f.0 f.1 s)
