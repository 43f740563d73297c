-- What was served by a book was served by a larger one.
use Rattle.std.proofs.Common.{ℕ, Option, List, [], ◌∷◌, ◌++◌}
use Rattle.std.specs.List.{AllByRecursion}
use Rattle.pp_terms.specs.format.Traffic.{Address, Record, Received, Quiet, Sent}
use Rattle.pp_terms.specs.format.Descriptor.{Descriptor}
use Rattle.pp_terms.specs.tree.Book.{LookUp, IsRooted}
use Rattle.pp_terms.specs.format.Messages.{Message, Handshake, Data, Ack, Have, Integrity, Pex4, PexReq, Request, Cancel, Choke, Unchoke, Pex6}
use Rattle.pp_traffic.specs.Past.{read}
use Rattle.pp_traffic.specs.Hashes.{Carries}
use Rattle.pp_traffic.specs.Serving.{Window, ServesFrom, Serves}
use Rattle.pp_traffic.specs.Laws.{Extends, ServedStays}

pub carries_stay : (book larger : LookUp) → Extends book larger → (m : Message) → Carries book m → Carries larger m
carries_stay book larger more (Handshake source options) c = tt
carries_stay book larger more (Data chunk sent_at bytes) c = tt
carries_stay book larger more (Ack span delay) c = tt
carries_stay book larger more (Have span) c = tt
carries_stay book larger more (Integrity span digest) c = (c.0, c.1, more c.0.layer c.0.offset digest c.2)
carries_stay book larger more (Pex4 address port) c = tt
carries_stay book larger more PexReq c = tt
carries_stay book larger more (Request span) c = tt
carries_stay book larger more (Cancel span) c = tt
carries_stay book larger more Choke c = tt
carries_stay book larger more Unchoke c = tt
carries_stay book larger more (Pex6 address port) c = tt

pub all_stay : (book larger : LookUp) → Extends book larger → (ms : List Message) → AllByRecursion (Carries book) ms → AllByRecursion (Carries larger) ms
all_stay book larger more [] all = tt
all_stay book larger more (m ∷ ms) all = (carries_stay book larger more m all.0, all_stay book larger more ms all.1)

from_stays : (d : Descriptor) (book larger : LookUp) (window : Window) (past : List Record) (receiver : Address) (channel : Option ℕ) (front ms : List Message)
    → Extends book larger → IsRooted d larger → ServesFrom d book window past receiver channel front ms → ServesFrom d larger window past receiver channel front ms
from_stays d book larger window past receiver channel front [] more rooted s = tt
from_stays d book larger window past receiver channel front (Handshake source options ∷ ms) more rooted s = from_stays d book larger window past receiver channel (front ++ Handshake source options ∷ []) ms more rooted s
from_stays d book larger window past receiver channel front (Data chunk sent_at bytes ∷ ms) more rooted s = record {
  last = s.last;
  backed = record { rooted = rooted; within = s.backed.within; whole = s.backed.whole; leaf = more 0 chunk _ s.backed.leaf };
  hashes = all_stay book larger more front s.hashes;
  peer = s.peer;
}
from_stays d book larger window past receiver channel front (Ack span delay ∷ ms) more rooted s = from_stays d book larger window past receiver channel (front ++ Ack span delay ∷ []) ms more rooted s
from_stays d book larger window past receiver channel front (Have span ∷ ms) more rooted s = from_stays d book larger window past receiver channel (front ++ Have span ∷ []) ms more rooted s
from_stays d book larger window past receiver channel front (Integrity span digest ∷ ms) more rooted s = from_stays d book larger window past receiver channel (front ++ Integrity span digest ∷ []) ms more rooted s
from_stays d book larger window past receiver channel front (Pex4 address port ∷ ms) more rooted s = from_stays d book larger window past receiver channel (front ++ Pex4 address port ∷ []) ms more rooted s
from_stays d book larger window past receiver channel front (PexReq ∷ ms) more rooted s = from_stays d book larger window past receiver channel (front ++ PexReq ∷ []) ms more rooted s
from_stays d book larger window past receiver channel front (Request span ∷ ms) more rooted s = from_stays d book larger window past receiver channel (front ++ Request span ∷ []) ms more rooted s
from_stays d book larger window past receiver channel front (Cancel span ∷ ms) more rooted s = from_stays d book larger window past receiver channel (front ++ Cancel span ∷ []) ms more rooted s
from_stays d book larger window past receiver channel front (Choke ∷ ms) more rooted s = from_stays d book larger window past receiver channel (front ++ Choke ∷ []) ms more rooted s
from_stays d book larger window past receiver channel front (Unchoke ∷ ms) more rooted s = from_stays d book larger window past receiver channel (front ++ Unchoke ∷ []) ms more rooted s
from_stays d book larger window past receiver channel front (Pex6 address port ∷ ms) more rooted s = from_stays d book larger window past receiver channel (front ++ Pex6 address port ∷ []) ms more rooted s

pub one_stays : (d : Descriptor) (book larger : LookUp) (window : Window) (past : List Record) (r : Record)
    → Extends book larger → IsRooted d larger → Serves d book window past r → Serves d larger window past r
one_stays d book larger window past (Received at sender bytes) more rooted s = tt
one_stays d book larger window past (Quiet at) more rooted s = tt
one_stays d book larger window past (Sent moment receiver bytes) more rooted s =
    let it = read d (Sent moment receiver bytes) in from_stays d book larger window past receiver it.channel [] it.messages.read more rooted s

pub served_stays : ServedStays
served_stays d book larger window [] more rooted s = tt
served_stays d book larger window (r ∷ past) more rooted s = (one_stays d book larger window past r more rooted s.0, served_stays d book larger window past more rooted s.1)
