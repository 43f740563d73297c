-- A shipment, from the session that sent it to the one that takes it in.
use Rattle.std.proofs.Common.{◌≡◌, ◌⊎◌, inl, inr, ℕ, zero, suc, ◌^◌, ◌<◌, ◌≤◌, true, false, Some, List, [], ◌∷◌, ◌++◌, length, sym, ◌∙◌, ap, subst, arith}
use Rattle.std.specs.Prelude.{slice_get, slice_index_or}
use Rattle.std.specs.List.{AllByRecursion, list_any}
use Rattle.std.proofs.lemmas.Bool.{and_from, eq-eqb}
use Rattle.pp_terms.specs.disk.Image.{holds}
use Rattle.pp_terms.specs.format.Descriptor.{Descriptor, chunks_of, IsDescriptor, IsContentOf}
use Rattle.pp_terms.specs.format.Traffic.{Address, same_address, Received}
use Rattle.pp_terms.specs.tree.Book.{IsRooted}
use Rattle.pp_terms.proofs.Addressed.{same_self}
use Rattle.pp_traffic.specs.Hashes.{is_told}
use Rattle.pp_traffic.specs.Life.{Life, comes_on}
use Rattle.pp_traffic.specs.Past.{read, is_number, EachRecord}
use Rattle.pp_traffic.specs.Story.{story}
use Rattle.pp_traffic.specs.Turns.{is_closing}
use Rattle.pp_tree.proofs.Sizes.{chunk_count_range, chunk_size_range}
use Rattle.pp_promises.specs.Promises.{IsSafe}
use Rattle.pp_promises.specs.Stored.{BringsChunk}
use Rattle.pp_world.specs.Agreement.{HaveClashed, ClashesWithTree}
use Rattle.pp_world.specs.Channel.{AreEnds}
use Rattle.pp_world.specs.Session.{Session}
use Rattle.pp_world.specs.Shipment.{Shipment, SentChunk, TookIn}
use Rattle.pp_world.specs.World.{PeerState, World, address_of, reads_of}
use Rattle.pp_complete.specs.Shipped.{IsShipped, StoresShipped}
use Rattle.pp_shipments.specs.Laws.{ShipmentsAreStored}
use Rattle.pp_shipments.specs.Trusty.{IsTrusty, StoresInNewest, was_announced}
use Rattle.pp_shipments.proofs.Announcing.{peaks_or_none, told_is_announced}
use Rattle.pp_shipments.proofs.Sending.{IsSureOf, record_there, sure_of}
use Rattle.pp_shipments.proofs.Strays.{pruned, backed_pruned, carries_pruned, faults_clash}
use Rattle.pp_shipments.proofs.Taking.{goes_on}

-- ---- lists

peer_at : (P : PeerState → Type 0) (xs : List PeerState) (p : ℕ) (x : PeerState) → AllByRecursion P xs → slice_get xs p ≡ Some x → P x
peer_at P [] p x all here = absurd cc
peer_at P (y ∷ ys) zero x all here = let same : y ≡ x = cc in subst P same all.0
peer_at P (y ∷ ys) (suc p) x all here = peer_at P ys p x all.1 here

session_at : (P : Session → Type 0) (ss : List Session) (k : ℕ) (s : Session) → AllByRecursion P ss → k < length ss → slice_index_or ss k s ≡ s → P s
session_at P [] k s all within is = absurd (omega (arith, within))
session_at P (t ∷ ss) zero s all within is = subst P is all.0
session_at P (t ∷ ss) (suc k) s all within is = session_at P ss k s all.1 (omega (arith, within)) is

-- ---- the channel

-- the datagram comes on the receiver's end
comes : (d : Descriptor) (one other : Life) (at : ℕ) (sender : Address) (bytes : List ℕ) → other.address ≡ sender → AreEnds one other
    → (read d (Received at sender bytes)).channel ≡ Some one.remote → comes_on d other (Received at sender bytes) ≡ true
comes d one other at sender bytes from ends number =
    and_from (same_address sender other.address) (is_number other.local (read d (Received at sender bytes)).channel)
    (ap (same_address sender) from ∙ same_self sender)
    (ap (is_number other.local) number ∙ eq-eqb one.remote other.local ends.here)

-- ---- one shipment

module _ (d : Descriptor) (content : List ℕ) (old new : World) (it : Shipment) (life life' : Life) (is : IsDescriptor d) (of : IsContentOf d content)
    (trusty : AllByRecursion (IsTrusty d) old.peers) (trusty' : AllByRecursion (IsTrusty d) new.peers)
    (out : SentChunk d old it life) (took : TookIn d old new it life') (ends : AreEnds life life') where
  few_chunks : chunks_of d ≤ 2 ^ 20
  few_chunks =
      let range = chunk_size_range d.chunk is.chunk_size in
      (chunk_count_range d.size d.chunk (omega arith) is.content_size).1

  -- the peer that sent it, and the one that takes it in
  sends : IsTrusty d out.peer
  sends = peer_at (IsTrusty d) old.peers it.sender out.peer trusty out.here

  takes : IsTrusty d took.after
  takes = peer_at (IsTrusty d) new.peers it.receiver took.after trusty' took.is

  sure : IsSureOf d out.session.book it.chunk out.content out.front
  sure = sure_of d out.session.book out.stands.after out.past out.moment (address_of it.receiver) it.bytes it.chunk out.sent_at out.content out.front few_chunks
      (subst (IsSafe d out.session.book) out.stands.split
      (session_at (λ s. IsSafe d s.book s.traffic) out.peer.sessions out.among.0 out.session sends.safe out.among.1 out.among.2))
      (ap (list_any (is_closing d)) (sym out.stands.split)
      ∙ session_at (λ s. list_any (is_closing d) s.traffic ≡ false) out.peer.sessions out.among.0 out.session sends.closes_none out.among.1 out.among.2)
      out.messages

  brings : BringsChunk d life' took.session.traffic (Received took.at (address_of it.sender) it.bytes) it.chunk out.content
  brings = record {
    plain = took.is_plain;
    comes = comes d life life' took.at (address_of it.sender) it.bytes took.from ends out.number;
    front = out.front;
    sent_at = out.sent_at;
    rest = [];
    messages = out.messages;
    open_still = sure.open_still;
  }

  shipped : IsShipped d (was_announced d took.earlier) took.session.traffic (is_told (chunks_of d) (story d life out.past)) (pruned d out.session.book)
      it.chunk out.content out.front
  shipped = record {
    told_of = told_is_announced d life it.receiver (address_of it.sender) old out.past took.before took.session took.earlier out.genuine took.was took.sessions;
    peaks = peaks_or_none (chunks_of d) (story d life out.past);
    backed = backed_pruned d out.session.book it.chunk out.content sure.backed;
    hashes = carries_pruned d out.session.book out.front sure.hashes sure.covers;
    inside = sure.inside;
    few = sure.few;
    path = out.answers.whole_path;
  }

  -- it is stored, or what hinders that is a clash
  stored : took.after.is_running ≡ true
      → (holds d (reads_of took.after) it.chunk ≡ true) ⊎ (HaveClashed d out.session.book took.session'.book ⊎ ClashesWithTree d content out.session.book)
  unfolding brings
  stored runs =
      let newest : StoresInNewest d (reads_of took.after) (took.session' ∷ took.earlier) =
      subst (StoresInNewest d (reads_of took.after)) took.sessions' (takes.stores runs) in
      let each : EachRecord (StoresShipped d (was_announced d took.earlier) took.session'.book (holds d (reads_of took.after)))
      (took.sent ++ Received took.at (address_of it.sender) it.bytes ∷ took.session.traffic) =
      subst (EachRecord (StoresShipped d (was_announced d took.earlier) took.session'.book (holds d (reads_of took.after)))) took.traffic newest in
      let here = record_there (StoresShipped d (was_announced d took.earlier) took.session'.book (holds d (reads_of took.after))) took.sent
      (Received took.at (address_of it.sender) it.bytes) took.session.traffic each in
      let rooted' = subst (AllByRecursion (λ s. IsRooted d s.book)) took.sessions' takes.rooted in
      let rooted = session_at (λ s. IsRooted d s.book) out.peer.sessions out.among.0 out.session sends.rooted out.among.1 out.among.2 in
      elim (here life' it.chunk out.content brings (is_told (chunks_of d) (story d life out.past)) (pruned d out.session.book) shipped) [
        | inl held ↦ inl held
        | inr faulty ↦ inr (faults_clash d content took.session'.book out.session.book of rooted'.0 rooted faulty)
      ]

pub shipments_are_stored : ShipmentsAreStored
shipments_are_stored d content move old new is of moves trusty trusty' it life life' out took ends =
    elim (goes_on d move old new it life' moves took) [
      | inl runs ↦ elim (stored d content old new it life life' is of trusty trusty' out took ends runs) [
        | inl held ↦ inl held
        | inr clash ↦ inr (inr clash)
      ]
      | inr refused ↦ inr (inl refused)
    ]
