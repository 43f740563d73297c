-- A chunk that is said behind its hashes, and a datagram of one message.
use Rattle.std.proofs.Common.{◌≡◌, ℕ, zero, suc, ◌<◌, ◌≤◌, List, [], ◌∷◌, ◌++◌, map, take, sym, ◌∙◌, ap, subst, arith, append-nil}
use Rattle.pp_terms.specs.tree.Book.{LookUp}
use Rattle.pp_terms.specs.tree.Tree.{Node}
use Rattle.pp_terms.specs.format.Descriptor.{Descriptor}
use Rattle.pp_terms.specs.format.Messages.{Message, Data}
use Rattle.pp_traffic.specs.Story.{Said}
use Rattle.pp_tree.specs.Book.{entry}
use Rattle.pp_tree.specs.Node.{node_of}
use Rattle.pp_draft.specs.declared.chunk.Delivery.{Delivery}
use Rattle.pp_draft.specs.declared.note.Note.{Note}
use Rattle.pp_draft.specs.Notes.{SayAll}
use Rattle.pp_draft.specs.Notes as notes
use Rattle.pp_draft.specs.Datagrams.{hash_of, IsDatagram}
use Rattle.pp_draft.specs.Deliveries.{hashes_of, delivers}
use Rattle.pp_draft.specs.Posts.{Posts}
use Rattle.pp_seat.specs.Lines.{Tale, with_said}
use Rattle.pp_seat.specs.Laws.{AreIdleSaid}
use Rattle.pp_seat.specs.Seats.{SeatState}
use Rattle.pp_seat.specs.Follows.{Follows, Goes, Says, Always}
use Rattle.pp_seat.proofs.Passing.{idle_says}
use Rattle.pp_desk.specs.Chunks.{PostsOne}
use Rattle.pp_desk.proofs.Saying.{with_said_append}

idle_hashes : (book : LookUp) (nodes : List Node) → AreIdleSaid (map (hash_of book) nodes)
idle_hashes book [] = tt
idle_hashes book (n ∷ nodes) = (tt, idle_hashes book nodes)

pub served_says : (x : Delivery) (bytes : List ℕ) (old new : SeatState) → Goes Always (Said x.sent_at (Data x.chunk x.sent_at bytes)) old new
    → Says Always x.sent_at (delivers x bytes) old new
served_says x bytes old new goes = record {
  follows = λ f lost t so h.
      subst (λ (u : Tale). Follows f lost new u) (sym (with_said_append x.sent_at (hashes_of x) (Data x.chunk x.sent_at bytes ∷ []) f.proven t))
      (goes.follows f lost (with_said x.sent_at (hashes_of x) f.proven t) tt
      ((idle_says x.sent_at (hashes_of x) old (idle_hashes (entry x.book.now) (map node_of x.nodes.now))).follows f lost t tt h));
}

one_message : (d : Descriptor) (n : Note) (m : Message) (count : ℕ) (ms : List Message) → ((own : List Message) → notes.Says d n own → own ≡ m ∷ []) → 0 < count → count ≤ 1
    → SayAll d (take count (n ∷ [])) ms → ms ≡ m ∷ []
one_message d n m zero ms says some within all = absurd (omega arith)
one_message d n m (suc zero) ms says some within all =
    all.4 ∙ ap (λ (more : List Message). all.0 ++ more) all.3 ∙ append-nil all.0 ∙ says all.0 all.2
one_message d n m (suc (suc count)) ms says some within all = absurd (omega arith)

pub posts_one : (d : Descriptor) (channel : ℕ) (n : Note) (m : Message) (count : ℕ) (does : List ℕ → Type 0) → ((own : List Message) → notes.Says d n own → own ≡ m ∷ [])
    → Posts d channel (n ∷ []) count does → PostsOne d channel m does
posts_one d channel n m count does says posts = record {
  bytes = posts.bytes;
  written = subst (λ (ms : List Message). IsDatagram d channel ms posts.bytes)
      (one_message d n m count posts.packs.messages says posts.packs.some posts.packs.within posts.packs.said) posts.packs.written;
  goes = posts.goes;
}
