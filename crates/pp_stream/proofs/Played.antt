-- Steps of a player while its peer's book grows.
use Rattle.std.proofs.Common.{◌≡◌, ℕ, ◌+◌, ◌-◌, ◌*◌, List, [], ◌++◌, length, sym, subst, arith, append_assoc}
use Rattle.std.proofs.lemmas.List.{append-nil}
use Rattle.pp_terms.specs.tree.Book.{LookUp, IsRooted, IsBacked}
use Rattle.pp_terms.specs.format.Descriptor.{Descriptor, IsDescriptor, chunks_of}
use Rattle.pp_terms.specs.command.Stream.{SinkState, Gains}
use Rattle.pp_tree.specs.Book.{entry}
use Rattle.pp_tree.proofs.Sizes.{chunk_count_holds}
use Rattle.pp_paths.specs.Judge.{KeepsEntries}
use Rattle.pp_holding.specs.Holding.{HoldingState}
use Rattle.pp_stream.specs.Player.{Feed}
use Rattle.pp_stream.specs.Chunks.{IsChunk, AreNext}
use Rattle.pp_stream.specs.Steps.{PutsNext}
use Rattle.pp_stream.specs.Played.{HasPlayed}
use Rattle.pp_stream.proofs.Written.{gains-nil, gains_more}
use Rattle.pp_stream.proofs.Chunks.{some_bytes, next_map, next_none, next_more}

-- a larger book backs what this one does
pub backed_more : (d : Descriptor) (book larger : LookUp) → IsRooted d larger → KeepsEntries book larger → (i : ℕ) (bytes : List ℕ) → IsBacked d book i bytes
    → IsBacked d larger i bytes
backed_more d book larger rooted keeps i bytes is = record { rooted = rooted; within = is.within; whole = is.whole; leaf = keeps 0 i _ is.leaf }

pub played_none : (d : Descriptor) (book : LookUp) (sink : SinkState) → HasPlayed d book 0 sink sink []
played_none d book sink = record { bytes = []; chunks = next_none d (IsBacked d book) 0 (omega arith); gained = gains-nil sink.taken }

-- what was written goes on to be backed by a larger book
pub played_kept : (d : Descriptor) (book larger : LookUp) (base : ℕ) (old new : SinkState) (more : List ℕ) → IsRooted d larger → KeepsEntries book larger
    → HasPlayed d book base old new more → HasPlayed d larger base old new more
played_kept d book larger base old new more rooted keeps played = record {
  bytes = played.bytes;
  chunks = next_map d (IsBacked d book) (IsBacked d larger) (backed_more d book larger rooted keeps) 0 base played.bytes played.chunks;
  gained = played.gained;
}

-- chunks that are written by a step, whose peer's book has all entries of the one before
pub played_more : (s : HoldingState) (book : LookUp) (first : SinkState) (old new : Feed) (more : List ℕ) → IsDescriptor s.store.descriptor
    → IsRooted s.store.descriptor (entry s.book) → KeepsEntries book (entry s.book) → HasPlayed s.store.descriptor book old.player.base first old.sink []
    → PutsNext s old new more → HasPlayed s.store.descriptor (entry s.book) new.player.base first new.sink more
played_more s book first old new more valid rooted keeps played next =
    let d = s.store.descriptor in
    let So : ℕ → List ℕ → Type 0 = IsBacked d (entry s.book) in
    let count : ℕ = new.player.base - old.player.base in
    let before = next_map d (IsBacked d book) So (backed_more d book (entry s.book) rooted keeps) 0 old.player.base played.bytes played.chunks in
    let behind = next_map d (IsChunk s old.disk) So (λ i bytes is. is.backed) old.player.base count next.bytes next.chunks in
    let at : old.player.base ≡ 0 + old.player.base = omega arith in
    let all : old.player.base + count ≡ new.player.base = omega (arith, next.forward) in
    record {
      bytes = played.bytes ++ next.bytes;
      chunks = subst (λ (n : ℕ). AreNext d So 0 n (played.bytes ++ next.bytes)) all
          (next_more d So 0 old.player.base count played.bytes next.bytes valid before (subst (λ (n : ℕ). AreNext d So n count next.bytes) at behind));
      gained = subst (λ (b : List ℕ). Gains first.taken b new.sink.taken) (sym (append_assoc played.bytes next.bytes more))
          (gains_more first.taken old.sink.taken new.sink.taken played.bytes (next.bytes ++ more)
          (subst (λ (b : List ℕ). Gains first.taken b old.sink.taken) (append-nil played.bytes) played.gained) next.gained);
    }

-- all chunks are the whole content
pub played_size : (d : Descriptor) (book : LookUp) (old new : SinkState) (more : List ℕ) → IsDescriptor d → (played : HasPlayed d book (chunks_of d) old new more)
    → length played.bytes ≡ d.size
played_size d book old new more valid played =
    let held = chunk_count_holds d.size d.chunk (some_bytes d valid) in
    let none : 0 * d.chunk ≡ 0 = omega arith in
    omega (arith, played.chunks.size, held.0, none)
