-- A content that is written chunk by chunk.
use Rattle.std.proofs.Common.{◌≡◌, inl, inr, ⊎_elim, ℕ, ◌+◌, ◌-◌, ◌*◌, ◌/◌, ◌<◌, ◌≤◌, Bool, true, false, Option, Some, None, List, [], ◌++◌, length, get_or, take, drop, Result, Ok, Err, refl, sym, ◌∙◌, ap, subst, arith, length-append, length-drop}
use Rattle.std.specs.Prelude.{min}
use Rattle.std.proofs.Math.Nat.{mul-le-mul_right, lt_of_mul-lt-mul_right}
use Rattle.std.proofs.Math.Seq.{drop-append-add, take-append-add}
use Rattle.std.proofs.lemmas.Bool.{cases_lt}
use Rattle.std.proofs.lemmas.List.{take_all, length-take, get_or_default, take-append-le, drop-append-le, take-take, drop-take}
use Rattle.pp_terms.specs.tree.Book.{LookUp, IsRooted}
use Rattle.pp_terms.specs.tree.Content.{chunk_of, chunk_length}
use Rattle.pp_terms.specs.format.Descriptor.{Descriptor, IsDescriptor, chunks_of}
use Rattle.pp_terms.specs.disk.Disk.{DiskState, History, IsKnown, IsRead}
use Rattle.pp_terms.specs.disk.Image.{is_found}
use Rattle.pp_terms.specs.disk.Sound.{BeganSound}
use Rattle.pp_terms.specs.disk.Store.{chunk_place}
use Rattle.pp_terms.specs.command.Stream.{SinkState, Gains}
use Rattle.pp_terms.proofs.Knowing.{known_on}
use Rattle.pp_tree.proofs.Sizes.{chunk_size_range, chunk_count_holds, chunk_begins}
use Rattle.pp_scan.specs.Look.{KeepsAll}
use Rattle.pp_scan.specs.Holding.{is_there}
use Rattle.pp_scan.proofs.Reading.{known_after}
use Rattle.pp_store.specs.ReadChunk.{IsRightChunk, IsDamaged}
use Rattle.pp_store.specs.declared.reading.ReadFault.{ReadFault}
use Rattle.pp_store.specs.declared.reading.ReadFault.TheVariants as reads
use Rattle.pp_store.specs.declared.runs.Run.{Run}
use Rattle.pp_store.specs.Runs.{run_length, HasEnded, HasRun}
use Rattle.pp_store.proofs.RunSteps.{chunks_within, run_room, run_fits, run_some, run_within}
use Rattle.pp_terms.specs.command.Stream.{SourceState}
use Rattle.pp_terms.specs.format.Traffic.{LinkState}
use Rattle.pp_tree.specs.Book.{BookState, entry}
use Rattle.pp_scan.specs.declared.scanning.ScanFault.{ScanFault}
use Rattle.pp_scan.specs.declared.scanning.ScanFault.TheVariants as scans
use Rattle.pp_node.specs.Outside.{outside}
use Rattle.pp_node.specs.Looking.{IsOf, IsFound, HasLooked}
use Rattle.pp_node.specs.declared.status.Status.{Status}
use Rattle.pp_node.specs.declared.status.Status.TheVariants as ends
use Rattle.pp_node.specs.Exporting.{IsChunk, AreChunks, HasPut, IsWhole, IsExported, IsIncomplete, IsSinkFault, IsReadable, IsDamagedChunk, AreNext, PutsNext, StopsNext, PutsRun, answer_of, ExportsIn, status_of_fault, status_of_scan}
use Rattle.pp_node.specs.declared.exporting.PutFault.{PutFault}
use Rattle.pp_node.specs.declared.exporting.PutFault.TheVariants.{Disk, Sink, Damaged}
use Rattle.pp_node.proofs.Looks.{other_since}
use Rattle.pp_stream.proofs.Written.{gains-nil, gains_more}

-- bytes behind whole chunks change none of them
chunk_kept : (bytes piece : List ℕ) (chunk n i : ℕ) → length bytes ≡ n * chunk → i < n → chunk_of (bytes ++ piece) chunk i ≡ chunk_of bytes chunk i
chunk_kept bytes piece chunk n i size lt =
    let below : (i + 1) * chunk ≤ n * chunk = grind arith in
    let inside : i * chunk ≤ length bytes = omega (arith, size) in
    let room : chunk ≤ length (drop (i * chunk) bytes) = omega (arith, size, length-drop (i * chunk) bytes) in
    ap (λ (b : List ℕ). take chunk b) (drop-append-le (i * chunk) bytes piece inside) ∙ take-append-le chunk (drop (i * chunk) bytes) piece room

-- and are the next chunks
chunk_next : (bytes piece : List ℕ) (chunk n k : ℕ) → length bytes ≡ n * chunk → chunk_of (bytes ++ piece) chunk (n + k) ≡ chunk_of piece chunk k
chunk_next bytes piece chunk n k size =
    let place : length bytes + k * chunk ≡ (n + k) * chunk = omega (arith, size) in
    ap (λ (p : ℕ). take chunk (drop p (bytes ++ piece))) (sym place) ∙ ap (λ (b : List ℕ). take chunk b) (drop-append-add bytes piece (k * chunk))

-- the chunks in front of a cut
chunk_before : (bytes : List ℕ) (chunk more k : ℕ) → k < more → chunk_of (take (more * chunk) bytes) chunk k ≡ chunk_of bytes chunk k
chunk_before bytes chunk more k lt =
    let room = chunks_within k more chunk lt in
    let left : ℕ = more * chunk - k * chunk in
    let split : k * chunk + left ≡ more * chunk = omega (arith, room) in
    let fits : chunk ≤ left = omega (arith, room) in
    ap (λ (n : ℕ). take chunk (drop (k * chunk) (take n bytes))) (sym split) ∙ ap (λ (b : List ℕ). take chunk b) (drop-take (k * chunk) left bytes)
    ∙ take-take chunk left (drop (k * chunk) bytes) fits

some_chunk : (d : Descriptor) → IsDescriptor d → 0 < d.chunk
some_chunk d valid = let range = chunk_size_range d.chunk valid.chunk_size in omega (arith, range.0)

-- The sink gained the first n chunks and no more.
pub record Puts (d : Descriptor) (sink sink' : SinkState) (disk disk' : DiskState) (book : LookUp) (n : ℕ) : Type 0 where
  pub bytes : List ℕ
  pub chunks : AreChunks d disk disk' book n bytes
  pub gained : Gains sink.taken bytes sink'.taken

-- as seen from before calls that change nothing but counts
module _ (d : Descriptor) (old mid seen new : DiskState) (book : LookUp) (known : IsKnown old → IsKnown mid) (found : new.history.found ≡ seen.history.found) where
  pub chunk_seen : (i : ℕ) (bytes : List ℕ) → IsChunk d mid seen book i bytes → IsChunk d old new book i bytes
  chunk_seen i bytes is = record {
    backed = is.backed;
    read = λ k. subst (λ (r : List ℕ). IsRead r (chunk_place d.chunk i) bytes) (sym found) (is.read (known k));
  }

  pub chunks_seen : (n : ℕ) (bytes : List ℕ) → AreChunks d mid seen book n bytes → AreChunks d old new book n bytes
  chunks_seen n bytes are = record {
    within = are.within;
    size = are.size;
    each = λ i lt. chunk_seen i (chunk_of bytes d.chunk i) (are.each i lt);
  }

  pub put_seen : (sink sink' : SinkState) (n : ℕ) → Puts d sink sink' mid seen book n → Puts d sink sink' old new book n
  put_seen sink sink' n put = record { bytes = put.bytes; chunks = chunks_seen n put.bytes put.chunks; gained = put.gained }

  pub whole_seen : IsWhole d mid seen → IsWhole d old new
  whole_seen whole = record {
    begins = λ k. subst (IsOf d) (sym found) (whole.begins (known k));
    holding = λ k i lt. ap (λ (r : List ℕ). is_found d r i) found ∙ whole.holding (known k) i lt;
  }

-- a damaged chunk, likewise
pub damaged_seen : (d : Descriptor) (old mid new : DiskState) (book : LookUp) → (IsKnown old → IsKnown mid) → (n : ℕ) → IsDamagedChunk d mid new book n → IsDamagedChunk d old new book n
damaged_seen d old mid new book known n is = record {
  bytes = is.bytes;
  found = is.found;
  kept = is.kept;
  size = is.size;
  found_is = is.found_is;
  kept_is = is.kept_is;
  differ = is.differ;
  read = λ k. is.read (known k);
  never = λ k. is.never (known k);
}

pub put_none : (d : Descriptor) (sink : SinkState) (disk disk' : DiskState) (book : LookUp) → Puts d sink sink disk disk' book 0
put_none d sink disk disk' book = record {
  bytes = [];
  chunks = record { within = omega arith; size = omega arith; each = λ i lt. absurd (omega arith) };
  gained = gains-nil sink.taken;
}

module _ (d : Descriptor) (disk disk' : DiskState) (book : LookUp) (n : ℕ) (valid : IsDescriptor d) (within : n < chunks_of d) where
  -- the chunks before another one are whole
  pub length_whole : (bytes : List ℕ) → AreChunks d disk disk' book n bytes → length bytes ≡ n * d.chunk
  length_whole bytes are =
      let begins : n * d.chunk < d.size = chunk_begins d.size d.chunk n (some_chunk d valid) within in
      omega (arith, are.size, begins)

  pub chunks_more : (count : ℕ) (bytes piece : List ℕ) → AreChunks d disk disk' book n bytes → AreNext d disk disk' book n count piece → AreChunks d disk disk' book (n + count) (bytes ++ piece)
  chunks_more count bytes piece are next =
      let size = length_whole bytes are in
      let begins : n * d.chunk < d.size = chunk_begins d.size d.chunk n (some_chunk d valid) within in
      record {
        within = next.within;
        size = length-append bytes piece ∙ omega (arith, size, next.size, begins);
        each = λ i lt. ⊎_elim
            (λ low. subst (IsChunk d disk disk' book i) (sym (chunk_kept bytes piece d.chunk n i size low)) (are.each i low))
            (λ high.
            let at : n + (i - n) ≡ i = omega arith in
            subst (λ (k : ℕ). IsChunk d disk disk' book k (chunk_of (bytes ++ piece) d.chunk k)) at
            (subst (IsChunk d disk disk' book (n + (i - n))) (sym (chunk_next bytes piece d.chunk n (i - n) size)) (next.each (i - n) (omega arith))))
            (cases_lt i n);
      }

  pub put_more : (old mid new : SinkState) (count : ℕ) → Puts d old mid disk disk' book n → PutsNext d disk disk' book n count mid new → Puts d old new disk disk' book (n + count)
  put_more old mid new count put next = record {
    bytes = put.bytes ++ next.bytes;
    chunks = chunks_more count put.bytes next.bytes put.chunks next.chunks;
    gained = gains_more old.taken mid.taken new.taken put.bytes next.bytes put.gained next.gained;
  }

-- the first of some chunks
next_front : (d : Descriptor) (disk disk' : DiskState) (book : LookUp) (first count more : ℕ) (bytes : List ℕ) → more ≤ count → AreNext d disk disk' book first count bytes
    → AreNext d disk disk' book first more (take (more * d.chunk) bytes)
next_front d disk disk' book first count more bytes le next =
    let room : more * d.chunk ≤ count * d.chunk = mul-le-mul_right d.chunk le in
    record {
      within = omega (arith, next.within);
      size = length-take (more * d.chunk) bytes ∙ omega (arith, next.size, room);
      each = λ k lt. subst (IsChunk d disk disk' book (first + k)) (sym (chunk_before bytes d.chunk more k lt)) (next.each k (omega arith));
    }

-- all chunks are the whole content
pub exported_all : (d : Descriptor) (sink sink' : SinkState) (disk disk' : DiskState) (link : LinkState) (source : SourceState) (before book : BookState) → IsDescriptor d → IsWhole d disk disk'
    → Puts d sink sink' disk disk' (entry book) (chunks_of d) → IsExported d (outside disk link source sink before) (outside disk' link source sink' book)
exported_all d sink sink' disk disk' link source before book valid whole put = record {
  whole = whole;
  content = put.bytes;
  size = let held = chunk_count_holds d.size d.chunk (some_chunk d valid) in omega (arith, put.chunks.size, held.0);
  each = put.chunks.each;
  gained = put.gained;
}

pub readable_after : (d : Descriptor) (old new : DiskState) (book : LookUp) → KeepsAll old new → IsReadable d old book → IsReadable d new book
readable_after d old new book keeps is =
    let known : IsKnown new → IsKnown old = known_on new old (sym keeps.tells) (sym keeps.honest) in
    let reads : new.history.reads ≡ old.history.reads = ap (λ (h : History). h.reads) keeps.same in
    let found : new.history.found ≡ old.history.found = ap (λ (h : History). h.found) keeps.same in
    record {
      rooted = is.rooted;
      whole = whole_seen d new old old new book known found is.whole;
      leaf = is.leaf;
      there = λ k began i lt. ap (λ (r : List ℕ). is_there d r book i) reads ∙ is.there (known k) (subst (BeganSound d) keeps.same began) i lt;
      same = λ k. reads ∙ is.same (known k) ∙ sym found;
    }

module _ (d : Descriptor) (disk disk' : DiskState) (book : LookUp) (i : ℕ) (out : List ℕ) (readable : IsReadable d disk book) (within : i < chunks_of d) (room : chunk_length d.size d.chunk i ≤ length out) where
  pub chunk_read : (count : ℕ) → KeepsAll disk disk' → IsRightChunk d i book disk out count → IsChunk d disk disk' book i (take count out)
  chunk_read count keeps is = record {
    backed = record {
      rooted = readable.rooted;
      within = within;
      whole = length-take count out ∙ omega (arith, is.count_is);
      leaf = is.leaf_is;
    };
    read = λ k. subst (λ (r : List ℕ). IsRead r (chunk_place d.chunk i) (take count out)) (readable.same k ∙ sym (ap (λ (h : History). h.found) keeps.same)) (is.read k);
  }

  pub chunk_damaged : (found kept : List ℕ) → IsDamaged d i book disk out found kept → (IsKnown disk → is_there d disk.history.reads book i ≡ true → ⊥) → KeepsAll disk disk' → IsDamagedChunk d disk disk' book i
  chunk_damaged found kept damaged sound keeps = record {
    bytes = take (chunk_length d.size d.chunk i) out;
    found = found;
    kept = kept;
    size = length-take (chunk_length d.size d.chunk i) out ∙ omega (arith, room);
    found_is = damaged.found_is;
    kept_is = damaged.kept_is;
    differ = damaged.differ;
    read = λ k. subst (λ (r : List ℕ). IsRead r (chunk_place d.chunk i) (take (chunk_length d.size d.chunk i) out))
        (readable.same k ∙ sym (ap (λ (h : History). h.found) keeps.same)) (damaged.read k);
    never = λ k began. sound k (readable.there k (subst (BeganSound d) keeps.same began) i within);
  }

-- the chunks that were read into a buffer
module _ (d : Descriptor) (disk disk' : DiskState) (book : LookUp) (first : ℕ) (out : List ℕ) (valid : IsDescriptor d) (readable : IsReadable d disk book) where
  -- the bytes of one of them
  run_chunk : (count len k : ℕ) → k < count → (first + k) * d.chunk < d.size → len ≡ min (count * d.chunk) (d.size - first * d.chunk)
      → chunk_of (take len out) d.chunk k ≡ take (chunk_length d.size d.chunk (first + k)) (drop (k * d.chunk) out)
  run_chunk count len k lt begins is =
      let room = chunks_within k count d.chunk lt in
      let place : first * d.chunk + k * d.chunk ≡ (first + k) * d.chunk = omega arith in
      let left : ℕ = len - k * d.chunk in
      let far : List ℕ = drop (k * d.chunk) out in
      let split : k * d.chunk + left ≡ len = omega (arith, room, place, begins, is) in
      ap (λ (n : ℕ). take d.chunk (drop (k * d.chunk) (take n out))) (sym split) ∙ ap (λ (b : List ℕ). take d.chunk b) (drop-take (k * d.chunk) left out)
      ∙ ⊎_elim
      (λ short.
      let size : left ≡ chunk_length d.size d.chunk (first + k) = omega (arith, room, place, begins, is, short) in
      take_all d.chunk (take left far) (omega (arith, length-take left far, short)) ∙ ap (λ (n : ℕ). take n far) size)
      (λ fits.
      let size : d.chunk ≡ chunk_length d.size d.chunk (first + k) = omega (arith, room, place, begins, is, fits) in
      take-take d.chunk left far fits ∙ ap (λ (n : ℕ). take n far) size)
      (cases_lt left d.chunk)

  pub run_read : (run : Run) (len : ℕ) → first < chunks_of d → HasRun d first book disk disk' out run → len ≡ min (run.count * d.chunk) (d.size - first * d.chunk) → KeepsAll disk disk'
      → AreNext d disk disk' book first run.count (take len out)
  run_read run len within has is keeps =
      let few : run.count ≤ run_length d first (length out) = run_within d first book disk disk' out run.count run.fault has.ends in
      let room : len ≤ length out = omega (arith, is, run_fits d first (length out) run.count few) in
      record {
        within = omega (arith, few, within);
        size = length-take len out ∙ omega (arith, is, room);
        each = λ k lt.
            let inside : first + k < chunks_of d = omega (arith, few, lt, within) in
            let begins : (first + k) * d.chunk < d.size = chunk_begins d.size d.chunk (first + k) (some_chunk d valid) inside in
            let place : first * d.chunk + k * d.chunk ≡ (first + k) * d.chunk = omega arith in
            let whole = chunks_within k run.count d.chunk lt in
            let fits : chunk_length d.size d.chunk (first + k) ≤ length (drop (k * d.chunk) out) = omega (arith, is, room, begins, place, whole, length-drop (k * d.chunk) out) in
            subst (IsChunk d disk disk' book (first + k)) (sym (run_chunk run.count len k lt begins is))
            (chunk_read d disk disk' book (first + k) (drop (k * d.chunk) out) readable inside fits (chunk_length d.size d.chunk (first + k)) keeps (has.right k lt));
      }

-- what came of a run whose right chunks were written
module _ (d : Descriptor) (disk disk' : DiskState) (book : LookUp) (first : ℕ) (out : List ℕ) (sink sink' : SinkState) (valid : IsDescriptor d) (readable : IsReadable d disk book) (within : first < chunks_of d)
    (room : d.chunk ≤ length out) (keeps : KeepsAll disk disk') (count : ℕ) (put : PutsNext d disk disk' book first count sink sink') where
  pub run_answered : (fault : Option ReadFault) → HasEnded d first book disk disk' out count fault
      → (IsKnown disk → is_there d disk.history.reads book (first + count) ≡ true → (found kept : List ℕ) → fault ≡ Some (reads.Damaged found kept) → ⊥)
      → PutsRun d first sink sink' disk disk' book (answer_of count fault)
  run_answered None is sound = (let some = run_some d first (length out) (some_chunk d valid) room within in omega (arith, is, some), put)
  run_answered (Some reads.Disk) is sound = (is.1, (count, omega (arith, is.0), put))
  run_answered (Some reads.Absent) is sound = absurd is.1
  run_answered (Some (reads.Damaged found kept)) is sound =
      let among : first + count < chunks_of d = omega (arith, is.0) in
      let fits = run_room d first (length out) count (some_chunk d valid) is.0 in (
        count,
        among,
        put,
        chunk_damaged d disk disk' book (first + count) (drop (count * d.chunk) out) readable among (omega (arith, fits, length-drop (count * d.chunk) out)) found kept is.1
            (λ known there. sound known there found kept refl) keeps,
      )

-- some chunks from chunk n on are written, or stop the writing; those before them were written
module _ (d : Descriptor) (first disk disk' : DiskState) (old mid new : SinkState) (state : BookState) (n : ℕ) (valid : IsDescriptor d) (within : n < chunks_of d)
    (readable : IsReadable d first (entry state)) (before : KeepsAll first disk) (keeps : KeepsAll disk disk') (later : old.faults ≤ mid.faults) (put : Puts d old mid first disk (entry state) n) where
  abbrev nodes : LookUp
  nodes = entry state

  known_then : IsKnown first → IsKnown disk
  known_then = known_after first disk before

  found_then : disk'.history.found ≡ disk.history.found
  found_then = ap (λ (h : History). h.found) keeps.same

  put_then : Puts d old mid first disk' nodes n
  put_then = put_seen d first first disk disk' nodes (λ k. k) found_then old mid n put

  whole_then : IsWhole d first disk'
  whole_then = whole_seen d first first first disk' nodes (λ k. k) (found_then ∙ ap (λ (h : History). h.found) before.same) readable.whole

  next_then : (count : ℕ) (bytes : List ℕ) → AreNext d disk disk' nodes n count bytes → AreNext d first disk' nodes n count bytes
  next_then count bytes next = record {
    within = next.within;
    size = next.size;
    each = λ k lt. chunk_seen d first disk disk' disk' nodes known_then refl (n + k) (chunk_of bytes d.chunk k) (next.each k lt);
  }

  put_next : (count : ℕ) → PutsNext d disk disk' nodes n count mid new → Puts d old new first disk' nodes (n + count)
  put_next count next = put_more d first disk' nodes n valid within old mid new count put_then
      (record { bytes = next.bytes; chunks = next_then count next.bytes next.chunks; gained = next.gained })

  pub put_on : (result : Result ℕ PutFault) (count : ℕ) → result ≡ Ok count → PutsRun d n mid new disk disk' nodes result → Puts d old new first disk' nodes (n + count)
  put_on result count is does = let (some, next) = subst (PutsRun d n mid new disk disk' nodes) is does in put_next count next

  pub put_some : (result : Result ℕ PutFault) (count : ℕ) → result ≡ Ok count → PutsRun d n mid new disk disk' nodes result → (0 < count) × (n + count ≤ chunks_of d)
  put_some result count is does = let (some, next) = subst (PutsRun d n mid new disk disk' nodes) is does in (some, next.chunks.within)

  -- the sink stopped in a chunk, which the bytes that it took tell
  stopped_inside : (link : LinkState) (source : SourceState) (earlier : BookState) → StopsNext d disk disk' nodes n mid new
      → IsSinkFault d (outside first link source old earlier) (outside disk' link source new state)
  stopped_inside link source earlier stops =
      let some : 0 < d.chunk = some_chunk d valid in
      let size = length_whole d first disk' nodes n valid within put_then.bytes put_then.chunks in
      let whole : ℕ = stops.part.count / d.chunk in
      let low : whole * d.chunk ≤ stops.part.count = omega arith in
      let high : stops.part.count < (whole + 1) * d.chunk = omega arith in
      let among : whole < stops.count = lt_of_mul-lt-mul_right d.chunk {m = whole} {n = stops.count} (omega (arith, low, stops.part.short, stops.chunks.size)) in
      let piece : List ℕ = take ((whole + 1) * d.chunk) stops.bytes in
      let number : n + (whole + 1) ≡ n + whole + 1 = omega arith in
      let cut : take stops.part.count piece ≡ take stops.part.count stops.bytes = take-take stops.part.count ((whole + 1) * d.chunk) stops.bytes (omega (arith, high)) in
      record {
        risen = λ below. let r : mid.faults < new.faults = stops.risen below in omega (arith, r, later);
        whole = whole_then;
        n = n + whole;
        count = length put_then.bytes + stops.part.count;
        bytes = put_then.bytes ++ piece;
        chunks = subst (λ (m : ℕ). AreChunks d first disk' nodes m (put_then.bytes ++ piece)) number
            (chunks_more d first disk' nodes n valid within (whole + 1) put_then.bytes piece put_then.chunks
            (next_front d first disk' nodes n stops.count (whole + 1) stops.bytes (omega (arith, among)) (next_then stops.count stops.bytes stops.chunks)));
        least = omega (arith, size, low);
        short = omega (arith, stops.part.short, high, length-append put_then.bytes piece, length-take ((whole + 1) * d.chunk) stops.bytes);
        gained = subst (λ (b : List ℕ). Gains old.taken b new.taken) (sym (take-append-add put_then.bytes piece stops.part.count ∙ ap (λ (b : List ℕ). put_then.bytes ++ b) cut))
            (gains_more old.taken mid.taken new.taken put_then.bytes (take stops.part.count stops.bytes) put_then.gained stops.part.gained);
      }

  stopped : (link : LinkState) (source : SourceState) (earlier : BookState) (fault : PutFault) → PutsRun d n mid new disk disk' nodes (Err fault)
      → ExportsIn (status_of_fault fault) d (outside first link source old earlier) (outside disk' link source new state)
  stopped link source earlier Disk (risen, (count, among, next)) =
      let p = put_next count next in
      record {
        refused = record {
          risen = λ below. let r : disk.faults < disk'.faults = risen below in omega (arith, r, before.faults);
          compared = λ known. inl (whole_then.begins known);
        };
        stopped = inr (n + count, among, record { bytes = p.bytes; chunks = p.chunks; gained = p.gained }, whole_then);
      }
  stopped link source earlier Sink stops = stopped_inside link source earlier stops
  stopped link source earlier Damaged (count, among, next, damaged) =
      let p = put_next count next in
      record {
        n = n + count;
        within = among;
        put = record { bytes = p.bytes; chunks = p.chunks; gained = p.gained };
        damaged = damaged_seen d first disk disk' nodes known_then (n + count) damaged;
      }

  pub stopped_at : (link : LinkState) (source : SourceState) (earlier : BookState) (result : Result ℕ PutFault) (fault : PutFault) → result ≡ Err fault → PutsRun d n mid new disk disk' nodes result
      → ExportsIn (status_of_fault fault) d (outside first link source old earlier) (outside disk' link source new state)
  stopped_at link source earlier result fault is does = stopped link source earlier fault (subst (PutsRun d n mid new disk disk' nodes) is does)

-- no chunk is left
pub exported_written : (d : Descriptor) (old new : SinkState) (first disk : DiskState) (link : LinkState) (source : SourceState) (before book : BookState) → IsDescriptor d → IsReadable d first (entry book)
    → KeepsAll first disk → (n : ℕ) → n ≡ chunks_of d → Puts d old new first disk (entry book) n → IsExported d (outside first link source old before) (outside disk link source new book)
exported_written d old new first disk link source before book valid readable keeps n all put =
    exported_all d old new first disk link source before book valid
    (whole_seen d first first first disk (entry book) (λ k. k) (ap (λ (h : History). h.found) keeps.same) readable.whole)
    (subst (Puts d old new first disk (entry book)) all put)

-- every chunk was found
pub readable_found : (d : Descriptor) (disk : DiskState) (book : LookUp) (set : List Bool) → IsFound d disk disk book set → (IsKnown disk → disk.history.reads ≡ disk.history.found) → IsRooted d book
    → ((k : ℕ) → k < length set → get_or set k false ≡ true) → IsReadable d disk book
readable_found d disk book set is same rooted all =
    let at : (i : ℕ) → i < chunks_of d → get_or set i false ≡ true = λ i lt. all i (omega (arith, lt, is.count)) in
    record {
      rooted = rooted;
      whole = record { begins = is.begins; holding = λ k i lt. sym (is.found k i lt) ∙ at i lt };
      leaf = λ i lt. is.leaf i (at i lt);
      there = λ k began i lt. is.there k began i (at i lt);
      same = same;
    }

-- a chunk wasn't found
pub incomplete_found : (d : Descriptor) (sink : SinkState) (disk : DiskState) (link : LinkState) (source : SourceState) (before book : BookState) (set : List Bool) (i : ℕ) → IsFound d disk disk (entry book) set
    → i < length set → get_or set i true ≡ false → IsIncomplete d (outside disk link source sink before) (outside disk link source sink book)
incomplete_found d sink disk link source before book set i is lt absent = record {
  begins = is.begins;
  absent = λ k. let within : i < chunks_of d = omega (arith, lt, is.count) in
      (i, within, sym (is.found k i within) ∙ get_or_default set i false true lt ∙ absent);
  silent = refl;
}

-- the scan was refused
pub export_refused : (d : Descriptor) (disk disk' : DiskState) (sink : SinkState) (link : LinkState) (source : SourceState) (before book : BookState) (fault : ScanFault)
    → HasLooked d disk disk' (entry book) (Err fault) → ExportsIn (status_of_scan fault) d (outside disk link source sink before) (outside disk' link source sink book)
export_refused d disk disk' sink link source before book (scans.NotAStore at found want) is = record { at = at; found = found; want = want; other = is; said = refl }
export_refused d disk disk' sink link source before book scans.Disk is = record { refused = is; stopped = inl refl }
export_refused d disk disk' sink link source before book scans.Memory is = record { begins = is; silent = refl }

-- as seen from before the scan
module _ (d : Descriptor) (old mid new : DiskState) (sink sink' : SinkState) (link : LinkState) (source : SourceState) (before half state : BookState) (tells : mid.tells ≡ old.tells) (honest : mid.honest ≡ old.honest) (later : old.faults ≤ mid.faults) where
  known_mid : IsKnown old → IsKnown mid
  known_mid = known_on old mid tells honest

  chunk_later : (i : ℕ) (bytes : List ℕ) → IsChunk d mid new (entry state) i bytes → IsChunk d old new (entry state) i bytes
  chunk_later = chunk_seen d old mid new new (entry state) known_mid refl

  chunks_later : (n : ℕ) (bytes : List ℕ) → AreChunks d mid new (entry state) n bytes → AreChunks d old new (entry state) n bytes
  chunks_later = chunks_seen d old mid new new (entry state) known_mid refl

  put_later : (n : ℕ) → HasPut d (outside mid link source sink half) (outside new link source sink' state) n → HasPut d (outside old link source sink before) (outside new link source sink' state) n
  put_later n put = record { bytes = put.bytes; chunks = chunks_later n put.bytes put.chunks; gained = put.gained }

  whole_later : IsWhole d mid new → IsWhole d old new
  whole_later = whole_seen d old mid new new (entry state) known_mid refl

  pub exported_later : (status : Status) → ExportsIn status d (outside mid link source sink half) (outside new link source sink' state) → ExportsIn status d (outside old link source sink before) (outside new link source sink' state)
  exported_later ends.Done is = record {
    whole = whole_later is.whole;
    content = is.content;
    size = is.size;
    each = λ i lt. chunk_later i (chunk_of is.content d.chunk i) (is.each i lt);
    gained = is.gained;
  }
  exported_later ends.NotAStore is = record {
    at = is.at;
    found = is.found;
    want = is.want;
    other = other_since d old mid new known_mid is.at is.found is.want is.other;
    said = is.said;
  }
  exported_later ends.Incomplete is = record { begins = λ k. is.begins (known_mid k); absent = λ k. is.absent (known_mid k); silent = is.silent }
  exported_later ends.DiskFault is = record {
    refused = record {
      risen = λ below. let r : mid.faults < new.faults = is.refused.risen below in omega (arith, r, later);
      compared = λ k. is.refused.compared (known_mid k);
    };
    stopped = ⊎_elim inl (λ (n, within, put, whole). inr (n, within, put_later n put, whole_later whole)) is.stopped;
  }
  exported_later ends.SinkFault is = record {
    risen = is.risen;
    whole = whole_later is.whole;
    n = is.n;
    count = is.count;
    bytes = is.bytes;
    chunks = chunks_later (is.n + 1) is.bytes is.chunks;
    least = is.least;
    short = is.short;
    gained = is.gained;
  }
  exported_later ends.Memory is = record { begins = λ k. is.begins (known_mid k); silent = is.silent }
  exported_later ends.Damaged is = record { n = is.n; within = is.within; put = put_later is.n is.put; damaged = damaged_seen d old mid new (entry state) known_mid is.n is.damaged }
  exported_later ends.AuditNo is = absurd is
  exported_later ends.Recording is = absurd is
  exported_later ends.NoLife is = absurd is
  exported_later ends.TooLarge is = absurd is
  exported_later ends.Shape is = absurd is
  exported_later ends.Usage is = absurd is
  exported_later ends.LinkFault is = absurd is
  exported_later ends.SourceFault is = absurd is
  exported_later ends.NotEmpty is = absurd is
  exported_later ends.ContentSize is = absurd is
  exported_later ends.Schedule is = absurd is

-- what was found is so of the disk as it is now
pub found_now : (d : Descriptor) (disk disk' : DiskState) (book : LookUp) (set : List Bool) → disk'.tells ≡ disk.tells → disk'.honest ≡ disk.honest → IsFound d disk disk' book set → IsFound d disk' disk' book set
found_now d disk disk' book set tells honest f =
    let back = known_on disk' disk (sym tells) (sym honest) in record {
      count = f.count;
      leaf = f.leaf;
      found = λ known. f.found (back known);
      there = λ known. f.there (back known);
      begins = λ known. f.begins (back known);
    }
