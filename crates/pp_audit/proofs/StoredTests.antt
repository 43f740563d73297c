-- Whether each record's chunks are stored is decided by its test.
use Rattle.std.proofs.Common.{◌≡◌, ◌↔◌, ◌⊎◌, inl, inr, ⊎_elim, ℕ, ◌+◌, ◌^◌, ◌<◌, ◌≤◌, Bool, true, false, not, ◌&&◌, ◌||◌, List, [], ◌∷◌, ◌++◌, length, refl, sym, ◌∙◌, ap, subst}
use Rattle.std.specs.Prelude.{slice_index_or}
use Rattle.std.specs.List.{list_all}
use Rattle.std.proofs.lemmas.Bool.{and_parts, and_from, or_cases, or_left, or_right, not-true, not_from_false, cases_Bool, both_ways}
use Rattle.pp_terms.specs.disk.Image.{holds}
use Rattle.pp_terms.specs.format.Descriptor.{Descriptor, chunks_of, height_of}
use Rattle.pp_terms.specs.format.Messages.{Message, Handshake, Data, Ack, Have, Integrity, Pex4, PexReq, Request, Cancel, Choke, Unchoke, Pex6}
use Rattle.pp_terms.specs.format.Traffic.{Record}
use Rattle.pp_terms.specs.tree.Book.{LookUp, AreDigests}
use Rattle.pp_terms.specs.tree.Claims.{met, Contradicts}
use Rattle.pp_terms.specs.tree.Proves.{Proves}
use Rattle.pp_traffic.specs.Life.{Life, comes_on, closes}
use Rattle.pp_traffic.specs.Past.{now, read}
use Rattle.pp_traffic.specs.Plain.{IsPlainUpTo}
use Rattle.pp_promises.specs.Stored.{claimed_before, met_before, BringsChunk, StoresAll}
use Rattle.pp_audit.specs.Channels.{passes_openings}
use Rattle.pp_recorded.specs.Contradictions.{contradicts}
use Rattle.pp_audit.specs.Digests.{is_long, AllAreLong}
use Rattle.pp_recorded.specs.PlainTests.{is_plain_newest}
use Rattle.pp_recorded.specs.Provings.{proves}
use Rattle.pp_audit.specs.Stored.{stores_all}
use Rattle.pp_audit.specs.Storings.{known_behind, is_stored, each_stored, stores_on, stores_newest}
use Rattle.pp_recorded.specs.declared.entry.Entry.{Entry}
use Rattle.pp_recorded.proofs.Pasts.{first, one_more, entry_at}
use Rattle.pp_audit.proofs.ChannelSearch.{newest_finds_all}
use Rattle.pp_recorded.proofs.Claimings.{claimed_is}
use Rattle.pp_recorded.proofs.Contradicting.{contradicts_is_tested}
use Rattle.pp_audit.proofs.LongHashes.{known_digests}
use Rattle.pp_recorded.proofs.Provings.{proves_is_tested}
use Rattle.pp_audit.proofs.Storings.{one_of_each, each_of_one}

-- what is known there, both ways
pub known_is : (d : Descriptor) (life : Life) (r : Record) (before : List Record) (front : List Message) → claimed_before d life r before front ≡ known_behind d life before front
known_is d life r before front = claimed_is d life (now (r ∷ before)) front before

-- ---- one chunk

kept_from : (d : Descriptor) (book : LookUp) (reads : List ℕ) (held : List Bool) (known : LookUp) (i : ℕ) (bytes : List ℕ)
    → ((k : ℕ) → (slice_index_or held k false ≡ true) ↔ (holds d reads k ≡ true)) → chunks_of d ≤ 2 ^ 20 → height_of d ≤ 20
    → (not (proves d known i bytes) || (slice_index_or held i false || contradicts d book known i bytes)) ≡ true → Proves d known i bytes
    → (holds d reads i ≡ true) ⊎ Contradicts book (met d known i bytes)
kept_from d book reads held known i bytes is few low e p = ⊎_elim
    (λ other. absurd (both_ways (proves d known i bytes) (not-true (proves d known i bytes) other) ((proves_is_tested d known i bytes few p.digests).1 p)))
    (λ kept. ⊎_elim
    (λ here. inl ((is i).0 here))
    (λ apart. inr ((contradicts_is_tested d book known i bytes few low).0 apart))
    (or_cases (slice_index_or held i false) (contradicts d book known i bytes) kept))
    (or_cases (not (proves d known i bytes)) (slice_index_or held i false || contradicts d book known i bytes) e)

from_kept : (d : Descriptor) (book : LookUp) (reads : List ℕ) (held : List Bool) (known : LookUp) (i : ℕ) (bytes : List ℕ)
    → ((k : ℕ) → (slice_index_or held k false ≡ true) ↔ (holds d reads k ≡ true)) → chunks_of d ≤ 2 ^ 20 → height_of d ≤ 20 → AreDigests known
    → (Proves d known i bytes → (holds d reads i ≡ true) ⊎ Contradicts book (met d known i bytes))
    → (not (proves d known i bytes) || (slice_index_or held i false || contradicts d book known i bytes)) ≡ true
from_kept d book reads held known i bytes is few low digests all = ⊎_elim
    (λ proved. or_right (not (proves d known i bytes)) (slice_index_or held i false || contradicts d book known i bytes)
    (⊎_elim
    (λ here. or_left (slice_index_or held i false) (contradicts d book known i bytes) ((is i).1 here))
    (λ apart. or_right (slice_index_or held i false) (contradicts d book known i bytes) ((contradicts_is_tested d book known i bytes few low).1 apart))
    (all ((proves_is_tested d known i bytes few digests).0 proved))))
    (λ other. or_left (not (proves d known i bytes)) (slice_index_or held i false || contradicts d book known i bytes) (not_from_false (proves d known i bytes) other))
    (cases_Bool (proves d known i bytes))

-- ---- one record on one channel

stores_from : (d : Descriptor) (book : LookUp) (reads : List ℕ) (held : List Bool) (life : Life) (before : List Record) (r : Record) (i : ℕ) (bytes : List ℕ)
    → ((k : ℕ) → (slice_index_or held k false ≡ true) ↔ (holds d reads k ≡ true)) → chunks_of d ≤ 2 ^ 20 → height_of d ≤ 20
    → stores_on d book held life before r ≡ true → (b : BringsChunk d life before r i bytes) → Proves d (claimed_before d life r before b.front) i bytes
    → (holds d reads i ≡ true) ⊎ Contradicts book (met_before d life r before b.front i bytes)
stores_from d book reads held life before r i bytes is few low e b p =
    let each : each_stored (λ front m. is_stored d book held (known_behind d life before front) m) [] (read d r).messages.read ≡ true =
    ⊎_elim
    (λ other. absurd (both_ways (comes_on d life r) (not-true (comes_on d life r) other) b.comes))
    (λ all. all)
    (or_cases (not (comes_on d life r)) (each_stored (λ front m. is_stored d book held (known_behind d life before front) m) [] (read d r).messages.read) e) in
    let one = one_of_each (λ front m. is_stored d book held (known_behind d life before front) m) [] b.front (Data i b.sent_at bytes) b.rest b.open_still refl
    (ap (λ (ms : List Message). each_stored (λ front m. is_stored d book held (known_behind d life before front) m) [] ms) (sym b.messages) ∙ each) in
    subst (λ (known : LookUp). (holds d reads i ≡ true) ⊎ Contradicts book (met d known i bytes)) (sym (known_is d life r before b.front))
    (kept_from d book reads held (known_behind d life before b.front) i bytes is few low one
    (subst (λ (known : LookUp). Proves d known i bytes) (known_is d life r before b.front) p))

from_stores : (d : Descriptor) (book : LookUp) (reads : List ℕ) (held : List Bool) (life : Life) (before : List Record) (r : Record)
    → ((k : ℕ) → (slice_index_or held k false ≡ true) ↔ (holds d reads k ≡ true)) → chunks_of d ≤ 2 ^ 20 → height_of d ≤ 20 → AllAreLong d (r ∷ before)
    → IsPlainUpTo d life before r
    → ((i : ℕ) (bytes : List ℕ) (b : BringsChunk d life before r i bytes) → Proves d (claimed_before d life r before b.front) i bytes
    → (holds d reads i ≡ true) ⊎ Contradicts book (met_before d life r before b.front i bytes))
    → stores_on d book held life before r ≡ true
from_stores d book reads held life before r is few low long plain all = ⊎_elim
    (λ comes. or_right (not (comes_on d life r)) (each_stored (λ front m. is_stored d book held (known_behind d life before front) m) [] (read d r).messages.read)
    (each_of_one (λ front m. is_stored d book held (known_behind d life before front) m) [] (read d r).messages.read
    (λ mid m more split open_still other. by comes mid m more split open_still)))
    (λ elsewhere. or_left (not (comes_on d life r)) (each_stored (λ front m. is_stored d book held (known_behind d life before front) m) [] (read d r).messages.read)
    (not_from_false (comes_on d life r) elsewhere))
    (cases_Bool (comes_on d life r))
  where
    by : comes_on d life r ≡ true → (mid : List Message) (m : Message) (more : List Message) → (read d r).messages.read ≡ mid ++ m ∷ more → closes mid ≡ false
        → is_stored d book held (known_behind d life before mid) m ≡ true
    by comes mid (Data i sent_at bytes) more split open_still =
        from_kept d book reads held (known_behind d life before mid) i bytes is few low
        (known_digests d life before mid (Data i sent_at bytes ∷ more) long.1 (ap (λ (ms : List Message). list_all is_long ms) (sym split) ∙ long.0))
        (λ p. subst (λ (known : LookUp). (holds d reads i ≡ true) ⊎ Contradicts book (met d known i bytes)) (known_is d life r before mid)
        (all i bytes (record { plain = plain; comes = comes; front = mid; sent_at = sent_at; rest = more; messages = split; open_still = open_still })
        (subst (λ (known : LookUp). Proves d known i bytes) (sym (known_is d life r before mid)) p)))
    by comes mid (Handshake source options) more split open_still = refl
    by comes mid (Ack span delay) more split open_still = refl
    by comes mid (Have span) more split open_still = refl
    by comes mid (Integrity span digest) more split open_still = refl
    by comes mid (Pex4 address port) more split open_still = refl
    by comes mid PexReq more split open_still = refl
    by comes mid (Request span) more split open_still = refl
    by comes mid (Cancel span) more split open_still = refl
    by comes mid Choke more split open_still = refl
    by comes mid Unchoke more split open_still = refl
    by comes mid (Pex6 address port) more split open_still = refl

-- ---- all records

pub stored_decided : (d : Descriptor) (book : LookUp) (reads : List ℕ) (held : List Bool)
    → ((k : ℕ) → (slice_index_or held k false ≡ true) ↔ (holds d reads k ≡ true)) → chunks_of d ≤ 2 ^ 20 → height_of d ≤ 20
    → (past : List Record) → AllAreLong d past → (stores_all d book held past ≡ true) ↔ StoresAll d book reads past
stored_decided d book reads held is few low [] long = (λ e. tt, λ s. refl)
stored_decided d book reads held is few low (r ∷ before) long =
    let rest = stored_decided d book reads held is few low before long.1 in
    let search = newest_finds_all (λ life. stores_newest d book held (r ∷ before) life) d r before in
    let here = passes_openings (λ life. not (is_plain_newest d life (r ∷ before)) || stores_newest d book held (r ∷ before) life) d (r ∷ before) (r ∷ before) in (
      λ e.
          let parts = and_parts here (stores_all d book held before) e in (
            λ life i bytes b p. stores_from d book reads held life before r i bytes is few low (search.0 parts.0 life b.plain) b p,
            rest.0 parts.1,
          ),
      λ s.
          and_from here (stores_all d book held before)
          (search.1 (λ life plain. from_stores d book reads held life before r is few low long plain (λ i bytes b p. s.0 life i bytes b p)))
          (rest.1 s.1),
    )

-- by the code, one entry more
pub stores_more : (d : Descriptor) (book : LookUp) (held : List Bool) (xs : List Entry) (i : ℕ) (b all : Bool) → i < length xs
    → b ≡ passes_openings (λ life. not (is_plain_newest d life (first (i + 1) xs)) || stores_newest d book held (first (i + 1) xs) life) d (first (i + 1) xs) (first (i + 1) xs)
    → all ≡ stores_all d book held (first i xs) → (b && all) ≡ stores_all d book held (first (i + 1) xs)
stores_more d book held xs i b all lt here so_far =
    let x = entry_at xs i lt in
    ap (λ (y : Bool). y && all) here
    ∙ ap (λ (y : Bool). passes_openings (λ life. not (is_plain_newest d life (first (i + 1) xs)) || stores_newest d book held (first (i + 1) xs) life) d (first (i + 1) xs) (first (i + 1) xs) && y) so_far
    ∙ subst (λ (rs : List Record). (passes_openings (λ life. not (is_plain_newest d life rs) || stores_newest d book held rs life) d rs rs && stores_all d book held (first i xs)) ≡ stores_all d book held rs)
    (sym (one_more xs i x.0 lt x.1)) refl
