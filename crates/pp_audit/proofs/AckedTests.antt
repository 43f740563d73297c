-- Whether each chunk that came first is acknowledged is decided by its test.
use Rattle.std.proofs.Common.{◌≡◌, ◌↔◌, ⊎_elim, ℕ, ◌+◌, ◌^◌, ◌<◌, ◌≤◌, Bool, true, false, not, ◌&&◌, ◌||◌, List, [], ◌∷◌, ◌++◌, length, refl, sym, ◌∙◌, ap, subst}
use Rattle.std.specs.List.{list_any, list_all}
use Rattle.std.proofs.lemmas.Bool.{and_parts, and_from, or_cases, or_left, or_right, or_parts, not-true, not_from_false, cases_Bool, both_ways}
use Rattle.pp_terms.specs.format.Descriptor.{Descriptor, chunks_of, height_of}
use Rattle.pp_terms.specs.format.Messages.{Message, Handshake, Data, Ack, Have, Integrity, Pex4, PexReq, Request, Cancel, Choke, Unchoke, Pex6}
use Rattle.pp_terms.specs.format.Traffic.{Record, Received, Quiet, Sent}
use Rattle.pp_terms.specs.tree.Book.{LookUp}
use Rattle.pp_terms.specs.tree.Claims.{met, Contradicts}
use Rattle.pp_terms.specs.tree.Proves.{Proves}
use Rattle.pp_traffic.specs.Life.{Life, comes_on, closes}
use Rattle.pp_traffic.specs.Past.{read, EachRecord}
use Rattle.pp_traffic.specs.Plain.{IsPlainNow, IsPlainUpTo}
use Rattle.pp_traffic.specs.Story.{story}
use Rattle.pp_promises.specs.Announced.{is_data, came_in, is_acknowledged, IsFirst, AcknowledgesFirst}
use Rattle.pp_promises.specs.LastTurn.{last_event, earlier, is_quiet}
use Rattle.pp_recorded.specs.declared.entry.Entry.{Entry}
use Rattle.pp_audit.specs.Acknowledgements.{is_excused, is_acked, acks_on, acks_newest, acks_each, acknowledges}
use Rattle.pp_audit.specs.Channels.{each_plain}
use Rattle.pp_recorded.specs.Contradictions.{contradicts}
use Rattle.pp_audit.specs.Digests.{is_long, AllAreLong}
use Rattle.pp_recorded.specs.PlainTests.{is_plain_newest}
use Rattle.pp_recorded.specs.Provings.{proves}
use Rattle.pp_audit.specs.Storings.{known_behind, each_stored}
use Rattle.pp_audit.proofs.ChannelSearch.{search_finds_all}
use Rattle.pp_recorded.proofs.Contradicting.{contradicts_is_tested}
use Rattle.pp_audit.proofs.LongHashes.{known_digests}
use Rattle.pp_recorded.proofs.Pasts.{first, one_more, entry_at}
use Rattle.pp_recorded.proofs.PlainParts.{plain_is_tested}
use Rattle.pp_recorded.proofs.Provings.{proves_is_tested}
use Rattle.pp_audit.proofs.StoredTests.{known_is}
use Rattle.pp_audit.proofs.Storings.{one_of_each, each_of_one}

-- ---- one record on one channel

acked_of : (d : Descriptor) (book : LookUp) (acked : ℕ → Bool) (life : Life) (before : List Record) (r : Record) (i : ℕ) (bytes : List ℕ)
    → chunks_of d ≤ 2 ^ 20 → height_of d ≤ 20 → acks_newest d book acked life (r ∷ before) ≡ true → IsFirst d book life before r i bytes → acked i ≡ true
acked_of d book acked life before r i bytes few low e f =
    let b = f.brings in
    let known = known_behind d life before b.front in
    let on : acks_on d book acked life before r ≡ true = ⊎_elim
    (λ other. absurd (both_ways (is_plain_newest d life (r ∷ before)) (not-true (is_plain_newest d life (r ∷ before)) other) ((plain_is_tested d life (r ∷ before) before).1 b.plain)))
    (λ on. on)
    (or_cases (not (is_plain_newest d life (r ∷ before))) (acks_on d book acked life before r) e) in
    let each : each_stored (λ front m. is_acked d book acked before (known_behind d life before front) front m) [] (read d r).messages.read ≡ true = ⊎_elim
    (λ other. absurd (both_ways (comes_on d life r) (not-true (comes_on d life r) other) b.comes))
    (λ all. all)
    (or_cases (not (comes_on d life r)) (each_stored (λ front m. is_acked d book acked before (known_behind d life before front) front m) [] (read d r).messages.read) on) in
    let one : (is_excused d book before (known_behind d life before b.front) b.front i bytes || acked i) ≡ true =
    one_of_each (λ front m. is_acked d book acked before (known_behind d life before front) front m) [] b.front (Data i b.sent_at bytes) b.rest b.open_still refl
    (ap (λ (ms : List Message). each_stored (λ front m. is_acked d book acked before (known_behind d life before front) front m) [] ms) (sym b.messages) ∙ each) in
    let proved = subst (λ (k : LookUp). Proves d k i bytes) (known_is d life r before b.front) f.proved in
    ⊎_elim
    (λ excused. ⊎_elim
    (λ other. absurd (both_ways (proves d known i bytes) (not-true (proves d known i bytes) other) ((proves_is_tested d known i bytes few proved.digests).1 proved)))
    (λ rest. ⊎_elim
    (λ apart. absurd (f.agrees (subst (λ (k : LookUp). Contradicts book (met d k i bytes)) (sym (known_is d life r before b.front)) ((contradicts_is_tested d book known i bytes few low).0 apart))))
    (λ seen. ⊎_elim
    (λ came. absurd (both_ways (list_any (came_in d i) before) f.none_before came))
    (λ front. absurd (both_ways (list_any (is_data i) b.front) f.none_in_front front))
    (or_cases (list_any (came_in d i) before) (list_any (is_data i) b.front) seen))
    (or_cases (contradicts d book known i bytes) (list_any (came_in d i) before || list_any (is_data i) b.front) rest))
    (or_cases (not (proves d known i bytes)) (contradicts d book known i bytes || (list_any (came_in d i) before || list_any (is_data i) b.front)) excused))
    (λ acked_. acked_)
    (or_cases (is_excused d book before (known_behind d life before b.front) b.front i bytes) (acked i) one)

of_acked : (d : Descriptor) (book : LookUp) (acked : ℕ → Bool) (life : Life) (before : List Record) (r : Record)
    → chunks_of d ≤ 2 ^ 20 → height_of d ≤ 20 → AllAreLong d (r ∷ before)
    → ((i : ℕ) (bytes : List ℕ) → IsFirst d book life before r i bytes → acked i ≡ true) → acks_newest d book acked life (r ∷ before) ≡ true
of_acked d book acked life before r few low long all = ⊎_elim
    (λ plain. or_right (not (is_plain_newest d life (r ∷ before))) (acks_on d book acked life before r) (on ((plain_is_tested d life (r ∷ before) before).0 plain)))
    (λ other. or_left (not (is_plain_newest d life (r ∷ before))) (acks_on d book acked life before r) (not_from_false (is_plain_newest d life (r ∷ before)) other))
    (cases_Bool (is_plain_newest d life (r ∷ before)))
  where
    first_of : IsPlainUpTo d life before r → comes_on d life r ≡ true → (mid : List Message) (i sent_at : ℕ) (bytes : List ℕ) (more : List Message)
        → (read d r).messages.read ≡ mid ++ Data i sent_at bytes ∷ more → closes mid ≡ false → is_excused d book before (known_behind d life before mid) mid i bytes ≡ false → acked i ≡ true
    first_of plain comes mid i sent_at bytes more split open_still none =
        let known = known_behind d life before mid in
        let a = or_parts (not (proves d known i bytes)) (contradicts d book known i bytes || (list_any (came_in d i) before || list_any (is_data i) mid)) none in
        let b = or_parts (contradicts d book known i bytes) (list_any (came_in d i) before || list_any (is_data i) mid) a.1 in
        let c = or_parts (list_any (came_in d i) before) (list_any (is_data i) mid) b.1 in
        let proved : proves d (known_behind d life before mid) i bytes ≡ true = ⊎_elim
        (λ yes_. yes_)
        (λ other. absurd (both_ways (not (proves d known i bytes)) a.0 (not_from_false (proves d known i bytes) other)))
        (cases_Bool (proves d known i bytes)) in
        let digests = known_digests d life before mid (Data i sent_at bytes ∷ more) long.1 (ap (λ (ms : List Message). list_all is_long ms) (sym split) ∙ long.0) in
        all i bytes (record {
          brings = record { plain = plain; comes = comes; front = mid; sent_at = sent_at; rest = more; messages = split; open_still = open_still };
          proved = subst (λ (k : LookUp). Proves d k i bytes) (sym (known_is d life r before mid)) ((proves_is_tested d known i bytes few digests).0 proved);
          agrees = λ apart. both_ways (contradicts d book known i bytes) b.0
              ((contradicts_is_tested d book known i bytes few low).1 (subst (λ (k : LookUp). Contradicts book (met d k i bytes)) (known_is d life r before mid) apart));
          none_before = c.0;
          none_in_front = c.1;
        })

    by : IsPlainUpTo d life before r → comes_on d life r ≡ true → (mid : List Message) (m : Message) (more : List Message) → (read d r).messages.read ≡ mid ++ m ∷ more → closes mid ≡ false
        → is_acked d book acked before (known_behind d life before mid) mid m ≡ true
    by plain comes mid (Data i sent_at bytes) more split open_still = ⊎_elim
        (λ excused. or_left (is_excused d book before (known_behind d life before mid) mid i bytes) (acked i) excused)
        (λ none. or_right (is_excused d book before (known_behind d life before mid) mid i bytes) (acked i) (first_of plain comes mid i sent_at bytes more split open_still none))
        (cases_Bool (is_excused d book before (known_behind d life before mid) mid i bytes))
    by plain comes mid (Handshake source options) more split open_still = refl
    by plain comes mid (Ack span delay) more split open_still = refl
    by plain comes mid (Have span) more split open_still = refl
    by plain comes mid (Integrity span digest) more split open_still = refl
    by plain comes mid (Pex4 address port) more split open_still = refl
    by plain comes mid PexReq more split open_still = refl
    by plain comes mid (Request span) more split open_still = refl
    by plain comes mid (Cancel span) more split open_still = refl
    by plain comes mid Choke more split open_still = refl
    by plain comes mid Unchoke more split open_still = refl
    by plain comes mid (Pex6 address port) more split open_still = refl

    on : IsPlainUpTo d life before r → acks_on d book acked life before r ≡ true
    on plain = ⊎_elim
        (λ comes. or_right (not (comes_on d life r)) (each_stored (λ front m. is_acked d book acked before (known_behind d life before front) front m) [] (read d r).messages.read)
        (each_of_one (λ front m. is_acked d book acked before (known_behind d life before front) front m) [] (read d r).messages.read
        (λ mid m more split open_still other. by plain comes mid m more split open_still)))
        (λ elsewhere. or_left (not (comes_on d life r)) (each_stored (λ front m. is_acked d book acked before (known_behind d life before front) front m) [] (read d r).messages.read)
        (not_from_false (comes_on d life r) elsewhere))
        (cases_Bool (comes_on d life r))

-- ---- the records of some turns

-- each chunk that came first in a record is acknowledged, while its channel is plain
abbrev Acks : Descriptor → LookUp → List Record → List Record → Record → Type 0
Acks d book past before r = (life : Life) (i : ℕ) (bytes : List ℕ) → IsFirst d book life before r i bytes → IsPlainNow d life past → is_acknowledged i (story d life past) ≡ true

each_acked : (d : Descriptor) (book : LookUp) (past rs : List Record) → chunks_of d ≤ 2 ^ 20 → height_of d ≤ 20
    → ((life : Life) → IsPlainNow d life past → acks_each d book (λ i. is_acknowledged i (story d life past)) life rs ≡ true) → EachRecord (λ before r. Acks d book past before r) rs
each_acked d book past [] few low all = tt
each_acked d book past (r ∷ before) few low all = (
  λ life i bytes f plain.
      acked_of d book (λ k. is_acknowledged k (story d life past)) life before r i bytes few low
      (and_parts (acks_newest d book (λ k. is_acknowledged k (story d life past)) life (r ∷ before)) (acks_each d book (λ k. is_acknowledged k (story d life past)) life before) (all life plain)).0 f,
  each_acked d book past before few low
      (λ life plain. (and_parts (acks_newest d book (λ k. is_acknowledged k (story d life past)) life (r ∷ before)) (acks_each d book (λ k. is_acknowledged k (story d life past)) life before) (all life plain)).1),
)

acked_each : (d : Descriptor) (book : LookUp) (past rs : List Record) → chunks_of d ≤ 2 ^ 20 → height_of d ≤ 20 → AllAreLong d rs → EachRecord (λ before r. Acks d book past before r) rs
    → (life : Life) → IsPlainNow d life past → acks_each d book (λ i. is_acknowledged i (story d life past)) life rs ≡ true
acked_each d book past [] few low long all life plain = refl
acked_each d book past (r ∷ before) few low long all life plain =
    and_from (acks_newest d book (λ k. is_acknowledged k (story d life past)) life (r ∷ before)) (acks_each d book (λ k. is_acknowledged k (story d life past)) life before)
    (of_acked d book (λ k. is_acknowledged k (story d life past)) life before r few low long (λ i bytes f. all.0 life i bytes f plain))
    (acked_each d book past before few low long.1 all.1 life plain)

earlier_long : (d : Descriptor) (past : List Record) → AllAreLong d past → AllAreLong d (earlier past)
earlier_long d [] long = tt
earlier_long d (Received at sender bytes ∷ before) long = long.1
earlier_long d (Quiet at ∷ before) long = long.1
earlier_long d (Sent moment receiver bytes ∷ before) long = earlier_long d before long.1

pub acked_decided : (d : Descriptor) (book : LookUp) → chunks_of d ≤ 2 ^ 20 → height_of d ≤ 20 → (past : List Record) → AllAreLong d past
    → (each_plain (λ life. acknowledges d book past life) d past ≡ true) ↔ AcknowledgesFirst d book past
acked_decided d book few low past long =
    let search = search_finds_all (λ life. acknowledges d book past life) d past in (
      λ e quiet.
          each_acked d book past (earlier past) few low
          (λ life plain. ⊎_elim
          (λ other. absurd (both_ways (is_quiet (last_event past)) (not-true (is_quiet (last_event past)) other) quiet))
          (λ all. all)
          (or_cases (not (is_quiet (last_event past))) (acks_each d book (λ i. is_acknowledged i (story d life past)) life (earlier past)) (search.0 e life plain))),
      λ acks.
          search.1 (λ life plain. ⊎_elim
          (λ quiet. or_right (not (is_quiet (last_event past))) (acks_each d book (λ i. is_acknowledged i (story d life past)) life (earlier past))
          (acked_each d book past (earlier past) few low (earlier_long d past long) (acks quiet) life plain))
          (λ other. or_left (not (is_quiet (last_event past))) (acks_each d book (λ i. is_acknowledged i (story d life past)) life (earlier past)) (not_from_false (is_quiet (last_event past)) other))
          (cases_Bool (is_quiet (last_event past)))),
    )

-- ---- by the code, one entry more

pub acks_more : (d : Descriptor) (book : LookUp) (acked : ℕ → Bool) (life : Life) (xs : List Entry) (i : ℕ) (b all : Bool) → i < length xs
    → b ≡ acks_newest d book acked life (first (i + 1) xs) → all ≡ acks_each d book acked life (first i xs) → (b && all) ≡ acks_each d book acked life (first (i + 1) xs)
acks_more d book acked life xs i b all lt here so_far =
    let x = entry_at xs i lt in
    ap (λ (y : Bool). y && all) here
    ∙ ap (λ (y : Bool). acks_newest d book acked life (first (i + 1) xs) && y) so_far
    ∙ subst (λ (rs : List Record). (acks_newest d book acked life rs && acks_each d book acked life (first i xs)) ≡ acks_each d book acked life rs)
    (sym (one_more xs i x.0 lt x.1)) refl
