-- A peer that keeps the chunk that it announced.
use Rattle.std.proofs.Common.{◌≡◌, ⊎_elim, ℕ, zero, suc, ◌+◌, ◌<◌, leb, true, false, ◌&&◌, List, [], ◌∷◌, ◌++◌, length, replicate, codes, refl, sym, ◌∙◌, ap, subst, arith}
use Rattle.std.proofs.lemmas.Bool.{false≢true, leb-true, and_parts, or_cases}
use Rattle.std.proofs.lemmas.List.{get_or_append_left, length-append, append_assoc}
use Rattle.std.specs.Fmt.{digits}
use Rattle.std.specs.Prelude.{slice_index, slice_index_or}
use Rattle.sha2.specs.Sha256.{first_words, schedule, rounds, compress, hash_after, digest_bytes, sha256}
use Rattle.pp_terms.proofs.Images.{sole_image}
use Rattle.pp_terms.specs.Example.{abc, store_of_abc}
use Rattle.pp_terms.specs.disk.Disk.{IsImage}
use Rattle.pp_terms.specs.disk.Image.{holds, StandsIn}
use Rattle.pp_terms.specs.disk.Sound.{IsSound}
use Rattle.pp_terms.specs.disk.Store.{header, open_gate, file_size, Has}
use Rattle.pp_terms.specs.format.Descriptor.{chunks_of}
use Rattle.pp_terms.specs.format.Messages.{leaves_of, span_in, handshake_at, data_at, ack_at, integrity_at, span_at, address_at, message_at, next_message, messages_from, datagram}
use Rattle.pp_terms.specs.format.Traffic.{Sent}
use Rattle.pp_terms.specs.tree.Tree.{node, height}
use Rattle.pp_traffic.specs.Keeping.{announces, StandsSince, Keeps}
use Rattle.pp_traffic.specs.Past.{read}
use Rattle.pp_world.specs.Outcome.{peer_line, is_held}
use Rattle.pp_world.specs.Session.{Session}
use Rattle.pp_world.specs.World.{reads_of, disk_since, address_of}
use Rattle.pp_world.specs.WorldExamples.{mark, announcing, keeper, have, KeptExamples}

-- what stands behind the header in the store of "abc"
abbrev rest : List ℕ
rest = codes "abc" ++ (replicate 1085 0 ++ open_gate)

split : header abc ++ rest ≡ store_of_abc
split = sym (append_assoc (header abc ++ codes "abc") (replicate 1085 0) open_gate ∙ append_assoc (header abc) (codes "abc") (replicate 1085 0 ++ open_gate))

begins : Has 0 (header abc) store_of_abc
begins = subst (Has 0 (header abc)) split (record {
  inside = let sum = length-append (header abc) rest in omega (arith, sum);
  same = λ k lt. let place : 0 + k ≡ k = omega arith in
      ap (λ (n : ℕ). slice_index (header abc ++ rest) n) place ∙ get_or_append_left (header abc) rest 0 k lt;
})

-- its chunk is held behind an open gate, in that image alone
stands : StandsIn abc store_of_abc 0
unfolding header first_words schedule rounds compress hash_after digest_bytes sha256 node height
stands = record { begins = begins; within = let one : chunks_of abc ≡ 1 = refl in omega (arith, one); opened = refl; held = refl }

only_stored : (image : List ℕ) → IsImage (record { durable = store_of_abc; pending = [] }) image → StandsIn abc image 0
only_stored image is = subst (λ (xs : List ℕ). StandsIn abc xs 0) (sym (sole_image store_of_abc image is)) stands

only_sound : (image : List ℕ) → IsImage (record { durable = store_of_abc; pending = [] }) image → IsSound abc image
unfolding header first_words schedule rounds compress hash_after digest_bytes sha256 node height
only_sound image is = subst (IsSound abc) (sym (sole_image store_of_abc image is)) (record {
  long = λ starts. let size : file_size abc ≡ 1153 = refl in let long : length store_of_abc ≡ 1153 = refl in omega (arith, size, long);
  held = λ starts i lt opened.
      let one : chunks_of abc ≡ 1 = refl in
      let zero_is : 0 ≡ i = omega (arith, one, lt) in
      subst (λ (n : ℕ). holds abc store_of_abc n ≡ true) zero_is stands.held;
})

-- the datagram announces chunk 0 alone
announces_zero : (moment i : ℕ) → announces i (read abc (Sent moment (address_of 1) have)).messages.read ≡ true → 0 ≡ i
unfolding leaves_of span_in handshake_at data_at ack_at integrity_at span_at address_at message_at next_message messages_from datagram
announces_zero moment i e = ⊎_elim
    (λ here. let low = leb-true i 0 (and_parts (leb 0 i) (leb i 0) here).1 in omega arith)
    (λ none. absurd (false≢true none))
    (or_cases (leb 0 i && leb i 0) false e)

-- the newer session, and the older
abbrev newer : Session
newer = record (announcing 1) { opened = mark 1 0 }

newer_keeps : Keeps abc (disk_since keeper.disk newer) newer.traffic
newer_keeps = record {
  held = λ i each image leaves. ⊎_elim (λ is. each image is) (λ was. ⊎_elim (λ is. each image is) (λ none. absurd none) was) leaves;
  announced = λ sound. (
    λ i e. subst (λ (n : ℕ). StandsSince abc (disk_since keeper.disk newer) 1 n) (announces_zero 1 i e)
        (λ image leaves. ⊎_elim (λ is. only_stored image is) (λ none. absurd none) leaves),
    tt,
  );
}

older_keeps : Keeps abc (disk_since keeper.disk (announcing 0)) (announcing 0).traffic
older_keeps = record {
  held = λ i each image leaves. ⊎_elim (λ is. each image is) (λ was. ⊎_elim (λ is. each image is) (λ none. absurd none) was) leaves;
  announced = λ sound. (
    λ i e. subst (λ (n : ℕ). StandsSince abc (disk_since keeper.disk (announcing 0)) 0 n) (announces_zero 0 i e)
        (λ image leaves. ⊎_elim (λ is. only_stored image is) (λ was. ⊎_elim (λ is. only_stored image is) (λ none. absurd none) was) leaves),
    tt,
  );
}

-- chunk 0 is the only one of three bytes
held_alone : (i : ℕ) → i < 1 → slice_index_or (true ∷ []) i false ≡ is_held abc (reads_of keeper) i
unfolding header first_words schedule rounds compress hash_after digest_bytes sha256 node height
held_alone zero lt = refl
held_alone (suc i) lt = absurd (omega (arith, lt))

closed : is_held abc (header abc ++ codes "abc" ++ replicate 1086 0) 0 ≡ false
unfolding header first_words schedule rounds compress hash_after digest_bytes sha256 node height
closed = refl

other : is_held abc (header abc ++ codes "abd" ++ replicate 1085 0 ++ open_gate) 0 ≡ false
unfolding header first_words schedule rounds compress hash_after digest_bytes sha256 node height
other = refl

pub kept_examples : KeptExamples
unfolding leaves_of span_in handshake_at data_at ack_at integrity_at span_at address_at message_at next_message messages_from datagram peer_line digits
kept_examples = record {
  survives = (
    (
      record { sound = only_sound; keeps = newer_keeps; found = tt },
      (
        record {
          sound = only_sound;
          keeps = older_keeps;
          found = ((λ i e. subst (StandsIn abc store_of_abc) (announces_zero 0 i e) stands, tt), tt);
        },
        tt,
      ),
    ),
    (tt, tt),
  );
  numbers = record { lives = refl; announced = refl; size = refl; held = held_alone };
  closed = closed;
  other = other;
  said = refl;
}
