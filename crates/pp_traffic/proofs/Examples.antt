-- Worked examples on small traffic.
use Rattle.std.proofs.Common.{◌≡◌, inl, inr, ⊎_elim, ℕ, ◌+◌, leb, true, false, ◌&&◌, List, [], ◌++◌, length, replicate, codes, refl, sym, ◌∙◌, ap, subst, arith}
use Rattle.std.specs.Prelude.{slice_index}
use Rattle.std.proofs.lemmas.Bool.{false≢true, leb-true, and_parts, or_cases}
use Rattle.std.proofs.lemmas.List.{get_or_append_left, length-append, append_assoc}
use Rattle.sha2.specs.Sha256.{first_words, schedule, rounds, compress, hash_after, digest_bytes, sha256}
use Rattle.pp_terms.specs.Example.{abc, store_of_abc}
use Rattle.pp_terms.specs.tree.Tree.{node, height}
use Rattle.pp_terms.specs.disk.Disk.{History, IsImage, fresh, settled}
use Rattle.pp_terms.specs.disk.Store.{header, open_gate, file_size, Has}
use Rattle.pp_terms.specs.disk.Image.{is_open, StandsIn}
use Rattle.pp_terms.specs.disk.Sound.{IsSound}
use Rattle.pp_terms.specs.format.Traffic.{Sent}
use Rattle.pp_terms.specs.format.Messages.{leaves_of, span_in, handshake_at, data_at, ack_at, integrity_at, span_at, address_at, message_at, next_message, messages_from, datagram}
use Rattle.pp_terms.specs.format.Descriptor.{chunks_of}
use Rattle.pp_terms.specs.format.Options.{fault_at, read_from, read_options}
use Rattle.pp_terms.proofs.Images.{sole_image}
use Rattle.pp_traffic.specs.Past.{read}
use Rattle.pp_traffic.specs.Keeping.{announces, StandsSince, KeepsFrom, Keeps}
use Rattle.pp_traffic.specs.Example.{have, peer, announced, empty_store, pending, TurnExamples, CountExamples, WindowExamples, ClaimedExamples, KeepExamples}

pub turn_examples : TurnExamples
unfolding leaves_of span_in handshake_at data_at ack_at integrity_at span_at address_at message_at next_message messages_from datagram fault_at read_from read_options
turn_examples = record {
  one = refl;
  turns = refl;
  last = refl;
  too_late = λ e. cc;
  paid = inl (refl, inl (refl, tt));
  unpaid = λ at. elim at [ inl ends ↦ cc | inr more ↦ cc ];
  excused = inr (0, refl, inl (refl, tt));
}

pub count_examples : CountExamples
unfolding leaves_of span_in handshake_at data_at ack_at integrity_at span_at address_at message_at next_message messages_from datagram fault_at read_from read_options
count_examples = record {
  counted = (refl, refl, refl);
  tallied = record { turns = refl; datagrams = refl; sent = refl; short = refl; receive_faults = refl };
  asking = refl;
  none_asked = refl;
  one_asked = λ e. cc;
}

pub window_examples : WindowExamples
window_examples = record { empty = refl; full = refl; acknowledged = refl }

pub claimed_examples : ClaimedExamples
claimed_examples = record { pair = refl; cut = refl; unclaimed = refl; said = refl }

-- what stands behind the header in the store of "abc"
abbrev rest : List ℕ
rest = codes "abc" ++ (replicate 1085 0 ++ open_gate)

split : header abc ++ rest ≡ store_of_abc
split = sym (append_assoc (header abc ++ codes "abc") (replicate 1085 0) open_gate ∙ append_assoc (header abc) (codes "abc") (replicate 1085 0 ++ open_gate))

-- which begins with its header
begins : Has 0 (header abc) store_of_abc
begins = subst (Has 0 (header abc)) split (record {
  inside = let sum = length-append (header abc) rest in omega (arith, sum);
  same = λ k lt. let place : 0 + k ≡ k = omega arith in
      ap (λ (n : ℕ). slice_index (header abc ++ rest) n) place ∙ get_or_append_left (header abc) rest 0 k lt;
})

stands : StandsIn abc store_of_abc 0
unfolding header first_words schedule rounds compress hash_after digest_bytes sha256 node height
stands = record { begins = begins; within = let one : chunks_of abc ≡ 1 = refl in omega (arith, one); opened = refl; held = refl }

-- the datagram announces chunk 0 alone
announces_zero : (moment i : ℕ) → announces i (read abc (Sent moment peer have)).messages.read ≡ true → i ≡ 0
unfolding leaves_of span_in handshake_at data_at ack_at integrity_at span_at address_at message_at next_message messages_from datagram
announces_zero moment i e = ⊎_elim
    (λ here. let low = leb-true i 0 (and_parts (leb 0 i) (leb i 0) here).1 in omega arith)
    (λ none. absurd (false≢true none))
    (or_cases (leb 0 i && leb i 0) false e)

only_store : (image : List ℕ) → IsImage (record { durable = store_of_abc; pending = [] }) image → StandsIn abc image 0
only_store image is = subst (λ (xs : List ℕ). StandsIn abc xs 0) (sym (sole_image store_of_abc image is)) stands

at_zero : (h : History) (moment i : ℕ) → i ≡ 0 → StandsSince abc h moment 0 → StandsSince abc h moment i
at_zero h moment i is since = subst (λ (n : ℕ). StandsSince abc h moment n) (sym is) since

kept : Keeps abc (fresh store_of_abc) (announced 0)
kept = record {
  held = λ i each image leaves. elim leaves [ inl is ↦ each image is | inr was ↦ absurd was ];
  announced = λ sound. (λ i e. at_zero (fresh store_of_abc) 0 i (announces_zero 0 i e) (λ image leaves. elim leaves [ inl is ↦ only_store image is | inr was ↦ absurd was ]), tt);
}

synced : KeepsFrom abc (settled pending store_of_abc) 1 (settled pending store_of_abc).epoch (announced 1)
synced = record {
  held = λ i each image leaves. elim leaves [ inl is ↦ each image is | inr was ↦ absurd was ];
  announced = λ sound. (λ i e. at_zero (settled pending store_of_abc) 1 i (announces_zero 1 i e) (λ image leaves. elim leaves [ inl is ↦ only_store image is | inr was ↦ absurd was ]), tt);
}

-- a crash may leave the store without the chunk
nothing_yet : IsImage pending.epoch empty_store
nothing_yet = record { no_shorter = omega arith; no_longer = omega arith; stays = λ k lt free. refl }

not_held : StandsIn abc empty_store 0 → ⊥
unfolding header first_words schedule rounds compress hash_after digest_bytes sha256 node height
not_held s = let e : false ≡ true = s.opened in cc

-- which is a sound one
began_sound : (image : List ℕ) → IsImage pending.first image → IsSound abc image
unfolding header first_words schedule rounds compress hash_after digest_bytes sha256 node height
began_sound image is = subst (IsSound abc) (sym (sole_image empty_store image is)) (record {
  long = λ begins. let size : file_size abc ≡ 1153 = refl in let long : length empty_store ≡ 1153 = refl in omega (arith, size, long);
  held = λ begins i lt opened.
      let one : chunks_of abc ≡ 1 = refl in
      let zero_is : i ≡ 0 = omega (arith, one) in
      let e : false ≡ true = subst (λ (n : ℕ). is_open abc empty_store n ≡ true) zero_is opened in cc;
})

announced_zero : announces 0 (read abc (Sent 0 peer have)).messages.read ≡ true
unfolding leaves_of span_in handshake_at data_at ack_at integrity_at span_at address_at message_at next_message messages_from datagram
announced_zero = refl

pub keep_examples : KeepExamples
keep_examples = record {
  kept = kept;
  too_early = λ keeps. not_held ((keeps.announced began_sound).0 0 announced_zero empty_store (inl nothing_yet));
  synced = synced;
}
