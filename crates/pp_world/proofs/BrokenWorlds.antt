-- Moves that no peer makes, and worlds in which a promise is broken.
use Rattle.std.proofs.Common.{◌≡◌, inl, ⊎_elim, ℕ, zero, suc, ◌+◌, replicate, true, false, List, [], ◌∷◌, ◌++◌, refl, ap, arith}
use Rattle.std.specs.Prelude.{codes, slice_index, Option, None}
use Rattle.sha2.specs.Sha256.{first_words, schedule, rounds, compress, hash_after, digest_bytes, sha256}
use Rattle.pp_terms.proofs.Images.{is_sole}
use Rattle.pp_terms.specs.Example.{abc}
use Rattle.pp_terms.specs.disk.Calls.{Did, Wrote, Refused, Synced, Crashed}
use Rattle.pp_terms.specs.disk.Store.{header}
use Rattle.pp_terms.specs.format.Messages.{spell, leaves_of, span_in, handshake_at, data_at, ack_at, integrity_at, span_at, address_at, message_at, next_message, messages_from, datagram, Integrity}
use Rattle.pp_terms.specs.format.Mismatch.{mismatch_of}
use Rattle.pp_terms.specs.format.Options.{spelling_of, fault_at, read_from, read_options}
use Rattle.pp_terms.specs.format.Traffic.{Record, Received, Quiet, Sent}
use Rattle.pp_terms.specs.tree.Book.{LookUp}
use Rattle.pp_terms.specs.tree.Tree.{leaf_at, node, height}
use Rattle.pp_traffic.specs.Life.{IsLife}
use Rattle.pp_traffic.specs.Plain.{IsPlainUpTo}
use Rattle.pp_world.proofs.WorldExamples.{is_anothers}
use Rattle.pp_world.specs.Agreement.{HaveClashed, ClashesWithTree, AllBooksAgree}
use Rattle.pp_world.specs.Change.{Acts}
use Rattle.pp_world.specs.Knowing.{PeersKnowTold}
use Rattle.pp_world.specs.Opening.{Opens, FailsToOpen}
use Rattle.pp_world.specs.Outcome.{IsEndOf}
use Rattle.pp_world.specs.Schedule.{Crash}
use Rattle.pp_world.specs.Session.{Session}
use Rattle.pp_world.specs.Shipment.{Shipment, IsRecordOf, HasSent, SentChunk, TookIn, DatagramsAreAtomic}
use Rattle.pp_world.specs.Survival.{AnnouncedSurvives}
use Rattle.pp_world.specs.Turn.{TakesTurn}
use Rattle.pp_world.specs.World.{PeerState, World, address_of}
use Rattle.pp_world.specs.Worlds.{swarm_of, empty_disk, idle}
use Rattle.pp_world.specs.WorldExamples.{small, taught, session_with, peer_with, opened_peer, forged_0, greeting, failing, with_file, turned_0, turned_1, stopped_1, restarted_with, world, keeper, end_of}
use Rattle.pp_world.specs.BrokenWorlds.{gave_up, sent_last, unscathed_0, three, dial, reply, ask, chunk, sender_past, receiver_past, sender_life, receiver_life, nothing, sender, receiver, lost_chunk, announcer, unlearned, forgetful, wrecked, root_is, two_roots, BrokenWorlds}

-- ---- moves

-- the first datagram that waits is in what a turn gained
no_other : (r : Record) (sent : List Record) → (Received 20000 (address_of 1) (0xab ∷ []) ≡ r → ⊥)
    → r ∷ [] ≡ sent ++ Received 20000 (address_of 1) (0xab ∷ []) ∷ [] → ⊥
no_other r [] differs e = differs cc
no_other r (x ∷ []) differs e = cc
no_other r (x ∷ y ∷ rest) differs e = cc

deaf : (new : PeerState) → TakesTurn 20000 forged_0 (Quiet 20000 ∷ []) new → ⊥
deaf new t = no_other (Quiet 20000) t.sent (λ e. cc) t.gained

-- the first byte of what came in a record
first_byte : Record → ℕ
first_byte (Received at from bytes) = slice_index bytes 0
first_byte (Quiet at) = 0
first_byte (Sent moment receiver bytes) = 0

newer_differs : Received 20000 (address_of 1) (0xab ∷ []) ≡ Received 20000 (address_of 1) (0xcd ∷ []) → ⊥
unfolding first_byte
newer_differs e = let f : 0xab ≡ 0xcd = ap first_byte e in omega (arith, f)

newest : (new : PeerState) → TakesTurn 20000 forged_0 (Received 20000 (address_of 1) (0xcd ∷ []) ∷ []) new → ⊥
newest new t = no_other (Received 20000 (address_of 1) (0xcd ∷ [])) t.sent newer_differs t.gained

stops : TakesTurn 20000 opened_peer (Quiet 20000 ∷ []) gave_up → ⊥
stops t = ⊎_elim (λ e. cc) (λ e. omega (arith, e.2)) t.goes_on

-- nothing stands before the event where nothing was sent
none_sent : (r : Record) (sent : List Record) → sent ≡ [] → r ∷ Quiet 20000 ∷ [] ≡ sent ++ Quiet 20000 ∷ [] → ⊥
none_sent r [] none e = cc
none_sent r (x ∷ xs) none e = cc

sends : TakesTurn 20000 failing (Sent 0 (address_of 1) greeting ∷ Quiet 20000 ∷ []) sent_last → ⊥
sends t = ⊎_elim (λ e. cc) (λ e. none_sent (Sent 0 (address_of 1) greeting) t.sent e.1 t.gained) t.goes_on

another : (new : PeerState) → Opens (swarm_of small) with_file new → ⊥
another new o = o.begins is_anothers

shut : FailsToOpen three (idle empty_disk) (idle empty_disk) → ⊥
shut f = ⊎_elim (λ a. omega (arith, a.some)) (λ e. omega (arith, e)) f.cause

-- the digest of node (1, 0) in the newest session's book
newest_digest : List Session → Option (List ℕ)
newest_digest [] = None
newest_digest (s ∷ earlier) = s.book 1 0

remembers : Opens (swarm_of small) stopped_1 (restarted_with taught) → ⊥
unfolding newest_digest height
remembers o = let e = ap newest_digest o.is in let f = o.learned 1 0 in cc

-- the images of the crashes of a world's first peer
crash_images : List Did → List ℕ
crash_images [] = []
crash_images (Wrote place bytes ∷ done) = crash_images done
crash_images (Refused place bytes ∷ done) = crash_images done
crash_images (Synced ∷ done) = crash_images done
crash_images (Crashed image ∷ done) = image ++ crash_images done

first_images : List PeerState → List ℕ
first_images [] = []
first_images (x ∷ xs) = crash_images x.disk.done

image_of : World → List ℕ
image_of w = first_images w.peers

unscathed : Acts three (Crash 0 2) (world 20000 turned_0 turned_1) (world 20000 unscathed_0 turned_1) → ⊥
unfolding image_of first_images crash_images
unscathed e = let f = ap image_of e in cc

-- ---- announced chunks

announced : AnnouncedSurvives three (world 0 announcer opened_peer) → ⊥
unfolding spell leaves_of span_in handshake_at data_at ack_at integrity_at span_at address_at message_at next_message messages_from datagram
announced k = let e : false ≡ true = ((k.0.0.keeps.announced k.0.0.sound).0 0 refl [] (inl (is_sole []))).opened in cc

forgotten : AnnouncedSurvives three (world 0 forgetful opened_peer) → ⊥
unfolding spell leaves_of span_in handshake_at data_at ack_at integrity_at span_at address_at message_at next_message messages_from datagram
forgotten k = let e : false ≡ true = (k.0.1.0.found.0.0 0 refl).opened in cc

crashed : AnnouncedSurvives abc (world 0 wrecked opened_peer) → ⊥
unfolding spell leaves_of span_in handshake_at data_at ack_at integrity_at span_at address_at message_at next_message messages_from datagram
crashed k = let e : false ≡ true = ((k.0.0.keeps.announced k.0.0.sound).0 0 refl [] (inl (is_sole []))).opened in cc

untold : PeersKnowTold three (world 0 unlearned opened_peer) → ⊥
unfolding spell leaves_of span_in handshake_at data_at ack_at integrity_at span_at address_at message_at next_message messages_from datagram height
untold k = let e : false ≡ true = k.0.0.0.0 0 refl (leaf_at 0) refl in cc

-- ---- a chunk that isn't stored

life_of_sender : IsLife three sender_life sender_past
unfolding spell leaves_of span_in handshake_at data_at ack_at integrity_at span_at address_at message_at next_message messages_from datagram spelling_of fault_at read_from read_options mismatch_of height
life_of_sender = record {
  local_some = omega arith;
  remote_some = omega arith;
  greeted = refl;
  answered = refl;
  opened = refl;
  open_still = refl;
}

abbrev asked_session : Session
asked_session = session_with nothing [] receiver_past

sent_it : (past : List Record) (bytes : List ℕ) → IsRecordOf (Sent 0 (address_of 0) bytes) past asked_session
    → HasSent 1 (address_of 0) bytes (world 3 sender (receiver []))
sent_it past bytes stands = record {
  peer = receiver [];
  here = refl;
  session = asked_session;
  among = (0, omega arith, refl);
  moment = 0;
  past = past;
  stands = stands;
}

abbrev shipment : Shipment
shipment = record { sender = 0; receiver = 1; chunk = 0; bytes = chunk }

sent_chunk : SentChunk three (world 3 sender (receiver [])) shipment sender_life
unfolding spell leaves_of span_in handshake_at data_at ack_at integrity_at span_at address_at message_at next_message messages_from datagram spelling_of fault_at read_from read_options mismatch_of height
sent_chunk = record {
  peer = sender;
  here = refl;
  session = session_with nothing [] (Sent 0 (address_of 1) chunk ∷ sender_past);
  among = (0, omega arith, refl);
  moment = 0;
  past = sender_past;
  stands = record { after = []; split = refl };
  front = Integrity (record { first = 0; last = 0 }) (replicate 32 5) ∷ [];
  sent_at = 0;
  content = codes "abc";
  messages = refl;
  number = refl;
  to = refl;
  answers = record {
    alive = life_of_sender;
    asked_for = refl;
    unchoked = refl;
    heard = refl;
    whole_path = refl;
    in_window = refl;
  };
  genuine = (
    λ e. sent_it (Received 1 (address_of 0) reply ∷ Sent 0 (address_of 0) dial ∷ []) ask (record { after = []; split = refl }),
    (λ e. sent_it [] dial (record { after = Sent 0 (address_of 0) ask ∷ Received 1 (address_of 0) reply ∷ []; split = refl }), tt),
  );
}

plain_channel : IsPlainUpTo three receiver_life receiver_past (Received 3 (address_of 0) chunk)
unfolding spell leaves_of span_in handshake_at data_at ack_at integrity_at span_at address_at message_at next_message messages_from datagram spelling_of fault_at read_from read_options mismatch_of height
plain_channel = record {
  local_some = omega arith;
  remote_some = omega arith;
  fresh = refl;
  begins = record { opened = refl; replied = refl };
  open_still = refl;
  timely = refl;
}

took_in : TookIn three (world 3 sender (receiver [])) (world 3 sender (receiver (Received 3 (address_of 0) chunk ∷ []))) shipment receiver_life
took_in = record {
  before = receiver [];
  after = receiver (Received 3 (address_of 0) chunk ∷ []);
  was = refl;
  is = refl;
  session = asked_session;
  session' = session_with nothing [] (Received 3 (address_of 0) chunk ∷ receiver_past);
  earlier = [];
  sessions = refl;
  sessions' = refl;
  sent = [];
  at = 3;
  traffic = refl;
  from = refl;
  is_plain = plain_channel;
}

-- three bytes are one chunk, so above its node there is no other
no_clash : (book : LookUp) → HaveClashed three nothing book → ⊥
unfolding height
no_clash book (zero, k, j, below, clash) = clash
no_clash book (suc n, k, j, below, clash) = let e : k + suc n ≡ 0 = below.layer in absurd (omega (arith, e))

in_tree : ClashesWithTree three (codes "abc") nothing → ⊥
unfolding height
in_tree (zero, k, j, below, clash) = clash
in_tree (suc n, k, j, below, clash) = let e : k + suc n ≡ 0 = below.layer in absurd (omega (arith, e))

lost : DatagramsAreAtomic three (codes "abc") lost_chunk → ⊥
unfolding height sent_chunk took_in
lost a = ⊎_elim (λ e. cc) (⊎_elim (λ e. omega (arith, e)) (⊎_elim (no_clash nothing) in_tree))
    (a.0 shipment sender_life receiver_life sent_chunk took_in (record { there = refl; here = refl; dialled = refl }))

-- ---- books

abbrev knowing_root : List ℕ → PeerState
knowing_root digest = peer_with empty_disk [] (session_with (root_is digest) [] [] ∷ [])

roots : AllBooksAgree three two_roots → ⊥
unfolding height
roots agree = ⊎_elim (λ e. cc) (λ e. e) (agree
    (session_with (root_is (1 ∷ [])) [] [])
    (session_with (root_is (2 ∷ [])) [] [])
    (record { peer = knowing_root (1 ∷ []); here = (0, omega arith, refl); among = (0, omega arith, refl) })
    (record { peer = knowing_root (2 ∷ []); here = (1, omega arith, refl); among = (0, omega arith, refl) })
    0 0 0 (1 ∷ []) (2 ∷ []) (record { layer = refl; within = omega arith }) refl refl)

-- ---- numbers

lives : IsEndOf abc (end_of keeper 3 1 (true ∷ [])) → ⊥
lives e = omega (arith, e.lives)

counted : IsEndOf abc (end_of keeper 2 2 (true ∷ [])) → ⊥
unfolding spell leaves_of span_in handshake_at data_at ack_at integrity_at span_at address_at message_at next_message messages_from datagram
counted e = let two_is : 2 ≡ 1 = e.announced in omega (arith, two_is)

held : IsEndOf abc (end_of keeper 2 1 (false ∷ [])) → ⊥
unfolding header first_words schedule rounds compress hash_after digest_bytes sha256 node height
held e = let f : false ≡ true = e.held 0 (omega arith) in cc

pub broken_worlds : BrokenWorlds
broken_worlds = record {
  deaf = deaf;
  newest = newest;
  stops = stops;
  sends = sends;
  another = another;
  shut = shut;
  remembers = remembers;
  unscathed = unscathed;
  announced = announced;
  forgotten = forgotten;
  crashed = crashed;
  untold = untold;
  lost = lost;
  roots = roots;
  lives = lives;
  counted = counted;
  held = held;
}
