-- The outcome of a schedule in which two peers are started, and nothing more.
use Rattle.std.proofs.Common.{◌≡◌, ◌⊎◌, inl, ⊎_elim, ℕ, zero, suc, ◌<◌, ◌/◌, false, List, [], ◌∷◌, ◌++◌, length, refl, sym, ◌∙◌, ap, subst, arith}
use Rattle.std.specs.Prelude.{◌-◌, Bool, ◌==◌, nat_le, cond, Option, Some, None, unwrap_or, Contains, slice_get, slice_index_or}
use Rattle.std.proofs.lemmas.Bool.Decides.{nat_tests}
use Rattle.sha2.proofs.Facts256.{length-sha256}
use Rattle.pp_terms.proofs.Images.{sole_image}
use Rattle.pp_terms.specs.disk.Disk.{IsImage}
use Rattle.pp_terms.specs.disk.Image.{known_below}
use Rattle.pp_terms.specs.disk.Sound.{IsSound}
use Rattle.pp_terms.specs.disk.Store.{header, HasHeader}
use Rattle.pp_terms.specs.format.Descriptor.{Descriptor, height_of}
use Rattle.pp_terms.specs.format.Traffic.{Record}
use Rattle.pp_terms.specs.tree.Book.{IsJoined, AreDigests, IsRooted}
use Rattle.pp_terms.specs.tree.Content.{chunk_of}
use Rattle.pp_terms.specs.tree.Tree.{node, height}
use Rattle.pp_traffic.specs.Keeping.{Keeps}
use Rattle.pp_world.proofs.WorldExamples.{opening}
use Rattle.pp_world.specs.Agreement.{IsSession, AllBooksAgree}
use Rattle.pp_world.specs.Outcome.{is_held, IsEndOf, IsRun, AreRuns, IsOutcome}
use Rattle.pp_world.specs.OutcomeExample.{unmoved, no_promise, opened_end, OutcomeExamples}
use Rattle.pp_world.specs.Schedule.{Role, content_of}
use Rattle.pp_world.specs.Session.{Session}
use Rattle.pp_world.specs.Shipment.{StoresShipments}
use Rattle.pp_world.specs.Survival.{KeepsAnnounced}
use Rattle.pp_world.specs.World.{PeerState, World, disk_since, reads_of}
use Rattle.pp_world.specs.Worlds.{swarm_of, empty_disk, idle, AreWorlds}
use Rattle.pp_world.specs.WorldExamples.{bare, session_with, opened_peer, world}

abbrev swarm : Descriptor
swarm = swarm_of unmoved

abbrev session : Session
session = session_with bare [] []

-- its worlds, the newest first
abbrev worlds : List World
worlds = world 0 opened_peer opened_peer ∷ world 0 opened_peer (idle empty_disk) ∷ world 0 (idle empty_disk) (idle empty_disk) ∷ []

are_worlds : AreWorlds unmoved worlds
are_worlds = (
  record { before = idle empty_disk; after = opened_peer; added = []; here = refl; changed = (inl opening, refl); is = refl },
  (
    record { before = idle empty_disk; after = opened_peer; added = []; here = refl; changed = (inl opening, refl); is = refl },
    record { clock = refl; peers = (record { disk = refl; is = refl }, (record { disk = refl; is = refl }, tt)) },
  ),
)

-- ---- a book of the root alone

same_value : (x y : List ℕ) → Some x ≡ Some y → x ≡ y
same_value x y e = ap (λ (o : Option (List ℕ)). unwrap_or o []) e

-- nothing stands beside the root
none_beside : (j : ℕ) → None ≡ bare 0 (suc j)
unfolding height node
none_beside j = let test : (suc j == 0) ≡ false = grind (arith, nat_tests) in
    sym (ap (λ (b : Bool). cond {A = Option (List ℕ)} b (Some swarm.root) None) test)

-- or above it
none_above : (k j : ℕ) → None ≡ bare (suc k) j
unfolding height
none_above k j = let test : nat_le (suc k) 0 ≡ false = grind (arith, nat_tests) in
    sym (ap (λ (b : Bool). cond {A = Option (List ℕ)} b (known_below swarm [] (height_of swarm - suc k) j) None) test)

digests : AreDigests bare
unfolding height node
digests zero zero digest e =
    subst (λ (xs : List ℕ). length xs ≡ 32) (ap (λ (o : Option (List ℕ)). unwrap_or o []) e) (length-sha256 (chunk_of (content_of unmoved) 256 0))
digests zero (suc j) digest e = absurd (let f : None ≡ Some digest = none_beside j ∙ e in cc)
digests (suc k) j digest e = absurd (let f : None ≡ Some digest = none_above k j ∙ e in cc)

hangs : (k j : ℕ) (x : List ℕ) → bare k j ≡ Some x
    → ((k ≡ height_of swarm) × (j ≡ 0)) ⊎ ((left : List ℕ) × (right : List ℕ) × IsJoined bare k (j / 2) left right)
unfolding height node
hangs zero zero x e = inl (refl, refl)
hangs zero (suc j) x e = absurd (let f : None ≡ Some x = none_beside j ∙ e in cc)
hangs (suc k) j x e = absurd (let f : None ≡ Some x = none_above k j ∙ e in cc)

rooted : IsRooted swarm bare
unfolding height
rooted = record { root_is = refl; digests = digests; hangs = hangs }

run : (role : Role) → IsRun no_promise swarm role opened_peer session
run role = record { serves = tt; rooted = rooted; promises = tt }

-- ---- an empty file

no_header : HasHeader swarm [] → ⊥
unfolding header
no_header begins = let e : 0 ≡ 0x50 = begins 0 (omega arith) in omega (arith, e)

sound : (image : List ℕ) → IsImage (record { durable = []; pending = [] }) image → IsSound swarm image
sound image is = subst (IsSound swarm) (sym (sole_image [] image is)) (record {
  long = λ begins. absurd (no_header begins);
  held = λ begins i lt opened. absurd (no_header begins);
})

keeps : Keeps swarm (disk_since empty_disk session) []
keeps = record {
  held = λ i each image leaves. ⊎_elim (λ is. each image is) (λ none. absurd none) leaves;
  announced = λ began. tt;
}

survives : KeepsAnnounced swarm opened_peer
survives = (record { sound = sound; keeps = keeps; found = tt }, tt)

-- the one chunk isn't held
none_held : (i : ℕ) → i < 1 → slice_index_or (false ∷ []) i false ≡ is_held swarm (reads_of opened_peer) i
none_held zero lt = refl
none_held (suc i) lt = absurd (omega (arith, lt))

ends : IsEndOf swarm opened_end
ends = record { lives = refl; announced = refl; size = refl; held = none_held }

-- ---- nothing was sent

newest_traffic : List Session → List Record
newest_traffic [] = []
newest_traffic (s ∷ earlier) = s.traffic

traffic_of : Option PeerState → List Record
traffic_of None = []
traffic_of (Some x) = newest_traffic x.sessions

no_record : (sent rest : List Record) (r : Record) → [] ≡ sent ++ r ∷ rest → ⊥
no_record [] rest r e = cc
no_record (x ∷ xs) rest r e = cc

-- No datagram was taken in where no link has a record.
none_came : (content : List ℕ) (old new : World) → ((p : ℕ) → traffic_of (slice_get new.peers p) ≡ [])
    → StoresShipments swarm content old new
unfolding traffic_of newest_traffic
none_came content old new silent it life life' out took are_ends = absurd (no_record took.sent took.session.traffic _
    (sym (silent it.receiver) ∙ ap traffic_of took.is ∙ ap newest_traffic took.sessions' ∙ took.traffic))

silent : (p : ℕ) → traffic_of (slice_get (opened_peer ∷ opened_peer ∷ []) p) ≡ []
unfolding traffic_of newest_traffic
silent zero = refl
silent (suc zero) = refl
silent (suc (suc p)) = refl

silent_before : (p : ℕ) → traffic_of (slice_get (opened_peer ∷ idle empty_disk ∷ []) p) ≡ []
unfolding traffic_of newest_traffic
silent_before zero = refl
silent_before (suc zero) = refl
silent_before (suc (suc p)) = refl

-- ---- books

is_opened : (x : PeerState) → Contains (opened_peer ∷ opened_peer ∷ []) x → opened_peer ≡ x
is_opened x (zero, lt, e) = e
is_opened x (suc zero, lt, e) = e
is_opened x (suc (suc k), lt, e) = absurd (omega (arith, lt))

is_only : (s : Session) → Contains (session ∷ []) s → session ≡ s
is_only s (zero, lt, e) = e
is_only s (suc k, lt, e) = absurd (omega (arith, lt))

has_book : (s : Session) (k j : ℕ) → IsSession (world 0 opened_peer opened_peer) s → bare k j ≡ s.book k j
has_book s k j is = ap (λ (t : Session). t.book k j)
    (is_only s (subst (λ (x : PeerState). Contains x.sessions s) (sym (is_opened is.peer is.here)) is.among))

books : AllBooksAgree swarm (world 0 opened_peer opened_peer)
books one other here there n k j x y below has_x has_y =
    inl (same_value x y (sym has_x ∙ sym (has_book one k j here) ∙ has_book other k j there ∙ has_y))

unmoved_peers : IsOutcome no_promise unmoved (opened_end ∷ opened_end ∷ [])
unmoved_peers = record {
  last = world 0 opened_peer opened_peer;
  before = world 0 opened_peer (idle empty_disk) ∷ world 0 (idle empty_disk) (idle empty_disk) ∷ [];
  worlds = are_worlds;
  peers = refl;
  numbers = (ends, (ends, tt));
  runs = ((run _, tt), ((run _, tt), tt));
  survives = (survives, (survives, tt));
  knows = (
    (((tt, tt), tt), (((tt, tt), tt), tt)),
    ((((tt, tt), tt), (tt, tt)), ((tt, (tt, tt)), tt)),
  );
  datagrams = (
    none_came (content_of unmoved) (world 0 opened_peer (idle empty_disk)) (world 0 opened_peer opened_peer) silent,
    (none_came (content_of unmoved) (world 0 (idle empty_disk) (idle empty_disk)) (world 0 opened_peer (idle empty_disk)) silent_before, tt),
  );
  books = books;
}

one_peer : IsOutcome no_promise unmoved (opened_end ∷ []) → ⊥
one_peer o = (subst (λ (xs : List PeerState). AreRuns no_promise swarm unmoved.roles xs) (sym o.peers) o.runs).1

pub outcome_examples : OutcomeExamples
outcome_examples = record { unmoved_peers = unmoved_peers; one_peer = one_peer }
