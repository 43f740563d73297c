-- What was told on a channel on which nothing was forged was announced: by some chunk that tells of the node. Who told of anything told
-- of all peaks.
use Rattle.std.proofs.Common.{◌≡◌, ◌⊎◌, inl, inr, ℕ, zero, suc, ◌+◌, ◌*◌, ◌^◌, ◌<◌, ◌≤◌, ◌==◌, nat_lt, nat_le, Bool, true, false, cond, not, ◌&&◌, ◌||◌, Some, List, [], ◌∷◌, ◌++◌, length, refl, sym, ◌∙◌, ap, subst, arith}
use Rattle.std.specs.Prelude.{drop, slice_get, slice_index_or, Contains}
use Rattle.std.specs.List.{list_any}
use Rattle.std.proofs.lemmas.Bool.{cases_lt, and_parts, and_from, or_cases, or_from, or_left, or_right, ltb-true, leb-true, lt-ltb, le-leb}
use Rattle.std.proofs.lemmas.Nat.{pow_pos}
use Rattle.pp_terms.specs.format.Descriptor.{Descriptor, chunks_of}
use Rattle.pp_terms.specs.format.Messages.{Message, Ack, Have, datagram}
use Rattle.pp_terms.specs.format.Traffic.{Address, Record, Received, Quiet, Sent}
use Rattle.pp_terms.specs.tree.Bins.{first_leaf, last_leaf, parent_of}
use Rattle.pp_terms.specs.tree.Range.{Span, within}
use Rattle.pp_terms.specs.tree.Tree.{Node, height, is_peak}
use Rattle.pp_traffic.specs.Hashes.{meets, tells, told_by, is_told}
use Rattle.pp_traffic.specs.Keeping.{announces}
use Rattle.pp_traffic.specs.Life.{Life, greets, comes_on}
use Rattle.pp_traffic.specs.Past.{now, read}
use Rattle.pp_traffic.specs.Story.{Line, Heard, Said, Taken, hear, say, heard_in, said_in, story, told}
use Rattle.pp_world.specs.Knowing.{is_told_by}
use Rattle.pp_world.specs.Outcome.{is_announced_in}
use Rattle.pp_world.specs.Session.{Session}
use Rattle.pp_world.specs.Shipment.{HasSent, IsGenuine}
use Rattle.pp_world.specs.World.{PeerState, World}
use Rattle.pp_complete.specs.Laws.{AllPeaksOrNone}
use Rattle.pp_complete.specs.Shipped.{AreTold}
use Rattle.pp_shipments.specs.Trusty.{was_announced}

-- ---- all peaks, or none

peaks_of_span : (chunks : ℕ) (span : Span) → AllPeaksOrNone chunks (tells chunks span)
peaks_of_span chunks span = of (nat_lt span.first chunks && nat_le span.first span.last)
  where
    of : (b : Bool) → AllPeaksOrNone chunks (λ n. b && (is_peak chunks n || (nat_lt n.layer (height chunks) && meets chunks span (parent_of n))))
    of true = inl (λ n is. or_left (is_peak chunks n) (nat_lt n.layer (height chunks) && meets chunks span (parent_of n)) is)
    of false = inr (λ n. refl)

peaks_by : (chunks : ℕ) (m : Message) → AllPeaksOrNone chunks (λ n. told_by chunks n m)
peaks_by chunks (Ack span delay) = peaks_of_span chunks span
peaks_by chunks (Have span) = peaks_of_span chunks span
peaks_by chunks m = inr (λ n. refl)

peaks_or : (chunks : ℕ) (a b : Node → Bool) → AllPeaksOrNone chunks a → AllPeaksOrNone chunks b → AllPeaksOrNone chunks (λ n. a n || b n)
peaks_or chunks a b (inl all) other = inl (λ n is. or_left (a n) (b n) (all n is))
peaks_or chunks a b (inr none) (inl all) = inl (λ n is. or_right (a n) (b n) (all n is))
peaks_or chunks a b (inr none) (inr none') = inr (λ n. or_from (a n) (b n) (none n) (none' n))

pub peaks_or_none : (chunks : ℕ) (lines : List Line) → AllPeaksOrNone chunks (is_told chunks lines)
peaks_or_none chunks [] = inr (λ n. refl)
peaks_or_none chunks (Heard now m ∷ before) =
    peaks_or chunks (λ n. told_by chunks n m) (is_told chunks before) (peaks_by chunks m) (peaks_or_none chunks before)
peaks_or_none chunks (Said now m ∷ before) = peaks_or_none chunks before
peaks_or_none chunks (Taken now ∷ before) = peaks_or_none chunks before

-- ---- where a story tells, a datagram was sent that does

-- Peer q sent messages of which one tells of the node.
record HasTold (d : Descriptor) (q : ℕ) (own : Address) (w : World) (n : Node) : Type 0 where
  bytes : List ℕ
  sent : HasSent q own bytes w
  tells_it : list_any (told_by (chunks_of d) n) (datagram d.method d.chunk bytes).messages.read ≡ true

hear_tells : (chunks now : ℕ) (n : Node) (ms : List Message) (lines : List Line) → is_told chunks (hear now ms lines) n ≡ true
    → (list_any (told_by chunks n) ms ≡ true) ⊎ (is_told chunks lines n ≡ true)
hear_tells chunks now n [] lines e = inr e
hear_tells chunks now n (m ∷ ms) lines e = elim (hear_tells chunks now n ms (Heard now m ∷ lines) e) [
  | inl later ↦ inl (or_right (told_by chunks n m) (list_any (told_by chunks n) ms) later)
  | inr here ↦ elim (or_cases (told_by chunks n m) (is_told chunks lines n) here) [
    | inl this ↦ inl (or_left (told_by chunks n m) (list_any (told_by chunks n) ms) this)
    | inr before ↦ inr before
  ]
]

say_tells : (chunks now : ℕ) (n : Node) (ms : List Message) (lines : List Line) → is_told chunks (say now ms lines) n ≡ is_told chunks lines n
say_tells chunks now n [] lines = refl
say_tells chunks now n (m ∷ ms) lines = say_tells chunks now n ms (Said now m ∷ lines)

any_behind : {X : Type 0} (p : X → Bool) (xs : List X) → list_any p (drop 1 xs) ≡ true → list_any p xs ≡ true
any_behind p [] e = e
any_behind p (x ∷ xs) e = or_right (p x) (list_any p xs) e

-- what is heard of a record, where it tells anything, is of a datagram that came on the channel or opened it
heard_tells : (d : Descriptor) (life : Life) (is_opening : Bool) (r : Record) (p : Message → Bool)
    → list_any p (heard_in d life is_opening r) ≡ true → ((comes_on d life r || greets d life r) ≡ true) × (list_any p (read d r).messages.read ≡ true)
heard_tells d life is_opening r p e = of (is_opening && not life.is_dialled) (greets d life r) (comes_on d life r) e
  where
    of : (opens greet comes : Bool)
        → list_any p (cond (opens && greet) (drop 1 (read d r).messages.read) (cond comes (read d r).messages.read [])) ≡ true
        → ((comes || greet) ≡ true) × (list_any p (read d r).messages.read ≡ true)
    of true true comes e = (or_right comes true refl, any_behind p (read d r).messages.read e)
    of true false true e = (refl, e)
    of true false false e = absurd cc
    of false greet true e = (refl, e)
    of false greet false e = absurd cc

has_told : (d : Descriptor) (life : Life) (q : ℕ) (own : Address) (w : World) (n : Node) (past : List Record) → IsGenuine d life q own w past
    → is_told (chunks_of d) (story d life past) n ≡ true → HasTold d q own w n
has_told d life q own w n [] genuine e = absurd cc
has_told d life q own w n (Received at sender bytes ∷ before) genuine e =
    of (nat_le life.opening (length before)) (life.opening == length before) genuine.0 (λ told. has_told d life q own w n before genuine.1 told) e
  where
    of : (began is_opening : Bool)
        → ((began && (comes_on d life (Received at sender bytes) || greets d life (Received at sender bytes))) ≡ true → HasSent q own bytes w)
        → (is_told (chunks_of d) (story d life before) n ≡ true → HasTold d q own w n)
        → is_told (chunks_of d) (cond began (told d life is_opening (now (Received at sender bytes ∷ before)) (Received at sender bytes) (story d life before)) []) n ≡ true
        → HasTold d q own w n
    of false is_opening sent earlier e = absurd cc
    of true is_opening sent earlier e = elim (hear_tells (chunks_of d) (now (Received at sender bytes ∷ before)) n
        (heard_in d life is_opening (Received at sender bytes)) (story d life before) e) [
          | inl here ↦
              let it = heard_tells d life is_opening (Received at sender bytes) (told_by (chunks_of d) n) here in
              record { bytes = bytes; sent = sent it.0; tells_it = it.1 }
          | inr before_it ↦ earlier before_it
        ]
has_told d life q own w n (Quiet at ∷ before) genuine e =
    of (nat_le life.opening (length before)) (λ told. has_told d life q own w n before genuine told) e
  where
    of : (began : Bool) → (is_told (chunks_of d) (story d life before) n ≡ true → HasTold d q own w n)
        → is_told (chunks_of d) (cond began (Taken (now (Quiet at ∷ before)) ∷ story d life before) []) n ≡ true → HasTold d q own w n
    of false earlier e = absurd cc
    of true earlier e = earlier e
has_told d life q own w n (Sent moment receiver bytes ∷ before) genuine e =
    of (nat_le life.opening (length before)) (λ told. has_told d life q own w n before genuine told) e
  where
    of : (began : Bool) → (is_told (chunks_of d) (story d life before) n ≡ true → HasTold d q own w n)
        → is_told (chunks_of d) (cond began (say (now (Sent moment receiver bytes ∷ before)) (said_in d life (Sent moment receiver bytes)) (story d life before)) []) n ≡ true
        → HasTold d q own w n
    of false earlier e = absurd cc
    of true earlier e =
        earlier (sym (say_tells (chunks_of d) (now (Sent moment receiver bytes ∷ before)) n (said_in d life (Sent moment receiver bytes)) (story d life before)) ∙ e)

-- ---- one chunk that tells

-- a node of which the chunks of a span tell is told of by one of these chunks
record IsToldIn (chunks : ℕ) (span : Span) (n : Node) : Type 0 where
  i : ℕ
  tells_it : is_told_by chunks i n ≡ true
  covered : within span i ≡ true

one_tells : (chunks : ℕ) (span : Span) (n : Node) → tells chunks span n ≡ true → IsToldIn chunks span n
one_tells chunks span n e =
    let p : Node = parent_of n in
    let parts = and_parts (nat_lt span.first chunks && nat_le span.first span.last) (is_peak chunks n || (nat_lt n.layer (height chunks) && meets chunks span p)) e in
    let ends = and_parts (nat_lt span.first chunks) (nat_le span.first span.last) parts.0 in
    let low = ltb-true span.first chunks ends.0 in
    let order = leb-true span.first span.last ends.1 in
    elim (or_cases (is_peak chunks n) (nat_lt n.layer (height chunks) && meets chunks span p) parts.1) [
      | inl peak ↦ record {
        i = span.first;
        tells_it = and_from (nat_lt span.first chunks && nat_le span.first span.first)
            (is_peak chunks n || (nat_lt n.layer (height chunks) && meets chunks (record { first = span.first; last = span.first }) p))
            (and_from (nat_lt span.first chunks) (nat_le span.first span.first) ends.0 (le-leb span.first span.first (omega arith)))
            (or_left (is_peak chunks n) (nat_lt n.layer (height chunks) && meets chunks (record { first = span.first; last = span.first }) p) peak);
        covered = and_from (nat_le span.first span.first) (nat_le span.first span.last) (le-leb span.first span.first (omega arith)) ends.1;
      }
      | inr below ↦
          let both = and_parts (nat_lt n.layer (height chunks)) (meets chunks span p) below in
          let meet = and_parts (nat_lt (first_leaf p) chunks && nat_le (first_leaf p) span.last) (nat_le span.first (last_leaf p)) both.1 in
          let some = and_parts (nat_lt (first_leaf p) chunks) (nat_le (first_leaf p) span.last) meet.0 in
          let inside = ltb-true (first_leaf p) chunks some.0 in
          let ends_behind = leb-true (first_leaf p) span.last some.1 in
          let begins_before = leb-true span.first (last_leaf p) meet.1 in
          elim (cases_lt (first_leaf p) span.first) [
            | inl behind ↦ at_chunk chunks span n span.first both.0 low inside (omega arith) begins_before (omega arith) order
            | inr ahead ↦ at_chunk chunks span n (first_leaf p) both.0 inside inside (omega arith) (leaves_ordered p) ahead ends_behind
          ]
    ]
  where
    leaves_ordered : (p : Node) → first_leaf p ≤ last_leaf p
    leaves_ordered p =
        let more : (p.offset + 1) * 2 ^ p.layer ≡ p.offset * 2 ^ p.layer + 2 ^ p.layer = omega arith in
        omega (arith, more, pow_pos p.layer)

    at_chunk : (chunks : ℕ) (span : Span) (n : Node) (i : ℕ) → nat_lt n.layer (height chunks) ≡ true → i < chunks → first_leaf (parent_of n) < chunks
        → first_leaf (parent_of n) ≤ i → i ≤ last_leaf (parent_of n) → span.first ≤ i → i ≤ span.last → IsToldIn chunks span n
    at_chunk chunks span n i layer low inside from upto first last =
        let p : Node = parent_of n in
        let only : Span = record { first = i; last = i } in record {
          i = i;
          tells_it = and_from (nat_lt i chunks && nat_le i i) (is_peak chunks n || (nat_lt n.layer (height chunks) && meets chunks only p))
              (and_from (nat_lt i chunks) (nat_le i i) (lt-ltb i chunks low) (le-leb i i (omega arith)))
              (or_right (is_peak chunks n) (nat_lt n.layer (height chunks) && meets chunks only p)
              (and_from (nat_lt n.layer (height chunks)) (meets chunks only p) layer
              (and_from (nat_lt (first_leaf p) chunks && nat_le (first_leaf p) i) (nat_le i (last_leaf p))
              (and_from (nat_lt (first_leaf p) chunks) (nat_le (first_leaf p) i) (lt-ltb (first_leaf p) chunks inside) (le-leb (first_leaf p) i from))
              (le-leb i (last_leaf p) upto))));
          covered = and_from (nat_le span.first i) (nat_le i span.last) (le-leb span.first i first) (le-leb i span.last last);
        }

-- messages that tell of a node announce such a chunk
record Announces (chunks : ℕ) (ms : List Message) (n : Node) : Type 0 where
  i : ℕ
  tells_it : is_told_by chunks i n ≡ true
  announced : announces i ms ≡ true

in_span : (chunks : ℕ) (span : Span) (m : Message) (ms : List Message) (n : Node) → ((i : ℕ) → announces i (m ∷ ms) ≡ (within span i || announces i ms))
    → (told_by chunks n m ≡ tells chunks span n) → ((list_any (told_by chunks n) ms ≡ true) → Announces chunks ms n)
    → (told_by chunks n m || list_any (told_by chunks n) ms) ≡ true → Announces chunks (m ∷ ms) n
in_span chunks span m ms n says is later e = elim (or_cases (told_by chunks n m) (list_any (told_by chunks n) ms) e) [
  | inl here ↦
      let it = one_tells chunks span n (sym is ∙ here) in
      record { i = it.i; tells_it = it.tells_it; announced = says it.i ∙ or_left (within span it.i) (announces it.i ms) it.covered }
  | inr rest ↦
      let it = later rest in
      record { i = it.i; tells_it = it.tells_it; announced = says it.i ∙ or_right (within span it.i) (announces it.i ms) it.announced }
]

who_announces : (chunks : ℕ) (ms : List Message) (n : Node) → list_any (told_by chunks n) ms ≡ true → Announces chunks ms n
who_announces chunks [] n e = absurd cc
who_announces chunks (Ack span delay ∷ ms) n e = in_span chunks span (Ack span delay) ms n (λ i. refl) refl (λ rest. who_announces chunks ms n rest) e
who_announces chunks (Have span ∷ ms) n e = in_span chunks span (Have span) ms n (λ i. refl) refl (λ rest. who_announces chunks ms n rest) e
who_announces chunks (m ∷ ms) n e =
    let it = who_announces chunks ms n e in record { i = it.i; tells_it = it.tells_it; announced = it.announced }

-- ---- in a session

announced_there : (d : Descriptor) (i moment : ℕ) (to : Address) (bytes : List ℕ) (after past : List Record)
    → announces i (datagram d.method d.chunk bytes).messages.read ≡ true → is_announced_in d i (after ++ Sent moment to bytes ∷ past) ≡ true
announced_there d i moment to bytes [] past e = or_left (announces i (read d (Sent moment to bytes)).messages.read) (is_announced_in d i past) e
announced_there d i moment to bytes (Received at sender other ∷ after) past e = announced_there d i moment to bytes after past e
announced_there d i moment to bytes (Quiet at ∷ after) past e = announced_there d i moment to bytes after past e
announced_there d i moment to bytes (Sent moment' to' other ∷ after) past e =
    or_right (announces i (read d (Sent moment' to' other)).messages.read) (is_announced_in d i (after ++ Sent moment to bytes ∷ past))
    (announced_there d i moment to bytes after past e)

announced_among : (d : Descriptor) (i : ℕ) (ss : List Session) (e : Session) (k : ℕ) → k < length ss → slice_index_or ss k e ≡ e
    → is_announced_in d i e.traffic ≡ true → was_announced d ss i ≡ true
announced_among d i [] e k within is told = absurd (omega (arith, within))
announced_among d i (s ∷ ss) e zero within is told =
    or_left (is_announced_in d i s.traffic) (was_announced d ss i) (ap (λ (x : Session). is_announced_in d i x.traffic) is ∙ told)
announced_among d i (s ∷ ss) e (suc k) within is told =
    or_right (is_announced_in d i s.traffic) (was_announced d ss i) (announced_among d i ss e k (omega (arith, within)) is told)

-- Who is told of nodes by a story that wasn't forged is told by what the other peer announced.
pub told_is_announced : (d : Descriptor) (life : Life) (q : ℕ) (own : Address) (w : World) (past : List Record) (x : PeerState) (s : Session) (earlier : List Session)
    → IsGenuine d life q own w past → slice_get w.peers q ≡ Some x → x.sessions ≡ s ∷ earlier
    → AreTold d (was_announced d earlier) s.traffic (is_told (chunks_of d) (story d life past))
told_is_announced d life q own w past x s earlier genuine here sessions n e =
    let telling = has_told d life q own w n past genuine e in
    let it = who_announces (chunks_of d) (datagram d.method d.chunk telling.bytes).messages.read n telling.tells_it in
    let sent = telling.sent in
    let announced = ap (is_announced_in d it.i) sent.stands.split ∙ announced_there d it.i sent.moment own telling.bytes sent.stands.after sent.past it.announced in
    let one : sent.peer ≡ x = (let same = sym sent.here ∙ here in cc) in
    let among = subst (λ (ss : List Session). Contains ss sent.session) (ap (λ (y : PeerState). y.sessions) one ∙ sessions) sent.among in
    let whole = announced_among d it.i (s ∷ earlier) sent.session among.0 among.1 among.2 announced in (
      it.i,
      it.tells_it,
      elim (or_cases (is_announced_in d it.i s.traffic) (was_announced d earlier it.i) whole) [
        | inl newest ↦ inr newest
        | inr before ↦ inl before
      ],
    )
