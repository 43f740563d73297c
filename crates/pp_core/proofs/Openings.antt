-- As many channels are in use as datagrams opened one, at most.
use Rattle.std.proofs.Common.{◌≡◌, ℕ, ◌+◌, ◌<◌, ◌≤◌, Bool, true, false, cond, Option, Some, None, List, [], ◌∷◌, ◌++◌, length, refl, arith}
use Rattle.std.specs.Prelude.{is_some, is_none}
use Rattle.std.specs.List.{count_by, list_any, position_or_len}
use Rattle.std.proofs.lemmas.Bool.{false≢true, and_parts, and_from, cond-true, lt-ltb}
use Rattle.std.proofs.lemmas.List.Sums.{sum_by-cons, sum_by-append}
use Rattle.pp_terms.specs.format.Descriptor.{Descriptor}
use Rattle.pp_terms.specs.format.Messages.{Message, Handshake}
use Rattle.pp_terms.specs.format.Traffic.{Record}
use Rattle.pp_traffic.specs.Past.{read, is_number}
use Rattle.pp_traffic.specs.Life.{begins}
use Rattle.pp_traffic.specs.Plain.{is_handshake}
use Rattle.pp_promises.specs.Answered.{opens, openings}
use Rattle.pp_channels.specs.Seats.{Seats, used_of, free_seat}
use Rattle.pp_channels.specs.declared.channel.Channel.{Channel}
use Rattle.pp_lives.specs.Laws.{is_opening}
use Rattle.pp_lives.proofs.Openings.{seats_opened}
use Rattle.pp_seats.specs.Standing as seats
use Rattle.pp_seats.specs.Standing.{SeatsState, Setting}
use Rattle.pp_peer.specs.declared.parts.Parts.{Parts}
use Rattle.pp_peer.specs.Standing.{Beginning, setting, StandsFor}

-- ---- counts

pub count_more : {X : Type 0} (test : X → Bool) (x : X) (xs : List X) → count_by test (x ∷ xs) ≡ cond (test x) 1 0 + count_by test xs
count_more test x xs = sum_by-cons (λ y. cond (test y) 1 0) x xs

pub one_or_none : (x y : Bool) → (x ≡ true → y ≡ true) → cond x 1 0 ≤ cond y 1 0
one_or_none true true e = omega arith
one_or_none true false e = absurd (false≢true (e refl))
one_or_none false true e = omega arith
one_or_none false false e = omega arith

-- records that pass one test are no more than those that pass another which they pass too
count_fewer : (test more : Record → Bool) → ((r : Record) → test r ≡ true → more r ≡ true) → (past : List Record)
    → count_by test past ≤ count_by more past
count_fewer test more each [] = omega arith
count_fewer test more each (r ∷ past) =
    let rest = count_fewer test more each past in
    let fewer = count_more test r past in
    let all = count_more more r past in
    let here = one_or_none (test r) (more r) (each r) in
    omega (arith, rest, fewer, all, here)

-- ---- datagrams that open a channel

pub begins_any : (ms : List Message) → begins ms ≡ true → list_any is_handshake ms ≡ true
begins_any [] e = absurd (false≢true e)
begins_any (Handshake source options ∷ ms) e = refl
begins_any (_ ∷ ms) e = absurd (false≢true e)

opening_opens : (d : Descriptor) (r : Record) → is_opening d r ≡ true → opens d r ≡ true
opening_opens d r e =
    let parts = and_parts (is_number 0 (read d r).channel) (begins (read d r).messages.read) e in
    and_from (is_number 0 (read d r).channel) (list_any is_handshake (read d r).messages.read) parts.0 (begins_any (read d r).messages.read parts.1)

-- those of records that follow others
pub openings_twice : (d : Descriptor) (rs past : List Record) → openings d (rs ++ past) ≡ openings d rs + openings d past
openings_twice d rs past = sum_by-append (λ r. cond (opens d r) 1 0) rs past

-- As many seats are in use as datagrams opened a channel, at most, where the seats stand for the records.
pub seats_are_opened : (x : Setting) (most : ℕ) (p : SeatsState) (past : List Record) → seats.StandsFor x most p past
    → used_of p.table ≤ openings x.d past
seats_are_opened x most p past stands =
    let used = seats_opened x.d p.table stands.lives past stands.standing stands.begun in
    let fewer = count_fewer (is_opening x.d) (opens x.d) (opening_opens x.d) past in
    omega (arith, used, fewer)

-- So it is with a peer.
abbrev pub HasOpened : Descriptor → Parts → List Record → Type 0
HasOpened d p past = used_of p.seats.table ≤ openings d past

pub has_opened : (b : Beginning) (most : ℕ) (p : Parts) (past : List Record) → StandsFor b most p past → HasOpened b.d p past
has_opened b most p past stands = seats_are_opened (setting b stands.known_of) most p.seats past stands.seats

-- ---- a seat that is free

first_free : (xs : List (Option Channel)) → count_by is_some xs < length xs → position_or_len is_none xs < length xs
first_free [] low = absurd (omega (arith, low))
first_free (None ∷ xs) low = omega arith
first_free (Some c ∷ xs) low =
    let more : count_by is_some (Some c ∷ xs) ≡ 1 + count_by is_some xs = count_more is_some (Some c) xs in
    let rest = first_free xs (omega (arith, low, more)) in
    omega (arith, rest)

-- where not all are in use there is a least one
pub free_there : (t : Seats) → length t.channels ≡ 64 → used_of t < 64 → (k : ℕ) × (free_seat t ≡ Some k) × (k < 64)
free_there t size low =
    let lt = first_free t.channels (omega (arith, size, low)) in (
      position_or_len is_none t.channels,
      cond-true _ (Some (position_or_len is_none t.channels)) None (lt-ltb (position_or_len is_none t.channels) (length t.channels) lt),
      omega (arith, lt, size),
    )
