-- Small runs, worked out by hand: what a link carried, the oldest record first. In most of them this peer's number of a channel
-- is 7 and the other peer's 9; of a second channel 8 and 6.
use Rattle.std.specs.Prelude.{ℕ, ◌*◌, ◌+◌, true, false, List, [], ◌∷◌, ◌++◌, replicate, reverse, map, codes}
use Rattle.std.specs.Int.{w32, to_be_bytes}
use Rattle.std.specs.List.{flat_map, range_with_len}
use Rattle.pp_terms.specs.format.Traffic.{Address, V4, Record, Received, Quiet, Sent}
use Rattle.pp_terms.specs.format.Descriptor.{Descriptor, Range32}
use Rattle.pp_terms.specs.format.HandshakeExample.{sent_bytes, swarm_of_seven}
use Rattle.pp_terms.specs.format.Messages.{Message, Data, Ack, Have, Integrity, Request, Cancel, Choke, Pex4, Pex6, PexReq, spell}
use Rattle.pp_terms.specs.tree.Range.{Span}
use Rattle.pp_traffic.specs.Life.{Life}

-- the newest first
abbrev pub past : List Record → List Record
past records = reverse records

-- peers
abbrev pub alice : Address
alice = V4 (10 ∷ 0 ∷ 0 ∷ 2 ∷ []) 7000

abbrev pub bob : Address
bob = V4 (10 ∷ 0 ∷ 0 ∷ 3 ∷ []) 7000

abbrev pub both : List Address
both = alice ∷ bob ∷ []

-- swarms: of seven chunks, of a hundred, of 200
abbrev pub seven : Descriptor
seven = swarm_of_seven

abbrev pub hundred : Descriptor
hundred = record swarm_of_seven { size = 102400 }

abbrev pub two_hundred : Descriptor
two_hundred = record swarm_of_seven { size = 204800 }

-- messages
abbrev pub span : ℕ → ℕ → Span
span first last = record { first = first; last = last }

abbrev pub hash : ℕ → ℕ → Message
hash first last = Integrity (span first last) (replicate 32 1)

abbrev pub chunk : ℕ → Message
chunk i = Data i 0 (5 ∷ [])

abbrev pub request : ℕ → ℕ → Message
request first last = Request (span first last)

abbrev pub cancel : ℕ → ℕ → Message
cancel first last = Cancel (span first last)

abbrev pub have : ℕ → ℕ → Message
have first last = Have (span first last)

abbrev pub ack : ℕ → ℕ → Message
ack first last = Ack (span first last) 0

-- a datagram for a channel; a handshake for one, from a source channel, with messages behind it; a closing handshake
abbrev pub for : ℕ → List Message → List ℕ
for number messages = to_be_bytes w32 number ++ flat_map (spell Range32) messages

abbrev pub shake : ℕ → ℕ → List Message → List ℕ
shake number source messages = to_be_bytes w32 number ++ 0 ∷ to_be_bytes w32 source ++ sent_bytes ++ flat_map (spell Range32) messages

abbrev pub closing : ℕ → List ℕ
closing number = to_be_bytes w32 number ++ 0 ∷ 0 ∷ 0 ∷ 0 ∷ 0 ∷ 255 ∷ []

-- channels
abbrev pub answered : ℕ → Life
answered opening = record { address = alice; local = 7; remote = 9; is_dialled = false; opening = opening }

abbrev pub dialled : ℕ → Life
dialled opening = record { address = alice; local = 7; remote = 9; is_dialled = true; opening = opening }

abbrev pub second : ℕ → Life
second opening = record { address = bob; local = 8; remote = 6; is_dialled = false; opening = opening }

-- ---- a seeder of seven chunks

-- the first channel is opened, and all is told; the same with no HAVE
abbrev pub opened : List Record
opened = Received 1000000 alice (shake 0 9 []) ∷ Sent 1 alice (shake 9 7 (have 0 6 ∷ [])) ∷ []

abbrev pub opened_untold : List Record
opened_untold = Received 1000000 alice (shake 0 9 []) ∷ Sent 1 alice (shake 9 7 []) ∷ []

-- the peer asks for everything, and is sent the first chunk, and the second
abbrev pub asks_all : List Record
asks_all = Received 1100000 alice (for 7 (request 0 6 ∷ [])) ∷ []

abbrev pub path_of_first : List Message
path_of_first = hash 0 3 ∷ hash 4 5 ∷ hash 6 6 ∷ hash 2 3 ∷ hash 1 1 ∷ []

abbrev pub path_of_second : List Message
path_of_second = hash 0 3 ∷ hash 4 5 ∷ hash 6 6 ∷ hash 2 3 ∷ hash 0 0 ∷ []

abbrev pub sends : List Message → List Record
sends messages = Sent 1 alice (for 9 messages) ∷ []

abbrev pub first_sent : List Record
first_sent = sends (path_of_first ++ chunk 0 ∷ [])

abbrev pub second_sent : List Record
second_sent = sends (path_of_second ++ chunk 1 ∷ [])

-- two are on their way; the third is cancelled, these two are acknowledged, and three more are sent
abbrev pub served : List Record
served = opened ++ asks_all ++ first_sent ++ second_sent

abbrev pub cancels : List Record
cancels = Received 1200000 alice (for 7 (cancel 2 2 ∷ ack 0 1 ∷ [])) ∷ []

abbrev pub next_three : List Record
next_three = sends (chunk 3 ∷ []) ++ sends (chunk 4 ∷ []) ++ sends (chunk 5 ∷ [])

abbrev pub served_more : List Record
served_more = served ++ cancels ++ next_three

-- one chunk alone is sent; none; none, and the peer cancels everything
abbrev pub served_one : List Record
served_one = opened ++ asks_all ++ first_sent

abbrev pub served_none : List Record
served_none = opened ++ asks_all

abbrev pub all_cancelled : List Record
all_cancelled = served_none ++ Received 1150000 alice (for 7 (cancel 0 6 ∷ [])) ∷ []

-- what was asked for before it was announced; and again behind that
abbrev pub asked_early : List Record
asked_early = opened_untold ++ asks_all ++ sends (have 3 3 ∷ [])

abbrev pub asked_again : List Record
asked_again = asked_early ++ asks_all

-- a request behind the peer's handshake, when its address isn't proven
abbrev pub asked_at_once : List Record
asked_at_once = Received 1000000 alice (shake 0 9 (request 0 6 ∷ [])) ∷ Sent 1 alice (shake 9 7 (have 0 6 ∷ [])) ∷ []

-- more messages than a list has room for
abbrev pub asked_too_often : List Record
asked_too_often = opened ++ Received 1100000 alice (for 7 (replicate 65 (request 2 2))) ∷ []

-- a choke in the reply
abbrev pub choked_at_once : List Record
choked_at_once = Received 1000000 alice (shake 0 9 []) ∷ Sent 1 alice (shake 9 7 (Choke ∷ have 0 6 ∷ [])) ∷ []

-- ---- plans

-- the first chunk is acknowledged and the second asked for; then the third
abbrev pub planned : List Record
planned = opened ++ Received 1100000 alice (for 7 (request 0 0 ∷ [])) ∷ first_sent
    ++ Received 1200000 alice (for 7 (ack 0 0 ∷ request 1 1 ∷ [])) ∷ sends (chunk 1 ∷ [])
    ++ Received 1300000 alice (for 7 (request 2 2 ∷ [])) ∷ []

-- ---- newcomers and silence

-- the handshake isn't answered; it has source channel 0; another one comes from the same address
abbrev pub unanswered : List Record
unanswered = Received 1000000 alice (shake 0 9 []) ∷ []

abbrev pub of_no_source : List Record
of_no_source = Received 1000000 alice (shake 0 0 []) ∷ []

abbrev pub knocks_again : List Record
knocks_again = opened ++ Received 1100000 alice (shake 0 5 []) ∷ []

-- nine peers dialled, so that one may be choked
abbrev pub nine_opened : List Record
nine_opened = map (λ i. Sent 1 (V4 (10 ∷ 0 ∷ 1 ∷ i ∷ []) 7000) (shake 0 (20 + i) [])) (range_with_len 0 8) ++ choked_at_once

-- the peer writes, and then hears nothing for 120 seconds; it hears something in time; the run ends and closes the channel
abbrev pub left_silent : List Record
left_silent = opened ++ Received 2000000 alice (for 7 []) ∷ Quiet 121000000 ∷ []

abbrev pub not_yet_silent : List Record
not_yet_silent = opened ++ Received 2000000 alice (for 7 []) ∷ Quiet 120999999 ∷ []

abbrev pub kept_up : List Record
kept_up = left_silent ++ Sent 1 alice (for 9 []) ∷ []

abbrev pub closed_up : List Record
closed_up = kept_up ++ Sent 1 alice (closing 9) ∷ []

abbrev pub closed_silent : List Record
closed_silent = left_silent ++ Sent 1 alice (closing 9) ∷ []

abbrev pub closed_early : List Record
closed_early = opened ++ Sent 1 alice (closing 9) ∷ Quiet 2000000 ∷ []

-- ---- telling, of 200 chunks

-- the second chunk is announced on another channel
abbrev pub two_opened : List Record
two_opened = opened_untold ++ Received 1100000 bob (shake 0 6 []) ∷ Sent 1 bob (shake 6 8 []) ∷ Received 1200000 bob (for 8 []) ∷ []

abbrev pub announced_to_one : List Record
announced_to_one = two_opened ++ Received 1300000 alice (for 7 []) ∷ Sent 1 alice (for 9 (ack 1 1 ∷ have 1 1 ∷ [])) ∷ []

abbrev pub told_late : List Record
told_late = announced_to_one ++ Quiet 1400000 ∷ Sent 1 bob (for 6 (have 1 1 ∷ [])) ∷ []

abbrev pub told_never : List Record
told_never = announced_to_one ++ Quiet 1400000 ∷ []

-- every other chunk stands on the disk: 100 ranges of which a turn tells 64
abbrev pub haves : ℕ → ℕ → List Message
haves from count = map (λ i. have (2 * i) (2 * i)) (range_with_len from count)

abbrev pub writes : ℕ → List Record
writes at = Received at alice (for 7 []) ∷ []

abbrev pub told_64 : List Record
told_64 = opened_untold ++ writes 1100000 ++ sends (haves 0 64)

abbrev pub told_63 : List Record
told_63 = opened_untold ++ writes 1100000 ++ sends (haves 0 63)

abbrev pub told_rest : List Record
told_rest = told_64 ++ Quiet 1200000 ∷ sends (haves 64 36)

abbrev pub told_twice : List Record
told_twice = told_64 ++ Quiet 1200000 ∷ sends (haves 0 64)

-- the reply told of 64, before the peer wrote; so they are new when it has
abbrev pub told_before : List Record
told_before = Received 1000000 alice (shake 0 9 []) ∷ Sent 1 alice (shake 9 7 (haves 0 64)) ∷ writes 1100000 ++ sends (haves 0 64)

-- ---- storing, of two chunks, the second of them "abc"

abbrev pub root_of_two : List ℕ
root_of_two = 178 ∷ 193 ∷ 180 ∷ 61 ∷ 27 ∷ 101 ∷ 167 ∷ 145 ∷ 14 ∷ 248 ∷ 110 ∷ 84 ∷ 167 ∷ 111 ∷ 66 ∷ 162
    ∷ 162 ∷ 241 ∷ 163 ∷ 21 ∷ 87 ∷ 200 ∷ 224 ∷ 134 ∷ 228 ∷ 32 ∷ 203 ∷ 179 ∷ 61 ∷ 113 ∷ 44 ∷ 83 ∷ []

abbrev pub two : Descriptor
two = record { root = root_of_two; chunk = 1024; size = 1027; method = Range32 }

-- a handshake of this swarm
abbrev pub shake_two : ℕ → ℕ → List Message → List ℕ
shake_two number source messages =
    to_be_bytes w32 number ++ 0 ∷ to_be_bytes w32 source ++ 2 ∷ 0 ∷ 32 ∷ root_of_two ++ 255 ∷ [] ++ flat_map (spell Range32) messages

-- the root, and the first chunk's hash
abbrev pub first_hash_of_two : Message
first_hash_of_two = Integrity (span 0 1) root_of_two

abbrev pub hashes_of_two : List Message
hashes_of_two = first_hash_of_two ∷ hash 0 0 ∷ []

abbrev pub second_chunk : Message
second_chunk = Data 1 0 (codes "abc")

abbrev pub wrong_chunk : Message
wrong_chunk = Data 1 0 (codes "abd")

abbrev pub opened_two : List Record
opened_two = Received 1000000 alice (shake_two 0 9 []) ∷ Sent 1 alice (shake_two 9 7 []) ∷ []

abbrev pub brought : List Message → List Record
brought messages = opened_two ++ Received 1100000 alice (for 7 messages) ∷ []

abbrev pub proved : List Record
proved = brought (hashes_of_two ++ second_chunk ∷ [])

abbrev pub wrong : List Record
wrong = brought (hashes_of_two ++ wrong_chunk ∷ [])

abbrev pub unhashed : List Record
unhashed = brought (second_chunk ∷ [])

-- the hashes came in the peer's opening, when its address wasn't proven; a closing handshake stands before the chunk
abbrev pub hashed_early : List Record
hashed_early = Received 1000000 alice (shake_two 0 9 hashes_of_two) ∷ Sent 1 alice (shake_two 9 7 []) ∷ Received 1100000 alice
    (for 7 (second_chunk ∷ [])) ∷ []

abbrev pub closed_before : List Record
closed_before = opened_two ++ Received 1100000 alice (for 7 hashes_of_two)
    ∷ Received 1200000 alice (to_be_bytes w32 7 ++ 0 ∷ 0 ∷ 0 ∷ 0 ∷ 0 ∷ 255 ∷ [] ++ flat_map (spell Range32) (second_chunk ∷ [])) ∷ []

-- 128 other claims came between the root's and the chunk, and 127
abbrev pub crowded : ℕ → List Record
crowded more = brought (Integrity (span 0 1) root_of_two ∷ replicate more (hash 0 0) ++ second_chunk ∷ [])

-- this peer dialled: the hashes and the chunk are in the reply
abbrev pub dialled_two : List Record
dialled_two = Quiet 1000000 ∷ Sent 1 alice (shake_two 0 7 []) ∷ Received 1100000 alice
    (shake_two 7 9 (hashes_of_two ++ second_chunk ∷ [])) ∷ []

-- a chunk is acknowledged in its turn; by the next quiet turn; never
abbrev pub acknowledged : List Record
acknowledged = proved ++ Sent 2 alice (for 9 (ack 1 1 ∷ have 1 1 ∷ [])) ∷ Quiet 1200000 ∷ []

abbrev pub acknowledged_late : List Record
acknowledged_late = proved ++ Quiet 1200000 ∷ Sent 2 alice (for 9 (ack 1 1 ∷ have 1 1 ∷ [])) ∷ []

abbrev pub unacknowledged : List Record
unacknowledged = proved ++ Quiet 1200000 ∷ []

-- ---- fetching, of 100 chunks

-- both peers are dialled in the first turn; one of them is not
abbrev pub dials_both : List Record
dials_both = Quiet 1000000 ∷ Sent 1 alice (shake 0 7 []) ∷ Sent 1 bob (shake 0 8 []) ∷ []

abbrev pub dials_one : List Record
dials_one = Quiet 1000000 ∷ Sent 1 alice (shake 0 7 []) ∷ Quiet 1100000 ∷ Sent 1 bob (shake 0 8 []) ∷ []

-- the first event is bob's own handshake
abbrev pub dials_other : List Record
dials_other = Received 1000000 bob (shake 0 6 []) ∷ Sent 1 alice (shake 0 7 []) ∷ Sent 1 bob (shake 6 8 []) ∷ []

-- bob has the first 50 chunks, and is asked for 32; alice has all, and is asked for 32 others
abbrev pub bob_replies : List Record
bob_replies = Received 1100000 bob (shake 8 6 (have 0 49 ∷ [])) ∷ []

abbrev pub alice_replies : List Record
alice_replies = Received 1200000 alice (shake 7 9 (have 0 99 ∷ [])) ∷ []

abbrev pub asks_bob : ℕ → ℕ → List Record
asks_bob first last = Sent 1 bob (for 6 (request first last ∷ [])) ∷ []

abbrev pub asks_alice : ℕ → ℕ → List Record
asks_alice first last = Sent 1 alice (for 9 (request first last ∷ [])) ∷ []

abbrev pub fetching : List Record
fetching = dials_both ++ bob_replies ++ asks_bob 0 31 ++ alice_replies ++ asks_alice 50 81

-- one chunk less is asked of bob; nothing is asked; nothing, since he chokes
abbrev pub asks_too_few : List Record
asks_too_few = dials_both ++ bob_replies ++ asks_bob 0 30

abbrev pub asks_nothing : List Record
asks_nothing = dials_both ++ bob_replies

abbrev pub choked_by_bob : List Record
choked_by_bob = dials_both ++ Received 1100000 bob (shake 8 6 (have 0 49 ∷ Choke ∷ [])) ∷ []

-- ten seconds later the requests are old, and nothing more is asked
abbrev pub asked_long_ago : List Record
asked_long_ago = asks_too_few ++ Received 10000000 bob (for 8 []) ∷ Quiet 11100000 ∷ []

-- ---- this peer's own side

abbrev pub dials_alice : List Record
dials_alice = Quiet 1000000 ∷ Sent 1 alice (shake 0 7 []) ∷ Received 1100000 alice (shake 7 9 (have 0 99 ∷ [])) ∷ []

-- three chunks are asked of alice, and the second comes
abbrev pub own_asking : List Record
own_asking = dials_alice ++ Sent 1 alice (for 9 (request 0 2 ∷ [])) ∷ Received 1200000 alice (for 7 (chunk 1 ∷ [])) ∷ []

abbrev pub own_waiting : List Record
own_waiting = own_asking ++ Quiet 11099999 ∷ []

abbrev pub own_expired : List Record
own_expired = own_asking ++ Quiet 11100000 ∷ []

abbrev pub own_again : List Record
own_again = own_expired ++ Received 11200000 alice (for 7 []) ∷ []

abbrev pub own_choked : List Record
own_choked = own_asking ++ Received 1300000 alice (for 7 (Choke ∷ [])) ∷ []

-- ten chunks are asked for, and all but the fifth of the first eight come
abbrev pub answers : ℕ → List ℕ → List Record
answers at chunks = map (λ i. Received at alice (for 7 (chunk i ∷ []))) chunks

abbrev pub asks_ten : List Record
asks_ten = dials_alice ++ Sent 1 alice (for 9 (request 0 9 ∷ [])) ∷ []

abbrev pub own_overtaken : List Record
own_overtaken = asks_ten ++ answers 1200000 (0 ∷ 1 ∷ 2 ∷ 3 ∷ 5 ∷ 6 ∷ 7 ∷ [])

-- two of these overtook it; it is asked for again; and comes then
abbrev pub own_overtaken_twice : List Record
own_overtaken_twice = asks_ten ++ answers 1200000 (0 ∷ 1 ∷ 2 ∷ 3 ∷ 5 ∷ 6 ∷ [])

abbrev pub own_asked_again : List Record
own_asked_again = own_overtaken ++ Sent 1 alice (for 9 (request 4 4 ∷ [])) ∷ []

-- the chunks that come are greater ones that were asked for earlier
abbrev pub own_passed_by_earlier : List Record
own_passed_by_earlier = dials_alice
    ++ Sent 1 alice (for 9 (request 10 12 ∷ [])) ∷ Quiet 1150000 ∷ Sent 1 alice (for 9 (request 3 3 ∷ [])) ∷ []
    ++ answers 1200000 (10 ∷ 11 ∷ 12 ∷ [])

-- the same by lesser ones that were asked for later
abbrev pub own_passed_by_lesser : List Record
own_passed_by_lesser = dials_alice ++ Sent 1 alice (for 9 (request 9 9 ∷ [])) ∷ Quiet 1150000 ∷ Sent 1 alice (for 9 (request 4 6 ∷ [])) ∷ []
    ++ answers 1200000 (4 ∷ 5 ∷ 6 ∷ [])

-- where asking stopped one chunk is asked for, and it comes
abbrev pub own_probed : List Record
own_probed = own_expired ++ Sent 1 alice (for 9 (request 0 0 ∷ [])) ∷ []

abbrev pub own_answered : List Record
own_answered = own_probed ++ answers 11200000 (0 ∷ [])

-- what comes before alice's reply is left unread
abbrev pub before_reply : List Record
before_reply = Quiet 1000000 ∷ Sent 1 alice (shake 0 7 []) ∷ Received 1100000 alice (for 7 (have 5 5 ∷ hash 4 5 ∷ Choke ∷ []))
    ∷ Received 1200000 alice (shake 7 9 (have 0 0 ∷ hash 6 6 ∷ [])) ∷ []

-- ---- peer exchange

abbrev pub exchanged : List Record
exchanged = opened ++ Received 1100000 alice (for 7 (PexReq ∷ []))
    ∷ sends (Pex4 (127 ∷ 0 ∷ 0 ∷ 1 ∷ []) 7000 ∷ Pex6 (replicate 15 0 ++ 1 ∷ []) 7000 ∷ [])
