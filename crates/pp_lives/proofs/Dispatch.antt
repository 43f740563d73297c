-- A datagram arrives: all that it can mean.
use Rattle.std.proofs.Common.{◌≡◌, inl, inr, ⊎_elim, ℕ, max, eqb, true, false, Option, Some, None, List, [], ◌∷◌, take, refl, sym, ◌∙◌, ap, subst}
use Rattle.std.specs.Prelude.{position}
use Rattle.std.specs.Int.{w32, from_be_bytes}
use Rattle.std.proofs.lemmas.List.Quantifiers.{position-Some}
use Rattle.std.proofs.lemmas.Bool.{cases_Bool, and_parts, and_from, and_right, both_ways, false_from_ne_true, eqb-true, eqb-false, eq-eqb}
use Rattle.pp_terms.specs.format.Traffic as traffic
use Rattle.pp_terms.specs.format.Traffic.{Record, Received, same_address}
use Rattle.pp_terms.specs.format.Descriptor.{Descriptor}
use Rattle.pp_terms.specs.format.Messages.{Message, WireKind, Messages}
use Rattle.pp_traffic.specs.Past.{now, read, comes_from, is_number}
use Rattle.pp_traffic.specs.Life.{Life, begins, comes_on}
use Rattle.pp_outside.specs.Outside.{address_of, is_same}
use Rattle.pp_outside.specs.declared.link.Address.{Address}
use Rattle.pp_channels.specs.Seats.{Seats, channel_at, is_source, is_found, answered}
use Rattle.pp_channels.specs.declared.channel.Channel.{Channel}
use Rattle.pp_lives.specs.Reading.{is_waiting}
use Rattle.pp_lives.specs.Standing.{Seated}
use Rattle.pp_lives.specs.Calls.{TellsOne, TellsFirst}
use Rattle.pp_lives.specs.Arriving.{contents, is_faulty, begins_faulty, is_waiting_at, IsWelcome, Greets, Awaited, Comes, Numbered, IsNumbered, Arrives}
use Rattle.pp_lives.specs.Standing.{Standing, AllBegun}
use Rattle.pp_lives.specs.Arrived.{Stays, GivesUp, Reads, IsHeardOn, IsRepliedBy, Arrived}
use Rattle.pp_lives.specs.declared.arriving.Arrival.{Arrival}
use Rattle.pp_lives.specs.declared.arriving.Arrival.TheVariants as arrivals
use Rattle.pp_lives.proofs.Own.{stands_of, others_apart, missed_by}
use Rattle.pp_lives.proofs.Missed.{MissesAll, zero_misses, short_misses}
use Rattle.pp_lives.proofs.Sent.{same_self, same_is}
use Rattle.pp_lives.proofs.Changing.{IsMade, made_is}
use Rattle.pp_terms.proofs.MovedSteps.{channel_none}
use Rattle.pp_lives.proofs.Arrivals.{number_read, contents_read, there_of, none_passes, Found, found_there, stays, stays_again, heard_arrived, opened_arrived, replied_arrived, refused_arrived}

-- ---- for channel 0

abbrev R : ℕ → Address → List ℕ → Record
R moment sender bytes = Received moment (address_of sender) bytes

welcome_arrived : (d : Descriptor) (t new : Seats) (lives : ℕ → Option Life) (sender : Address) (moment : ℕ) (bytes : List ℕ) (past : List Record) (result : Arrival) → Standing d t lives past
    → (read d (R moment sender bytes)).channel ≡ Some 0 → (read d (R moment sender bytes)).messages ≡ contents d bytes
    → IsWelcome d t sender (max moment (now past)) bytes result new → Arrived d t lives (R moment sender bytes) past (max moment (now past)) bytes result new
welcome_arrived d t new lives sender moment bytes past (arrivals.Again k) s number is w =
    let p = (position-Some (is_source sender w.source) t.channels w.does.0 None w.does.1).1 in
    let c = there_of (is_source sender w.source) (channel_at t w.does.0) refl p in
    subst (λ (x : Seats). Stays d (max moment (now past)) t x lives (R moment sender bytes) past) (sym w.does.2.2) (stays_again d t lives w.does.0 c.0 moment (address_of sender) bytes past s c.1 number)
welcome_arrived d t new lives sender moment bytes past (arrivals.Late k) s number is w =
    stays d t new lives moment (address_of sender) bytes past s w.does.2.2 (zero_misses d t lives (R moment sender bytes) past s.seated number)
welcome_arrived d t new lives sender moment bytes past arrivals.Unseated s number is w =
    stays d t new lives moment (address_of sender) bytes past s w.does.2 (zero_misses d t lives (R moment sender bytes) past s.seated number)
welcome_arrived d t new lives sender moment bytes past (arrivals.Opened seat next) s number is w =
    opened_arrived d t new lives seat w.source sender moment bytes past s w.some number is w.fitting w.does.0
    (subst (λ (x : Seats). IsMade t x seat (answered sender w.source (max moment (now past)))) (sym w.does.3)
    (made_is t seat (answered sender w.source (max moment (now past))) (λ n. refl) s.seated.are w.does.1))
welcome_arrived d t new lives sender moment bytes past arrivals.Short s number is w = absurd w.does.2
welcome_arrived d t new lives sender moment bytes past arrivals.NoGreeting s number is w = absurd w.does.2
welcome_arrived d t new lives sender moment bytes past arrivals.Unwelcome s number is w = absurd w.does.2
welcome_arrived d t new lives sender moment bytes past arrivals.NoChannel s number is w = absurd w.does.2
welcome_arrived d t new lives sender moment bytes past (arrivals.NoReply k) s number is w = absurd w.does.2
welcome_arrived d t new lives sender moment bytes past (arrivals.Cut k) s number is w = absurd w.does.2
welcome_arrived d t new lives sender moment bytes past (arrivals.Differs k) s number is w = absurd w.does.2
welcome_arrived d t new lives sender moment bytes past (arrivals.Given k) s number is w = absurd w.does.2
welcome_arrived d t new lives sender moment bytes past (arrivals.Replied k) s number is w = absurd w.does.2
welcome_arrived d t new lives sender moment bytes past (arrivals.Heard k) s number is w = absurd w.does.2

greets_arrived : (d : Descriptor) (t new : Seats) (lives : ℕ → Option Life) (sender : Address) (moment : ℕ) (bytes : List ℕ) (past : List Record) (result : Arrival) → Standing d t lives past
    → (read d (R moment sender bytes)).channel ≡ Some 0 → (read d (R moment sender bytes)).messages ≡ contents d bytes
    → Greets d t sender (max moment (now past)) bytes result new → Arrived d t lives (R moment sender bytes) past (max moment (now past)) bytes result new
greets_arrived d t new lives sender moment bytes past arrivals.NoGreeting s number is g =
    stays d t new lives moment (address_of sender) bytes past s g.2 (zero_misses d t lives (R moment sender bytes) past s.seated number)
greets_arrived d t new lives sender moment bytes past arrivals.Unwelcome s number is g =
    stays d t new lives moment (address_of sender) bytes past s g.1 (zero_misses d t lives (R moment sender bytes) past s.seated number)
greets_arrived d t new lives sender moment bytes past arrivals.Short s number is g = welcome_arrived d t new lives sender moment bytes past arrivals.Short s number is g
greets_arrived d t new lives sender moment bytes past arrivals.Unseated s number is g = welcome_arrived d t new lives sender moment bytes past arrivals.Unseated s number is g
greets_arrived d t new lives sender moment bytes past arrivals.NoChannel s number is g = welcome_arrived d t new lives sender moment bytes past arrivals.NoChannel s number is g
greets_arrived d t new lives sender moment bytes past (arrivals.Again k) s number is g = welcome_arrived d t new lives sender moment bytes past (arrivals.Again k) s number is g
greets_arrived d t new lives sender moment bytes past (arrivals.Late k) s number is g = welcome_arrived d t new lives sender moment bytes past (arrivals.Late k) s number is g
greets_arrived d t new lives sender moment bytes past (arrivals.Opened k n) s number is g = welcome_arrived d t new lives sender moment bytes past (arrivals.Opened k n) s number is g
greets_arrived d t new lives sender moment bytes past (arrivals.NoReply k) s number is g = welcome_arrived d t new lives sender moment bytes past (arrivals.NoReply k) s number is g
greets_arrived d t new lives sender moment bytes past (arrivals.Cut k) s number is g = welcome_arrived d t new lives sender moment bytes past (arrivals.Cut k) s number is g
greets_arrived d t new lives sender moment bytes past (arrivals.Differs k) s number is g = welcome_arrived d t new lives sender moment bytes past (arrivals.Differs k) s number is g
greets_arrived d t new lives sender moment bytes past (arrivals.Given k) s number is g = welcome_arrived d t new lives sender moment bytes past (arrivals.Given k) s number is g
greets_arrived d t new lives sender moment bytes past (arrivals.Replied k) s number is g = welcome_arrived d t new lives sender moment bytes past (arrivals.Replied k) s number is g
greets_arrived d t new lives sender moment bytes past (arrivals.Heard k) s number is g = welcome_arrived d t new lives sender moment bytes past (arrivals.Heard k) s number is g

-- ---- for a number

-- no channel has it
none_misses : (d : Descriptor) (t : Seats) (lives : ℕ → Option Life) (sender : Address) (moment number : ℕ) (bytes : List ℕ) (past : List Record) → Seated d t lives past
    → (read d (R moment sender bytes)).channel ≡ Some number → position (is_found number sender) t.channels ≡ None → MissesAll d t lives (R moment sender bytes)
none_misses d t lives sender moment number bytes past s number_is none seat c l there living =
    let r = R moment sender bytes in
    let st = stands_of d (channel_at t seat) (lives seat) c l past (s.each seat) there living in
    missed_by d c l r (false_from_ne_true (comes_on d l r) (λ on.
    let parts = and_parts (comes_from l.address r) (is_number l.local (read d r).channel) on in
    let number_same : number ≡ l.local = eqb-true number l.local (sym (ap (is_number l.local) number_is) ∙ parts.1) in
    let address_same : address_of sender ≡ l.address = same_is (address_of sender) l.address parts.0 in
    both_ways (is_found number sender (Some c)) (ap (is_found number sender) (sym there) ∙ none_passes (is_found number sender) t.channels seat refl none)
    (and_from (eqb c.local number) (is_same c.address sender) (eq-eqb c.local number (sym st.local ∙ sym number_same))
    (subst (λ (a : traffic.Address). same_address a (address_of sender) ≡ true) (address_same ∙ st.address) (same_self (address_of sender))))))

-- nothing that a waiting channel could take for its reply
unread_misses : (d : Descriptor) (t : Seats) (lives : ℕ → Option Life) (seat number : ℕ) (sender : Address) (moment : ℕ) (bytes : List ℕ) (past : List Record) → Seated d t lives past
    → (f : Found t seat number sender) → is_waiting f.channel ≡ true → (read d (R moment sender bytes)).channel ≡ Some number → begins (read d (R moment sender bytes)).messages.read ≡ false
    → MissesAll d t lives (R moment sender bytes)
unread_misses d t lives seat number sender moment bytes past s f waits number_is none other e l there living = ⊎_elim
    (λ same. record {
      waits = λ w. and_right (comes_on d l (R moment sender bytes)) (begins (read d (R moment sender bytes)).messages.read) none;
      known = λ k. absurd (both_ways (is_waiting e) k (subst (λ (o : Option Channel). is_waiting_at o ≡ true) (sym (ap (channel_at t) (eqb-true other seat same) ∙ f.there) ∙ there) waits));
    })
    (λ apart. missed_by d e l (R moment sender bytes) (others_apart d t lives past seat f.channel (R moment sender bytes) s f.there (number_is ∙ ap (λ (k : ℕ). Some k) (sym f.local)) other e l (eqb-false other seat apart) there living))
    (cases_Bool (eqb other seat))

-- a fault of the first message: nothing is read
faulty_none : (m : Messages) → is_faulty m ≡ true → begins m.read ≡ false
faulty_none m e = by m.fault m.read e
  where
    by : (f : Option (ℕ × WireKind)) (ms : List Message) → begins_faulty f ms ≡ true → begins ms ≡ false
    by None ms e = absurd cc
    by (Some (place, kind)) [] e = refl
    by (Some (place, kind)) (m ∷ ms) e = absurd cc

answer_arrived : (d : Descriptor) (t new : Seats) (lives : ℕ → Option Life) (seat number : ℕ) (sender : Address) (moment : ℕ) (bytes : List ℕ) (past : List Record) (result : Arrival) → Standing d t lives past → AllBegun t
    → (f : Found t seat number sender) → is_waiting f.channel ≡ true → (read d (R moment sender bytes)).channel ≡ Some number → (read d (R moment sender bytes)).messages ≡ contents d bytes
    → Awaited d t seat sender (max moment (now past)) bytes result new → Arrived d t lives (R moment sender bytes) past (max moment (now past)) bytes result new
answer_arrived d t new lives seat number sender moment bytes past (arrivals.NoReply k) s live f waits number_is is a =
    stays d t new lives moment (address_of sender) bytes past s a.3 (unread_misses d t lives seat number sender moment bytes past s.seated f waits number_is (ap (λ (m : Messages). begins m.read) is ∙ a.2))
answer_arrived d t new lives seat number sender moment bytes past (arrivals.Cut k) s live f waits number_is is a =
    stays d t new lives moment (address_of sender) bytes past s a.2 (unread_misses d t lives seat number sender moment bytes past s.seated f waits number_is (ap (λ (m : Messages). begins m.read) is ∙ faulty_none (contents d bytes) a.1))
answer_arrived d t new lives seat number sender moment bytes past (arrivals.Differs k) s live f waits number_is is a =
    subst (λ (n : ℕ). GivesUp d (max moment (now past)) n t new lives lives (R moment sender bytes) past) (sym a.does.0)
    (refused_arrived d t new lives seat number a.source a.options a.rest sender moment bytes past s f waits (live seat f.channel f.there waits) number_is is a.first (inl a.does.1) a.does.2)
answer_arrived d t new lives seat number sender moment bytes past (arrivals.Given k) s live f waits number_is is a =
    subst (λ (n : ℕ). GivesUp d (max moment (now past)) n t new lives lives (R moment sender bytes) past) (sym a.does.0)
    (refused_arrived d t new lives seat number a.source a.options a.rest sender moment bytes past s f waits (live seat f.channel f.there waits) number_is is a.first (inr a.does.2) a.does.3)
answer_arrived d t new lives seat number sender moment bytes past (arrivals.Replied k) s live f waits number_is is a =
    subst (λ (n : ℕ). Reads d (max moment (now past)) n (contents d bytes).read TellsFirst (IsRepliedBy d (R moment sender bytes) past) t new lives (R moment sender bytes) past) (sym a.does.0)
    (subst (λ (x : Seats). Reads d (max moment (now past)) seat (contents d bytes).read TellsFirst (IsRepliedBy d (R moment sender bytes) past) t x lives (R moment sender bytes) past) (sym a.does.3)
    (replied_arrived d t lives seat number a.source a.options a.rest sender moment bytes past s f waits (live seat f.channel f.there waits) number_is is a.first a.does.1 a.does.2))
answer_arrived d t new lives seat number sender moment bytes past arrivals.Short s live f waits number_is is a = absurd a.does
answer_arrived d t new lives seat number sender moment bytes past arrivals.NoGreeting s live f waits number_is is a = absurd a.does
answer_arrived d t new lives seat number sender moment bytes past arrivals.Unwelcome s live f waits number_is is a = absurd a.does
answer_arrived d t new lives seat number sender moment bytes past arrivals.Unseated s live f waits number_is is a = absurd a.does
answer_arrived d t new lives seat number sender moment bytes past arrivals.NoChannel s live f waits number_is is a = absurd a.does
answer_arrived d t new lives seat number sender moment bytes past (arrivals.Again k) s live f waits number_is is a = absurd a.does
answer_arrived d t new lives seat number sender moment bytes past (arrivals.Late k) s live f waits number_is is a = absurd a.does
answer_arrived d t new lives seat number sender moment bytes past (arrivals.Opened k n) s live f waits number_is is a = absurd a.does
answer_arrived d t new lives seat number sender moment bytes past (arrivals.Heard k) s live f waits number_is is a = absurd a.does

comes_arrived : (d : Descriptor) (t new : Seats) (lives : ℕ → Option Life) (seat number : ℕ) (sender : Address) (moment : ℕ) (bytes : List ℕ) (past : List Record) (result : Arrival) → Standing d t lives past → AllBegun t
    → (f : Found t seat number sender) → (read d (R moment sender bytes)).channel ≡ Some number → (read d (R moment sender bytes)).messages ≡ contents d bytes
    → Comes d t seat sender (max moment (now past)) bytes result new → Arrived d t lives (R moment sender bytes) past (max moment (now past)) bytes result new
comes_arrived d t new lives seat number sender moment bytes past (arrivals.Heard k) s live f number_is is a =
    subst (λ (n : ℕ). Reads d (max moment (now past)) n (contents d bytes).read TellsOne (IsHeardOn d t lives (R moment sender bytes) past n) t new lives (R moment sender bytes) past) (sym a.0)
    (heard_arrived d t new lives seat number sender moment bytes past s f (ap is_waiting_at (sym f.there) ∙ a.1) number_is is a.2)
comes_arrived d t new lives seat number sender moment bytes past arrivals.Short s live f number_is is a = answer_arrived d t new lives seat number sender moment bytes past arrivals.Short s live f (ap is_waiting_at (sym f.there) ∙ a.0) number_is is a.1
comes_arrived d t new lives seat number sender moment bytes past arrivals.NoGreeting s live f number_is is a = answer_arrived d t new lives seat number sender moment bytes past arrivals.NoGreeting s live f (ap is_waiting_at (sym f.there) ∙ a.0) number_is is a.1
comes_arrived d t new lives seat number sender moment bytes past arrivals.Unwelcome s live f number_is is a = answer_arrived d t new lives seat number sender moment bytes past arrivals.Unwelcome s live f (ap is_waiting_at (sym f.there) ∙ a.0) number_is is a.1
comes_arrived d t new lives seat number sender moment bytes past arrivals.Unseated s live f number_is is a = answer_arrived d t new lives seat number sender moment bytes past arrivals.Unseated s live f (ap is_waiting_at (sym f.there) ∙ a.0) number_is is a.1
comes_arrived d t new lives seat number sender moment bytes past arrivals.NoChannel s live f number_is is a = answer_arrived d t new lives seat number sender moment bytes past arrivals.NoChannel s live f (ap is_waiting_at (sym f.there) ∙ a.0) number_is is a.1
comes_arrived d t new lives seat number sender moment bytes past (arrivals.Again k) s live f number_is is a = answer_arrived d t new lives seat number sender moment bytes past (arrivals.Again k) s live f (ap is_waiting_at (sym f.there) ∙ a.0) number_is is a.1
comes_arrived d t new lives seat number sender moment bytes past (arrivals.Late k) s live f number_is is a = answer_arrived d t new lives seat number sender moment bytes past (arrivals.Late k) s live f (ap is_waiting_at (sym f.there) ∙ a.0) number_is is a.1
comes_arrived d t new lives seat number sender moment bytes past (arrivals.NoReply k) s live f number_is is a = answer_arrived d t new lives seat number sender moment bytes past (arrivals.NoReply k) s live f (ap is_waiting_at (sym f.there) ∙ a.0) number_is is a.1
comes_arrived d t new lives seat number sender moment bytes past (arrivals.Cut k) s live f number_is is a = answer_arrived d t new lives seat number sender moment bytes past (arrivals.Cut k) s live f (ap is_waiting_at (sym f.there) ∙ a.0) number_is is a.1
comes_arrived d t new lives seat number sender moment bytes past (arrivals.Differs k) s live f number_is is a = answer_arrived d t new lives seat number sender moment bytes past (arrivals.Differs k) s live f (ap is_waiting_at (sym f.there) ∙ a.0) number_is is a.1
comes_arrived d t new lives seat number sender moment bytes past (arrivals.Given k) s live f number_is is a = answer_arrived d t new lives seat number sender moment bytes past (arrivals.Given k) s live f (ap is_waiting_at (sym f.there) ∙ a.0) number_is is a.1
comes_arrived d t new lives seat number sender moment bytes past (arrivals.Replied k) s live f number_is is a = answer_arrived d t new lives seat number sender moment bytes past (arrivals.Replied k) s live f (ap is_waiting_at (sym f.there) ∙ a.0) number_is is a.1
comes_arrived d t new lives seat number sender moment bytes past (arrivals.Opened k n) s live f number_is is a = answer_arrived d t new lives seat number sender moment bytes past (arrivals.Opened k n) s live f (ap is_waiting_at (sym f.there) ∙ a.0) number_is is a.1

numbered_arrived : (d : Descriptor) (t new : Seats) (lives : ℕ → Option Life) (number : ℕ) (sender : Address) (moment : ℕ) (bytes : List ℕ) (past : List Record) (result : Arrival) → Standing d t lives past → AllBegun t
    → (read d (R moment sender bytes)).channel ≡ Some number → (read d (R moment sender bytes)).messages ≡ contents d bytes
    → Numbered d t number sender (max moment (now past)) bytes result new → Arrived d t lives (R moment sender bytes) past (max moment (now past)) bytes result new
numbered_arrived d t new lives number sender moment bytes past arrivals.NoChannel s live number_is is a =
    stays d t new lives moment (address_of sender) bytes past s a.1 (none_misses d t lives sender moment number bytes past s.seated number_is a.0)
numbered_arrived d t new lives number sender moment bytes past arrivals.Short s live number_is is a = comes_arrived d t new lives a.seat number sender moment bytes past arrivals.Short s live (found_there t a.seat number sender a.found) number_is is a.does
numbered_arrived d t new lives number sender moment bytes past arrivals.NoGreeting s live number_is is a = comes_arrived d t new lives a.seat number sender moment bytes past arrivals.NoGreeting s live (found_there t a.seat number sender a.found) number_is is a.does
numbered_arrived d t new lives number sender moment bytes past arrivals.Unwelcome s live number_is is a = comes_arrived d t new lives a.seat number sender moment bytes past arrivals.Unwelcome s live (found_there t a.seat number sender a.found) number_is is a.does
numbered_arrived d t new lives number sender moment bytes past arrivals.Unseated s live number_is is a = comes_arrived d t new lives a.seat number sender moment bytes past arrivals.Unseated s live (found_there t a.seat number sender a.found) number_is is a.does
numbered_arrived d t new lives number sender moment bytes past (arrivals.Again k) s live number_is is a = comes_arrived d t new lives a.seat number sender moment bytes past (arrivals.Again k) s live (found_there t a.seat number sender a.found) number_is is a.does
numbered_arrived d t new lives number sender moment bytes past (arrivals.Late k) s live number_is is a = comes_arrived d t new lives a.seat number sender moment bytes past (arrivals.Late k) s live (found_there t a.seat number sender a.found) number_is is a.does
numbered_arrived d t new lives number sender moment bytes past (arrivals.NoReply k) s live number_is is a = comes_arrived d t new lives a.seat number sender moment bytes past (arrivals.NoReply k) s live (found_there t a.seat number sender a.found) number_is is a.does
numbered_arrived d t new lives number sender moment bytes past (arrivals.Cut k) s live number_is is a = comes_arrived d t new lives a.seat number sender moment bytes past (arrivals.Cut k) s live (found_there t a.seat number sender a.found) number_is is a.does
numbered_arrived d t new lives number sender moment bytes past (arrivals.Differs k) s live number_is is a = comes_arrived d t new lives a.seat number sender moment bytes past (arrivals.Differs k) s live (found_there t a.seat number sender a.found) number_is is a.does
numbered_arrived d t new lives number sender moment bytes past (arrivals.Given k) s live number_is is a = comes_arrived d t new lives a.seat number sender moment bytes past (arrivals.Given k) s live (found_there t a.seat number sender a.found) number_is is a.does
numbered_arrived d t new lives number sender moment bytes past (arrivals.Replied k) s live number_is is a = comes_arrived d t new lives a.seat number sender moment bytes past (arrivals.Replied k) s live (found_there t a.seat number sender a.found) number_is is a.does
numbered_arrived d t new lives number sender moment bytes past (arrivals.Heard k) s live number_is is a = comes_arrived d t new lives a.seat number sender moment bytes past (arrivals.Heard k) s live (found_there t a.seat number sender a.found) number_is is a.does
numbered_arrived d t new lives number sender moment bytes past (arrivals.Opened k n) s live number_is is a = comes_arrived d t new lives a.seat number sender moment bytes past (arrivals.Opened k n) s live (found_there t a.seat number sender a.found) number_is is a.does

-- ---- any datagram

any_arrived : (d : Descriptor) (t new : Seats) (lives : ℕ → Option Life) (sender : Address) (moment : ℕ) (bytes : List ℕ) (past : List Record) (result : Arrival) → Standing d t lives past → AllBegun t
    → IsNumbered d t sender (max moment (now past)) bytes result new → Arrived d t lives (R moment sender bytes) past (max moment (now past)) bytes result new
any_arrived d t new lives sender moment bytes past result s live a =
    let n = from_be_bytes w32 (take 4 bytes) in
    let number = number_read d (R moment sender bytes) bytes refl a.long in
    let is = contents_read d bytes a.long in
    ⊎_elim
    (λ zero_is. greets_arrived d t new lives sender moment bytes past result s (number ∙ ap (λ (k : ℕ). Some k) (eqb-true n 0 zero_is)) is (a.zero (eqb-true n 0 zero_is)))
    (λ other. numbered_arrived d t new lives n sender moment bytes past result s live number is (a.other (eqb-false n 0 other)))
    (cases_Bool (eqb n 0))

pub arrived : (d : Descriptor) (t new : Seats) (lives : ℕ → Option Life) (sender : Address) (moment : ℕ) (bytes : List ℕ) (past : List Record) (result : Arrival) → Standing d t lives past → AllBegun t
    → Arrives d t sender (max moment (now past)) bytes result new → Arrived d t lives (Received moment (address_of sender) bytes) past (max moment (now past)) bytes result new
arrived d t new lives sender moment bytes past arrivals.Short s live a =
    stays d t new lives moment (address_of sender) bytes past s a.1 (short_misses d t lives (R moment sender bytes) (channel_none d bytes a.0))
arrived d t new lives sender moment bytes past arrivals.NoGreeting s live a = any_arrived d t new lives sender moment bytes past arrivals.NoGreeting s live a
arrived d t new lives sender moment bytes past arrivals.Unwelcome s live a = any_arrived d t new lives sender moment bytes past arrivals.Unwelcome s live a
arrived d t new lives sender moment bytes past arrivals.Unseated s live a = any_arrived d t new lives sender moment bytes past arrivals.Unseated s live a
arrived d t new lives sender moment bytes past arrivals.NoChannel s live a = any_arrived d t new lives sender moment bytes past arrivals.NoChannel s live a
arrived d t new lives sender moment bytes past (arrivals.Again k) s live a = any_arrived d t new lives sender moment bytes past (arrivals.Again k) s live a
arrived d t new lives sender moment bytes past (arrivals.Late k) s live a = any_arrived d t new lives sender moment bytes past (arrivals.Late k) s live a
arrived d t new lives sender moment bytes past (arrivals.NoReply k) s live a = any_arrived d t new lives sender moment bytes past (arrivals.NoReply k) s live a
arrived d t new lives sender moment bytes past (arrivals.Cut k) s live a = any_arrived d t new lives sender moment bytes past (arrivals.Cut k) s live a
arrived d t new lives sender moment bytes past (arrivals.Differs k) s live a = any_arrived d t new lives sender moment bytes past (arrivals.Differs k) s live a
arrived d t new lives sender moment bytes past (arrivals.Given k) s live a = any_arrived d t new lives sender moment bytes past (arrivals.Given k) s live a
arrived d t new lives sender moment bytes past (arrivals.Replied k) s live a = any_arrived d t new lives sender moment bytes past (arrivals.Replied k) s live a
arrived d t new lives sender moment bytes past (arrivals.Heard k) s live a = any_arrived d t new lives sender moment bytes past (arrivals.Heard k) s live a
arrived d t new lives sender moment bytes past (arrivals.Opened k n) s live a = any_arrived d t new lives sender moment bytes past (arrivals.Opened k n) s live a
