-- A newcomer is let in, in the words of the promises.
use Rattle.std.proofs.Common.{◌≡◌, ◌⊎◌, inl, inr, ⊎_elim, ℕ, true, ◌&&◌, ◌||◌, not, Option, Some, None, List, [], ◌∷◌, ◌++◌, refl, sym, ◌∙◌, ap, subst}
use Rattle.std.specs.List.{AllByRecursion, list_any}
use Rattle.std.proofs.lemmas.Bool.{cases_Bool, false≢true, and_from, or_cases, or_left, or_right, eq-eqb}
use Rattle.pp_terms.specs.Count.{HasRisen}
use Rattle.pp_terms.specs.disk.Disk.{DiskState, moment_of}
use Rattle.pp_terms.specs.format.Descriptor.{Descriptor}
use Rattle.pp_terms.specs.format.Messages.{Message, Messages, Datagram}
use Rattle.pp_terms.specs.format.Traffic.{Record, Received, Quiet, Sent, LinkState, same_address}
use Rattle.pp_traffic.specs.Past.{read, is_event, is_number}
use Rattle.pp_traffic.specs.Life.{begins}
use Rattle.pp_traffic.specs.Prompt.{first_source, lets_in}
use Rattle.pp_promises.specs.Answered.{is_newcomer, is_let_in, LetsIn}
use Rattle.pp_promises.specs.LastTurn.{last_event, sent_since, earlier}
use Rattle.pp_outside.specs.Arrivals.{IsEvent}
use Rattle.pp_outside.specs.Outside.{address_of, record_of}
use Rattle.pp_outside.specs.declared.link.Address.{Address}
use Rattle.pp_outside.specs.declared.link.Event.{Event}
use Rattle.pp_outside.specs.declared.link.Event.TheVariants as events
use Rattle.pp_channels.specs.declared.channel.Channel.{Channel}
use Rattle.pp_lives.proofs.Arrivals.{contents_read}
use Rattle.pp_lives.proofs.Sent.{same_self}
use Rattle.pp_peer.specs.Events.{Absorbs}
use Rattle.pp_peer.specs.Flushing.{IsOurs}
use Rattle.pp_peer.specs.Standing.{Beginning, StandsFor}
use Rattle.pp_core.specs.Peers.{PeerState}
use Rattle.pp_core.specs.Telling.{Tells, end_of, BeginsWith}
use Rattle.pp_core.specs.Turning.{scene, Sends}
use Rattle.pp_core.proofs.Newcomers.{IsEntry, LetsEnter, absorbs_enters}
use Rattle.pp_core.proofs.Told.{greeted}
use Rattle.pp_core.proofs.Writing.{any_amid, gained_alike}

-- ---- the last turn

-- The last turn of these records has this event, these were sent in it, and these came before.
record IsTurn (r : Record) (added past all : List Record) : Type 0 where
  event : last_event all ≡ Some r
  sent : sent_since all ≡ added
  before : earlier all ≡ past

-- what is sent behind an event is sent in its turn
turn_is : (d : Descriptor) (moment : ℕ) (rs : List Record) (r : Record) (past : List Record) → is_event r ≡ true
    → AllByRecursion (IsOurs d moment) rs → IsTurn r rs past (rs ++ r ∷ past)
turn_is d moment [] (Received at sender bytes) past e all = record { event = refl; sent = refl; before = refl }
turn_is d moment [] (Quiet at) past e all = record { event = refl; sent = refl; before = refl }
turn_is d moment [] (Sent when receiver bytes) past e all = absurd (false≢true e)
turn_is d moment (x ∷ rs) r past e all =
    let rest = turn_is d moment rs r past e all.1 in
    record {
      event = ap (λ (y : Record). last_event (y ∷ (rs ++ r ∷ past))) all.0.is ∙ rest.event;
      sent = ap (λ (y : Record). sent_since (y ∷ (rs ++ r ∷ past))) all.0.is
          ∙ ap (λ (ys : List Record). Sent moment all.0.receiver all.0.bytes ∷ ys) rest.sent
          ∙ ap (λ (y : Record). y ∷ rs) (sym all.0.is);
      before = ap (λ (y : Record). earlier (y ∷ (rs ++ r ∷ past))) all.0.is ∙ rest.before;
    }

-- what is so of the turn is so of the records
let_in_turn : (d : Descriptor) (r : Record) (added past all : List Record) → IsTurn r added past all
    → is_let_in d (Some r) added past ≡ true → LetsIn d all
let_in_turn d r added past all t e =
    ap (λ (o : Option Record). is_let_in d o (sent_since all) (earlier all)) t.event
    ∙ ap (λ (rs : List Record). is_let_in d (Some r) rs (earlier all)) t.sent
    ∙ ap (λ (rs : List Record). is_let_in d (Some r) added rs) t.before ∙ e

-- ---- the reply

begins_so : (d : Descriptor) (source : ℕ) (ms : List Message) → BeginsWith d source ms → begins ms ≡ true
begins_so d source ms says = ap begins says.1

reply_lets : (d : Descriptor) (at : ℕ) (c : Channel) (sender : Address) (bytes : List ℕ) (link later : LinkState)
    → c.address ≡ sender → (end_of c).number ≡ first_source (read d (Received at (address_of sender) bytes)).messages.read
    → (t : Tells d (end_of c) (BeginsWith d c.local) link later)
    → lets_in d (Received at (address_of sender) bytes) (Sent t.moment (address_of c.address) t.bytes) ≡ true
reply_lets d at c sender bytes link later address number t =
    let came : Record = Received at (address_of sender) bytes in
    let sent : Record = Sent t.moment (address_of c.address) t.bytes in
    let source : ℕ = first_source (read d came).messages.read in
    and_from (same_address (address_of c.address) (address_of sender) && is_number source (read d sent).channel)
    (begins (read d sent).messages.read)
    (and_from (same_address (address_of c.address) (address_of sender)) (is_number source (read d sent).channel)
    (subst (λ (a : Address). same_address (address_of c.address) (address_of a) ≡ true) address (same_self (address_of c.address)))
    (ap (λ (x : Datagram). is_number source x.channel) t.written.read ∙ eq-eqb (end_of c).number source number))
    (ap (λ (x : Datagram). begins x.messages.read) t.written.read ∙ begins_so d c.local t.messages t.holds)

-- one more that was sent takes nothing back
still_let_in : (d : Descriptor) (o : Option Record) (x : Record) (sends before : List Record) → is_let_in d o sends before ≡ true
    → is_let_in d o (x ∷ sends) before ≡ true
still_let_in d None x sends before e = refl
still_let_in d (Some r) x sends before e = ⊎_elim
    (λ none. or_left (not (is_newcomer d r before)) (lets_in d r x || list_any (lets_in d r) sends) none)
    (λ replied. or_right (not (is_newcomer d r before)) (lets_in d r x || list_any (lets_in d r) sends)
    (or_right (lets_in d r x) (list_any (lets_in d r) sends) replied))
    (or_cases (not (is_newcomer d r before)) (list_any (lets_in d r) sends) e)

-- A newcomer that was let in is so still when more was sent, as after a wait that was refused.
pub let_in_later : (d swarm : Descriptor) (moment : ℕ) (rs past : List Record) → AllByRecursion (IsOurs swarm moment) rs → LetsIn d past
    → LetsIn d (rs ++ past)
let_in_later d swarm moment [] past all e = e
let_in_later d swarm moment (x ∷ rs) past all e =
    ap (λ (y : Record). is_let_in d (last_event (y ∷ (rs ++ past))) (sent_since (y ∷ (rs ++ past))) (earlier (y ∷ (rs ++ past)))) all.0.is
    ∙ still_let_in d (last_event (rs ++ past)) (Sent moment all.0.receiver all.0.bytes) (sent_since (rs ++ past)) (earlier (rs ++ past))
    (let_in_later d swarm moment rs past all.1 e)

-- ---- a flush

module _ (refused : ℕ) (old new : PeerState) (link later : LinkState) (disk left : DiskState)
    (course : Sends refused old new link later disk left) (d : Descriptor) (r : Record) (past before : List Record)
    (swarm : old.parts.seats.descriptor ≡ d) (carries : link.traffic ≡ Some before) where
  -- the reply to a newcomer went
  entry_reply : IsEntry d r past old.parts → (list_any (lets_in d r) course.flushes.added ≡ true) ⊎ HasRisen link.faults later.faults
  entry_reply i =
      let h = i.entered in
      let came : Record = Received i.at (address_of i.sender) i.bytes in
      subst (λ (x : Record). (list_any (lets_in d x) course.flushes.added ≡ true) ⊎ HasRisen link.faults later.faults) (sym i.is)
      (⊎_elim
      (λ (told : Tells old.parts.seats.descriptor (end_of h.channel) (BeginsWith old.parts.seats.descriptor h.channel.local) link later).
      let t = subst (λ (e : Descriptor). Tells e (end_of h.channel) (BeginsWith e h.channel.local) link later) swarm told in
      inl (subst (λ (rs : List Record). list_any (lets_in d came) rs ≡ true)
      (sym (gained_alike before course.flushes.added (t.newer ++ Sent t.moment (address_of h.channel.address) t.bytes ∷ t.older) link.traffic
      later.traffic carries course.flushes.gained t.gained))
      (any_amid (lets_in d came) t.newer (Sent t.moment (address_of h.channel.address) t.bytes) t.older
      (reply_lets d i.at h.channel i.sender i.bytes link later h.address
      (h.number ∙ ap (λ (m : Messages). first_source m.read) (sym (contents_read d i.bytes i.newcomer.long))) t))))
      (λ risen. inr risen)
      ((greeted old.dials new.dials old.speaker new.speaker refused (scene old.parts link disk) (scene course.sent later left) course.sends).due
      h.seat h.channel h.lasting h.due))

  replied : LetsEnter d r past old.parts → (is_let_in d (Some r) course.flushes.added past ≡ true) ⊎ HasRisen link.faults later.faults
  replied enter = ⊎_elim
      (λ new_one. ⊎_elim
      (λ went. inl (or_right (not (is_newcomer d r past)) (list_any (lets_in d r) course.flushes.added) went))
      (λ risen. inr risen)
      (entry_reply (enter new_one)))
      (λ none. inl (or_left (not (is_newcomer d r past)) (list_any (lets_in d r) course.flushes.added) (ap not none)))
      (cases_Bool (is_newcomer d r past))

  -- Where the event's newcomer may enter, it has a reply at the end of the turn, unless the link refused a datagram.
  pub flush_lets_in : is_event r ≡ true → LetsEnter d r past old.parts
      → LetsIn d (course.flushes.added ++ r ∷ past) ⊎ HasRisen link.faults later.faults
  flush_lets_in event enter = ⊎_elim
      (λ let_in. inl (let_in_turn d r course.flushes.added past (course.flushes.added ++ r ∷ past)
      (turn_is old.parts.seats.descriptor (moment_of disk.history) course.flushes.added r past event course.flushes.ours) let_in))
      (λ risen. inr risen)
      (replied enter)

-- ---- a turn

pub event_record : (event : Event) (bytes : List ℕ) → is_event (record_of event bytes) ≡ true
event_record (events.Datagram sender len at) bytes = refl
event_record (events.Quiet at) bytes = refl

-- A newcomer of a turn has a reply at its end, unless the link refused a datagram.
pub turn_lets_in : (event : Event) (bytes : List ℕ) (refused : ℕ) (start old new : PeerState) (link later : LinkState) (disk left : DiskState)
    → Absorbs event bytes start.parts old.parts → (course : Sends refused old new link later disk left) → IsEvent event bytes
    → (b : Beginning) (most still : ℕ) (past before : List Record) → StandsFor b most start.parts past
    → StandsFor b still old.parts (record_of event bytes ∷ past) → link.traffic ≡ Some before
    → LetsIn b.d (course.flushes.added ++ record_of event bytes ∷ past) ⊎ HasRisen link.faults later.faults
turn_lets_in event bytes refused start old new link later disk left a course fits b most still past before stands then carries =
    flush_lets_in refused old new link later disk left course b.d (record_of event bytes) past before then.seats.swarm carries
    (event_record event bytes) (absorbs_enters event bytes start.parts old.parts a fits b most past stands)
