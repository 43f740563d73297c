-- Chunks that other peers offered are among the offers of their seats, while things are sent.
use Rattle.std.proofs.Common.{◌≡◌, inl, inr, ⊎_elim, ℕ, ◌<◌, ◌≤◌, leb, eqb, Bool, true, false, cond, Option, Some, None, List, [], ◌∷◌, ◌++◌, length, refl, sym, ◌∙◌, ap, subst, arith, ◌+◌}
use Rattle.std.specs.Prelude.{MatchBool, is_some}
use Rattle.std.specs.List.{AllByRecursion}
use Rattle.std.proofs.lemmas.Bool.{false≢true}
use Rattle.pp_terms.specs.disk.Disk.{DiskState, moment_of}
use Rattle.pp_terms.specs.format.Descriptor.{Descriptor}
use Rattle.pp_terms.specs.format.Messages.{Message}
use Rattle.pp_terms.specs.format.Traffic.{Address, Record, Sent, LinkState}
use Rattle.pp_traffic.specs.Life.{Life, answers}
use Rattle.pp_traffic.specs.Past.{now}
use Rattle.pp_traffic.specs.Plain.{greets_once}
use Rattle.pp_traffic.specs.Story.{Line, Said, say, said_in, told}
use Rattle.pp_traffic.proofs.Awaited.{plain_grows}
use Rattle.pp_promises.specs.OwnSide.{is_offered}
use Rattle.pp_promises.specs.ReadStory.{is_read, with_unread, read_story}
use Rattle.pp_channels.specs.Seats.{channel_at}
use Rattle.pp_channels.specs.declared.channel.Channel.{Channel}
use Rattle.pp_fetching.specs.Fetching.{FetchState}
use Rattle.pp_outside.specs.Outside.{address_of}
use Rattle.pp_lives.specs.Reading.{is_waiting}
use Rattle.pp_peer.specs.declared.parts.Parts.{Parts}
use Rattle.pp_peer.specs.Flushing.{IsOurs}
use Rattle.pp_peer.specs.Greeting.{offers_of}
use Rattle.pp_peer.specs.Standing.{Beginning, StandsFor}
use Rattle.pp_core.specs.Peers.{PeerState}
use Rattle.pp_core.specs.Turning.{scene, limited, with_limit, after_refusal, Sends}
use Rattle.pp_core.specs.Offering.{IsOfLife, IsOpen, OffersHeard}
use Rattle.pp_core.proofs.Served.{in_list}
use Rattle.pp_core.proofs.Staying.{CameThrough, flush_came}

-- ---- records that were sent

said_offers : (i at : ℕ) (ms : List Message) (story : List Line) → is_offered i (say at ms story) ≡ is_offered i story
said_offers i at [] story = refl
said_offers i at (m ∷ ms) story = said_offers i at ms (Said at m ∷ story)

pub sent_offers : (d : Descriptor) (life : Life) (i moment : ℕ) (receiver : Address) (bytes : List ℕ) (past : List Record)
    → is_offered i (read_story d life (Sent moment receiver bytes ∷ past)) ≡ true → is_offered i (read_story d life past) ≡ true
sent_offers d life i moment receiver bytes past e =
    by (leb life.opening (length past)) (is_read d life (Sent moment receiver bytes ∷ past)) (eqb life.opening (length past)) (now past) e
  where
    by : (from is_read opening : Bool) (at : ℕ)
        → is_offered i (cond from (cond is_read (told d life opening at (Sent moment receiver bytes) (read_story d life past))
        (with_unread d life opening at (Sent moment receiver bytes) (read_story d life past))) []) ≡ true
        → is_offered i (read_story d life past) ≡ true
    by false is_read opening at e = absurd (false≢true e)
    by true true opening at e = sym (said_offers i at (said_in d life (Sent moment receiver bytes)) (read_story d life past)) ∙ e
    by true false opening at e = sym (said_offers i at (said_in d life (Sent moment receiver bytes)) (read_story d life past)) ∙ e

-- nothing that is sent offers anything
pub offers_before : (d other : Descriptor) (life : Life) (i moment : ℕ) (rs past : List Record) → AllByRecursion (IsOurs other moment) rs
    → is_offered i (read_story d life (rs ++ past)) ≡ true → is_offered i (read_story d life past) ≡ true
offers_before d other life i moment [] past all e = e
offers_before d other life i moment (r ∷ rs) past all e = offers_before d other life i moment rs past all.1
    (sent_offers d life i moment all.0.receiver all.0.bytes (rs ++ past)
    (subst (λ (x : Record). is_offered i (read_story d life (x ∷ (rs ++ past))) ≡ true) all.0.is e))

never_greets : (d : Descriptor) (life : Life) (moment : ℕ) (receiver : Address) (bytes : List ℕ) → greets_once d life (Sent moment receiver bytes) ≡ true
    → ⊥
never_greets d life moment receiver bytes e = cc

open_sent : (d : Descriptor) (life : Life) (moment : ℕ) (receiver : Address) (bytes : List ℕ) (past : List Record)
    → IsOpen d life (Sent moment receiver bytes ∷ past) → IsOpen d life past
open_sent d life moment receiver bytes past (inl plain) = ⊎_elim
    (λ before. inl before)
    (λ reply. inr (reply.0, reply.1))
    ((plain_grows.sent d life moment receiver bytes past).0 plain)
open_sent d life moment receiver bytes past (inr awaits) = ⊎_elim
    (λ before. inr (awaits.0, before))
    (λ opened. absurd (never_greets d life moment receiver bytes
    (subst (λ (x : Bool). MatchBool x (answers d life (Sent moment receiver bytes) ≡ true) (greets_once d life (Sent moment receiver bytes) ≡ true))
    awaits.0 opened.1)))
    (plain_grows.awaited d life (Sent moment receiver bytes) past awaits.1)

pub open_before : (d other : Descriptor) (life : Life) (moment : ℕ) (rs past : List Record) → AllByRecursion (IsOurs other moment) rs
    → IsOpen d life (rs ++ past) → IsOpen d life past
open_before d other life moment [] past all is = is
open_before d other life moment (r ∷ rs) past all is = open_before d other life moment rs past all.1
    (open_sent d life moment all.0.receiver all.0.bytes (rs ++ past) (subst (λ (x : Record). IsOpen d life (x ∷ (rs ++ past))) all.0.is is))

-- ---- what a peer does

-- a channel of a life, as it was before
pub of_life_before : (c e : Channel) (life : Life) → IsOfLife c life → is_waiting e ≡ false → e.address ≡ c.address → e.local ≡ c.local → e.remote ≡ c.remote
    → IsOfLife e life
of_life_before c e life is known address local remote = record {
  known = known;
  address = is.address ∙ ap address_of (sym address);
  local = is.local ∙ sym local;
  remote = remote ∙ is.remote;
}

-- A flush keeps it.
pub flush_heard : (refused : ℕ) (old new : PeerState) (link later : LinkState) (disk left : DiskState)
    → (course : Sends refused old new link later disk left) → (b : Beginning) (most : ℕ) (past : List Record) → b.since ≤ moment_of disk.history
    → StandsFor b most old.parts past → OffersHeard b.d old.parts past → OffersHeard b.d new.parts (course.flushes.added ++ past)
flush_heard refused old new link later disk left course b most past since stands heard life is seat c there of_life fetching i low offered =
    ap (λ (o : Option FetchState). offers_of o seat i) fetched ∙ came.offers c there_sent of_life.known i
    ∙ heard life (open_before b.d old.parts.seats.descriptor life (moment_of disk.history) course.flushes.added past course.flushes.ours is)
    seat was.0 was.1
    (of_life_before c was.0 life of_life was.2 was.3 was.4 was.5) fetched_before i low
    (offers_before b.d old.parts.seats.descriptor life i (moment_of disk.history) course.flushes.added past course.flushes.ours offered)
  where
    fetched : new.parts.fetching ≡ course.sent.fetching
    fetched = ap (λ (p : Parts). p.fetching) course.rest

    there_sent : channel_at course.sent.seats.table seat ≡ Some c
    there_sent = ap (λ (p : Parts). channel_at p.seats.table seat) (sym course.rest) ∙ there

    then : StandsFor b (most + refused) course.sent (course.flushes.added ++ past)
    then = course.flushes.stands b most past since stands

    low_seat : seat < 64
    low_seat = let lt = in_list course.sent.seats.table.channels seat c there_sent in
        let size = then.seats.standing.seated.are.seats in
        omega (arith, lt, size)

    came : CameThrough seat old.parts course.sent
    came = flush_came seat old.dials new.dials old.speaker new.speaker refused (scene old.parts link disk) (scene course.sent later left)
        course.sends low_seat

    was : (e : Channel) × (channel_at old.parts.seats.table seat ≡ Some e) × (is_waiting e ≡ false) × (e.address ≡ c.address) × (e.local ≡ c.local)
        × (e.remote ≡ c.remote)
    was = came.channel c there_sent of_life.known

    fetched_before : is_some old.parts.fetching ≡ true
    fetched_before = sym came.fetches ∙ ap (λ (o : Option FetchState). is_some o) (sym fetched) ∙ fetching

-- A wait that was refused keeps it, and so does another limit.
pub refusal_heard : (d : Descriptor) (p : PeerState) (past : List Record) → OffersHeard d p.parts past → OffersHeard d (after_refusal p).parts past
refusal_heard d p past heard life is seat c there of_life fetching i low offered = heard life is seat c there of_life fetching i low offered

limited_some : (limit : ℕ) (o : Option FetchState) → is_some (limited limit o) ≡ is_some o
limited_some limit None = refl
limited_some limit (Some f) = refl

limited_offers : (limit : ℕ) (o : Option FetchState) (seat i : ℕ) → offers_of (limited limit o) seat i ≡ offers_of o seat i
limited_offers limit None seat i = refl
limited_offers limit (Some f) seat i = refl

pub limit_heard : (d : Descriptor) (limit : ℕ) (p : Parts) (past : List Record) → OffersHeard d p past → OffersHeard d (with_limit limit p) past
limit_heard d limit p past heard life is seat c there of_life fetching i low offered =
    limited_offers limit p.fetching seat i
    ∙ heard life is seat c there of_life (sym (limited_some limit p.fetching) ∙ fetching) i low offered
