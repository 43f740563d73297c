-- A turn of one peer, as one of a peer of a world.
use Rattle.std.proofs.Common.{◌≡◌, ◌⊎◌, ⊎_elim, ℕ, zero, suc, ◌+◌, ◌^◌, ◌<◌, Bool, true, false, Option, Some, None, List, [], ◌∷◌, ◌++◌, length, refl, sym, ◌∙◌, ap, subst, arith}
use Rattle.std.proofs.Math.ListN.{get_or}
use Rattle.std.proofs.lemmas.List.{length-reverse, length-set}
use Rattle.std.proofs.lemmas.Option.{slice_get_read}
use Rattle.std.specs.Prelude.{is_some, option_map, drop, if◌then◌else◌, slice_get, slice_set, reverse, MatchBool, map}
use Rattle.pp_terms.specs.format.Descriptor.{Descriptor}
use Rattle.pp_terms.specs.format.Traffic.{Record, Received}
use Rattle.pp_outside.specs.MemoryLink as links
use Rattle.pp_outside.specs.Outside.{address_of}
use Rattle.pp_outside.specs.declared.link.Address as outside
use Rattle.pp_outside.specs.declared.memory_link.MemoryLink.{MemoryLink}
use Rattle.pp_watch.specs.Waiting.{record_at}
use denote.Ref.{Bor}
use Rattle.pp_world.specs.Change.{MayOpen, MayTakeTurn, Stays}
use Rattle.pp_world.specs.Move.{Make}
use Rattle.pp_world.specs.Opening.{FailsToOpen, Opens}
use Rattle.pp_world.specs.Queue.{peers_after}
use Rattle.pp_world.specs.Schedule.{Start, Turn}
use Rattle.pp_world.specs.Session.{Session}
use Rattle.pp_world.specs.Turn.{TakesTurn, event_of, queue_after_wait, wait_records}
use Rattle.pp_world.specs.World.{Queued, PeerState, World}
use Rattle.pp_world.specs.World as worlds
use Rattle.pp_mail.specs.Mail.{queue_of, with_queue}
use Rattle.pp_mail.proofs.Peers.{mail_at, peers_after_from-none}
use Rattle.pp_stage.specs.declared.turning.Running.{Running}
use Rattle.pp_actor.specs.Actor.{ActorState, ActorOpens, ActorTurns, HasGained, IsPlaying, ShowsActor, ShowsNow, is_deaf, link_in, part_of}
use Rattle.pp_actor.proofs.Actors.{stays_idle}
use Rattle.pp_play.specs.Stage.{StageState, ShowActors, ShowsStage, MovesAs, HasHeard, mail_after}
use Rattle.pp_play.proofs.Deliveries.{mail_at-sent, newest}
use Rattle.pp_play.proofs.Stages.{parts_set, more_actors, requeued_all, runs_as, stands_at}

-- ---- lists

-- a peer in place of another
pub set_shown : (d : Descriptor) (most peer : ℕ) (b : ActorState) (y : PeerState) (actors : List ActorState) (peers : List PeerState) → ShowActors d most actors peers
    → ShowsActor d most b y → ShowActors d most (slice_set actors peer b) (slice_set peers peer y)
set_shown d most peer b y [] [] shows one = tt
set_shown d most peer b y [] (x ∷ xs) shows one = absurd shows
set_shown d most peer b y (a ∷ actors) [] shows one = absurd shows
set_shown d most zero b y (a ∷ actors) (x ∷ xs) shows one = (one, shows.1)
set_shown d most (suc peer) b y (a ∷ actors) (x ∷ xs) shows one = (shows.0, set_shown d most peer b y actors xs shows.1 one)

-- the queue of a peer
pub queue_at : (peer : ℕ) (peers : List PeerState) (x : PeerState) → slice_get peers peer ≡ Some x → queue_of peer (mail_at peers) ≡ x.queue
queue_at peer [] x here = absurd cc
queue_at zero (y ∷ ys) x here = let is : y ≡ x = cc in ap (λ (z : PeerState). z.queue) is
queue_at (suc peer) (y ∷ ys) x here = queue_at peer ys x here

mail_at-set : (peer : ℕ) (y : PeerState) (peers : List PeerState) → mail_at (slice_set peers peer y) ≡ slice_set (mail_at peers) peer y.queue
mail_at-set peer y [] = refl
mail_at-set zero y (x ∷ xs) = refl
mail_at-set (suc peer) y (x ∷ xs) = ap (λ (qs : List (List Queued)). x.queue ∷ qs) (mail_at-set peer y xs)

mail_at-same : (peer : ℕ) (x : PeerState) (peers : List PeerState) → slice_get peers peer ≡ Some x → slice_set (mail_at peers) peer x.queue ≡ mail_at peers
mail_at-same peer x [] here = refl
mail_at-same zero x (y ∷ ys) here = let is : y ≡ x = cc in ap (λ (z : PeerState). z.queue ∷ mail_at ys) (sym is)
mail_at-same (suc peer) x (y ∷ ys) here = ap (λ (qs : List (List Queued)). y.queue ∷ qs) (mail_at-same peer x ys here)

-- ---- an opening

abbrev no_records : List Record
no_records = []

-- One peer may have opened its store.
pub starts : (peer : ℕ) (a b : ActorState) (old : StageState) → slice_get old.actors peer ≡ Some a → length (slice_set old.actors peer b) ≡ length old.actors
    → part_of b ≡ part_of a → ((most : ℕ) (x : PeerState) → most + 4 < 2 ^ 64 → ShowsActor old.descriptor most a x → ActorOpens old.descriptor most x b)
    → MovesAs (Make (Start peer)) old (record old { actors = slice_set old.actors peer b })
starts peer a b old here count part opens = record {
  descriptor = refl;
  count = count;
  parts = parts_set peer a b old.actors here part;
  moves = λ most w low shows.
      let it = stands_at old.descriptor most peer a old.actors w.peers shows.actors here in
      let at = opens most it.x low it.shows in record {
        after = record w { peers = peers_after peer [] (slice_set w.peers peer at.after) };
        moves = record { before = it.x; after = at.after; added = []; here = it.here; changed = at.opens; is = refl };
        shows = record {
          clock = shows.clock;
          actors = requeued_all old.descriptor (most + 4) 0 (worlds.address_of peer) [] (slice_set old.actors peer b) (slice_set w.peers peer at.after)
              (set_shown old.descriptor (most + 4) peer b at.after old.actors w.peers (more_actors old.descriptor most 4 old.actors w.peers shows.actors) at.shows);
          mail = shows.mail ∙ sym (mail_at-same peer it.x w.peers it.here) ∙ ap (slice_set (mail_at w.peers) peer) (sym (queue_stays it.x at.after at.opens))
              ∙ sym (mail_at-set peer at.after w.peers) ∙ sym (ap mail_at (peers_after_from-none 0 (worlds.address_of peer) (slice_set w.peers peer at.after)));
        };
      };
}
  where
    queue_stays : (x y : PeerState) → MayOpen old.descriptor x [] y → y.queue ≡ x.queue
    queue_stays x y opens = of x.is_running opens
      where
        of : (runs : Bool) → MatchBool runs (Stays x [] y) ((Opens old.descriptor x y ⊎ FailsToOpen old.descriptor x y) × (no_records ≡ [])) → y.queue ≡ x.queue
        of true stays = ap (λ (z : PeerState). z.queue) stays.0
        of false may = ⊎_elim (λ (is : Opens old.descriptor x y). is.queue) (λ (is : FailsToOpen old.descriptor x y). is.queue) may.0

-- ---- a turn

-- what waits first comes
pub came_as : (clock : ℕ) (came : Option (outside.Address × Bor (List ℕ))) (queue : List Queued)
    → option_map (λ datagram. record { sender = address_of datagram.0; bytes = datagram.1.now }) came ≡ slice_get queue 0
    → record_at clock came ≡ event_of clock queue
came_as clock None [] is = refl
came_as clock None (q ∷ rest) is = cc
came_as clock (Some came) [] is = cc
came_as clock (Some came) (q ∷ rest) is =
    let same : record { sender = address_of came.0; bytes = came.1.now } ≡ q = cc in ap (λ (d : Queued). Received clock d.sender d.bytes) same

-- the records of a turn in which a peer stopped were of its wait
sends_nothing : (sender clock : ℕ) (x : PeerState) (mail : List (List Queued)) → mail_after sender (wait_records clock x) mail ≡ mail
sends_nothing sender clock x mail = of x.orders.receive x.queue
  where
    of : (deaf : Bool) (queue : List Queued) → mail_after sender (if deaf then [] else event_of clock queue ∷ []) mail ≡ mail
    of true queue = refl
    of false [] = refl
    of false (oldest ∷ rest) = refl

module _ (peer : ℕ) (r : Running) (old mid : StageState) (heard : HasHeard peer old mid) (was : heard.before.running ≡ Some r)
    (count : length (slice_set old.actors peer heard.after) ≡ length old.actors) where
  -- the peers after the wait, which took what waited first unless it was ordered to fail
  abbrev pub waited : StageState
  waited = record mid { mail = if r.is_deaf then mid.mail else with_queue peer (drop 1) mid.mail }

  pub turns : (sent : List Record) → ((most : ℕ) (x : PeerState) (s : Session) (earlier : List Session) (takes : ActorTurns old.descriptor old.clock most x heard.after)
      → x.sessions ≡ s ∷ earlier → (links.state_of r.link).traffic ≡ Some s.traffic → x.is_running ≡ true
      → (mail : List (List Queued)) → mail_after peer sent mail ≡ mail_after peer takes.added mail)
      → MovesAs (Make (Turn peer)) old (record waited { mail = mail_after peer sent waited.mail })
  turns sent same = record {
    descriptor = ap (λ (s : StageState). s.descriptor) heard.is;
    count = ap (λ (s : StageState). length s.actors) heard.is ∙ count;
    parts = ap (λ (s : StageState). map part_of s.actors) heard.is ∙ parts_set peer heard.before heard.after old.actors heard.was heard.part;
    moves = λ most w low shows.
        let it = stands_at old.descriptor most peer heard.before old.actors w.peers shows.actors heard.was in
        let now : IsPlaying most it.x r (reverse heard.before.lives) =
        subst (λ (o : Option Running). ShowsNow most it.x o (reverse heard.before.lives)) was it.shows.now in
        let mail = ap (queue_of peer) shows.mail ∙ queue_at peer w.peers it.x it.here in
        let at : ActorTurns old.descriptor old.clock most it.x heard.after = heard.turns most it.x low it.shows mail in record {
          after = record w { peers = peers_after peer at.added (slice_set w.peers peer at.after) };
          moves = record {
            before = it.x;
            after = at.after;
            added = at.added;
            here = it.here;
            changed = subst (λ (clock : ℕ). MayTakeTurn clock it.x at.added at.after) shows.clock at.takes;
            is = refl;
          };
          shows = record {
            clock = ap (λ (s : StageState). s.clock) heard.is ∙ shows.clock;
            actors = subst (λ (s : StageState). ShowActors s.descriptor (most + 4) s.actors (peers_after peer at.added (slice_set w.peers peer at.after))) (sym heard.is)
                (requeued_all old.descriptor (most + 4) 0 (worlds.address_of peer) at.added (slice_set old.actors peer heard.after) (slice_set w.peers peer at.after)
                (set_shown old.descriptor (most + 4) peer heard.after at.after old.actors w.peers (more_actors old.descriptor most 4 old.actors w.peers shows.actors) at.shows));
            mail = same most it.x now.session now.earlier at now.sessions now.shows.link.traffic now.runs waited.mail
                ∙ ap (mail_after peer at.added) (waits most w it.x at.after shows now.shows.deaf it.here
                (takes_queue it.x at.added at.after now.runs at.takes))
                ∙ sym (mail_at-sent peer at.added (slice_set w.peers peer at.after));
          };
        };
  }
    where
      takes_queue : (x : PeerState) (added : List Record) (y : PeerState) → x.is_running ≡ true → MayTakeTurn old.clock x added y → y.queue ≡ queue_after_wait x
      takes_queue x added y runs takes =
          let turn : TakesTurn old.clock x added y = subst (λ (b : Bool). MatchBool b (TakesTurn old.clock x added y) (Stays x added y)) runs takes in turn.queue

      waits : (most : ℕ) (w : World) (x y : PeerState) → ShowsStage most old w → r.is_deaf ≡ x.orders.receive → slice_get w.peers peer ≡ Some x
          → y.queue ≡ queue_after_wait x → waited.mail ≡ mail_at (slice_set w.peers peer y)
      waits most w x y shows deaf here queue =
          let is : mid.mail ≡ mail_at w.peers = ap (λ (s : StageState). s.mail) heard.is ∙ shows.mail in
          of r.is_deaf deaf is ∙ sym (ap (slice_set (mail_at w.peers) peer) queue) ∙ sym (mail_at-set peer y w.peers)
        where
          of : (b : Bool) → b ≡ x.orders.receive → mid.mail ≡ mail_at w.peers
              → (if b then mid.mail else with_queue peer (drop 1) mid.mail) ≡ slice_set (mail_at w.peers) peer (queue_after_wait x)
          of true is_deaf is = is ∙ sym (mail_at-same peer x w.peers here)
              ∙ ap (λ (c : Bool). slice_set (mail_at w.peers) peer (if c then x.queue else drop 1 x.queue)) is_deaf
          of false is_deaf is = ap (with_queue peer (drop 1)) is
              ∙ ap (λ (q : List Queued). slice_set (mail_at w.peers) peer (drop 1 q)) (queue_at peer w.peers x here)
              ∙ ap (λ (c : Bool). slice_set (mail_at w.peers) peer (if c then x.queue else drop 1 x.queue)) is_deaf

  -- The peer goes on, and all that its link gained is on its way.
  pub turns_on : (r' : Running) (records : ℕ) → heard.after.running ≡ Some r' → records ≡ length (links.in_order r.link)
      → MovesAs (Make (Turn peer)) old (record waited { mail = mail_after peer (reverse (drop records (links.in_order r'.link))) waited.mail })
  turns_on r' records is size = turns (reverse (drop records (links.in_order r'.link))) (λ most x s earlier takes sessions traffic runs mail.
      ap (λ (rs : List Record). mail_after peer rs mail) (gains most x s earlier takes sessions traffic))
    where
      gains : (most : ℕ) (x : PeerState) (s : Session) (earlier : List Session) (takes : ActorTurns old.descriptor old.clock most x heard.after) → x.sessions ≡ s ∷ earlier
          → (links.state_of r.link).traffic ≡ Some s.traffic → reverse (drop records (links.in_order r'.link)) ≡ takes.added
      gains most x s earlier takes sessions traffic =
          let gained : (links.state_of r'.link).traffic ≡ Some (takes.added ++ s.traffic) =
          subst (λ (o : Option Running). HasGained o takes.added (s ∷ earlier)) is
          (subst (HasGained heard.after.running takes.added) sessions takes.gained) in
          let whole : reverse (links.in_order r'.link) ≡ takes.added ++ s.traffic = cc in
          let before : reverse (links.in_order r.link) ≡ s.traffic = cc in
          newest (links.in_order r'.link) takes.added s.traffic records whole
          (size ∙ sym (length-reverse (links.in_order r.link)) ∙ ap (λ (rs : List Record). length rs) before)

  -- The peer stopped, and sent nothing.
  pub turns_off : heard.after.running ≡ None → MovesAs (Make (Turn peer)) old waited
  turns_off is = turns [] (λ most x s earlier takes sessions traffic runs mail. nothing most x takes runs mail)
    where
      nothing : (most : ℕ) (x : PeerState) (takes : ActorTurns old.descriptor old.clock most x heard.after) → x.is_running ≡ true → (mail : List (List Queued))
          → mail ≡ mail_after peer takes.added mail
      nothing most x takes runs mail =
          let turn : TakesTurn old.clock x takes.added takes.after =
          subst (λ (b : Bool). MatchBool b (TakesTurn old.clock x takes.added takes.after) (Stays x takes.added takes.after)) runs takes.takes in
          let stands : takes.after.is_running ≡ false = runs_as old.descriptor (most + 4) heard.after takes.after takes.shows ∙ ap is_some is in
          let silent : turn.sent ≡ [] = ⊎_elim (λ on. let never : true ≡ false = sym on ∙ stands in cc) (λ off. off.1) turn.goes_on in
          sym (ap (λ (rs : List Record). mail_after peer rs mail) (turn.gained ∙ ap (λ (rs : List Record). rs ++ wait_records old.clock x) silent)
          ∙ sends_nothing peer old.clock x mail)

-- ---- the turn as it is taken

-- a peer that runs, over its link
record RunsOver (o : Option Running) (link : MemoryLink) : Type 0 where
  r : Running
  is : o ≡ Some r
  over : r.link ≡ link

runs_over : (o : Option Running) (link : MemoryLink) → link_in o ≡ Some link → RunsOver o link
runs_over None link is = cc
runs_over (Some r) link is = record { r = r; is = refl; over = (let same : Some r.link ≡ Some link = is in cc) }

runs_not : (o : Option Running) → link_in o ≡ None → o ≡ None
runs_not None is = refl
runs_not (Some r) is = cc

-- the actor that stands where one was put
put_at : (peer : ℕ) (actors : List ActorState) (a b : ActorState) → peer < length actors → slice_get (slice_set actors peer a) peer ≡ Some b → a ≡ b
put_at peer [] a b within is = absurd (omega (arith, within))
put_at zero (x ∷ xs) a b within is = (let same : Some a ≡ Some b = is in cc)
put_at (suc peer) (x ∷ xs) a b within is = put_at peer xs a b (omega (arith, within)) is

pub put_there : (peer : ℕ) (actors : List ActorState) (a : ActorState) → peer < length actors → slice_get (slice_set actors peer a) peer ≡ Some a
put_there peer [] a within = absurd (omega (arith, within))
put_there zero (x ∷ xs) a within = refl
put_there (suc peer) (x ∷ xs) a within = put_there peer xs a (omega (arith, within))

same_one : (a b : ActorState) (o : Option ActorState) → o ≡ Some a → o ≡ Some b → a ≡ b
same_one a b o one other = (let same : Some a ≡ Some b = sym one ∙ other in cc)

-- the peers behind a wait of one of them, which took what waited first unless it was ordered to fail
abbrev pub behind : StageState → (peer : ℕ) → (deaf : Bool) → StageState
behind mid peer deaf = record mid { mail = if deaf then mid.mail else with_queue peer (drop 1) mid.mail }

-- an element that was read
pub stands : (actors : List ActorState) (i peer : ℕ) (a : ActorState) → i ≡ peer → peer < length actors → a ≡ get_or actors i a → slice_get actors peer ≡ Some a
stands actors i peer a is within same =
    subst (λ (n : ℕ). slice_get actors n ≡ Some a) is (slice_get_read actors (length actors) i a refl (subst (λ (n : ℕ). n < length actors) (sym is) within) same)

pub heard_within : (peer : ℕ) (old mid : StageState) → HasHeard peer old mid → peer < length old.actors → peer < length mid.actors
heard_within peer old mid heard within =
    subst (λ (n : ℕ). peer < n) (sym (ap (λ (s : StageState). length s.actors) heard.is ∙ length-set old.actors peer heard.after)) within

-- An actor that doesn't run stays, with all else.
pub turns_none : (peer : ℕ) (a : ActorState) (old : StageState) → slice_get old.actors peer ≡ Some a → link_in a.running ≡ None → MovesAs (Make (Turn peer)) old old
turns_none peer a old here none = record {
  descriptor = refl;
  count = refl;
  parts = refl;
  moves = λ most w low shows.
      let it = stands_at old.descriptor most peer a old.actors w.peers shows.actors here in
      let off : it.x.is_running ≡ false = runs_as old.descriptor most a it.x it.shows ∙ ap is_some (runs_not a.running none) in record {
        after = record w { peers = peers_after peer [] (slice_set w.peers peer it.x) };
        moves = record { before = it.x; after = it.x; added = []; here = it.here; changed = stays_idle w.clock it.x off; is = refl };
        shows = record {
          clock = shows.clock;
          actors = requeued_all old.descriptor (most + 4) 0 (worlds.address_of peer) [] old.actors (slice_set w.peers peer it.x)
              (subst (ShowActors old.descriptor (most + 4) old.actors) (sym (set_same peer it.x w.peers it.here)) (more_actors old.descriptor most 4 old.actors w.peers shows.actors));
          mail = shows.mail ∙ sym (ap mail_at (set_same peer it.x w.peers it.here))
              ∙ sym (ap mail_at (peers_after_from-none 0 (worlds.address_of peer) (slice_set w.peers peer it.x)));
        };
      };
}
  where
    set_same : (n : ℕ) (x : PeerState) (peers : List PeerState) → slice_get peers n ≡ Some x → slice_set peers n x ≡ peers
    set_same n x [] at = refl
    set_same zero x (y ∷ ys) at = (let same : Some y ≡ Some x = at in let is : y ≡ x = cc in ap (λ (z : PeerState). z ∷ ys) (sym is))
    set_same (suc n) x (y ∷ ys) at = ap (λ (zs : List PeerState). y ∷ zs) (set_same n x ys at)

module _ (peer : ℕ) (old mid : StageState) (heard : HasHeard peer old mid) (within : peer < length old.actors) (before after : ActorState)
    (was : slice_get old.actors peer ≡ Some before) (is : slice_get mid.actors peer ≡ Some after) (old_link : MemoryLink)
    (ran : link_in before.running ≡ Some old_link) where
  was_before : heard.before ≡ before
  was_before = same_one heard.before before (slice_get old.actors peer) heard.was was

  is_after : heard.after ≡ after
  is_after = put_at peer old.actors heard.after after within (sym (ap (λ (s : StageState). slice_get s.actors peer) heard.is) ∙ is)

  over : RunsOver before.running old_link
  over = runs_over before.running old_link ran

  runs : heard.before.running ≡ Some over.r
  runs = ap (λ (a : ActorState). a.running) was_before ∙ over.is

  count : length (slice_set old.actors peer heard.after) ≡ length old.actors
  count = length-set old.actors peer heard.after

  deaf_is : (deaf : Bool) → deaf ≡ is_deaf before.running → deaf ≡ over.r.is_deaf
  deaf_is deaf same = same ∙ ap is_deaf over.is

  pub turn_on : (new_link : MemoryLink) (deaf : Bool) (records : ℕ) → link_in after.running ≡ Some new_link → deaf ≡ is_deaf before.running
      → records ≡ length (links.in_order old_link)
      → MovesAs (Make (Turn peer)) old (record (behind mid peer deaf) { mail = mail_after peer (reverse (drop records (links.in_order new_link))) (behind mid peer deaf).mail })
  turn_on new_link deaf records runs_now same size =
      let now : RunsOver after.running new_link = runs_over after.running new_link runs_now in
      let on = turns_on peer over.r old mid heard runs count now.r records (ap (λ (a : ActorState). a.running) is_after ∙ now.is)
      (size ∙ sym (ap (λ (l : MemoryLink). length (links.in_order l)) over.over)) in
      subst (λ (l : MemoryLink). MovesAs (Make (Turn peer)) old
      (record (behind mid peer deaf) { mail = mail_after peer (reverse (drop records (links.in_order l))) (behind mid peer deaf).mail })) now.over
      (subst (λ (b : Bool). MovesAs (Make (Turn peer)) old
      (record (behind mid peer b) { mail = mail_after peer (reverse (drop records (links.in_order now.r.link))) (behind mid peer b).mail })) (sym (deaf_is deaf same)) on)

  pub turn_off : (deaf : Bool) → link_in after.running ≡ None → deaf ≡ is_deaf before.running → MovesAs (Make (Turn peer)) old (behind mid peer deaf)
  turn_off deaf none same =
      subst (λ (b : Bool). MovesAs (Make (Turn peer)) old (behind mid peer b)) (sym (deaf_is deaf same))
      (turns_off peer over.r old mid heard runs count (ap (λ (a : ActorState). a.running) is_after ∙ runs_not after.running none))
