-- What happens to the peers of a replay, as to those of a world.
use Rattle.std.proofs.Common.{◌≡◌, ℕ, zero, suc, ◌+◌, ◌<◌, Bool, true, false, Option, Some, None, List, [], ◌∷◌, length, refl, sym, ◌∙◌, ap, subst, arith}
use Rattle.std.specs.Prelude.{is_some, if◌then◌else◌, slice_get, slice_set, reverse, Result, Ok, Err, OnOk, map}
use Rattle.std.specs.declared.alloc.AllocError.{AllocError}
use Rattle.pp_terms.specs.format.Descriptor.{Descriptor}
use Rattle.pp_terms.specs.format.Traffic.{Address, Record}
use Rattle.pp_world.specs.Change.{Moves, while_running, with_peer, with_change, with_failing}
use Rattle.pp_world.specs.Move.{Move, Wait}
use Rattle.pp_world.specs.Queue.{peers_after_from, queue_after}
use Rattle.pp_world.specs.Schedule.{Device}
use Rattle.pp_world.specs.World.{Queued, PeerState, World, address_of}
use Rattle.pp_mail.specs.Mail.{with_queue}
use Rattle.pp_mail.proofs.Peers.{mail_at, mail_at-with_peer}
use Rattle.pp_stage.specs.declared.turning.Running.{Running}
use Rattle.pp_actor.specs.Actor.{ActorState, ShowsActor, ShowsNow, part_of}
use Rattle.pp_actor.specs.Keeping.{Part}
use Rattle.pp_actor.proofs.Actors.{more_shown, same_disk}
use Rattle.pp_play.specs.Stage.{StageState, ShowActors, MovesAs, does_run, runs_at}

-- ---- answers

pub ok_then : {P Q : Type 0} (r : Result (Unit {0}) AllocError) → (P → Q) → OnOk r P → OnOk r Q
ok_then (Ok u) makes is = makes is
ok_then (Err e) makes is = tt

pub ok_both : {P Q R : Type 0} (r : Result (Unit {0}) AllocError) → (P → Q → R) → OnOk r P → OnOk r Q → OnOk r R
ok_both (Ok u) makes p q = makes p q
ok_both (Err e) makes p q = tt

-- ---- a peer and its number

-- the peer of a world at the number of an actor
pub record StandsAt (d : Descriptor) (most : ℕ) (a : ActorState) (peer : ℕ) (peers : List PeerState) : Type 0 where
  pub x : PeerState
  pub here : slice_get peers peer ≡ Some x
  pub shows : ShowsActor d most a x

pub stands_at : (d : Descriptor) (most peer : ℕ) (a : ActorState) (actors : List ActorState) (peers : List PeerState) → ShowActors d most actors peers
    → slice_get actors peer ≡ Some a → StandsAt d most a peer peers
stands_at d most peer a [] [] shows at = absurd cc
stands_at d most peer a [] (x ∷ xs) shows at = absurd shows
stands_at d most peer a (b ∷ actors) [] shows at = absurd shows
stands_at d most zero a (b ∷ actors) (x ∷ xs) shows at =
    let same : b ≡ a = cc in record { x = x; here = refl; shows = subst (λ (c : ActorState). ShowsActor d most c x) same shows.0 }
stands_at d most (suc peer) a (b ∷ actors) (x ∷ xs) shows at =
    let it = stands_at d most peer a actors xs shows.1 at in record { x = it.x; here = it.here; shows = it.shows }

-- the actor of a peer
pub record Here (peer : ℕ) (actors : List ActorState) : Type 0 where
  pub a : ActorState
  pub here : slice_get actors peer ≡ Some a

pub is_here : (peer : ℕ) (actors : List ActorState) → peer < length actors → Here peer actors
is_here peer [] within = absurd (omega (arith, within))
is_here zero (a ∷ actors) within = record { a = a; here = refl }
is_here (suc peer) (a ∷ actors) within = let it = is_here peer actors (omega (arith, within)) in record { a = it.a; here = it.here }

-- whether it runs
runs_now : (most : ℕ) (x : PeerState) (o : Option Running) (lives : List _) → ShowsNow most x o lives → x.is_running ≡ is_some o
runs_now most x None lives now = now.stands
runs_now most x (Some r) lives now = now.runs

pub runs_as : (d : Descriptor) (most : ℕ) (a : ActorState) (x : PeerState) → ShowsActor d most a x → x.is_running ≡ is_some a.running
runs_as d most a x shows = runs_now most x a.running (reverse a.lives) shows.now

-- ---- more may have been refused

pub more_actors : (d : Descriptor) (most more : ℕ) (actors : List ActorState) (peers : List PeerState) → ShowActors d most actors peers → ShowActors d (most + more) actors peers
more_actors d most more [] [] shows = tt
more_actors d most more [] (x ∷ xs) shows = absurd shows
more_actors d most more (a ∷ actors) [] shows = absurd shows
more_actors d most more (a ∷ actors) (x ∷ xs) shows = (more_shown d most more a x shows.0, more_actors d most more actors xs shows.1)

-- ---- queues are no part of an actor

requeued_now : (most : ℕ) (x : PeerState) (queue : List Queued) (o : Option Running) (lives : List _) → ShowsNow most x o lives
    → ShowsNow most (record x { queue = queue }) o lives
requeued_now most x queue None lives now = record { stands = now.stands; over = now.over }
requeued_now most x queue (Some r) lives now = record {
  runs = now.runs;
  session = now.session;
  earlier = now.earlier;
  sessions = now.sessions;
  shows = record { link = now.shows.link; deaf = now.shows.deaf; book = now.shows.book };
  over = now.over;
}

pub requeued : (d : Descriptor) (most : ℕ) (a : ActorState) (x : PeerState) (queue : List Queued) → ShowsActor d most a x → ShowsActor d most a (record x { queue = queue })
requeued d most a x queue shows = record {
  disk = same_disk most a.disk x (record x { queue = queue }) refl refl refl refl shows.disk;
  now = requeued_now most x queue a.running (reverse a.lives) shows.now;
  lasts = shows.lasts;
}

pub requeued_all : (d : Descriptor) (most first : ℕ) (sender : Address) (added : List Record) (actors : List ActorState) (peers : List PeerState) → ShowActors d most actors peers
    → ShowActors d most actors (peers_after_from first sender added peers)
requeued_all d most first sender added [] [] shows = tt
requeued_all d most first sender added [] (x ∷ xs) shows = absurd shows
requeued_all d most first sender added (a ∷ actors) [] shows = absurd shows
requeued_all d most first sender added (a ∷ actors) (x ∷ xs) shows =
    (requeued d most a x (queue_after sender (address_of first) added x.queue) shows.0, requeued_all d most (first + 1) sender added actors xs shows.1)

-- ---- one peer changes

-- with its actor
pub one_changes : (d : Descriptor) (most peer : ℕ) (a b : ActorState) (change : PeerState → PeerState) (actors : List ActorState) (peers : List PeerState)
    → slice_get actors peer ≡ Some a → ((x : PeerState) → ShowsActor d most a x → ShowsActor d most b (change x)) → ShowActors d most actors peers
    → ShowActors d most (slice_set actors peer b) (with_peer peer change peers)
one_changes d most peer a b change [] [] at makes shows = absurd cc
one_changes d most peer a b change [] (x ∷ xs) at makes shows = absurd shows
one_changes d most peer a b change (c ∷ actors) [] at makes shows = absurd shows
one_changes d most zero a b change (c ∷ actors) (x ∷ xs) at makes shows =
    let same : c ≡ a = cc in (makes x (subst (λ (e : ActorState). ShowsActor d most e x) same shows.0), shows.1)
one_changes d most (suc peer) a b change (c ∷ actors) (x ∷ xs) at makes shows = (shows.0, one_changes d most peer a b change actors xs at makes shows.1)

-- by a change that no actor shows
pub one_stays : (d : Descriptor) (most peer : ℕ) (change : PeerState → PeerState) (actors : List ActorState) (peers : List PeerState)
    → ((a : ActorState) (x : PeerState) → ShowsActor d most a x → ShowsActor d most a (change x)) → ShowActors d most actors peers
    → ShowActors d most actors (with_peer peer change peers)
one_stays d most peer change [] [] makes shows = tt
one_stays d most peer change [] (x ∷ xs) makes shows = absurd shows
one_stays d most peer change (a ∷ actors) [] makes shows = absurd shows
one_stays d most zero change (a ∷ actors) (x ∷ xs) makes shows = (makes a x shows.0, shows.1)
one_stays d most (suc peer) change (a ∷ actors) (x ∷ xs) makes shows = (shows.0, one_stays d most peer change actors xs makes shows.1)

-- where the change leaves that peer
pub with_peer_none : (peer : ℕ) (change : PeerState → PeerState) (peers : List PeerState) (x : PeerState) → slice_get peers peer ≡ Some x → change x ≡ x
    → with_peer peer change peers ≡ peers
with_peer_none peer change [] x here same = refl
with_peer_none zero change (y ∷ ys) x here same = let is : y ≡ x = cc in ap (λ (z : PeerState). z ∷ ys) (ap change is ∙ same ∙ sym is)
with_peer_none (suc peer) change (y ∷ ys) x here same = ap (λ (zs : List PeerState). y ∷ zs) (with_peer_none peer change ys x here same)

-- its queue stays, so all mail does
pub mail_at-with_peer_same : (peer : ℕ) (change : PeerState → PeerState) (peers : List PeerState) → ((x : PeerState) → (change x).queue ≡ x.queue)
    → mail_at (with_peer peer change peers) ≡ mail_at peers
mail_at-with_peer_same peer change [] same = refl
mail_at-with_peer_same zero change (y ∷ ys) same = ap (λ (q : List Queued). q ∷ mail_at ys) (same y)
mail_at-with_peer_same (suc peer) change (y ∷ ys) same = ap (λ (qs : List (List Queued)). y.queue ∷ qs) (mail_at-with_peer_same peer change ys same)

-- ---- what each is told

pub parts_set : (peer : ℕ) (a b : ActorState) (actors : List ActorState) → slice_get actors peer ≡ Some a → part_of b ≡ part_of a
    → map part_of (slice_set actors peer b) ≡ map part_of actors
parts_set peer a b [] here same = refl
parts_set zero a b (c ∷ actors) here same = let is : c ≡ a = cc in ap (λ (p : Part). p ∷ map part_of actors) (same ∙ sym (ap part_of is))
parts_set (suc peer) a b (c ∷ actors) here same = ap (λ (ps : List Part). part_of c ∷ ps) (parts_set peer a b actors here same)

-- ---- moves

pub waits : (gain : ℕ) (old : StageState) → MovesAs (Wait gain) old (record old { clock = old.clock + gain })
waits gain old = record {
  descriptor = refl;
  count = refl;
  parts = refl;
  moves = λ most w low shows. record {
    after = record w { clock = w.clock + gain };
    moves = refl;
    shows = record {
      clock = ap (λ (n : ℕ). n + gain) shows.clock;
      actors = more_actors old.descriptor most 4 old.actors w.peers shows.actors;
      mail = shows.mail;
    };
  };
}

-- A change of a peer that runs, of its queue alone; `act` is what the world does.
module _ (peer : ℕ) (act : Move) (change : PeerState → PeerState) (changed : List Queued → List Queued) (a : ActorState) (old : StageState)
    (acts : (d : Descriptor) (w : World) → Moves d act w (with_change peer (while_running change) w))
    (is : (x : PeerState) → change x ≡ record x { queue = changed x.queue }) (here : slice_get old.actors peer ≡ Some a) where
  queue_shown : (d : Descriptor) (most : ℕ) (b : ActorState) (x : PeerState) → ShowsActor d most b x → ShowsActor d most b (while_running change x)
  queue_shown d most b x shows = of x.is_running
    where
      of : (runs : Bool) → ShowsActor d most b (if runs then change x else x)
      of true = subst (ShowsActor d most b) (sym (is x)) (requeued d most b x (changed x.queue) shows)
      of false = shows

  pub queue_changes : runs_at peer old.actors ≡ true → MovesAs act old (record old { mail = with_queue peer changed old.mail })
  queue_changes runs = record {
    descriptor = refl;
    count = refl;
    parts = refl;
    moves = λ most w low shows.
        let it = stands_at old.descriptor most peer a old.actors w.peers shows.actors here in
        let on : it.x.is_running ≡ true = runs_as old.descriptor most a it.x it.shows ∙ sym (ap does_run here) ∙ runs in record {
          after = with_change peer (while_running change) w;
          moves = acts old.descriptor w;
          shows = record {
            clock = shows.clock;
            actors = more_actors old.descriptor most 4 old.actors (with_peer peer (while_running change) w.peers)
                (one_stays old.descriptor most peer (while_running change) old.actors w.peers (queue_shown old.descriptor most) shows.actors);
            mail = ap (with_queue peer changed) shows.mail ∙ sym (mail_at-with_peer (while_running change) changed peer w.peers it.x it.here
                (ap (λ (b : Bool). (if b then change it.x else it.x).queue) on ∙ ap (λ (x : PeerState). x.queue) (is it.x)));
          };
        };
  }

  pub queue_stays : runs_at peer old.actors ≡ false → MovesAs act old old
  queue_stays runs = record {
    descriptor = refl;
    count = refl;
    parts = refl;
    moves = λ most w low shows.
        let it = stands_at old.descriptor most peer a old.actors w.peers shows.actors here in
        let off : it.x.is_running ≡ false = runs_as old.descriptor most a it.x it.shows ∙ sym (ap does_run here) ∙ runs in
        let same = with_peer_none peer (while_running change) w.peers it.x it.here (ap (λ (b : Bool). if b then change it.x else it.x) off) in record {
          after = with_change peer (while_running change) w;
          moves = acts old.descriptor w;
          shows = record {
            clock = shows.clock;
            actors = more_actors old.descriptor most 4 old.actors (with_peer peer (while_running change) w.peers)
                (subst (ShowActors old.descriptor most old.actors) (sym same) shows.actors);
            mail = shows.mail ∙ sym (ap mail_at same);
          };
        };
  }

-- A change of a peer, but for its queue, and of its actor.
pub actor_changes : (peer : ℕ) (act : Move) (change : PeerState → PeerState) (a b : ActorState) (old : StageState)
    → ((d : Descriptor) (w : World) → Moves d act w (with_change peer change w)) → ((x : PeerState) → (change x).queue ≡ x.queue)
    → slice_get old.actors peer ≡ Some a → length (slice_set old.actors peer b) ≡ length old.actors → part_of b ≡ part_of a
    → ((d : Descriptor) (most : ℕ) (x : PeerState) → ShowsActor d most a x → ShowsActor d most b (change x))
    → MovesAs act old (record old { actors = slice_set old.actors peer b })
actor_changes peer act change a b old acts same here count part makes = record {
  descriptor = refl;
  count = count;
  parts = parts_set peer a b old.actors here part;
  moves = λ most w low shows. record {
    after = with_change peer change w;
    moves = acts old.descriptor w;
    shows = record {
      clock = shows.clock;
      actors = more_actors old.descriptor most 4 (slice_set old.actors peer b) (with_peer peer change w.peers)
          (one_changes old.descriptor most peer a b change old.actors w.peers here (makes old.descriptor most) shows.actors);
      mail = shows.mail ∙ sym (mail_at-with_peer_same peer change w.peers same);
    };
  };
}

-- the queue of a peer of which something changes while it runs
pub queue_while_running : (change : PeerState → PeerState) (x : PeerState) → (change x).queue ≡ x.queue → (while_running change x).queue ≡ x.queue
queue_while_running change x same = of x.is_running
  where
    of : (runs : Bool) → (if runs then change x else x).queue ≡ x.queue
    of true = same
    of false = refl

-- an order is none of a queue
pub failing_queue : (call : Device) (x : PeerState) → (with_failing call x).queue ≡ x.queue
failing_queue call x = refl
