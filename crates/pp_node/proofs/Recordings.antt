-- How a run of `record` ends, by the outcome of its replay; and what a text that was read says.
use Rattle.std.proofs.Common.{◌≡◌, ◌⊎◌, inl, inr, Some, None, ℕ, zero, suc, ◌-◌, ◌<◌, Option, List, [], ◌∷◌, ◌++◌, length, map, reverse, slice_get, codes, decimal, refl, sym, ◌∙◌, ap, subst}
use Rattle.std.specs.Prelude.{Result, Ok, Err, OnOk}
use Rattle.std.specs.List.{AllByRecursion}
use Rattle.std.proofs.lemmas.List.{append_assoc, reverse-append, reverse-reverse}
use Rattle.std.proofs.lemmas.Option.{same_Some}
use Rattle.pp_terms.specs.command.Stream.{SourceState, SinkState, Gains}
use Rattle.pp_terms.specs.format.Descriptor.{Descriptor}
use Rattle.pp_terms.specs.format.Traffic as terms
use Rattle.pp_terms.specs.tree.Book.{LookUp, IsRooted}
use Rattle.pp_tree.specs.Book.{entry}
use Rattle.pp_traffic.specs.Serving.{window_of, ServesAll}
use Rattle.pp_outside.specs.MemoryLink.{in_order}
use Rattle.pp_world.specs.Outcome.{PeerEnd, AreRuns, IsRun}
use Rattle.pp_world.specs.Schedule.{Role}
use Rattle.pp_world.specs.ScheduleRead.{read_schedule}
use Rattle.pp_world.specs.Session.{Session}
use Rattle.pp_world.specs.World.{PeerState}
use Rattle.pp_world.specs.Worlds.{swarm_of}
use Rattle.pp_actor.specs.Actor.{ShowLives, ShowsLife}
use Rattle.pp_actor.specs.declared.life.Life.{Life}
use Rattle.pp_outcome.specs.declared.outcome.PeerEnd as code
use Rattle.pp_outcome.proofs.Ends.{shown_count}
use Rattle.pp_play.specs.Keeping.{KeepsRun}
use Rattle.pp_play.specs.Recording.{lives_in, lives_of}
use Rattle.pp_play.specs.Replaying.{IsReplayed, ShowEnds}
use Rattle.pp_play.specs.declared.replaying.Outcome.{Outcome}
use Rattle.pp_recording.specs.Recording.{Recorded, recording_text, IsWithin}
use Rattle.pp_recording.specs.Sessions.{session}
use Rattle.pp_recording.proofs.Telling.{rooted_within}
use Rattle.pp_stream.proofs.Written.{gains_more}
use Rattle.pp_node.specs.Recordings.{no_life_line, too_large_line, sessions_of, recording_of, HasEnded, TapesText, PutsLife, RecordsIn, streams}
use Rattle.pp_node.specs.declared.status.Status.{Status}
use Rattle.pp_node.specs.declared.status.Status.TheVariants.{Done, Usage, NotAStore, Incomplete, DiskFault, LinkFault, SourceFault, SinkFault, NotEmpty, ContentSize, Schedule as NoSchedule, Memory, Damaged, AuditNo, Recording as NoRecording, NoLife, TooLarge, Shape}

-- ---- lines

pub too_large_is : codes "recording: too large\n" ≡ too_large_line
unfolding too_large_line
too_large_is = refl

pub no_life_said : {T E : Type 0} (peer life : ℕ) (old mid new : Option (List ℕ)) (result : Result T E)
    → Gains old (codes "no life: peer " ++ decimal peer ++ codes " life ") mid → OnOk result (Gains mid (decimal life ++ 10 ∷ []) new)
    → OnOk result (Gains old (no_life_line peer life) new)
unfolding no_life_line
no_life_said peer life old mid new (Ok x) first second =
    let front : List ℕ = codes "no life: peer " ++ decimal peer ++ codes " life " in
    subst (λ (t : List ℕ). Gains old t new) (sym (append_assoc front (decimal life) (10 ∷ []))) (gains_more old mid new front (decimal life ++ 10 ∷ []) first second)
no_life_said peer life old mid new (Err e) first second = tt

-- ---- lives and sessions

lives_append : (xs ys : List Life) (ss ts : List Session) → ShowLives xs ss → ShowLives ys ts → ShowLives (xs ++ ys) (ss ++ ts)
lives_append [] ys [] ts one two = two
lives_append [] ys (s ∷ ss) ts one two = absurd one
lives_append (x ∷ xs) ys [] ts one two = absurd one
lives_append (x ∷ xs) ys (s ∷ ss) ts one two = (one.0, lives_append xs ys ss ts one.1 two)

lives_reverse : (xs : List Life) (ss : List Session) → ShowLives xs ss → ShowLives (reverse xs) (reverse ss)
lives_reverse [] [] show = tt
lives_reverse [] (s ∷ ss) show = absurd show
lives_reverse (x ∷ xs) [] show = absurd show
lives_reverse (x ∷ xs) (s ∷ ss) show =
    subst (λ (ys : List Life). ShowLives ys (reverse (s ∷ ss))) (sym (reverse-append (x ∷ []) xs))
    (subst (λ (ts : List Session). ShowLives (reverse xs ++ x ∷ []) ts) (sym (reverse-append (s ∷ []) ss))
    (lives_append (reverse xs) (x ∷ []) (reverse ss) (s ∷ []) (lives_reverse xs ss show.1) (show.0, tt)))

-- A life that is there shows a session that is there.
pub record IsShown (sessions : List Session) (n : ℕ) (life : Life) : Type 0 where
  pub it : Session
  pub there : slice_get sessions n ≡ Some it
  pub shows : ShowsLife life it

life_at : (xs : List Life) (ss : List Session) (n : ℕ) (life : Life) → ShowLives xs ss → slice_get xs n ≡ Some life → IsShown ss n life
life_at [] [] n life show at = absurd (let e : None ≡ Some life = at in cc)
life_at [] (s ∷ ss) n life show at = absurd show
life_at (x ∷ xs) [] n life show at = absurd show
life_at (x ∷ xs) (s ∷ ss) zero life show at = record { it = s; there = refl; shows = subst (λ (y : Life). ShowsLife y s) (same_Some x life at) show.0 }
life_at (x ∷ xs) (s ∷ ss) (suc n) life show at =
    let rest = life_at xs ss n life show.1 at in record { it = rest.it; there = rest.there; shows = rest.shows }

-- the lives of a peer, the oldest first, show its sessions
lives_show : (ends : List code.PeerEnd) (peers : List PeerEnd) (peer : ℕ) → ShowEnds ends peers
    → ShowLives (lives_in (slice_get ends peer)) (sessions_of peers peer)
lives_show [] [] peer show = tt
lives_show [] (e ∷ es) peer show = absurd show
lives_show (end ∷ ends) [] peer show = absurd show
lives_show (end ∷ ends) (e ∷ es) zero show =
    subst (λ (xs : List Life). ShowLives xs (reverse e.state.sessions)) (reverse-reverse end.remains.lives.items)
    (lives_reverse (reverse end.remains.lives.items) e.state.sessions show.0.remains.over)
lives_show (end ∷ ends) (e ∷ es) (suc peer) show = lives_show ends es peer show.1

-- ---- what the sessions served

-- Each chunk that the session sent was served, and its book is rooted.
record Served (d : Descriptor) (s : Session) : Type 0 where
  chunks : ServesAll d s.book (window_of d) s.traffic
  rooted : IsRooted d s.book

abbrev AllServed : Descriptor → List Session → Type 0
AllServed d [] = Unit {0}
AllServed d (s ∷ ss) = Served d s × AllServed d ss

served_append : (d : Descriptor) (ss ts : List Session) → AllServed d ss → AllServed d ts → AllServed d (ss ++ ts)
served_append d [] ts one two = two
served_append d (s ∷ ss) ts one two = (one.0, served_append d ss ts one.1 two)

served_reverse : (d : Descriptor) (ss : List Session) → AllServed d ss → AllServed d (reverse ss)
served_reverse d [] all = tt
served_reverse d (s ∷ ss) all =
    subst (λ (ts : List Session). AllServed d ts) (sym (reverse-append (s ∷ []) ss)) (served_append d (reverse ss) (s ∷ []) (served_reverse d ss all.1) (all.0, tt))

served_at : (d : Descriptor) (ss : List Session) (n : ℕ) (s : Session) → AllServed d ss → slice_get ss n ≡ Some s → Served d s
served_at d [] n s all at = absurd (let e : None ≡ Some s = at in cc)
served_at d (t ∷ ss) zero s all at = subst (λ (x : Session). Served d x) (same_Some t s at) all.0
served_at d (t ∷ ss) (suc n) s all at = served_at d ss n s all.1 at

runs_served : (d : Descriptor) (role : Role) (x : PeerState) (ss : List Session) → AllByRecursion (IsRun KeepsRun d role x) ss → AllServed d ss
runs_served d role x [] all = tt
runs_served d role x (s ∷ ss) all = (record { chunks = all.0.serves; rooted = all.0.rooted }, runs_served d role x ss all.1)

peers_served : (d : Descriptor) (roles : List Role) (peers : List PeerEnd) (peer : ℕ) → AreRuns KeepsRun d roles (map (λ e. e.state) peers)
    → AllServed d (sessions_of peers peer)
peers_served d [] [] peer runs = tt
peers_served d [] (e ∷ es) peer runs = absurd runs
peers_served d (r ∷ roles) [] peer runs = absurd runs
peers_served d (r ∷ roles) (e ∷ es) zero runs = served_reverse d e.state.sessions (runs_served d r e.state e.state.sessions runs.0)
peers_served d (r ∷ roles) (e ∷ es) (suc peer) runs = peers_served d roles es peer runs.1

-- ---- a life of a replay

module _ (text : List ℕ) (peer life : ℕ) (outcome : Outcome) (is : IsReplayed text outcome) where
  abbrev peers : List PeerEnd
  peers = is.played.peers

  shown : ShowLives (lives_of outcome peer) (sessions_of peers peer)
  shown = lives_show outcome.ends.items peers peer is.played.show

  ended : HasEnded text is.schedule peers
  ended = record { read = is.read; ended = is.played.ended }

  -- what is recorded of a life is what is recorded of its session
  same : (it : Life) (s : Session) → ShowsLife it s
      → session outcome.descriptor (entry it.book) (reverse (in_order it.link)) ≡ recording_of is.schedule s
  same it s shows =
      ap (λ (d : Descriptor). session d (entry it.book) (reverse (in_order it.link))) is.played.swarm
      ∙ ap (λ (b : LookUp). session (swarm_of is.schedule) b (reverse (in_order it.link))) shows.book
      ∙ ap (λ (rs : List terms.Record). session (swarm_of is.schedule) s.book rs) (same_Some (reverse (in_order it.link)) s.traffic shows.traffic)

  pub life_taped : (status : Status) (old new : SinkState) → PutsLife outcome peer life status old new → TapesText text peer life status old new
  life_taped Done old new put =
      let found = life_at (lives_of outcome peer) (sessions_of peers peer) (life - 1) put.is.life shown put.is.is.there in
      let equal = same put.is.life found.it found.shows in
      let kept = served_at (swarm_of is.schedule) (sessions_of peers peer) (life - 1) found.it
      (peers_served (swarm_of is.schedule) is.schedule.roles peers peer
      (subst (λ (xs : List PeerState). AreRuns KeepsRun (swarm_of is.schedule) is.schedule.roles xs) (sym is.played.ended.same) is.played.ended.runs))
      found.there in record {
        schedule = is.schedule;
        peers = peers;
        ended = ended;
        it = found.it;
        is = record { some = put.is.is.some; there = found.there };
        within = subst (λ (x : Recorded). IsWithin x) equal put.is.recorded.within;
        alone = λ k j x known. rooted_within (swarm_of is.schedule) put.is.life.book k j x
            (subst (λ (b : LookUp). IsRooted (swarm_of is.schedule) b) (sym found.shows.book) kept.rooted)
            (ap (λ (b : LookUp). b k j) found.shows.book ∙ known);
        served = kept.chunks;
        gained = subst (λ (x : Recorded). Gains old.taken (recording_text x) new.taken) (put.is.recorded.is ∙ equal) put.gained;
      }
  life_taped NoLife old new put = record {
    schedule = is.schedule;
    peers = peers;
    ended = ended;
    none = few put.0.1.none;
    said = put.1;
  }
    where
      few : (life ≡ 0) ⊎ (length (lives_of outcome peer) < life) → (life ≡ 0) ⊎ (length (sessions_of peers peer) < life)
      few (inl none) = inl none
      few (inr less) = inr (subst (λ (n : ℕ). n < life) (shown_count (lives_of outcome peer) (sessions_of peers peer) shown) less)
  life_taped TooLarge old new put =
      let large = put.0.3 in
      let found = life_at (lives_of outcome peer) (sessions_of peers peer) (life - 1) large.life shown large.is.there in record {
        schedule = is.schedule;
        peers = peers;
        ended = ended;
        it = found.it;
        is = record { some = large.is.some; there = found.there };
        over = λ within. large.over.over (subst (λ (x : Recorded). IsWithin x) (sym (same large.life found.it found.shows)) within);
        said = put.1;
      }
  life_taped SinkFault old new put = record { schedule = is.schedule; read = is.read; risen = put }
  life_taped Memory old new put = put
  life_taped Usage old new put = absurd put
  life_taped NotAStore old new put = absurd put
  life_taped Incomplete old new put = absurd put
  life_taped DiskFault old new put = absurd put
  life_taped LinkFault old new put = absurd put
  life_taped SourceFault old new put = absurd put
  life_taped NotEmpty old new put = absurd put
  life_taped ContentSize old new put = absurd put
  life_taped NoSchedule old new put = absurd put
  life_taped Damaged old new put = absurd put
  life_taped AuditNo old new put = absurd put
  life_taped NoRecording old new put = absurd put
  life_taped Shape old new put = absurd put

-- ---- a text that was read

pub tapes_read : (text : List ℕ) (status : Status) (peer life : ℕ) (source source' : SourceState) (old new : SinkState)
    → ((content : List ℕ) → source.left ≡ Some content → read_schedule content ≡ read_schedule text) → TapesText text peer life status old new
    → RecordsIn status peer life (streams source old) (streams source' new)
tapes_read text Memory peer life source source' old new same tapes = tapes
tapes_read text SourceFault peer life source source' old new same tapes = absurd tapes
tapes_read text Done peer life source source' old new same tapes = record { text = text; same = same; tapes = tapes }
tapes_read text Usage peer life source source' old new same tapes = record { text = text; same = same; tapes = tapes }
tapes_read text NotAStore peer life source source' old new same tapes = record { text = text; same = same; tapes = tapes }
tapes_read text Incomplete peer life source source' old new same tapes = record { text = text; same = same; tapes = tapes }
tapes_read text DiskFault peer life source source' old new same tapes = record { text = text; same = same; tapes = tapes }
tapes_read text LinkFault peer life source source' old new same tapes = record { text = text; same = same; tapes = tapes }
tapes_read text SinkFault peer life source source' old new same tapes = record { text = text; same = same; tapes = tapes }
tapes_read text NotEmpty peer life source source' old new same tapes = record { text = text; same = same; tapes = tapes }
tapes_read text ContentSize peer life source source' old new same tapes = record { text = text; same = same; tapes = tapes }
tapes_read text NoSchedule peer life source source' old new same tapes = record { text = text; same = same; tapes = tapes }
tapes_read text Damaged peer life source source' old new same tapes = record { text = text; same = same; tapes = tapes }
tapes_read text AuditNo peer life source source' old new same tapes = record { text = text; same = same; tapes = tapes }
tapes_read text NoRecording peer life source source' old new same tapes = record { text = text; same = same; tapes = tapes }
tapes_read text NoLife peer life source source' old new same tapes = record { text = text; same = same; tapes = tapes }
tapes_read text TooLarge peer life source source' old new same tapes = record { text = text; same = same; tapes = tapes }
tapes_read text Shape peer life source source' old new same tapes = record { text = text; same = same; tapes = tapes }
