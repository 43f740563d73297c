-- A learner that stands for its traffic still does once it dialled.
use Rattle.std.proofs.Common.{◌≡◌, ◌≢◌, ◌⊎◌, inl, inr, ⊎_elim, ℕ, ◌<◌, eqb, Bool, true, false, Option, Some, None, List, [], ◌∷◌, ◌++◌, refl, sym, ◌∙◌, ap, subst, arith}
use Rattle.std.specs.Prelude.{if◌then◌else◌, nat_lt, option_map, MatchBool, ◌&&◌, ◌||◌}
use Rattle.std.specs.List.{list_any}
use Rattle.std.proofs.lemmas.Bool.{cases_Bool, eqb-true, eqb-false, eq-eqb, ne_eqb, false≢true}
use Rattle.std.proofs.lemmas.Bool.Decides.{nat_tests}
use Rattle.std.proofs.lemmas.Option.{same_Some}
use Rattle.pp_terms.specs.format.Messages as plain
use Rattle.pp_terms.specs.format.Messages.{Message, Datagram}
use Rattle.pp_terms.specs.format.Descriptor.{Descriptor}
use Rattle.pp_terms.specs.format.Traffic.{Record, Sent, GainsRecords}
use Rattle.pp_terms.specs.Count.{HasRisen}
use Rattle.pp_terms.proofs.Addressed.{same_self}
use Rattle.pp_terms.proofs.Risings.{gains_nothing}
use Rattle.pp_traffic.specs.Life.{Life}
use Rattle.pp_traffic.specs.Past.{is_number, read}
use Rattle.pp_traffic.specs.Plain.{is_handshake}
use Rattle.pp_promises.specs.Asked.{dials}
use Rattle.pp_traffic.specs.Story.{Line}
use Rattle.pp_counts.specs.Counts.{after_note}
use Rattle.pp_counts.specs.declared.counts.Counts.{Counts}
use Rattle.pp_counts.specs.declared.note.Note.TheVariants as counts
use Rattle.pp_outside.specs.Outside.{address_of}
use Rattle.pp_outside.specs.declared.link.Address.{Address}
use Rattle.pp_channels.specs.Seats.{Seats, channel_at, closed, dialled, free_seat, has_address, is_dialled, with_handshake}
use Rattle.pp_channels.specs.declared.channel.Channel.{Channel}
use Rattle.pp_draft.specs.Datagrams.{IsDatagram}
use Rattle.pp_draft.specs.Notes.{own_options}
use Rattle.pp_lives.specs.Calls.{IsDialOf, with_life}
use Rattle.pp_lives.specs.Laws.{BegunBut, life_of, sent_on}
use Rattle.pp_lives.specs.Sending.{with_datagram}
use Rattle.pp_lives.specs.Standing.{Standing, read_at, read_of}
use Rattle.pp_lives.proofs.Changing.{IsMade, made_is}
use Rattle.pp_lives.proofs.Kept.{begun_kept, dial_keeps, first_keeps, refused_keeps}
use Rattle.pp_targets.specs.Names.{name_of}
use Rattle.pp_learner.specs.Dialling.{Dials, DialsFree, StepsDial, Tries, dial_to, with_dial}
use Rattle.pp_learner.specs.Following.{AllDialled, AreTallied, FollowsIf, StandsFor}
use Rattle.pp_learner.specs.Laws.{SendsAlone, Speaks}
use Rattle.pp_learner.specs.Learners.{IsWhole, LearnerState}
use Rattle.pp_learner.specs.Reading.{row_at}
use Rattle.pp_learner.specs.Sending.{Scene}
use Rattle.pp_learner.specs.Standing.{stand_in}
use Rattle.pp_learner.specs.declared.dials.Dial.{Dial}
use Rattle.pp_learner.proofs.Speaking.{Goes, due_alone, goes_none, said_speaks}
use Rattle.pp_learner.proofs.Staying.{dialled_closed, dialled_twice}
use Rattle.pp_learner.proofs.Tallying.{other_tallied, sent_tallied}

-- with what the test says
match_with : (b : Bool) {P Q R : Type 0} → MatchBool b P Q → (b ≡ true → P → R) → (b ≡ false → Q → R) → R
match_with true m f g = f refl m
match_with false m f g = g refl m

-- the life of a seat, and of another one
life_there : (seat : ℕ) (life : Option Life) (lives : ℕ → Option Life) → with_life seat life lives seat ≡ life
life_there seat life lives = ap (λ (b : Bool). if b then life else lives seat) (eq-eqb seat seat refl)

life_other : (seat other : ℕ) (life : Option Life) (lives : ℕ → Option Life) → other ≢ seat → with_life seat life lives other ≡ lives other
life_other seat other life lives ne = ap (λ (b : Bool). if b then life else lives other) (ne_eqb other seat ne)

module _ (p : LearnerState) (past : List Record) (whole : IsWhole p) (s : StandsFor p past) (address : Address) (moment seat : ℕ)
    (free : free_seat p.lives ≡ Some seat) (none : list_any (has_address address) p.lives.channels ≡ false) where
  abbrev d : Descriptor
  d = stand_in (name_of p.name)

  abbrev t : Seats
  t = with_dial address p

  made : IsMade p.lives t seat (dialled address p.moment)
  made = made_is p.lives seat (dialled address p.moment) (λ n. refl) s.standing.seated.are free

  abbrev c : Channel
  c = dialled address p.moment made.number

  abbrev lives : ℕ → Option Life
  lives = with_life seat None s.lives

  there : channel_at t seat ≡ Some c
  there = made.change.there

  standing : Standing d t lives past
  standing = dial_keeps d p.lives s.lives address p.moment seat past s.standing free none

  begun_but : BegunBut t seat
  begun_but = begun_kept.dial p.lives address p.moment seat s.standing.seated.are free s.begun

  all : AllDialled t
  all other e also = ⊎_elim
      (λ is. ap (λ (x : Channel). is_dialled x.opening) (sym (same_Some c e (sym there ∙ ap (channel_at t) (sym (eqb-true other seat is)) ∙ also))))
      (λ ne. s.dialled other e (sym (made.change.others other (eqb-false other seat ne)) ∙ also))
      (cases_Bool (eqb other seat))

  -- nothing is told of the new channel, and of the others what was
  read_new : read_at d t lives past seat ≡ None
  read_new = ap (λ (o : Option Channel). read_of d o (lives seat) past) there ∙ ap (λ (l : Option Life). read_of d (Some c) l past) (life_there seat None s.lives)

  read_other : (other : ℕ) → other ≢ seat → read_at d t lives past other ≡ read_at d p.lives s.lives past other
  read_other other ne = ap (λ (o : Option Channel). read_of d o (lives other) past) (made.change.others other ne)
      ∙ ap (λ (l : Option Life). read_of d (channel_at p.lives other) l past) (life_other seat other None s.lives ne)

  follows_new : (other : ℕ) → other < 64 → FollowsIf (read_at d t lives past other) (row_at p.rows other)
  follows_new other lt = ⊎_elim
      (λ is. subst (λ (o : Option (List Line)). FollowsIf o (row_at p.rows other)) (sym (ap (read_at d t lives past) (eqb-true other seat is) ∙ read_new)) tt)
      (λ ne. subst (λ (o : Option (List Line)). FollowsIf o (row_at p.rows other)) (sym (read_other other (eqb-false other seat ne))) (s.follows other lt))
      (cases_Bool (eqb other seat))

  pub dialled_stands : (source : ℕ) (bytes : List ℕ) (counts : Counts) → option_map (λ x. x.local) (channel_at t seat) ≡ Some source
      → IsDatagram p.outbox 0 (plain.Handshake source (own_options p.outbox) ∷ []) bytes
      → StandsFor (record p { lives = with_datagram t seat true p.moment; counts = counts }) (Sent moment (address_of address) bytes ∷ past)
  dialled_stands source bytes counts local written =
      let number : made.number ≡ source = same_Some made.number source (sym (ap (option_map (λ x. x.local)) there) ∙ local) in
      let v = subst (λ (x : Descriptor). IsDatagram x 0 (plain.Handshake source (own_options p.outbox) ∷ []) bytes) whole.swarm written in
      let dial : IsDialOf d c (sent_on c moment bytes) = record {
        to = same_self (address_of address);
        number = ap (λ (x : Datagram). x.channel) v.read;
        options = own_options p.outbox;
        alone = ap (λ (x : Datagram). x.messages.read) v.read ∙ ap (λ (n : ℕ). plain.Handshake n (own_options p.outbox) ∷ []) (sym number);
      } in
      let x = first_keeps d t lives seat c p.moment moment bytes past standing there (life_there seat None s.lives) refl s.now_is dial in
      record {
        now_is = s.now_is;
        lives = with_life seat (Some (life_of c past)) lives;
        standing = x.0;
        begun = begun_kept.first t seat c p.moment there begun_but;
        dialled = dialled_twice t seat c (λ e. record e { wrote = p.moment }) (λ e. record e { opening = with_handshake e.opening }) there refl all;
        follows = λ other lt. subst (λ (o : Option (List Line)). FollowsIf o (row_at p.rows other)) (sym (x.1 other)) (follows_new other lt);
      }

  pub refused_stands : (counts : Counts) → StandsFor (record p { lives = closed t seat; counts = counts }) past
  refused_stands counts =
      let x = refused_keeps d t lives seat c past standing there (life_there seat None s.lives) in
      record {
        now_is = s.now_is;
        lives = lives;
        standing = x.0;
        begun = begun_kept.close t seat c there begun_but;
        dialled = dialled_closed t seat c there all;
        follows = λ other lt. ⊎_elim
            (λ is. subst (λ (o : Option (List Line)). FollowsIf o (row_at p.rows other)) (sym (ap (read_at d (closed t seat) lives past) (eqb-true other seat is) ∙ x.1.own)) tt)
            (λ ne. subst (λ (o : Option (List Line)). FollowsIf o (row_at p.rows other)) (sym (x.1.others other (eqb-false other seat ne))) (follows_new other lt))
            (cases_Bool (eqb other seat));
      }

-- ---- an address

module _ (old new : Scene) (past : List Record) (moment : ℕ) (whole : IsWhole old.parts) (s : StandsFor old.parts past) where
  whole_as : (lives : Seats) (counts : Counts) → new.parts ≡ record old.parts { lives = lives; counts = counts } → IsWhole new.parts
  whole_as lives counts is = subst IsWhole (sym is) (record { size = whole.size; swarm = whole.swarm; seats = whole.seats })

  sent_speaks : (address : Address) (sent : Bool) → (x : Dials address moment sent old new)
      → Speaks (stand_in (name_of old.parts.name)) (Sent moment (address_of address) x.sends.bytes)
  sent_speaks address sent x = said_speaks old.parts (dial_to address x.source) moment sent old.link new.link whole tt x.sends

  -- a handshake was sent, or refused; and where it was sent, the address was dialled
  pub dials_goes : (address : Address) (sent : Bool) → list_any (has_address address) old.parts.lives.channels ≡ false → Dials address moment sent old new
      → (g : Goes old new past) × (sent ≡ true → list_any (dials (stand_in (name_of old.parts.name)) (address_of address)) g.on.added ≡ true)
  dials_goes address true none x =
      let own = subst (λ (xs : List Message). IsDatagram old.parts.outbox 0 xs x.sends.bytes) x.sends.said x.sends.written in (
        record {
          whole = whole_as _ _ x.is;
          on = record {
            added = Sent moment (address_of address) x.sends.bytes ∷ [];
            gained = x.sends.sends.outcome;
            stands = subst (λ (q : LearnerState). StandsFor q (Sent moment (address_of address) x.sends.bytes ∷ past)) (sym x.is)
                (dialled_stands old.parts past whole s address moment x.seat x.free none x.source x.sends.bytes (after_note counts.Sent old.parts.counts) x.local own);
            tallies = λ refused a. subst (λ (q : LearnerState). AreTallied refused q.counts (Sent moment (address_of address) x.sends.bytes ∷ past)) (sym x.is)
                (sent_tallied refused moment (address_of address) x.sends.bytes past old.parts.counts a);
          };
          name = ap (λ (q : LearnerState). q.name) x.is;
          speaks = (sent_speaks address true x, tt);
          alone = due_alone old.parts.outbox (dial_to address x.source) moment true old.link new.link x.sends;
        },
        λ same. ap (λ (b : Bool). b || false) (dials_it address x.source moment x.sends.bytes
            (subst (λ (y : Descriptor). IsDatagram y 0 (plain.Handshake x.source (own_options old.parts.outbox) ∷ []) x.sends.bytes) whole.swarm own)),
      )
    where
      dials_it : (a : Address) (source moment : ℕ) (bytes : List ℕ)
          → IsDatagram (stand_in (name_of old.parts.name)) 0 (plain.Handshake source (own_options old.parts.outbox) ∷ []) bytes
          → dials (stand_in (name_of old.parts.name)) (address_of a) (Sent moment (address_of a) bytes) ≡ true
      dials_it a source moment bytes v =
          ap (λ (b : Bool). b && is_number 0 (read (stand_in (name_of old.parts.name)) (Sent moment (address_of a) bytes)).channel
          && list_any is_handshake (read (stand_in (name_of old.parts.name)) (Sent moment (address_of a) bytes)).messages.read) (same_self (address_of a))
          ∙ ap (λ (x : Datagram). true && is_number 0 x.channel && list_any is_handshake x.messages.read) v.read
  dials_goes address false none x = (
    record {
      whole = whole_as _ _ x.is;
      on = record {
        added = [];
        gained = gains_nothing old.link.traffic new.link.traffic x.sends.sends.outcome.0;
        stands = subst (λ (q : LearnerState). StandsFor q past) (sym x.is)
            (refused_stands old.parts past whole s address moment x.seat x.free none (after_note counts.SendFault old.parts.counts));
        tallies = λ refused a. subst (λ (q : LearnerState). AreTallied refused q.counts past) (sym x.is)
            (other_tallied refused past counts.SendFault old.parts.counts tt a);
      };
      name = ap (λ (q : LearnerState). q.name) x.is;
      speaks = tt;
      alone = due_alone old.parts.outbox (dial_to address x.source) moment false old.link new.link x.sends;
    },
    λ same. absurd (false≢true same),
  )

  -- What became of an address: nothing, since a channel has it, or it isn't to be dialled at once, or no seat is free; or the link refused
  -- its handshake; or it was dialled.
  pub record Became (dial : Dial) : Type 0 where
    pub goes : Goes old new past
    pub how : ((new ≡ old) × ((list_any (has_address dial.address) old.parts.lives.channels ≡ true) ⊎ ((dial.from ≡ Some 0 → ⊥) ⊎ (free_seat old.parts.lives ≡ None))))
        ⊎ (HasRisen old.link.faults new.link.faults
        ⊎ (Dials dial.address moment true old new × (list_any (dials (stand_in (name_of old.parts.name)) (address_of dial.address)) goes.on.added ≡ true)))

  tries_became : (dial : Dial) (sent : Bool) → list_any (has_address dial.address) old.parts.lives.channels ≡ false → Dials dial.address moment sent old new → Became dial
  tries_became dial true none x = let g = dials_goes dial.address true none x in record { goes = g.0; how = inr (inr (x, g.1 refl)) }
  tries_became dial false none x = record { goes = (dials_goes dial.address false none x).0; how = inr (inl x.sends.sends.outcome.1) }

  free_became : (o : Option ℕ) (dial : Dial) (from : Option ℕ) → dial.from ≡ o → list_any (has_address dial.address) old.parts.lives.channels ≡ false
      → DialsFree o dial from moment old new → Became dial
  free_became None dial from is none x = record {
    goes = goes_none old new past x.0 whole s;
    how = inl (x.0, inr (inl (λ (at_once : dial.from ≡ Some 0). none_zero (sym is ∙ at_once))));
  }
    where
      none_zero : {n : ℕ} → None ≡ Some n → ⊥
      none_zero e = cc
  free_became (Some at) dial from is none x = match_with (nat_lt old.parts.moment at) x
      (λ early (n : (new ≡ old) × (from ≡ dial.from)). record {
        goes = goes_none old new past n.0 whole s;
        how = inl (n.0, inr (inl (λ (at_once : dial.from ≡ Some 0). not_early (same_Some at 0 (sym is ∙ at_once)) early)));
      })
      (λ late (y : Tries dial from moment old new). ⊎_elim
      (λ (z : (sent : Bool) × Dials dial.address moment sent old new × (from ≡ None)). tries_became dial z.0 none z.1)
      (λ (n : (free_seat old.parts.lives ≡ None) × (new ≡ old) × (from ≡ dial.from)). record { goes = goes_none old new past n.1 whole s; how = inl (n.1, inr (inr n.0)) }) y)
    where
      not_early : at ≡ 0 → nat_lt old.parts.moment at ≡ true → ⊥
      not_early zero lt = grind (arith, nat_tests)

  pub became : (dial : Dial) (from : Option ℕ) → StepsDial dial from moment old new → Became dial
  became dial from x = match_with (list_any (has_address dial.address) old.parts.lives.channels) x
      (λ there (n : (new ≡ old) × (from ≡ None)). record { goes = goes_none old new past n.0 whole s; how = inl (n.0, inl there) })
      (λ none (y : DialsFree dial.from dial from moment old new). free_became dial.from dial from refl none y)

-- what is kept of the addresses is no matter
pub dials_set : (old mid new : Scene) (past : List Record) (dials : List Dial) → new ≡ record mid { parts = record mid.parts { dials = dials } }
    → (g : Goes old mid past) → (h : Goes old new past) × (h.on.added ≡ g.on.added)
dials_set old mid new past dials is g =
    let stands = g.on.stands in (
      record {
        whole = subst (λ (y : Scene). IsWhole y.parts) (sym is) (record { size = g.whole.size; swarm = g.whole.swarm; seats = g.whole.seats });
        on = record {
          added = g.on.added;
          gained = subst (λ (y : Scene). GainsRecords old.link.traffic g.on.added y.link.traffic) (sym is) g.on.gained;
          stands = subst (λ (y : Scene). StandsFor y.parts (g.on.added ++ past)) (sym is) (record {
            now_is = stands.now_is;
            lives = stands.lives;
            standing = stands.standing;
            begun = stands.begun;
            dialled = stands.dialled;
            follows = stands.follows;
          });
          tallies = λ refused a. subst (λ (y : Scene). AreTallied refused y.parts.counts (g.on.added ++ past)) (sym is) (g.on.tallies refused a);
        };
        name = ap (λ (y : Scene). y.parts.name) is ∙ g.name;
        speaks = g.speaks;
        alone = subst (λ (y : Scene). SendsAlone old.link y.link) (sym is) g.alone;
      },
      refl,
    )
