-- Where no size was learned, none was told on a plain channel.
use Rattle.std.proofs.Common.{◌≡◌, ⊎_elim, ℕ, ◌^◌, ◌<◌, ◌≤◌, max, Bool, true, false, Option, Some, None, is_some, List, [], ◌∷◌, ◌++◌, length, refl, sym, ◌∙◌, ap, subst, arith}
use Rattle.std.specs.Prelude.{if◌then◌else◌, slice_set}
use Rattle.std.proofs.lemmas.Bool.{and_parts, cases_Bool, eqb-true, false≢true, lt-ltb, or_parts}
use Rattle.pp_terms.specs.format.Descriptor.{Descriptor, IsDescriptor}
use Rattle.pp_terms.specs.format.Messages.{Message, Data}
use Rattle.pp_terms.specs.format.Traffic.{Record, Received}
use Rattle.pp_terms.specs.tree.Claims.{Claim, latest}
use Rattle.pp_terms.specs.tree.Book.{LookUp}
use Rattle.pp_terms.specs.tree.Content.{IsChunkSize}
use Rattle.pp_tree.proofs.Sizes.{chunk_begins, chunk_size_range}
use Rattle.pp_traffic.specs.Life.{Life, closes}
use Rattle.pp_traffic.specs.Past.{comes_from, is_number, now, read}
use Rattle.pp_traffic.specs.Story.{Line}
use Rattle.pp_traffic.proofs.Awaited.{plain_grows}
use Rattle.pp_promises.specs.ReadStory.{read_story}
use Rattle.pp_outside.specs.Outside.{address_of}
use Rattle.pp_outside.specs.declared.link.Address.{Address}
use Rattle.pp_outside.specs.declared.link.Event.TheVariants.{Datagram, Quiet}
use Rattle.pp_counts.specs.declared.counts.Counts.{Counts}
use Rattle.pp_channels.specs.Seats.{Seats}
use Rattle.pp_channels.specs.declared.channel.Channel.{Channel}
use Rattle.pp_lives.specs.Arriving.{Arrives}
use Rattle.pp_lives.specs.Standing.{once_known, read_at, read_of}
use Rattle.pp_lives.specs.declared.arriving.Arrival.{Arrival}
use Rattle.pp_lives.specs.declared.arriving.Arrival.TheVariants as arrivals
use Rattle.pp_lives.proofs.Arrivals.{contents_read, number_read}
use Rattle.pp_lives.proofs.Changing.{within}
use Rattle.pp_targets.specs.Learn.{IsLearned, learned}
use Rattle.pp_targets.specs.Names.{name_of}
use Rattle.pp_targets.specs.Target.{SwarmName}
use Rattle.pp_targets.specs.declared.learning.Learned as targets
use Rattle.pp_targets.proofs.Weighing.{CanEnd, size_by_proof}
use Rattle.pp_learner.specs.Absorbing.{is_for_zero, learned_from}
use Rattle.pp_learner.specs.Following.{Follows, FollowsIf, StandsFor}
use Rattle.pp_learner.specs.Laws.{AbsorbMisses, TellsPlainly}
use Rattle.pp_learner.specs.Learners.{IsWhole, LearnerState}
use Rattle.pp_learner.specs.Reading.{Hearing, after_some, is_closing, learned_in, messages_from, read_from, reading, row_at, stopped}
use Rattle.pp_learner.specs.Rows.{RowState, begun, heard, heard_all, noted, size_in, size_of}
use Rattle.pp_learner.specs.Standing.{stand_in}
use Rattle.pp_learner.specs.declared.reading.Ending.TheVariants as endings
use Rattle.pp_learner.proofs.Following.{blank_follows, hear_follows}
use Rattle.pp_learner.proofs.Reaching.{dial_comes, known_comes}
use Rattle.pp_learner.proofs.Staying.{closes_first, row_same, zero_number}

-- ---- by the messages

some_none : (e : Descriptor) → Some e ≡ None → ⊥
some_none e is = cc

-- where a message tells a size, with none before it that closes the channel, one is learned
module _ (name : SwarmName) (cut : Bool) (chunk sent_at : ℕ) (bytes : List ℕ) (rest : List Message) (e : Descriptor) where
  last_tells : (o : Option Descriptor) (row : RowState) (counts : Counts) (h : Hearing) → o ≡ Some e → learned_in (stopped o row counts h).ending ≡ None → ⊥
  last_tells None row counts h is none = some_none e (sym is)
  last_tells (Some f) row counts h is none = some_none f none

  learns_some : (front : List Message) (row : RowState) (counts : Counts) → closes front ≡ false
      → size_in name (Data chunk sent_at bytes) (heard_all front row) ≡ Some e
      → learned_in (reading name cut (front ++ Data chunk sent_at bytes ∷ rest) row counts).ending ≡ None → ⊥
  learns_some [] row counts open_still is none = last_tells (size_in name (Data chunk sent_at bytes) row) _ _ _ is none
  learns_some (m ∷ ms) row counts open_still is none =
      let parts = or_parts (is_closing m) (closes ms) (sym (closes_first m ms) ∙ open_still) in
      by (is_closing m) (size_in name m row) parts.0 none (learns_some ms (heard m row) (after_some (noted name m row) counts) parts.1 is)
    where
      by : (b : Bool) (o : Option Descriptor) → b ≡ false
          → learned_in (if b then record { row = row; counts = counts; ending = endings.Closed } else stopped o (heard m row) (after_some (noted name m row) counts)
          (reading name cut (ms ++ Data chunk sent_at bytes ∷ rest) (heard m row) (after_some (noted name m row) counts))).ending ≡ None
          → (learned_in (reading name cut (ms ++ Data chunk sent_at bytes ∷ rest) (heard m row) (after_some (noted name m row) counts)).ending ≡ None → ⊥) → ⊥
      by true o open_one nothing later = false≢true (sym open_one)
      by false (Some f) open_one nothing later = some_none f nothing
      by false None open_one nothing later = later nothing

-- ---- by what proves the chunk to be the last

-- a last chunk of a descriptor of the name
can_end : (name : SwarmName) (known : LookUp) (i : ℕ) (bytes : List ℕ) (e : Descriptor) → IsChunkSize name.chunk → i < 2 ^ 20 → IsDescriptor e
    → IsLearned name known i bytes e → CanEnd name i bytes
can_end name known i bytes e size few valid is =
    let range = chunk_size_range e.chunk valid.chunk_size in
    let whole = is.proves.whole in
    let chunk = is.of.chunk in
    let begins = chunk_begins e.size e.chunk i (omega (arith, range.0)) (let last = is.last in omega (arith, last)) in
    record {
      few = few;
      size = size;
      some = omega (arith, whole, begins, range.0);
      most = omega (arith, whole, chunk);
    }

told_size : (name : SwarmName) (row : RowState) (i sent_at : ℕ) (bytes : List ℕ) (e : Descriptor) → IsChunkSize name.chunk → i < 2 ^ 20 → IsDescriptor e
    → IsLearned name (latest row.claims) i bytes e → size_in name (Data i sent_at bytes) row ≡ Some e
told_size name row i sent_at bytes e size few valid is =
    let long : length name.root ≡ 32 = ap (λ (xs : List ℕ). length xs) (sym is.of.root) ∙ valid.root_length in
    ap (λ (b : Bool). size_of (if b then Some (learned name (latest row.claims) i bytes) else None)) (lt-ltb i 1048576 few)
    ∙ ap (λ (l : targets.Learned). size_of (Some l))
    (size_by_proof name (latest row.claims) i bytes (can_end name (latest row.claims) i bytes e size few valid is) e long is)

-- ---- a datagram

module _ (p : LearnerState) (past : List Record) (whole : IsWhole p) (s : StandsFor p past) (at : ℕ) (sender : Address) (bytes : List ℕ) (e : Descriptor)
    (t : TellsPlainly (name_of p.name) (Received at (address_of sender) bytes) past e) where
  abbrev name : SwarmName
  name = name_of p.name

  abbrev d : Descriptor
  d = stand_in name

  abbrev r : Record
  r = Received at (address_of sender) bytes

  -- read on a row that follows the life's story
  row_learns : (row : RowState) (counts : Counts) → 4 ≤ length bytes → Follows (read_story d t.life past) row
      → None ≡ learned_in (read_from name bytes 4 row counts).ending → ⊥
  row_learns row counts long f none =
      let messages : (messages_from name bytes 4).read ≡ t.front ++ Data t.chunk t.sent_at t.bytes ∷ t.rest = sym (ap (λ m. m.read) (contents_read d bytes long)) ∙ t.messages in
      let follows = hear_follows (now (r ∷ past)) t.front (read_story d t.life past) row f in
      let learns = subst (λ (cs : List Claim). IsLearned name (latest cs) t.chunk t.bytes e) (sym follows.claims) t.learned in
      learns_some name (is_some (messages_from name bytes 4).fault) t.chunk t.sent_at t.bytes t.rest e t.front row counts t.open_still
      (told_size name (heard_all t.front row) t.chunk t.sent_at t.bytes e whole.size t.few t.valid learns)
      (sym (none ∙ ap (λ (ms : List Message). learned_in (reading name (is_some (messages_from name bytes 4).fault) ms row counts).ending) messages))

  module _ (a : Arrival) (table : Seats) (counts : Counts) (arrives : Arrives d p.lives sender (max at p.moment) bytes a table)
      (none : None ≡ learned_from a bytes (record p { lives = table; moment = max at p.moment; counts = counts })) where
    on_arrival : (b : Arrival) → a ≡ b → None ≡ learned_from b bytes (record p { lives = table; moment = max at p.moment; counts = counts })
    on_arrival b is = none ∙ ap (λ (x : Arrival). learned_from x bytes (record p { lives = table; moment = max at p.moment; counts = counts })) is

    arrival_misses : ⊥
    arrival_misses = ⊎_elim
        (λ plain.
        let h = s.standing.plains.plain t.life plain in
        let own = known_comes d p.lives table s.lives past sender at (max at p.moment) bytes a s.standing arrives t.life h t.plain.local_some t.comes in
        let lt = within p.lives.channels h.seat h.channel h.there in
        let under : h.seat < 64 = omega (arith, lt, s.standing.seated.are.seats) in
        let told : read_at d p.lives s.lives past h.seat ≡ Some (read_story d t.life past) =
        ap (λ (o : Option Channel). read_of d o (s.lives h.seat) past) h.there
        ∙ ap (λ (l : Option Life). read_of d (Some h.channel) l past) h.lives_there
        ∙ ap (λ (b : Bool). once_known b (read_story d t.life past)) h.known in
        row_learns (row_at p.rows h.seat) _ own.1
        (subst (λ (o : Option (List Line)). FollowsIf o (row_at p.rows h.seat)) told (s.follows h.seat under)) (on_arrival (arrivals.Heard h.seat) own.0))
        (λ reply.
        let h = s.standing.plains.dial t.life reply.0 reply.1 in
        let own = dial_comes d p.lives table s.lives past sender at (max at p.moment) bytes a s.standing arrives t.life h reply t.comes in
        let lt = within p.lives.channels h.seat h.channel h.there in
        row_learns (row_at (slice_set p.rows h.seat begun) h.seat) counts own.1
        (subst (λ (w : RowState). Follows (read_story d t.life past) w) (sym (row_same p.rows h.seat begun (omega (arith, lt, s.standing.seated.are.seats, whole.seats))))
        (blank_follows (read_story d t.life past) own.2)) (on_arrival (arrivals.Replied h.seat) own.0))
        ((plain_grows.up_to d t.life r past).0 t.plain)

  -- for channel 0 nothing comes on a life
  zero_misses : is_for_zero bytes ≡ true → ⊥
  zero_misses zero =
      let z = zero_number bytes zero in
      let number : (read d r).channel ≡ Some 0 = number_read d r bytes refl z.0 ∙ ap Some z.1 in
      let parts = and_parts (comes_from t.life.address r) (is_number t.life.local (read d r).channel) t.comes in
      let same : 0 ≡ t.life.local = eqb-true 0 t.life.local (sym (ap (is_number t.life.local) number) ∙ parts.1) in
      let some = t.plain.local_some in
      omega (arith, same, some)

pub absorb_misses : AbsorbMisses
absorb_misses (Quiet at) bytes old new past whole does s e t = false≢true t.comes
absorb_misses (Datagram sender len at) bytes old new past whole does s e t = ⊎_elim
    (λ zero. zero_misses old past whole s at sender bytes e t zero)
    (λ other. let x = does.other other in arrival_misses old past whole s at sender bytes e t x.arrival x.table _ x.arrives x.answers)
    (cases_Bool (is_for_zero bytes))
