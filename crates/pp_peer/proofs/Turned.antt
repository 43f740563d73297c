-- What is said on one channel after the other.
use Rattle.std.proofs.Common.{Some, ◌≡◌, ℕ, suc, ◌+◌, ◌≤◌, Bool, true, false, not, cond, Option, None, List, [], ◌∷◌, refl, sym, ◌∙◌, ap, subst, arith}
use Rattle.std.specs.List.{slice_get}
use Rattle.std.proofs.lemmas.Bool.{false≢true, both_ways}
use Rattle.pp_channels.specs.declared.channel.Channel.{Channel}
use Rattle.pp_lives.specs.declared.lives.Far.{Far}
use Rattle.std.proofs.lemmas.Option.{same_Some}
use Rattle.pp_terms.specs.disk.Disk.{DiskState, moment_of}
use Rattle.pp_terms.specs.format.Descriptor.{chunks_of}
use Rattle.pp_terms.specs.format.Traffic.{Record, LinkState}
use Rattle.pp_terms.specs.tree.Range.{Span}
use Rattle.pp_terms.proofs.Risings.{gains_nothing}
use Rattle.pp_seat.specs.Seats.{SeatState}
use Rattle.pp_seats.specs.Standing.{SeatsState}
use Rattle.pp_desk.specs.Delivers.{none_delivered}
use Rattle.pp_seats.specs.Reading.{is_due_at, opening_of}
use Rattle.pp_seats.specs.Sending.{way_of, opening_at, IsMute}
use Rattle.pp_seats.specs.Turning.{Rewinds}
use Rattle.pp_agenda.specs.Agendas.{most_notes}
use Rattle.pp_peer.specs.declared.parts.Parts.{Parts}
use Rattle.pp_peer.specs.declared.speaking.Hearer.{Hearer}
use Rattle.pp_peer.specs.declared.speaking.Speaker.{Speaker}
use Rattle.pp_peer.specs.Standing.{Beginning, StandsFor}
use Rattle.pp_peer.specs.Flushing.{KeepsWaits, Scene, Flushes}
use Rattle.pp_peer.specs.Slotting.{KeepsButSlots}
use Rattle.pp_peer.specs.Standing.{IsWhole}
use Rattle.pp_peer.specs.Speaking.{SetsBackTo, SetsBack, SpeaksTo, TurnsTo, TurnsBelow}
use Rattle.pp_peer.proofs.Ending.{CountsKept, stands_same}
use Rattle.pp_peer.proofs.Flushed.{flushes_twice}
use Rattle.pp_peer.proofs.Went.{went_by}
use Rattle.pp_peer.proofs.Chunks.{fetches_on, keeps_set}

-- a handshake that is due has its number
due_has : (at : ℕ) (o : Option Channel) → is_due_at at o ≡ true → opening_of at o ≡ None → ⊥
due_has at None due none = absurd cc
due_has at (Some c) due none = absurd (let some : opening_of at (Some c) ≡ Some c.local = ap (λ (b : Bool). cond b (Some c.local) None) due in let e = sym some ∙ none in cc)

-- so something may be said where one is, and where the channel has begun
pub not_mute : (greets : Bool) (far : Far) (at : ℕ) (o : Option Channel) → greets ≡ is_due_at at o → (greets ≡ false → far.begun ≡ true) → IsMute (opening_of at o) (Some far) → ⊥
not_mute true far at o due begun mute = due_has at o (sym due) mute.0
not_mute false far at o due begun mute = absurd (both_ways far.begun mute.1 (begun refl))

pub not_false : (b : Bool) → not b ≡ false → b ≡ true
not_false true e = refl
not_false false e = absurd (false≢true (sym e))

-- ---- steps that send nothing

-- What holds and stands is as it was.
pub record IsQuiet (old new : Parts) : Type 0 where
  pub holding : new.holding ≡ old.holding
  pub swarm : new.seats.descriptor ≡ old.seats.descriptor
  pub moment : new.seats.moment ≡ old.seats.moment
  pub fetching : old.fetching ≡ None → new.fetching ≡ None
  pub waits : KeepsWaits old.counts new.counts
  pub stands : (b : Beginning) (most : ℕ) (past : List Record) → StandsFor b most old past → StandsFor b most new past

pub quiet_flushes : (old new : Parts) (link : LinkState) (disk : DiskState) → IsQuiet old new
    → Flushes 0 (record { parts = old; link = link; disk = disk }) (record { parts = new; link = link; disk = disk })
quiet_flushes old new link disk q = record {
  added = [];
  gained = gains_nothing link.traffic link.traffic refl;
  nexts = refl;
  bound = refl;
  later = omega arith;
  ours = tt;
  seeds = λ none. record { fetching = q.fetching none; asks = refl };
  waits = q.waits;
  reads = record { tells = refl; honest = refl; same = refl; faults = omega arith; hard = omega arith };
  holding = q.holding;
  swarm = q.swarm;
  moment = q.moment;
  stands = λ b most past since h. subst (λ (n : ℕ). StandsFor b n new past) (zero_more most) (q.stands b most past h);
}
  where
    zero_more : (n : ℕ) → n ≡ n + 0
    zero_more n = omega arith

quiet_same : (old new : Parts) → new ≡ old → IsQuiet old new
quiet_same old new same = subst (λ (p : Parts). IsQuiet old p) (sym same) (record {
  holding = refl;
  swarm = refl;
  moment = refl;
  fetching = λ none. none;
  waits = record { turns = refl; receive_faults = refl };
  stands = λ b most past h. h;
})

-- a flush with a quiet step before it, and one behind it
pub flushes_amid : (refused : ℕ) (p0 p1 p2 p3 : Parts) (link later : LinkState) (disk left : DiskState) → IsQuiet p0 p1
    → Flushes refused (record { parts = p1; link = link; disk = disk }) (record { parts = p2; link = later; disk = left }) → IsQuiet p2 p3
    → Flushes refused (record { parts = p0; link = link; disk = disk }) (record { parts = p3; link = later; disk = left })
flushes_amid refused p0 p1 p2 p3 link later disk left q f r =
    subst (λ (n : ℕ). Flushes n (record { parts = p0; link = link; disk = disk }) (record { parts = p3; link = later; disk = left })) (sum refused)
    (flushes_twice (0 + refused) 0 _ _ _ (flushes_twice 0 refused _ _ _ (quiet_flushes p0 p1 link disk q) f) (quiet_flushes p2 p3 later left r))
  where
    sum : (n : ℕ) → (0 + n) + 0 ≡ n
    sum n = omega arith

-- ---- the cursor

counts_same : (old new : Parts) → new.counts ≡ old.counts → CountsKept old.counts new.counts
counts_same old new same = record {
  datagrams = ap (λ c. c.datagrams) same;
  short = ap (λ c. c.short) same;
  sent = ap (λ c. c.sent) same;
}

rewound : (seat to : ℕ) (known : SeatState) (old new : Parts) → slice_get old.seats.seats seat ≡ Some known → known.proven ≡ false
    → Rewinds seat to old.seats new.seats → new ≡ record old { seats = new.seats } → IsQuiet old new
rewound seat to known old new there is r rest = record {
  holding = ap (λ (p : Parts). p.holding) rest;
  swarm = ap (λ (p : SeatsState). p.descriptor) r.is;
  moment = ap (λ (p : SeatsState). p.moment) r.is;
  fetching = λ none. ap (λ (p : Parts). p.fetching) rest ∙ none;
  waits = record { turns = ap (λ (p : Parts). p.counts.turns) rest; receive_faults = ap (λ (p : Parts). p.counts.receive_faults) rest };
  stands = λ b most past h. stands_same b most most old new past (ap (λ (p : Parts). p.holding) rest) (counts_same old new (ap (λ (p : Parts). p.counts) rest))
      (λ x h. r.unproven (ap (λ (k : SeatState). k.proven) (same_Some r.before known (sym r.there ∙ there)) ∙ is) x most past h)
      (fetches_on old new (keeps_set old.seats new.seats seat r.before r.after r.there (ap (λ (k : SeatState). k.own) r.exact) r.is)
      (ap (λ (p : Parts). p.fetching) rest)) h;
}

pub back_quiet : (seat : ℕ) (greeted : Bool) (news : List Span) (old new : Parts) → SetsBack seat greeted news old new → IsQuiet old new
back_quiet seat greeted news old new s = of s.known.proven greeted news refl s.sets
  where
    of : (proven greeted : Bool) (news : List Span) → s.known.proven ≡ proven → SetsBackTo proven greeted news seat old new → IsQuiet old new
    of true greeted news is sets = quiet_same old new sets
    of false true news is sets = rewound seat 0 s.known old new s.there is sets.0 sets.1
    of false false [] is sets = quiet_same old new sets
    of false false (x ∷ xs) is sets = rewound seat x.first s.known old new s.there is sets.0 sets.1

rewound_whole : (seat to : ℕ) (old new : Parts) → Rewinds seat to old.seats new.seats → new ≡ record old { seats = new.seats } → IsWhole old → IsWhole new
rewound_whole seat to old new r rest w = record {
  swarm = ap (λ (p : SeatsState). p.descriptor) r.is ∙ w.swarm ∙ ap (λ (p : Parts). p.holding.store.descriptor) (sym rest);
  content = λ f e. w.content f (ap (λ (p : Parts). p.fetching) (sym rest) ∙ e) ∙ ap (λ (p : Parts). chunks_of p.holding.store.descriptor) (sym rest);
}

pub back_whole : (seat : ℕ) (greeted : Bool) (news : List Span) (old new : Parts) → SetsBack seat greeted news old new → IsWhole old → IsWhole new
back_whole seat greeted news old new s w = of s.known.proven greeted news s.sets
  where
    same : new ≡ old → IsWhole new
    same e = subst (λ (p : Parts). IsWhole p) (sym e) w

    of : (proven greeted : Bool) (news : List Span) → SetsBackTo proven greeted news seat old new → IsWhole new
    of true greeted news sets = same sets
    of false true news sets = rewound_whole seat 0 old new sets.0 sets.1 w
    of false false [] sets = same sets
    of false false (x ∷ xs) sets = rewound_whole seat x.first old new sets.0 sets.1 w

-- ---- slots

pub slots_quiet : (old new : Parts) → KeepsButSlots old new → IsQuiet old new
slots_quiet old new k = record {
  holding = ap (λ (p : Parts). p.holding) k.rest;
  swarm = ap (λ (p : Parts). p.seats.descriptor) k.rest;
  moment = ap (λ (p : Parts). p.seats.moment) k.rest;
  fetching = λ none. ap (λ (p : Parts). p.fetching) k.rest ∙ none;
  waits = record { turns = ap (λ (p : Parts). p.counts.turns) k.rest; receive_faults = ap (λ (p : Parts). p.counts.receive_faults) k.rest };
  stands = k.stands;
}

pub slots_whole : (old new : Parts) → KeepsButSlots old new → IsWhole old → IsWhole new
slots_whole old new k w = record {
  swarm = ap (λ (p : Parts). p.seats.descriptor) k.rest ∙ w.swarm ∙ ap (λ (p : Parts). p.holding.store.descriptor) (sym k.rest);
  content = λ f e. w.content f (ap (λ (p : Parts). p.fetching) (sym k.rest) ∙ e) ∙ ap (λ (p : Parts). chunks_of p.holding.store.descriptor) (sym k.rest);
}

pub slots_same : (old new : Parts) → new ≡ old → KeepsButSlots old new
slots_same old new same = subst (λ (p : Parts). KeepsButSlots old p) (sym same) (record { rest = refl; fetches = λ f. f; stands = λ b most past h. h })

-- ---- how many datagrams at the most

pub few_refused : (hearer : Hearer) (refused : ℕ) (speaker left : Speaker) (old new : Scene) → SpeaksTo hearer refused speaker left old new → refused ≤ most_notes
few_refused hearer refused speaker left old new s =
    let sp = s.says.speaks in
    let w = went_by (opening_at s.picked.seats hearer.seat) (way_of s.picked.seats sp.far (moment_of old.disk.history)) left.agenda
    (record { seat = sp.before; link = old.link; so_far = none_delivered }) (record { seat = sp.after; link = new.link; so_far = s.delivered }) refl sp.goes in
    omega (arith, s.many, w.few, s.fills.agenda.few)

-- ---- all seats

pub below_none : (speaker left : Speaker) (old new : Scene) → left ≡ speaker → new ≡ old → TurnsBelow 0 0 speaker left old new
unfolding TurnsBelow
below_none speaker left old new same here = record { none = refl; parts = ap (λ (s : Scene). s.parts) here; link = ap (λ (s : Scene). s.link) here; speaker_same = same }

pub below_more : (seat refused more total : ℕ) (speaker middle left : Speaker) (old mid new : Scene) → TurnsBelow seat refused speaker middle old mid
    → TurnsTo seat more middle left mid new → total ≡ refused + more → TurnsBelow (seat + 1) total speaker left old new
unfolding TurnsBelow
below_more seat refused more total speaker middle left old mid new b t is =
    subst (λ (n : ℕ). TurnsBelow n total speaker left old new) (one_more seat) next
  where
    one_more : (n : ℕ) → suc n ≡ n + 1
    one_more n = omega arith

    next : TurnsBelow (suc seat) total speaker left old new
    next = (refused, more, middle, mid, b, t, is)

pub below_all : (seats all refused : ℕ) (speaker left : Speaker) (old new : Scene) → seats ≡ all → TurnsBelow seats refused speaker left old new
    → TurnsBelow all refused speaker left old new
below_all seats all refused speaker left old new is b = subst (λ (n : ℕ). TurnsBelow n refused speaker left old new) is b
