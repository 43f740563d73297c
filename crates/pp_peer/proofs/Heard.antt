-- What is heard message by message is heard together.
use Rattle.std.proofs.Common.{◌≡◌, ℕ, Bool, true, false, Some, None, List, [], ◌∷◌, ◌++◌, Option, not, ◌&&◌, cond, refl, sym, ◌∙◌, ap, subst}
use Rattle.std.specs.List.{slice_get}
use Rattle.std.proofs.Math.ListN.{set}
use Rattle.std.proofs.lemmas.Option.{same_Some}
use Rattle.pp_terms.specs.disk.Disk.{DiskState}
use Rattle.pp_terms.specs.format.Messages.{Message}
use Rattle.pp_promises.specs.Batches.{after_puts}
use Rattle.pp_holding.specs.Holding.{HoldingState, batch_of, stock_of}
use Rattle.pp_holding.specs.Stock.{Advances}
use Rattle.pp_holding.specs.Answers.{stored_by}
use Rattle.pp_counts.specs.Counts.{after_note}
use Rattle.pp_counts.specs.declared.counts.Counts.{Counts}
use Rattle.pp_counts.specs.declared.note.Note.{Note}
use Rattle.pp_store.specs.declared.admitting.Put.{Put}
use Rattle.pp_channels.specs.Seats.{closed}
use Rattle.pp_desk.specs.Hearing as desk
use Rattle.pp_holding.proofs.Advancing.{advances_none, advances_twice}
use Rattle.pp_holding.proofs.Events.{puts_compose}
use Rattle.pp_seat.specs.Seats.{SeatState}
use Rattle.pp_seats.specs.Standing.{SeatsState}
use Rattle.pp_seats.specs.Hearing.{ChangesSeat, HearsAll}
use Rattle.pp_seats.proofs.Composing.{hearing_composes}
use Rattle.pp_seats.proofs.Lists.{get_set_there, set_twice}
use Rattle.pp_seats.proofs.Turnings.{set_there}
use Rattle.pp_peer.specs.declared.parts.Parts.{Parts}
use Rattle.pp_peer.specs.Taking.{note_of, after_some, KeepsCounts, Keeps, Stores, Takes, Hears, Closes, Reads}
use Rattle.pp_peer.specs.Messages.{Heeds}
use Rattle.pp_peer.specs.Standing.{size_of, KeepsContent, asked_of, Fetches}
use Rattle.std.specs.Prelude.{Result, Ok, Err, OnOk, IsSome, slice_index_or}
use Rattle.pp_channels.specs.Seats.{Seats, channel_at}
use Rattle.pp_channels.specs.declared.channel.Channel.{Channel}
use Rattle.pp_lives.proofs.Changing.{dropped_is}
use Rattle.pp_fetching.specs.Owners.{awaits}
use Rattle.pp_peer.specs.Greeting.{Clears}
use Rattle.pp_peer.proofs.Ending.{released_asked}
use Rattle.pp_peer.proofs.Content.{content_same, content_twice, released_size, heeds_size}
use Rattle.pp_peer.specs.Standing.{own_in}
use Rattle.pp_peer.proofs.Fetched.{fetches_alike, heeded_fetches, closed_fetches}
use Rattle.pp_peer.proofs.Counted.{IsOfMessage, same_counts, counts_twice, message_counts, put_is_counted, hears_counted, some_counts}

-- the holding stays as it is
pub keeps_same : (old new : Parts) (disk : DiskState) → new.holding ≡ old.holding → KeepsCounts old.counts new.counts → KeepsContent old new → Keeps old new disk disk
keeps_same old new disk same counts content = record {
  advances = subst (λ (h : HoldingState). Advances (stock_of old.holding disk) (stock_of h disk)) (sym same) (advances_none (stock_of old.holding disk));
  counts = counts;
  content = content;
}

pub keeps_twice : (a b c : Parts) (disk mid left : DiskState) → Keeps a b disk mid → Keeps b c mid left → Keeps a c disk left
keeps_twice a b c disk mid left one two = record {
  advances = advances_twice (stock_of a.holding disk) (stock_of b.holding mid) (stock_of c.holding left) one.advances two.advances;
  counts = counts_twice a.counts b.counts c.counts one.counts two.counts;
  content = content_twice a b c one.content two.content;
}

-- nothing was stored
pub stores_none : (old new : Parts) → new.holding ≡ old.holding → Stores [] old new
stores_none old new same = record {
  puts = ap batch_of same;
  live = λ l. ap (λ (h : HoldingState). h.store.live) same ∙ l;
}

pub stores_twice : (a b c : Parts) (stored more : List ℕ) → b.seats.moment ≡ a.seats.moment → Stores stored a b → Stores more b c → Stores (stored ++ more) a c
stores_twice a b c stored more when one two = record {
  puts = two.puts ∙ ap (λ (now : ℕ). after_puts more now (batch_of b.holding)) when ∙ ap (after_puts more a.seats.moment) one.puts
      ∙ sym (puts_compose stored more a.seats.moment (batch_of a.holding));
  live = λ l. two.live (one.live l);
}

-- one seat hears messages, and then more of them
heard_twice : (seat now : ℕ) (ms more : List Message) (a b c : SeatsState) → now ≡ a.moment → ChangesSeat seat (HearsAll a.moment ms) a b → ChangesSeat seat (HearsAll b.moment more) b c
    → ChangesSeat seat (HearsAll a.moment (ms ++ more)) a c
heard_twice seat now ms more a b c n one two = record {
  before = one.before;
  after = two.after;
  there = one.there;
  is = two.is ∙ ap (λ (o : SeatsState). record o { seats = set o.seats seat two.after }) one.is
      ∙ ap (λ (xs : List SeatState). record a { seats = xs }) (set_twice a.seats seat one.after two.after);
  changes = hearing_composes.twice a.moment ms more one.before one.after two.after one.changes
      (subst (λ (s : SeatState). HearsAll a.moment more s two.after) middle
      (subst (λ (m : ℕ). HearsAll m more two.before two.after) (ap (λ (o : SeatsState). o.moment) one.is) two.changes));
}
  where
    middle : two.before ≡ one.after
    middle = same_Some two.before one.after (sym two.there ∙ ap (λ (o : SeatsState). slice_get o.seats seat) one.is
        ∙ get_set_there a.seats seat one.after one.before one.there)

pub takes_none : (seat : ℕ) (p : Parts) (disk : DiskState) (s : SeatState) → slice_get p.seats.seats seat ≡ Some s → Takes seat [] p p disk disk
takes_none seat p disk s there = record {
  keeps = keeps_same p p disk refl (same_counts p.counts) (content_same p);
  heard = record {
    before = s;
    after = s;
    there = there;
    is = ap (λ (xs : List SeatState). record p.seats { seats = xs }) (sym (set_there p.seats.seats seat s there));
    changes = hearing_composes.none p.seats.moment s;
  };
  stored = [];
  stores = stores_none p p refl;
  fetches = λ f. f;
}

pub takes_twice : (seat : ℕ) (ms more : List Message) (a b c : Parts) (disk mid left : DiskState) → Takes seat ms a b disk mid → Takes seat more b c mid left
    → Takes seat (ms ++ more) a c disk left
takes_twice seat ms more a b c disk mid left one two = record {
  keeps = keeps_twice a b c disk mid left one.keeps two.keeps;
  heard = heard_twice seat a.seats.moment ms more a.seats b.seats c.seats refl one.heard two.heard;
  stored = one.stored ++ two.stored;
  stores = stores_twice a b c one.stored two.stored (ap (λ (o : SeatsState). o.moment) one.heard.is) one.stores two.stores;
  fetches = λ f. two.fetches (one.fetches f);
}

-- Bytes that came as a chunk were given to the store.
pub put_keeps : (old new : Parts) (put : Put) (held : HoldingState) (disk left : DiskState) → new.holding ≡ held → Advances (stock_of old.holding disk) (stock_of held left)
    → new.counts ≡ after_note (note_of put) old.counts → KeepsContent old new → Keeps old new disk left
put_keeps old new put held disk left same advances counts content = record {
  advances = subst (λ (h : HoldingState). Advances (stock_of old.holding disk) (stock_of h left)) (sym same) advances;
  counts = subst (λ (k : Counts). KeepsCounts old.counts k) (sym counts) (message_counts (note_of put) old.counts (put_is_counted put));
  content = content;
}

pub put_stores : (old new : Parts) (put : Put) (held : HoldingState) (chunk at : ℕ) → new.holding ≡ held → at ≡ old.seats.moment
    → batch_of held ≡ after_puts (stored_by put chunk) at (batch_of old.holding) → held.store.live ≡ true → (stored : List ℕ) × Stores stored old new
put_stores old new put held chunk at same when batch live = (
  stored_by put chunk,
  record {
    puts = ap batch_of same ∙ batch ∙ ap (λ (n : ℕ). after_puts (stored_by put chunk) n (batch_of old.holding)) when;
    live = λ l. ap (λ (h : HoldingState). h.store.live) same ∙ live;
  },
)

-- A DATA ended the wait for its chunk, and then something was counted or stored.
pub data_keeps : (old mid new : Parts) (disk left : DiskState) → mid ≡ record old { seats = mid.seats; fetching = mid.fetching } → KeepsContent old mid
    → Keeps mid new disk left → Keeps old new disk left
data_keeps old mid new disk left rest content keeps = keeps_twice old mid new disk disk left (keeps_same old mid disk (ap (λ (p : Parts). p.holding) rest)
    (subst (λ (k : Counts). KeepsCounts old.counts k) (sym (ap (λ (p : Parts). p.counts) rest)) (same_counts old.counts)) content) keeps

pub data_takes : (seat : ℕ) (m : Message) (old mid new : Parts) (disk left : DiskState) → ChangesSeat seat (HearsAll old.seats.moment (m ∷ [])) old.seats mid.seats
    → mid ≡ record old { seats = mid.seats; fetching = mid.fetching } → (Fetches old → Fetches mid) → KeepsContent old mid
    → Keeps mid new disk left → new.seats ≡ mid.seats → asked_of new.fetching ≡ asked_of mid.fetching → (stored : List ℕ) × Stores stored mid new
    → Takes seat (m ∷ []) old new disk left
data_takes seat m old mid new disk left heard rest fetches content keeps seats asked stored = record {
  keeps = data_keeps old mid new disk left rest content keeps;
  heard = record {
    before = heard.before;
    after = heard.after;
    there = heard.there;
    is = seats ∙ heard.is;
    changes = heard.changes;
  };
  stored = stored.0;
  stores = record {
    puts = stored.1.puts ∙ ap (λ (n : ℕ). after_puts stored.0 n (batch_of mid.holding)) (ap (λ (o : SeatsState). o.moment) heard.is)
        ∙ ap (λ (h : HoldingState). after_puts stored.0 old.seats.moment (batch_of h)) (ap (λ (p : Parts). p.holding) rest);
    live = λ l. stored.1.live (ap (λ (p : Parts). p.holding.store.live) rest ∙ l);
  };
  fetches = λ f. fetches_alike mid new seats asked (fetches f);
}

-- A message that is no DATA was heeded, heard and counted.
pub other_takes : (seat : ℕ) (m : Message) (old mid new : Parts) (seats : SeatsState) (o : Option Note) (disk : DiskState)
    → mid ≡ record old { fetching = mid.fetching; pex = mid.pex; questions = mid.questions } → Heeds seat m old mid
    → ChangesSeat seat (λ before after. desk.Hears mid.seats.moment m o before after × HearsAll mid.seats.moment (m ∷ []) before after) mid.seats seats
    → new ≡ record mid { seats = seats; counts = after_some o mid.counts } → Takes seat (m ∷ []) old new disk disk
other_takes seat m old mid new seats o disk rest heeds heard is = record {
  keeps = keeps_same old new disk (ap (λ (p : Parts). p.holding) is ∙ ap (λ (p : Parts). p.holding) rest)
      (subst (λ (k : Counts). KeepsCounts old.counts k) (sym (ap (λ (p : Parts). p.counts) is ∙ ap (λ (p : Parts). after_some o p.counts) rest))
      (some_counts o old.counts (hears_counted mid.seats.moment m o heard.before heard.after heard.changes.0)))
      (record {
        swarm = ap (λ (p : SeatsState). p.descriptor) seats_are;
        size = ap (λ (p : Parts). size_of p.fetching) is ∙ heeds_size seat m old mid heeds;
      });
  heard = record {
    before = heard.before;
    after = heard.after;
    there = there;
    is = seats_are;
    changes = subst (λ (p : SeatsState). HearsAll p.moment (m ∷ []) heard.before heard.after) same heard.changes.1;
  };
  stored = [];
  stores = stores_none old new (ap (λ (p : Parts). p.holding) is ∙ ap (λ (p : Parts). p.holding) rest);
  fetches = heeded_fetches mid.seats.moment m o old mid new seat heard.before heard.after there seats_are (ap (λ (p : Parts). p.fetching) is) heard.changes.0 heeds;
}
  where
    same : mid.seats ≡ old.seats
    same = ap (λ (p : Parts). p.seats) rest

    there : slice_get old.seats.seats seat ≡ Some heard.before
    there = ap (λ (p : SeatsState). slice_get p.seats seat) (sym same) ∙ heard.there

    seats_are : new.seats ≡ record old.seats { seats = set old.seats.seats seat heard.after }
    seats_are = ap (λ (p : Parts). p.seats) is ∙ heard.is ∙ ap (λ (p : SeatsState). record p { seats = set p.seats seat heard.after }) same

-- The messages were heard, and the channel dropped where one of them closes it.
pub reads_all : (seat : ℕ) (ms : List Message) (old new : Parts) (disk left : DiskState) → Hears seat ms false old new disk left → Reads seat ms old new disk left
reads_all seat ms old new disk left h = record {
  keeps = h.takes.keeps;
  read = record {
    before = h.takes.heard.before;
    after = h.takes.heard.after;
    there = h.takes.heard.there;
    is = h.takes.heard.is ∙ ap (λ (b : Bool). record old.seats { table = cond b (closed old.seats.table seat) old.seats.table; seats = set old.seats.seats seat h.takes.heard.after }) h.closing;
    hears = λ e. subst (λ (xs : List Message). HearsAll old.seats.moment xs h.takes.heard.before h.takes.heard.after) (h.whole refl) h.takes.heard.changes;
  };
  stored = h.takes.stored;
  stores = h.takes.stores;
  fetches = h.takes.fetches;
}

pub reads_closed : (seat : ℕ) (ms : List Message) (old mid new : Parts) (disk left : DiskState) → Hears seat ms true old mid disk left → Closes seat mid new
    → Reads seat ms old new disk left
reads_closed seat ms old mid new disk left h c = record {
  keeps = keeps_twice old mid new disk left left h.takes.keeps (keeps_same mid new left c.holding
      (subst (λ (k : Counts). KeepsCounts mid.counts k) (sym c.counts) (same_counts mid.counts)) c.content);
  read = record {
    before = h.takes.heard.before;
    after = c.after;
    there = h.takes.heard.there;
    is = c.is ∙ ap (λ (p : SeatsState). record p { table = closed p.table seat; seats = set p.seats seat c.after }) h.takes.heard.is
        ∙ ap (λ (xs : List SeatState). record old.seats { table = closed old.seats.table seat; seats = xs }) (set_twice old.seats.seats seat h.takes.heard.after c.after)
        ∙ ap (λ (b : Bool). record old.seats { table = cond b (closed old.seats.table seat) old.seats.table; seats = set old.seats.seats seat c.after }) h.closing;
    hears = λ e. absurd (true_false (h.closing ∙ e));
  };
  stored = h.takes.stored;
  stores = record {
    puts = ap batch_of c.holding ∙ h.takes.stores.puts;
    live = λ l. ap (λ (o : HoldingState). o.store.live) c.holding ∙ h.takes.stores.live l;
  };
  fetches = λ f. c.fetches (h.takes.fetches f);
}
  where
    true_false : true ≡ false → ⊥
    true_false e = cc

-- A note of a message was counted after they were heard.
pub hears_counted_too : (seat : ℕ) (ms : List Message) (is_closed : Bool) (old mid : Parts) (disk left : DiskState) → Hears seat ms is_closed old mid disk left
    → (note : Note) → IsOfMessage note → (counts : Counts) → counts ≡ after_note note mid.counts → Hears seat ms is_closed old (record mid { counts = counts }) disk left
hears_counted_too seat ms is_closed old mid disk left h note is counts e = record {
  heard = h.heard;
  takes = record {
    keeps = keeps_twice old mid (record mid { counts = counts }) disk left left h.takes.keeps
        (keeps_same mid (record mid { counts = counts }) left refl (subst (λ (k : Counts). KeepsCounts mid.counts k) (sym e) (message_counts note mid.counts is)) (record { swarm = refl; size = refl }));
    heard = h.takes.heard;
    stored = h.takes.stored;
    stores = record { puts = h.takes.stores.puts; live = h.takes.stores.live };
    fetches = λ f. fetches_alike mid (record mid { counts = counts }) refl refl (h.takes.fetches f);
  };
  closing = h.closing;
  whole = h.whole;
}

pub ok_then : {T E : Type 0} {A B : Type 0} (r : Result T E) → (A → B) → OnOk r A → OnOk r B
ok_then (Ok x) f a = f a
ok_then (Err e) f a = tt

pub ok_both : {T E : Type 0} {A B C : Type 0} (r : Result T E) → (A → B → C) → OnOk r A → OnOk r B → OnOk r C
ok_both (Ok x) f a b = f a b
ok_both (Err e) f a b = tt

-- ---- a channel that is dropped

pub closed_free : (t : Seats) (seat : ℕ) → IsSome (channel_at t seat) → channel_at (closed t seat) seat ≡ None
closed_free t seat used = by_channel (channel_at t seat) refl used
  where
    by_channel : (o : Option Channel) → channel_at t seat ≡ o → IsSome o → channel_at (closed t seat) seat ≡ None
    by_channel None e u = cc
    by_channel (Some c) e u = (dropped_is t seat c e).free

pub cleared_so : (seat : ℕ) (old mid new : Parts) (shut : SeatsState) → mid ≡ record old { seats = shut }
    → shut ≡ record old.seats { table = closed old.seats.table seat } → Clears seat mid new → Closes seat old new
cleared_so seat old mid new shut m s c = record {
  before = c.forgets.before;
  after = record c.forgets.before { own = [] };
  there = there;
  is = is;
  holding = ap (λ (p : Parts). p.holding) c.rest ∙ ap (λ (p : Parts). p.holding) m;
  counts = ap (λ (p : Parts). p.counts) c.rest ∙ ap (λ (p : Parts). p.counts) m;
  content = record {
    swarm = ap (λ (p : SeatsState). p.descriptor) is;
    size = released_size seat (own_in mid.seats.seats seat) mid.fetching new.fetching c.releases ∙ ap (λ (p : Parts). size_of p.fetching) m;
  };
  fetches = closed_fetches seat old new c.forgets.before there is
      (λ i. released_asked seat (own_in mid.seats.seats seat) mid.fetching new.fetching c.releases i
      ∙ ap (λ (p : Parts). slice_index_or (asked_of p.fetching) i false && not (awaits (own_in mid.seats.seats seat) i)) m
      ∙ ap (λ (p : SeatsState). slice_index_or (asked_of old.fetching) i false && not (awaits (own_in p.seats seat) i)) shut_is);
}
  where
    shut_is : mid.seats ≡ record old.seats { table = closed old.seats.table seat }
    shut_is = ap (λ (p : Parts). p.seats) m ∙ s

    there : slice_get old.seats.seats seat ≡ Some c.forgets.before
    there = ap (λ (p : SeatsState). slice_get p.seats seat) (sym shut_is) ∙ c.forgets.there

    is : new.seats ≡ record old.seats { table = closed old.seats.table seat; seats = set old.seats.seats seat (record c.forgets.before { own = [] }) }
    is = c.forgets.is ∙ ap (λ (p : SeatsState). record p { seats = set p.seats seat (record c.forgets.before { own = [] }) }) shut_is
