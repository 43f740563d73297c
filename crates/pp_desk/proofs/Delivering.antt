-- Datagrams of notes, one after the other.
use Rattle.std.proofs.Common.{◌≡◌, ◌⊎◌, inl, inr, ℕ, zero, suc, ◌+◌, ◌-◌, ◌<◌, ◌≤◌, max, Bool, true, false, List, [], ◌∷◌, ◌++◌, get_or, take, drop, length, refl, sym, ◌∙◌, ap, subst, arith, append_assoc, append-nil}
use Rattle.std.specs.List.{AllByRecursion}
use Rattle.std.proofs.lemmas.Bool.{cases_lt}
use Rattle.std.proofs.lemmas.List.{length-take, length-drop, take_all, take-append-drop, drop-drop, drop_all}
use Rattle.std.proofs.Math.Seq.{take-add}
use Rattle.pp_terms.specs.format.Descriptor.{Descriptor, chunks_of}
use Rattle.pp_terms.specs.format.Messages as plain
use Rattle.pp_terms.specs.format.Traffic.{LinkState}
use Rattle.pp_draft.specs.declared.note.Note.{Note}
use Rattle.pp_draft.specs.declared.note.Note.TheVariants.{KeepAlive, Handshake, Close, Choke, Unchoke, Ack, Have, Request, Cancel, PexReq, Pex4, Pex6}
use Rattle.pp_draft.specs.Notes.{own_options, IsInside}
use Rattle.pp_draft.specs.Posts.{LacksRoom, Posts, PostsBehind, Sends}
use Rattle.pp_desk.specs.declared.steps.Delivered.{Delivered}
use Rattle.pp_seat.specs.Seats.{SeatState}
use Rattle.pp_desk.specs.Steps.{IsPlain, IsBelow, AreSaid, Follow}
use Rattle.pp_desk.specs.Delivers.{Way, Batch, At, none_delivered, counted, DeliversOne, DeliversEach, notes_of, AreFull, Delivers, Opens}
use Rattle.pp_desk.proofs.Saying.{after_chunks, said_then, handshake_said}

each_append : (w : Way) (xs ys : List Batch) (old mid new : At) → DeliversEach w xs old mid → DeliversEach w ys mid new → DeliversEach w (xs ++ ys) old new
each_append w [] ys old mid new a b = subst (λ (x : At). DeliversEach w ys x new) a b
each_append w (x ∷ xs) ys old mid new a b = (a.0, a.1, each_append w xs ys a.0 mid new a.2 b)

notes_append : (xs ys : List Batch) → notes_of (xs ++ ys) ≡ notes_of xs ++ notes_of ys
notes_append [] ys = refl
notes_append (x ∷ xs) ys = ap (λ (ns : List Note). x.notes ++ ns) (notes_append xs ys) ∙ sym (append_assoc x.notes (notes_of xs) (notes_of ys))

full_append : (d : Descriptor) (xs ys : List Batch) (rest : List Note) → AreFull d xs (notes_of ys ++ rest) → AreFull d ys rest → AreFull d (xs ++ ys) rest
full_append d [] ys rest a b = b
full_append d (x ∷ xs) ys rest a b = (
  subst (λ (ns : List Note). LacksRoom d x.bytes ns)
      (sym (ap (λ (ns : List Note). ns ++ rest) (notes_append xs ys) ∙ append_assoc (notes_of xs) (notes_of ys) rest)) a.0,
  full_append d xs ys rest a.1 b,
)

pub delivers_none : (w : Way) (rest : List Note) (at : At) → Delivers w [] rest at at
delivers_none w rest at = record { batches = []; each_once = refl; full = tt; each = refl }

pub delivers_one : (w : Way) (b : Batch) (rest : List Note) (old new : At) → LacksRoom w.d b.bytes rest → DeliversOne w b old new → Delivers w b.notes rest old new
delivers_one w b rest old new lacks one = record {
  batches = b ∷ [];
  each_once = append-nil b.notes;
  full = (lacks, tt);
  each = (new, one, refl);
}

pub delivers_twice : (w : Way) (some more rest : List Note) (old mid new : At) → Delivers w some (more ++ rest) old mid → Delivers w more rest mid new → Delivers w (some ++ more) rest old new
delivers_twice w some more rest old mid new a b = record {
  batches = a.batches ++ b.batches;
  each_once = notes_append a.batches b.batches ∙ ap (λ (ns : List Note). ns ++ notes_of b.batches) a.each_once ∙ ap (λ (ns : List Note). some ++ ns) b.each_once;
  full = full_append w.d a.batches b.batches rest
      (subst (λ (ns : List Note). AreFull w.d a.batches (ns ++ rest)) (sym b.each_once) a.full) b.full;
  each = each_append w a.batches b.batches old mid new a.each b.each;
}

-- ---- one more by a post

-- the rest of a slice
pub rest_of : (notes : List Note) (from : ℕ) → take (length notes - from) (drop from notes) ≡ drop from notes
rest_of notes from = take_all (length notes - from) (drop from notes) (omega (arith, length-drop from notes))

pub begins : (w : Way) (notes : List Note) (at : At) → Delivers w (take 0 notes) (drop 0 notes) at at
begins w notes at = delivers_none w notes at

pub delivers_more : (w : Way) (notes rest : List Note) (from count : ℕ) (sent : Bool) (old mid new : At) → rest ≡ drop from notes
    → Delivers w (take from notes) (drop from notes) old mid
    → Posts w.d w.channel rest count (λ bytes. Sends w.receiver bytes w.moment mid.link new.link sent)
    → Follow w.now mid.so_far.set_back sent (take count rest) mid.seat new.seat
    → new.so_far ≡ counted sent (take count rest) mid.so_far
    → Delivers w (take (from + count) notes) (drop (from + count) notes) old new
delivers_more w notes rest from count sent old mid new is before posts follow count_is =
    subst (λ (ns : List Note). Delivers w ns (drop (from + count) notes) old new) (sym (take-add from count notes))
    (subst (λ (ns : List Note). Delivers w (take from notes ++ take count (drop from notes)) ns old new) (drop-drop count from notes)
    (delivers_twice w (take from notes) (take count (drop from notes)) (drop count (drop from notes)) old mid new
    (subst (λ (ns : List Note). Delivers w (take from notes) ns old mid) (sym (take-append-drop count (drop from notes))) before)
    (subst (λ (ns : List Note). Delivers w (take count ns) (drop count ns) mid new) is
    (delivers_one w (record { notes = take count rest; messages = posts.packs.messages; bytes = posts.bytes; sent = sent }) (drop count rest) mid new posts.packs.full (record {
      said = posts.packs.said;
      written = posts.packs.written;
      some = (let some = posts.packs.some in let within = posts.packs.within in omega (arith, length-take count rest));
      goes = posts.goes;
      seat = follow;
      count = count_is;
    })))))

pub delivers_all : (w : Way) (notes : List Note) (from : ℕ) (old new : At) → length notes ≤ from → Delivers w (take from notes) (drop from notes) old new → Delivers w notes [] old new
delivers_all w notes from old new all h =
    subst (λ (ns : List Note). Delivers w ns [] old new) (take_all from notes all)
    (subst (λ (ns : List Note). Delivers w (take from notes) ns old new) (drop_all from notes all) h)

-- ---- what is asked of a part of the notes

all_drop : (P : Note → Type 0) (k : ℕ) (notes : List Note) → AllByRecursion P notes → AllByRecursion P (drop k notes)
all_drop P zero notes h = h
all_drop P (suc k) [] h = tt
all_drop P (suc k) (n ∷ notes) h = all_drop P k notes h.1

all_take : (P : Note → Type 0) (k : ℕ) (notes : List Note) → AllByRecursion P notes → AllByRecursion P (take k notes)
all_take P zero [] h = tt
all_take P zero (n ∷ notes) h = tt
all_take P (suc k) [] h = tt
all_take P (suc k) (n ∷ notes) h = (h.0, all_take P k notes h.1)

pub all_rest : (P : Note → Type 0) (from : ℕ) (notes : List Note) → AllByRecursion P notes → AllByRecursion P (take (length notes - from) (drop from notes))
all_rest P from notes h = all_take P (length notes - from) (drop from notes) (all_drop P from notes h)

pub all_part : (P : Note → Type 0) (from count : ℕ) (notes : List Note) → AllByRecursion P notes → AllByRecursion P (take count (take (length notes - from) (drop from notes)))
all_part P from count notes h = all_take P count (take (length notes - from) (drop from notes)) (all_rest P from notes h)

note_below : (d : Descriptor) (chunks : ℕ) (n : Note) → chunks ≡ chunks_of d → IsInside d n → IsBelow chunks n
note_below d chunks (Ack range delay) is h = subst (λ (k : ℕ). range.last < k) (sym is) h
note_below d chunks (Have range) is h = subst (λ (k : ℕ). range.last < k) (sym is) h
note_below d chunks (Request range) is h = subst (λ (k : ℕ). range.last < k) (sym is) h
note_below d chunks (Cancel range) is h = subst (λ (k : ℕ). range.last < k) (sym is) h
note_below d chunks KeepAlive is h = tt
note_below d chunks (Handshake source) is h = tt
note_below d chunks Close is h = tt
note_below d chunks Choke is h = tt
note_below d chunks Unchoke is h = tt
note_below d chunks PexReq is h = tt
note_below d chunks (Pex4 address port) is h = tt
note_below d chunks (Pex6 address port) is h = tt

pub all_below : (d : Descriptor) (chunks : ℕ) (notes : List Note) → chunks ≡ chunks_of d → AllByRecursion (IsInside d) notes → AllByRecursion (IsBelow chunks) notes
all_below d chunks [] is h = tt
all_below d chunks (n ∷ notes) is h = (note_below d chunks n is h.0, all_below d chunks notes is h.1)

item_of : (P : Note → Type 0) (notes : List Note) (k : ℕ) (x : Note) → k < length notes → AllByRecursion P notes → P (get_or notes k x)
item_of P [] k x lt all = absurd (omega arith)
item_of P (n ∷ notes) zero x lt all = all.0
item_of P (n ∷ notes) (suc k) x lt all = item_of P notes k x (omega arith) all.1

pub item_plain : (notes : List Note) (k : ℕ) (x item : Note) → item ≡ get_or notes k x → k < length notes → AllByRecursion IsPlain notes → IsPlain item
item_plain notes k x item is lt all = subst IsPlain (sym is) (item_of IsPlain notes k x lt all)

pub item_below : (chunks other : ℕ) (notes : List Note) (k : ℕ) (x item : Note) → other ≡ chunks → item ≡ get_or notes k x → k < length notes
    → AllByRecursion (IsBelow chunks) notes → IsBelow other item
item_below chunks other notes k x item same is lt all =
    subst (λ (n : Note). IsBelow other n) (sym is) (subst (λ (c : ℕ). IsBelow c (get_or notes k x)) (sym same) (item_of (IsBelow chunks) notes k x lt all))

-- ---- what stays

pub follow_chunks : (now : ℕ) (back sent : Bool) (notes : List Note) (old new : SeatState) → Follow now back sent notes old new → new.told.chunks ≡ old.told.chunks
follow_chunks now back true notes old new h = after_chunks now back notes old new h.after
follow_chunks now back false notes old new h = ap (λ (s : SeatState). s.told.chunks) h

pub counted_sum : (sent : Bool) (notes : List Note) (old new : Delivered) → new ≡ counted sent notes old → new.sent + new.refused ≡ old.sent + old.refused + 1
counted_sum true notes old new is =
    let s : new.sent ≡ old.sent + 1 = ap (λ (x : Delivered). x.sent) is in
    let r : new.refused ≡ old.refused = ap (λ (x : Delivered). x.refused) is in
    omega (arith, s, r)
counted_sum false notes old new is =
    let s : new.sent ≡ old.sent = ap (λ (x : Delivered). x.sent) is in
    let r : new.refused ≡ old.refused + 1 = ap (λ (x : Delivered). x.refused) is in
    omega (arith, s, r)

-- ---- a handshake before the notes

-- one datagram more was sent before
abbrev one_more : At → At
one_more x = record x { so_far = record x.so_far { sent = x.so_far.sent + 1 } }

counted_more : (sent : Bool) (notes : List Note) (so_far after : Delivered) → after ≡ counted sent notes so_far
    → (let d : Delivered = record after { sent = after.sent + 1 } in d ≡ counted sent notes (record so_far { sent = so_far.sent + 1 }))
counted_more true notes so_far after is = ap (λ (x : Delivered). let d : Delivered = record x { sent = x.sent + 1 } in d) is
counted_more false notes so_far after is = ap (λ (x : Delivered). let d : Delivered = record x { sent = x.sent + 1 } in d) is

each_more : (w : Way) (bs : List Batch) (old new : At) → DeliversEach w bs old new → DeliversEach w bs (one_more old) (one_more new)
each_more w [] old new e = ap one_more e
each_more w (b ∷ bs) old new e = (
  one_more e.0,
  record {
    said = e.1.said;
    written = e.1.written;
    some = e.1.some;
    goes = e.1.goes;
    seat = e.1.seat;
    count = counted_more b.sent b.notes old.so_far e.0.so_far e.1.count;
  },
  each_more w bs e.0 new e.2,
)

-- the first datagram was taken, and then what it had no room for went
pub opens_with : (w : Way) (source count : ℕ) (notes : List Note) (old : SeatState) (mid : SeatState) (new : SeatState) (link between later : LinkState) (delivered : Delivered)
    → PostsBehind w.d w.channel source notes count (λ bytes. Sends w.receiver bytes w.moment link between true)
    → AreSaid w.now false (take count notes) old mid
    → Delivers w (drop count notes) [] (record { seat = mid; link = between; so_far = none_delivered }) (record { seat = new; link = later; so_far = delivered })
    → Opens w source notes (record { seat = old; link = link; so_far = none_delivered }) (record { seat = new; link = later; so_far = record delivered { sent = delivered.sent + 1 } })
opens_with w source count notes old mid new link between later delivered posts said rest =
    let first : List Note = Handshake source ∷ take count notes in
    let b : Batch = record { notes = first; messages = plain.Handshake source (own_options w.d) ∷ posts.packs.messages; bytes = posts.bytes; sent = true } in
    let one : DeliversOne w b (record { seat = old; link = link; so_far = none_delivered }) (record { seat = mid; link = between; so_far = record none_delivered { sent = 1 } }) = record {
      said = (plain.Handshake source (own_options w.d) ∷ [], posts.packs.messages, refl, posts.packs.said, refl);
      written = posts.packs.written;
      some = omega arith;
      goes = posts.goes;
      seat = said_then w.now false (Handshake source ∷ []) (take count notes) old old mid (handshake_said w.now false source old) said;
      count = refl;
    } in
    record {
      delivers = record {
        batches = b ∷ rest.batches;
        each_once = ap (λ (ns : List Note). first ++ ns) rest.each_once ∙ ap (λ (ns : List Note). Handshake source ∷ ns) (take-append-drop count notes);
        full = (
          subst (λ (ns : List Note). LacksRoom w.d posts.bytes ns) (sym (append-nil (notes_of rest.batches) ∙ rest.each_once)) posts.packs.full,
          rest.full,
        );
        each = (
          record { seat = mid; link = between; so_far = record none_delivered { sent = 1 } },
          one,
          each_more w rest.batches _ _ rest.each,
        );
      };
      first = refl;
    }

-- as many datagrams as notes at the most, and one
pub few_opened : (count sent refused : ℕ) (notes : List Note) → count ≤ length notes → (0 < length notes → 0 < count) → sent + refused ≤ length (drop count notes)
    → sent + refused + 1 ≤ max 1 (length notes)
few_opened count sent refused notes within some few = by (cases_lt 0 (length notes))
  where
    by : (0 < length notes) ⊎ (length notes ≤ 0) → sent + refused + 1 ≤ max 1 (length notes)
    by (inl any) = let more = some any in omega (arith, few, more, within, length-drop count notes)
    by (inr none) = omega (arith, few, none, length-drop count notes)
