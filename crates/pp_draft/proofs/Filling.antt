-- Notes put into a datagram, one after the other.
use Rattle.std.proofs.Common.{◌≡◌, inl, inr, ℕ, zero, suc, ◌^◌, ◌+◌, ◌<◌, ◌≤◌, Some, None, List, [], ◌∷◌, ◌++◌, get_or, length, take, drop, refl, sym, ◌∙◌, ap, subst, arith, append_assoc, append-nil}
use Rattle.std.specs.List.{AllByRecursion}
use Rattle.std.specs.Int.{w32, to_be_bytes}
use Rattle.std.proofs.lemmas.Bool.{cases_lt}
use Rattle.std.proofs.lemmas.List.{length-take, length-append, take_at, drop_all}
use Rattle.pp_terms.specs.format.Descriptor.{Descriptor}
use Rattle.pp_terms.specs.format.Options.{IsBytes}
use Rattle.pp_terms.specs.format.Messages.{Message, Handshake}
use Rattle.pp_terms.proofs.MessageLaws.{wide32, IsBytes-take}
use Rattle.pp_draft.specs.declared.note.Note.{Note}
use Rattle.pp_draft.specs.Notes.{own_options, Says, SayAll}
use Rattle.pp_draft.specs.Datagrams.{spelled, IsDatagram}
use Rattle.pp_draft.specs.Puts.{Stands, Adds, Lacks, Puts, IsFront}
use Rattle.pp_draft.specs.Posts.{Fills, Packs, PacksBehind, LacksRoom}
use Rattle.pp_draft.proofs.Reading.{AreInOrder, in_order, datagram_of_text, spelled_more}

-- a channel's number alone
pub begun : (d : Descriptor) (front old : List ℕ) (channel : ℕ) → front ≡ to_be_bytes w32 channel → 4 ≤ length old → IsFront d channel [] 4 (front ++ drop 4 old)
begun d front old channel is some =
    let four : length front ≡ 4 = ap length is ∙ wide32.len channel in
    record {
      within = omega (arith, length-append front (drop 4 old), four);
      text = take_at front (drop 4 old) 4 four ∙ is ∙ sym (append-nil (to_be_bytes w32 channel));
      stand = tt;
    }

all_append : {X : Type 0} (P : X → Type 0) (xs ys : List X) → AllByRecursion P xs → AllByRecursion P ys → AllByRecursion P (xs ++ ys)
all_append P [] ys a b = b
all_append P (x ∷ xs) ys a b = (a.0, all_append P xs ys a.1 b)

pub front_more : (d : Descriptor) (channel : ℕ) (ms own : List Message) (at end : ℕ) (old new : List ℕ) → IsFront d channel ms at old → Adds d own old at end new → IsFront d channel (ms ++ own) end new
front_more d channel ms own at end old new front adds = record {
  within = adds.within;
  text = adds.text ∙ ap (λ (t : List ℕ). t ++ spelled d.method own) front.text
      ∙ append_assoc (to_be_bytes w32 channel) (spelled d.method ms) (spelled d.method own)
      ∙ ap (λ (t : List ℕ). to_be_bytes w32 channel ++ t) (sym (spelled_more d.method ms own));
  stand = all_append (Stands d) ms own front.stand adds.stand;
}

-- what was put before stays where no more has room
front_stays : (d : Descriptor) (channel : ℕ) (ms own : List Message) (at : ℕ) (old new : List ℕ) → IsFront d channel ms at old → length new ≡ length old → Lacks d own old at new → IsFront d channel ms at new
front_stays d channel ms own at old new front same lacks = record {
  within = let within = front.within in omega (arith, same);
  text = lacks.front ∙ front.text;
  stand = front.stand;
}

says_more : (d : Descriptor) (notes : List Note) (k : ℕ) (x : Note) (ms own : List Message) → k < length notes → SayAll d (take k notes) ms → Says d (get_or notes k x) own
    → SayAll d (take (suc k) notes) (ms ++ own)
says_more d [] k x ms own lt all says = absurd (omega arith)
says_more d (n ∷ notes) zero x ms own lt all says = (own, [], says, refl, ap (λ (t : List Message). t ++ own) all ∙ sym (append-nil own))
says_more d (n ∷ notes) (suc k) x ms own lt all says = (
  all.0,
  all.1 ++ own,
  all.2,
  says_more d notes k x all.1 own (omega arith) all.3 says,
  ap (λ (t : List Message). t ++ own) all.4 ∙ append_assoc all.0 all.1 own,
)

-- Behind what stood in a buffer up to a place the first notes came, so many.
pub record HasFilled (d : Descriptor) (notes : List Note) (from : ℕ) (old : List ℕ) (k end : ℕ) (out : List ℕ) : Type 0 where
  pub messages : List Message
  pub said : SayAll d (take k notes) messages
  pub front : (channel : ℕ) (before : List Message) → IsFront d channel before from old → IsFront d channel (before ++ messages) end out
  pub end_is : end ≤ length out

pub filled_none : (d : Descriptor) (notes : List Note) (from : ℕ) (out : List ℕ) → from ≤ length out → HasFilled d notes from out 0 from out
filled_none d notes from out within = record {
  messages = [];
  said = refl;
  front = λ channel before front. subst (λ (ms : List Message). IsFront d channel ms from out) (sym (append-nil before)) front;
  end_is = within;
}

pub filled_more : (d : Descriptor) (notes : List Note) (from : ℕ) (initial : List ℕ) (k end next : ℕ) (x : Note) (old new : List ℕ) → k < length notes → HasFilled d notes from initial k end old
    → Puts d (Says d (get_or notes k x)) old end (Some next) new → HasFilled d notes from initial (k + 1) next new
filled_more d notes from initial k end next x old new lt filled puts =
    let up : suc k ≡ k + 1 = omega arith in
    let adds : Adds d puts.messages old end next new = puts.outcome in
    subst (λ (n : ℕ). HasFilled d notes from initial n next new) up (record {
      messages = filled.messages ++ puts.messages;
      said = says_more d notes k x filled.messages puts.messages lt filled.said puts.hold;
      front = λ channel before front.
          subst (λ (ms : List Message). IsFront d channel ms next new) (append_assoc before filled.messages puts.messages)
          (front_more d channel (before ++ filled.messages) puts.messages end next old new (filled.front channel before front) adds);
      end_is = adds.within;
    })

pub front_datagram : (d : Descriptor) (channel : ℕ) (ms : List Message) (end : ℕ) (out : List ℕ) → 0 < d.chunk → channel < 2 ^ 32 → IsBytes out → length out ≡ 16384
    → IsFront d channel ms end out → IsDatagram d channel ms (take end out)
front_datagram d channel ms end out some low fits size front =
    datagram_of_text d channel ms (take end out) some low (IsBytes-take end out fits) (omega (arith, length-take end out, size)) front.text
    (subst (AreInOrder d) (append-nil ms) (in_order d ms [] front.stand tt))

drop_at_index : (notes : List Note) (k : ℕ) (x : Note) → k < length notes → drop k notes ≡ get_or notes k x ∷ drop (suc k) notes
drop_at_index [] k x lt = absurd (omega arith)
drop_at_index (n ∷ notes) zero x lt = refl
drop_at_index (n ∷ notes) (suc k) x lt = drop_at_index notes k x (omega arith)

-- all notes have room
pub fills_all : (d : Descriptor) (notes : List Note) (from : ℕ) (old : List ℕ) (k count end : ℕ) (out : List ℕ) → count ≡ k → k ≤ length notes → length notes ≤ k
    → HasFilled d notes from old k end out → Fills d notes from old count end out
fills_all d notes from old k count end out same within all filled =
    subst (λ (n : ℕ). Fills d notes from old n end out) (sym same) (record {
      messages = filled.messages;
      said = filled.said;
      front = filled.front;
      end_is = filled.end_is;
      within = within;
      some = λ low any. omega arith;
      full = subst (λ (rest : List Note). LacksRoom d (take end out) rest) (sym (drop_all k notes all)) tt;
    })

-- one has none
pub fills_some : (d : Descriptor) (notes : List Note) (from : ℕ) (initial : List ℕ) (k count end : ℕ) (x : Note) (old new : List ℕ) → count ≡ k → length old ≡ 16384
    → length new ≡ length old → k < length notes → (k ≡ 0 → end ≡ from) → HasFilled d notes from initial k end old
    → Puts d (Says d (get_or notes k x)) old end None new → Fills d notes from initial count end new
fills_some d notes from initial k count end x old new same size kept lt first filled puts =
    let lacks : Lacks d puts.messages old end new = puts.outcome in
    let end_is = filled.end_is in
    let long = lacks.long in
    let short = lacks.short in
    subst (λ (n : ℕ). Fills d notes from initial n end new) (sym same) (record {
      messages = filled.messages;
      said = filled.said;
      front = λ channel before front. front_stays d channel (before ++ filled.messages) puts.messages end old new (filled.front channel before front) kept lacks;
      end_is = omega (arith, kept);
      within = omega arith;
      some = λ low any. elim (cases_lt 0 k) [
        | inl more ↦ more
        | inr none ↦ absurd (let begun : end ≡ from = first (omega arith) in omega (arith, size))
      ];
      full = subst (λ (rest : List Note). LacksRoom d (take end new) rest) (sym (drop_at_index notes k x lt))
          (puts.messages, puts.hold, omega (arith, size, length-take end new));
    })

-- a datagram of the notes alone, and one of a handshake before them
pub packs_filled : (d : Descriptor) (channel : ℕ) (notes : List Note) (from count end : ℕ) (begun out : List ℕ) → 0 < d.chunk → channel < 2 ^ 32 → IsBytes out → length out ≡ 16384
    → 0 < length notes → from ≡ 4 → IsFront d channel [] from begun → Fills d notes from begun count end out → Packs d channel notes count (take end out)
packs_filled d channel notes from count end begun out some low fits size any early front f = record {
  messages = f.messages;
  said = f.said;
  written = front_datagram d channel f.messages end out some low fits size (f.front channel [] front);
  some = f.some (omega (arith, early)) any;
  within = f.within;
  full = f.full;
}

pub packs_behind : (d : Descriptor) (channel source : ℕ) (notes : List Note) (count from end : ℕ) (greeted out : List ℕ) → 0 < d.chunk → channel < 2 ^ 32 → IsBytes out
    → length out ≡ 16384 → from ≤ 12288 → IsFront d channel (Handshake source (own_options d) ∷ []) from greeted → Fills d notes from greeted count end out
    → PacksBehind d channel source notes count (take end out)
packs_behind d channel source notes count from end greeted out some low fits size early front f = record {
  messages = f.messages;
  said = f.said;
  written = front_datagram d channel (Handshake source (own_options d) ∷ f.messages) end out some low fits size (f.front channel (Handshake source (own_options d) ∷ []) front);
  some = f.some early;
  within = f.within;
  full = f.full;
}

-- a handshake is put at the front of a datagram
pub greeted_front : (d : Descriptor) (channel source from end : ℕ) (begun new : List ℕ) → IsFront d channel [] from begun
    → Puts d (λ ms. ms ≡ Handshake source (own_options d) ∷ []) begun from (Some end) new → IsFront d channel (Handshake source (own_options d) ∷ []) end new
greeted_front d channel source from end begun new front puts =
    subst (λ (ms : List Message). IsFront d channel ms end new) puts.hold (front_more d channel [] puts.messages from end begun new front puts.outcome)

-- it has room there
pub greeted_room : (d : Descriptor) (source from : ℕ) (begun new : List ℕ) → from ≡ 4 → length begun ≡ 16384
    → Puts d (λ ms. ms ≡ Handshake source (own_options d) ∷ []) begun from None new → ⊥
greeted_room d source from begun new early size puts =
    let lacks : Lacks d puts.messages begun from new = puts.outcome in
    let long = lacks.long in
    let short = lacks.short in
    absurd (omega (arith, early, size, long, short))
