-- Messages of which no datagram that a link gains has one.
use Rattle.std.proofs.Common.{◌≡◌, ℕ, ◌<◌, Bool, true, false, ◌||◌, Option, Some, None, List, [], ◌∷◌, ◌++◌, refl, sym, ◌∙◌, ap, subst}
use Rattle.std.specs.List.{AllByRecursion}
use Rattle.pp_terms.specs.format.Descriptor.{Descriptor}
use Rattle.pp_terms.specs.format.Messages as plain
use Rattle.pp_terms.specs.format.Messages.{Datagram, Message}
use Rattle.pp_terms.specs.format.Traffic.{Address, Record, Sent, LinkState, GainsRecords}
use Rattle.pp_terms.specs.tree.Book.{LookUp}
use Rattle.pp_terms.specs.tree.Tree.{Node}
use Rattle.pp_terms.proofs.Risings.{gains_nothing, gains_twice}
use Rattle.pp_traffic.specs.Past.{read}
use Rattle.pp_draft.specs.declared.note.Note.{Note}
use Rattle.pp_draft.specs.declared.note.Note.TheVariants.{Handshake}
use Rattle.pp_draft.specs.Datagrams.{IsDatagram, delivery}
use Rattle.pp_draft.specs.Notes.{own_options, Says, SayAll}
use Rattle.pp_draft.specs.Posts.{Sends}
use Rattle.pp_desk.specs.Delivers.{Way, Batch, At, DeliversEach, GoesIf, Goes, notes_of}
use Rattle.pp_agenda.proofs.Parts.{all_both}

-- ---- tests

-- A test of messages, one after the other, that is false of this peer's handshakes and of a chunk behind its hashes.
pub record IsTest (d : Descriptor) (test : List Message → Bool) : Type 0 where
  pub none : test [] ≡ false
  pub split : (ms more : List Message) → test (ms ++ more) ≡ (test ms || test more)
  pub greeting : (source : ℕ) → 0 < source → test (plain.Handshake source (own_options d) ∷ []) ≡ false
  pub chunk : (book : LookUp) (nodes : List Node) (chunk sent_at : ℕ) (bytes : List ℕ) → test (delivery book nodes chunk sent_at bytes) ≡ false

-- It is false of whatever a note stands for.
abbrev pub IsNotIn : Descriptor → (List Message → Bool) → Note → Type 0
IsNotIn d test n = (ms : List Message) → Says d n ms → test ms ≡ false

-- It is false of what is read of a record.
abbrev pub IsNotRead : Descriptor → (List Message → Bool) → Record → Type 0
IsNotRead d test r = test (read d r).messages.read ≡ false

-- what notes say, of each of which it is false
pub none_said : (d : Descriptor) (test : List Message → Bool) → IsTest d test → (notes : List Note) (ms : List Message)
    → AllByRecursion (IsNotIn d test) notes → SayAll d notes ms → test ms ≡ false
none_said d test t [] ms all said = ap test said ∙ t.none
none_said d test t (n ∷ notes) ms all said =
    ap test said.4 ∙ t.split said.0 said.1 ∙ (λ i. all.0 said.0 said.2 i || none_said d test t notes said.1 all.1 said.3 i)

-- what is read of a datagram is what was written
pub none_read : (d : Descriptor) (test : List Message → Bool) (moment channel : ℕ) (receiver : Address) (ms : List Message) (bytes : List ℕ)
    → IsDatagram d channel ms bytes → test ms ≡ false → IsNotRead d test (Sent moment receiver bytes)
none_read d test moment channel receiver ms bytes written unsaid = ap (λ (x : Datagram). test x.messages.read) written.read ∙ unsaid

-- ---- links

-- The link gained records of none of which the test is true.
pub record GainsNone (d : Descriptor) (test : List Message → Bool) (link later : LinkState) : Type 0 where
  pub added : List Record
  pub gained : GainsRecords link.traffic added later.traffic
  pub none : AllByRecursion (IsNotRead d test) added

pub gains_still : (d : Descriptor) (test : List Message → Bool) (link later : LinkState) → later.traffic ≡ link.traffic → GainsNone d test link later
gains_still d test link later same = record { added = []; gained = gains_nothing link.traffic later.traffic same; none = tt }

pub gains_both : (d : Descriptor) (test : List Message → Bool) (a b c : LinkState) → GainsNone d test a b → GainsNone d test b c
    → GainsNone d test a c
gains_both d test a b c one two = record {
  added = two.added ++ one.added;
  gained = gains_twice a.traffic b.traffic c.traffic one.added two.added one.gained two.gained;
  none = all_both (IsNotRead d test) two.added one.added two.none one.none;
}

pub sent_gains : (d : Descriptor) (test : List Message → Bool) (moment channel : ℕ) (receiver : Address) (ms : List Message) (bytes : List ℕ)
    (link later : LinkState) (sent : Bool) → Sends receiver bytes moment link later sent → IsDatagram d channel ms bytes → test ms ≡ false
    → GainsNone d test link later
sent_gains d test moment channel receiver ms bytes link later true s written unsaid = record {
  added = Sent moment receiver bytes ∷ [];
  gained = s.outcome;
  none = (none_read d test moment channel receiver ms bytes written unsaid, tt);
}
sent_gains d test moment channel receiver ms bytes link later false s written unsaid = gains_still d test link later s.outcome.0

-- where a swarm is the same
pub gains_on : (d other : Descriptor) (test : List Message → Bool) (link later : LinkState) → other ≡ d → IsTest d test
    → (IsTest other test → GainsNone other test link later) → GainsNone d test link later
gains_on d other test link later same t by =
    subst (λ (x : Descriptor). GainsNone x test link later) same (by (subst (λ (x : Descriptor). IsTest x test) (sym same) t))

-- ---- notes that are delivered

all_parts : (P : Note → Type 0) (xs ys : List Note) → AllByRecursion P (xs ++ ys) → AllByRecursion P xs × AllByRecursion P ys
all_parts P [] ys all = (tt, all)
all_parts P (x ∷ xs) ys all = let rest = all_parts P xs ys all.1 in ((all.0, rest.0), rest.1)

module _ (w : Way) (test : List Message → Bool) (t : IsTest w.d test) where
  each_gains : (bs : List Batch) (old new : At) → DeliversEach w bs old new → AllByRecursion (IsNotIn w.d test) (notes_of bs)
      → GainsNone w.d test old.link new.link
  each_gains [] old new h all = gains_still w.d test old.link new.link (ap (λ (a : At). a.link.traffic) h)
  each_gains (b ∷ bs) old new h all =
      let parts = all_parts (IsNotIn w.d test) b.notes (notes_of bs) all in
      gains_both w.d test old.link h.0.link new.link
      (sent_gains w.d test w.moment w.channel w.receiver b.messages b.bytes old.link h.0.link b.sent h.1.goes h.1.written
      (none_said w.d test t b.notes b.messages parts.0 h.1.said))
      (each_gains bs h.0 new h.2 parts.1)

  -- behind this peer's handshake or not
  pub goes_gains : (opening : Option ℕ) (notes : List Note) (old new : At) → ((source : ℕ) → opening ≡ Some source → 0 < source)
      → AllByRecursion (IsNotIn w.d test) notes → Goes opening w notes old new → GainsNone w.d test old.link new.link
  goes_gains None notes old new some all g =
      each_gains g.batches old new g.each (subst (λ (ns : List Note). AllByRecursion (IsNotIn w.d test) ns) (sym g.each_once) all)
  goes_gains (Some source) notes old new some all g = of g.0 g.1
    where
      greets : IsNotIn w.d test (Handshake source)
      greets ms said = ap test said ∙ t.greeting source (some source refl)

      of : (taken : Bool) → GoesIf taken source w notes old new → GainsNone w.d test old.link new.link
      of true h = each_gains h.delivers.batches old new h.delivers.each
          (subst (λ (ns : List Note). AllByRecursion (IsNotIn w.d test) ns) (sym h.delivers.each_once) (greets, all))
      of false h = gains_still w.d test old.link new.link h.goes.outcome.0
