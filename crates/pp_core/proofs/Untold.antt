-- Records that tell of no chunk of some on a channel.
use Rattle.std.proofs.Common.{◌≡◌, ⊎_elim, ℕ, ◌<◌, ◌≤◌, leb, eqb, Bool, true, false, cond, not, ◌||◌, Option, Some, None, List, [], ◌∷◌, ◌++◌, map, refl, sym, ◌∙◌, ap, subst, arith}
use Rattle.std.specs.List.{AllByRecursion, list_any}
use Rattle.std.proofs.lemmas.Bool.{cases_Bool, eqb-true, or_parts, and_parts, leb-true}
use Rattle.std.proofs.lemmas.List.Folds.{list_any-append}
use Rattle.pp_terms.specs.format.Descriptor.{Descriptor, Method}
use Rattle.pp_terms.specs.format.Messages as plain
use Rattle.pp_terms.specs.format.Messages.{Datagram, Message, Handshake}
use Rattle.pp_terms.specs.format.Traffic.{Address, same_address, Record, Sent, LinkState, GainsRecords}
use Rattle.pp_terms.specs.tree.Book.{LookUp}
use Rattle.pp_terms.specs.tree.Range.{Span, within}
use Rattle.pp_terms.specs.tree.Tree.{Node}
use Rattle.pp_terms.proofs.Risings.{gains_nothing, gains_twice}
use Rattle.pp_traffic.specs.Life.{Life}
use Rattle.pp_traffic.specs.Past.{read, goes_to, is_number}
use Rattle.pp_traffic.specs.Story.{behind}
use Rattle.pp_promises.specs.Announced.{tells_of}
use Rattle.pp_promises.specs.OwnSide.{has_in}
use Rattle.pp_lives.proofs.Sent.{same_is}
use Rattle.pp_draft.specs.Datagrams.{IsDatagram, delivery}
use Rattle.pp_draft.specs.Notes.{NamesRange, SayAll}
use Rattle.pp_draft.specs.Posts.{Sends}
use Rattle.pp_draft.specs.declared.note.Note.{Note}
use Rattle.pp_draft.specs.declared.note.Note.TheVariants as notes
use Rattle.pp_draft.specs.declared.note.Note.TheVariants.{KeepAlive, Close, Choke, Unchoke, Ack, Have, Request, Cancel, PexReq, Pex4, Pex6}
use Rattle.pp_desk.proofs.Splits.{names_split}
use Rattle.pp_desk.specs.Delivers.{Way, Batch, At, DeliversEach, GoesIf, Goes, notes_of}
use Rattle.pp_desk.specs.Steps.{cursor_behind, cursor_after}
use Rattle.pp_seats.specs.Sending.{tells_note}
use Rattle.pp_agenda.proofs.Parts.{all_both}
use Rattle.pp_core.proofs.Delivered.{any_mapped}
use Rattle.pp_core.proofs.Unsaid.{IsTest, IsNotIn, IsNotRead, GainsNone}

-- ---- records

-- A record is no HAVE of the chunk on the life.
abbrev pub IsUntold : Descriptor → Life → ℕ → Record → Type 0
IsUntold d life i r = tells_of d life i r ≡ false

-- what stands behind a handshake has no HAVE that the whole hasn't
behind_untold : (number i : ℕ) (ms : List Message) → list_any (has_in i) ms ≡ false → list_any (has_in i) (behind number ms) ≡ false
behind_untold number i [] e = refl
behind_untold number i (Handshake source options ∷ ms) e = of (eqb source number) (behind_untold number i ms e)
  where
    of : (b : Bool) → list_any (has_in i) (behind number ms) ≡ false → list_any (has_in i) (cond b ms (behind number ms)) ≡ false
    of true rest = e
    of false rest = rest
behind_untold number i (m ∷ ms) e = behind_untold number i ms (or_parts (has_in i m) (list_any (has_in i) ms) e).1

-- a record without such a HAVE
pub read_untold : (d : Descriptor) (life : Life) (i : ℕ) (r : Record) → IsNotRead d (list_any (has_in i)) r → IsUntold d life i r
read_untold d life i r e = of (goes_to life.address r) (is_number life.remote (read d r).channel) (is_number 0 (read d r).channel)
  where
    of : (x y z : Bool) → list_any (has_in i) (cond (not x) []
        (cond y (read d r).messages.read (cond z (behind life.local (read d r).messages.read) []))) ≡ false
    of false y z = refl
    of true true z = e
    of true false true = behind_untold life.local i (read d r).messages.read e
    of true false false = refl

-- one to another address, or to another number there
pub elsewhere_untold : (d : Descriptor) (life : Life) (i moment number : ℕ) (receiver : Address) (ms : List Message) (bytes : List ℕ)
    → IsDatagram d number ms bytes → 0 < number → (receiver ≡ life.address → number ≡ life.remote → ⊥)
    → IsUntold d life i (Sent moment receiver bytes)
elsewhere_untold d life i moment number receiver ms bytes written some apart =
    of (same_address receiver life.address) refl (is_number life.remote (read d r).channel) refl (is_number 0 (read d r).channel) refl
  where
    r : Record
    r = Sent moment receiver bytes

    number_is : (k : ℕ) → is_number k (read d r).channel ≡ true → number ≡ k
    number_is k e = eqb-true number k (sym (ap (λ (x : Datagram). is_number k x.channel) written.read) ∙ e)

    of : (x : Bool) → same_address receiver life.address ≡ x → (y : Bool) → is_number life.remote (read d r).channel ≡ y
        → (z : Bool) → is_number 0 (read d r).channel ≡ z → list_any (has_in i) (cond (not x) []
        (cond y (read d r).messages.read (cond z (behind life.local (read d r).messages.read) []))) ≡ false
    of false a y b z c = refl
    of true a true b z c = absurd (apart (same_is receiver life.address a) (number_is life.remote b))
    of true a false b true c = absurd (let none = number_is 0 c in omega (arith, none, some))
    of true a false b false c = refl

-- ---- the test of messages

delivery_untold : (i : ℕ) (book : LookUp) (nodes : List Node) (chunk sent_at : ℕ) (bytes : List ℕ)
    → list_any (has_in i) (delivery book nodes chunk sent_at bytes) ≡ false
delivery_untold i book [] chunk sent_at bytes = refl
delivery_untold i book (n ∷ nodes) chunk sent_at bytes = delivery_untold i book nodes chunk sent_at bytes

pub have_test : (d : Descriptor) (i : ℕ) → IsTest d (list_any (has_in i))
have_test d i = record {
  none = refl;
  split = λ ms more. list_any-append (has_in i) ms more;
  greeting = λ source some. refl;
  chunk = delivery_untold i;
}

named_untold : (i : ℕ) (method : Method) (range : Span) (make : Span → Message) (ms : List Message) → ((s : Span) → has_in i (make s) ≡ false)
    → NamesRange method range make ms → list_any (has_in i) ms ≡ false
named_untold i method range make ms passes n = ap (λ (xs : List Message). list_any (has_in i) xs) n.messages ∙ all n.spans
  where
    all : (spans : List Span) → list_any (has_in i) (map make spans) ≡ false
    all [] = refl
    all (s ∷ spans) = λ t. passes s t || all spans t

-- what a note says that doesn't tell of the chunk
pub note_untold : (d : Descriptor) (i : ℕ) (n : Note) → tells_note i n ≡ false → IsNotIn d (list_any (has_in i)) n
note_untold d i KeepAlive e ms said = ap (λ (xs : List Message). list_any (has_in i) xs) said
note_untold d i (notes.Handshake source) e ms said = ap (λ (xs : List Message). list_any (has_in i) xs) said
note_untold d i Close e ms said = ap (λ (xs : List Message). list_any (has_in i) xs) said
note_untold d i Choke e ms said = ap (λ (xs : List Message). list_any (has_in i) xs) said
note_untold d i Unchoke e ms said = ap (λ (xs : List Message). list_any (has_in i) xs) said
note_untold d i (Ack range delay) e ms said = named_untold i d.method range (λ span. plain.Ack span delay) ms (λ s. refl) said
note_untold d i (Have range) e ms said =
    ap (λ (xs : List Message). list_any (has_in i) xs) said.messages
    ∙ any_mapped (has_in i) (λ span. plain.Have span) i (λ s. refl) said.spans
    ∙ names_split d.method range said.spans said.names i ∙ e
note_untold d i (Request range) e ms said = named_untold i d.method range (λ span. plain.Request span) ms (λ s. refl) said
note_untold d i (Cancel range) e ms said = named_untold i d.method range (λ span. plain.Cancel span) ms (λ s. refl) said
note_untold d i PexReq e ms said = ap (λ (xs : List Message). list_any (has_in i) xs) said
note_untold d i (Pex4 address port) e ms said = ap (λ (xs : List Message). list_any (has_in i) xs) said
note_untold d i (Pex6 address port) e ms said = ap (λ (xs : List Message). list_any (has_in i) xs) said

-- ---- the cursor

behind_grows : (cursor : ℕ) (n : Note) → cursor ≤ cursor_behind cursor n
behind_grows cursor (Have range) = omega arith
behind_grows cursor _ = omega arith

pub after_grows : (cursor : ℕ) (ns : List Note) → cursor ≤ cursor_after cursor ns
after_grows cursor [] = omega arith
after_grows cursor (n ∷ ns) =
    let one = behind_grows cursor n in
    let rest = after_grows (cursor_behind cursor n) ns in
    omega (arith, one, rest)

-- no note tells of a chunk from on where the cursor is behind them
pub below_after : (i cursor : ℕ) (ns : List Note) → cursor_after cursor ns ≤ i → AllByRecursion (λ n. tells_note i n ≡ false) ns
below_after i cursor [] high = tt
below_after i cursor (Have range ∷ ns) high =
    let rest = after_grows (cursor_behind cursor (Have range)) ns in
    (outside (omega (arith, rest, high)), below_after i (cursor_behind cursor (Have range)) ns high)
  where
    outside : range.last < i → within range i ≡ false
    outside lt = ⊎_elim
        (λ inside. absurd (let last = leb-true i range.last (and_parts (leb range.first i) (leb i range.last) inside).1 in omega (arith, last, lt)))
        (λ none. none)
        (cases_Bool (within range i))
below_after i cursor (_ ∷ ns) high = (refl, below_after i cursor ns high)

-- ---- links

-- The link gained such records alone.
pub record GainsOnly (P : Record → Type 0) (link later : LinkState) : Type 0 where
  pub added : List Record
  pub gained : GainsRecords link.traffic added later.traffic
  pub all : AllByRecursion P added

pub only_still : (P : Record → Type 0) (link later : LinkState) → later.traffic ≡ link.traffic → GainsOnly P link later
only_still P link later same = record { added = []; gained = gains_nothing link.traffic later.traffic same; all = tt }

pub only_both : (P : Record → Type 0) (a b c : LinkState) → GainsOnly P a b → GainsOnly P b c → GainsOnly P a c
only_both P a b c one two = record {
  added = two.added ++ one.added;
  gained = gains_twice a.traffic b.traffic c.traffic one.added two.added one.gained two.gained;
  all = all_records P two.added one.added two.all one.all;
}
  where
    all_records : (P : Record → Type 0) (xs ys : List Record) → AllByRecursion P xs → AllByRecursion P ys → AllByRecursion P (xs ++ ys)
    all_records P xs ys a b = all_both P xs ys a b

pub weaker : (P Q : Record → Type 0) → ((r : Record) → P r → Q r) → (rs : List Record) → AllByRecursion P rs → AllByRecursion Q rs
weaker P Q by [] all = tt
weaker P Q by (r ∷ rs) all = (by r all.0, weaker P Q by rs all.1)

-- records without such a HAVE
pub none_only : (d : Descriptor) (life : Life) (i : ℕ) (link later : LinkState) → GainsNone d (list_any (has_in i)) link later
    → GainsOnly (IsUntold d life i) link later
none_only d life i link later g = record {
  added = g.added;
  gained = g.gained;
  all = weaker (IsNotRead d (list_any (has_in i))) (IsUntold d life i) (read_untold d life i) g.added g.none;
}

pub one_only : (P : Record → Type 0) (moment : ℕ) (receiver : Address) (bytes : List ℕ) (link later : LinkState) (sent : Bool)
    → Sends receiver bytes moment link later sent → P (Sent moment receiver bytes) → GainsOnly P link later
one_only P moment receiver bytes link later true s is = record { added = Sent moment receiver bytes ∷ []; gained = s.outcome; all = (is, tt) }
one_only P moment receiver bytes link later false s is = only_still P link later s.outcome.0

all_parts : (Q : Note → Type 0) (xs ys : List Note) → AllByRecursion Q (xs ++ ys) → AllByRecursion Q xs × AllByRecursion Q ys
all_parts Q [] ys all = (tt, all)
all_parts Q (x ∷ xs) ys all = let rest = all_parts Q xs ys all.1 in ((all.0, rest.0), rest.1)

-- what is so of each datagram of notes of which each is so
abbrev pub Passes : (Record → Type 0) → (Note → Type 0) → Way → Type 0
Passes P Q w = (ns : List Note) (ms : List Message) (bytes : List ℕ) → AllByRecursion Q ns → SayAll w.d ns ms → IsDatagram w.d w.channel ms bytes
    → P (Sent w.moment w.receiver bytes)

module _ (P : Record → Type 0) (Q : Note → Type 0) (w : Way) (passes : Passes P Q w) where
  each_only : (bs : List Batch) (old new : At) → DeliversEach w bs old new → AllByRecursion Q (notes_of bs) → GainsOnly P old.link new.link
  each_only [] old new h all = only_still P old.link new.link (ap (λ (a : At). a.link.traffic) h)
  each_only (b ∷ bs) old new h all =
      let parts = all_parts Q b.notes (notes_of bs) all in
      only_both P old.link h.0.link new.link
      (one_only P w.moment w.receiver b.bytes old.link h.0.link b.sent h.1.goes
      (passes b.notes b.messages b.bytes parts.0 h.1.said h.1.written))
      (each_only bs h.0 new h.2 parts.1)

  -- behind this peer's handshake or not
  pub goes_only : (opening : Option ℕ) (ns : List Note) (old new : At) → ((source : ℕ) → Q (notes.Handshake source)) → AllByRecursion Q ns
      → Goes opening w ns old new → GainsOnly P old.link new.link
  goes_only None ns old new greets all g =
      each_only g.batches old new g.each (subst (λ (xs : List Note). AllByRecursion Q xs) (sym g.each_once) all)
  goes_only (Some source) ns old new greets all g = of g.0 g.1
    where
      of : (taken : Bool) → GoesIf taken source w ns old new → GainsOnly P old.link new.link
      of true h = each_only h.delivers.batches old new h.delivers.each
          (subst (λ (xs : List Note). AllByRecursion Q xs) (sym h.delivers.each_once) (greets source, all))
      of false h = only_still P old.link new.link h.goes.outcome.0
