-- Notes without a CHOKE go as records without one.
use Rattle.std.proofs.Common.{◌≡◌, ⊎_elim, ℕ, Bool, true, false, Option, Some, None, List, [], ◌∷◌, ◌++◌, map, refl, sym, ◌∙◌, ap}
use Rattle.std.specs.List.{AllByRecursion, list_any}
use Rattle.std.proofs.lemmas.Bool.{cases_Bool, false≢true, or_from, or_parts}
use Rattle.std.proofs.lemmas.List.Folds.{list_any-append}
use Rattle.pp_terms.specs.format.Descriptor.{Descriptor, Method}
use Rattle.pp_terms.specs.format.Messages as plain
use Rattle.pp_terms.specs.format.Messages.{Message}
use Rattle.pp_terms.specs.format.Traffic.{Record, Received, Quiet, Sent}
use Rattle.pp_terms.specs.tree.Book.{LookUp}
use Rattle.pp_terms.specs.tree.Range.{Span}
use Rattle.pp_terms.specs.tree.Tree.{Node}
use Rattle.pp_promises.specs.Answered.{chokes, is_choke}
use Rattle.pp_draft.specs.declared.note.Note.{Note}
use Rattle.pp_draft.specs.declared.note.Note.TheVariants.{KeepAlive, Handshake, Close, Choke, Unchoke, Ack, Have, Request, Cancel, PexReq, Pex4, Pex6}
use Rattle.pp_draft.specs.Datagrams.{delivery}
use Rattle.pp_draft.specs.Notes.{NamesRange}
use Rattle.pp_agenda.specs.Laws.{is_choke as is_choke_note}
use Rattle.pp_seat.specs.Seats.{SeatState}
use Rattle.pp_desk.specs.Steps.{Moves, IsAfter, AreAfter, Follow}
use Rattle.pp_desk.specs.Delivers.{Way, Batch, At, DeliversEach, GoesIf, Goes}
use Rattle.pp_core.specs.Remembering.{IsChokeless}
use Rattle.pp_core.proofs.Unsaid.{IsTest, IsNotIn, IsNotRead}

-- ---- records without a CHOKE

pub chokeless_twice : (d : Descriptor) (rs past : List Record) → IsChokeless d rs → IsChokeless d past → IsChokeless d (rs ++ past)
chokeless_twice d rs past one two = list_any-append (chokes d) rs past ∙ or_from (list_any (chokes d) rs) (list_any (chokes d) past) one two

choke_read : (d : Descriptor) (r : Record) → IsNotRead d (list_any is_choke) r → chokes d r ≡ false
choke_read d (Received at sender bytes) none = refl
choke_read d (Quiet at) none = refl
choke_read d (Sent moment receiver bytes) none = none

pub all_chokeless : (d : Descriptor) (rs : List Record) → AllByRecursion (IsNotRead d (list_any is_choke)) rs → IsChokeless d rs
all_chokeless d [] all = refl
all_chokeless d (r ∷ rs) all = or_from (chokes d r) (list_any (chokes d) rs) (choke_read d r all.0) (all_chokeless d rs all.1)

delivery_none : (book : LookUp) (nodes : List Node) (chunk sent_at : ℕ) (bytes : List ℕ)
    → list_any is_choke (delivery book nodes chunk sent_at bytes) ≡ false
delivery_none book [] chunk sent_at bytes = refl
delivery_none book (n ∷ nodes) chunk sent_at bytes = delivery_none book nodes chunk sent_at bytes

pub choke_test : (d : Descriptor) → IsTest d (list_any is_choke)
choke_test d = record {
  none = refl;
  split = λ ms more. list_any-append is_choke ms more;
  greeting = λ source some. refl;
  chunk = delivery_none;
}

-- ---- notes without a CHOKE

mapped_none : (make : Span → Message) → ((s : Span) → is_choke (make s) ≡ false) → (spans : List Span) → list_any is_choke (map make spans) ≡ false
mapped_none make none [] = refl
mapped_none make none (s ∷ spans) = or_from (is_choke (make s)) (list_any is_choke (map make spans)) (none s) (mapped_none make none spans)

named_none : (method : Method) (range : Span) (make : Span → Message) (ms : List Message) → ((s : Span) → is_choke (make s) ≡ false)
    → NamesRange method range make ms → list_any is_choke ms ≡ false
named_none method range make ms none n = ap (list_any is_choke) n.messages ∙ mapped_none make none n.spans

note_none : (d : Descriptor) (n : Note) → is_choke_note n ≡ false → IsNotIn d (list_any is_choke) n
note_none d Choke none ms says = absurd (false≢true (sym none))
note_none d (Ack range delay) none ms says = named_none d.method range (λ span. plain.Ack span delay) ms (λ s. refl) says
note_none d (Have range) none ms says = named_none d.method range (λ span. plain.Have span) ms (λ s. refl) says
note_none d (Request range) none ms says = named_none d.method range (λ span. plain.Request span) ms (λ s. refl) says
note_none d (Cancel range) none ms says = named_none d.method range (λ span. plain.Cancel span) ms (λ s. refl) says
note_none d KeepAlive none ms says = ap (list_any is_choke) says
note_none d (Handshake source) none ms says = ap (list_any is_choke) says
note_none d Close none ms says = ap (list_any is_choke) says
note_none d Unchoke none ms says = ap (list_any is_choke) says
note_none d PexReq none ms says = ap (list_any is_choke) says
note_none d (Pex4 address port) none ms says = ap (list_any is_choke) says
note_none d (Pex6 address port) none ms says = ap (list_any is_choke) says

pub notes_none : (d : Descriptor) (notes : List Note) → list_any is_choke_note notes ≡ false → AllByRecursion (IsNotIn d (list_any is_choke)) notes
notes_none d [] none = tt
notes_none d (n ∷ notes) none =
    let parts = or_parts (is_choke_note n) (list_any is_choke_note notes) none in
    (note_none d n parts.0, notes_none d notes parts.1)

-- ---- what is due once notes went

moved_owes : (back : Bool) (end : ℕ) (old new : SeatState) → Moves back end old new → new.owes ≡ old.owes
moved_owes true end old new m = ap (λ (s : SeatState). s.owes) m
moved_owes false end old new m = ap (λ (s : SeatState). s.owes) m

note_owes : (now : ℕ) (back : Bool) (n : Note) (old new : SeatState) → IsAfter now back n old new → old.owes ≡ false → new.owes ≡ false
note_owes now back Choke old new after idle = ap (λ (s : SeatState). s.owes) after
note_owes now back Unchoke old new after idle = ⊎_elim
    (λ choked. ap (λ (s : SeatState). s.owes) (after.0 choked))
    (λ free. ap (λ (s : SeatState). s.owes) (after.1 free) ∙ idle)
    (cases_Bool old.choked)
note_owes now back (Have range) old new after idle = moved_owes back _ old new after ∙ idle
note_owes now back (Request range) old new after idle = ap (λ (s : SeatState). s.owes) after.0 ∙ idle
note_owes now back (Cancel range) old new after idle = ap (λ (s : SeatState). s.owes) after.0 ∙ idle
note_owes now back PexReq old new after idle = ap (λ (s : SeatState). s.owes) after ∙ idle
note_owes now back (Pex4 address port) old new after idle = ap (λ (s : SeatState). s.owes) after ∙ idle
note_owes now back (Pex6 address port) old new after idle = ap (λ (s : SeatState). s.owes) after ∙ idle
note_owes now back KeepAlive old new after idle = ap (λ (s : SeatState). s.owes) after ∙ idle
note_owes now back (Handshake source) old new after idle = ap (λ (s : SeatState). s.owes) after ∙ idle
note_owes now back Close old new after idle = ap (λ (s : SeatState). s.owes) after ∙ idle
note_owes now back (Ack range delay) old new after idle = ap (λ (s : SeatState). s.owes) after ∙ idle

notes_owe : (now : ℕ) (back : Bool) (notes : List Note) (old new : SeatState) → AreAfter now back notes old new → old.owes ≡ false
    → new.owes ≡ false
notes_owe now back [] old new after idle = ap (λ (s : SeatState). s.owes) after ∙ idle
notes_owe now back (n ∷ notes) old new after idle = notes_owe now back notes after.0 new after.2 (note_owes now back n old after.0 after.1 idle)

each_owes : (w : Way) (bs : List Batch) (old new : At) → DeliversEach w bs old new → old.seat.owes ≡ false → new.seat.owes ≡ false
each_owes w [] old new d idle = ap (λ (x : At). x.seat.owes) d ∙ idle
each_owes w (b ∷ bs) old new d idle = each_owes w bs d.0 new d.2 (of b.sent d.1.seat)
  where
    of : (sent : Bool) → Follow w.now old.so_far.set_back sent b.notes old.seat d.0.seat → d.0.seat.owes ≡ false
    of true f = notes_owe w.now old.so_far.set_back b.notes old.seat d.0.seat f.after idle
    of false f = ap (λ (s : SeatState). s.owes) f ∙ idle

pub goes_owes : (opening : Option ℕ) (w : Way) (notes : List Note) (old new : At) → Goes opening w notes old new → old.seat.owes ≡ false
    → new.seat.owes ≡ false
goes_owes None w notes old new g idle = each_owes w g.batches old new g.each idle
goes_owes (Some source) w notes old new g idle = of g.0 g.1
  where
    of : (taken : Bool) → GoesIf taken source w notes old new → new.seat.owes ≡ false
    of true h = each_owes w h.delivers.batches old new h.delivers.each idle
    of false h = ap (λ (s : SeatState). s.owes) h.seat ∙ idle
