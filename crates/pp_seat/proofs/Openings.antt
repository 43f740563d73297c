-- Where a seat begins.
use Rattle.std.proofs.Common.{◌≡◌, ⊎_elim, ℕ, Bool, false, not, Some, None, List, [], ◌∷◌, take, refl, sym, ◌∙◌, ap, arith, Option}
use Rattle.std.proofs.lemmas.Bool.{false≢true, both_ways}
use Rattle.pp_terms.specs.tree.Tree.{Node}
use Rattle.pp_terms.specs.format.Messages.{Message, Data, Ack, Choke, Unchoke, Pex4, PexReq, Pex6}
use Rattle.pp_traffic.specs.Story.{Line, Heard, Said, Taken}
use Rattle.pp_traffic.specs.Asking.{choked}
use Rattle.pp_traffic.specs.Meter.{meter, new_meter, heard_by, ended}
use Rattle.pp_plan.specs.Told.{ToldNodes, knows}
use Rattle.pp_seat.specs.Lines.{asked_since, answer_of, last_answer, question_of, last_question, Tale}
use Rattle.pp_seat.specs.Follows.{Frame, none_lost, Follows, IsIdleSaid, IsUnsaid, Begins}
use Rattle.pp_seat.proofs.Passing.{asks_none}

none_some : (x : ℕ) → None ≡ Some x → ⊥
none_some x e = cc

-- no CHOKE was sent
unchoked_by : (m : Message) (before : List Line) → IsIdleSaid m → choked before ≡ false → choked (Said 0 m ∷ before) ≡ false
unchoked_by (Data chunk sent_at bytes) before h e = absurd h
unchoked_by Choke before h e = absurd h
unchoked_by Unchoke before h e = absurd h
unchoked_by _ before h e = e

none_choked : (story : List Line) → IsUnsaid story → choked story ≡ false
none_choked [] h = refl
none_choked (Heard now m ∷ story) h = none_choked story h
none_choked (Said now m ∷ story) h = unchoked_by m story h.0 (none_choked story h.1)
none_choked (Taken now ∷ story) h = none_choked story h

-- and nothing flies
still_heard : (size now : ℕ) (m : Message) → heard_by now m (new_meter size) ≡ new_meter size
still_heard size now (Ack span delay) = refl
still_heard size now _ = refl

still_said : (size now : ℕ) (m : Message) (story : List Line) → IsIdleSaid m → meter size (Said now m ∷ story) ≡ meter size story
still_said size now (Data chunk sent_at bytes) story h = absurd h
still_said size now _ story h = refl

still : (size : ℕ) (story : List Line) → IsUnsaid story → meter size story ≡ new_meter size
still size [] h = refl
still size (Heard now m ∷ story) h = ap (heard_by now m) (still size story h) ∙ still_heard size now m
still size (Said now m ∷ story) h = still_said size now m story h.0 ∙ still size story h.1
still size (Taken now ∷ story) h = ap (ended now) (still size story h)

-- and no addresses were sent or asked for
unanswered_by : (now : ℕ) (m : Message) (before : Option ℕ) → IsIdleSaid m → answer_of now m before ≡ before
unanswered_by now (Pex4 address port) before h = absurd h
unanswered_by now (Pex6 address port) before h = absurd h
unanswered_by now _ before h = refl

none_answered : (story : List Line) → IsUnsaid story → last_answer story ≡ None
none_answered [] h = refl
none_answered (Heard now m ∷ story) h = none_answered story h
none_answered (Said now m ∷ story) h = unanswered_by now m (last_answer story) h.0 ∙ none_answered story h.1
none_answered (Taken now ∷ story) h = none_answered story h

unasked_by : (now : ℕ) (m : Message) (before : Option ℕ) → IsIdleSaid m → question_of now m before ≡ before
unasked_by now PexReq before h = absurd h
unasked_by now _ before h = refl

none_asked : (story : List Line) → IsUnsaid story → last_question story ≡ None
none_asked [] h = refl
none_asked (Heard now m ∷ story) h = none_asked story h
none_asked (Said now m ∷ story) h = unasked_by now m (last_question story) h.0 ∙ none_asked story h.1
none_asked (Taken now ∷ story) h = none_asked story h

pub opens : (f : Frame) (size : ℕ) (told : ToldNodes) (slot : Bool) (t : Tale) → ((n : Node) → knows told n ≡ false) → told.chunks ≡ f.chunks → f.size ≡ size → Begins f t
    → Follows f none_lost (record {
      list = [];
      window = new_meter size;
      told = told;
      claims = [];
      proven = false;
      slot = slot;
      choked = false;
      owes = not slot;
      own = [];
      chokes = false;
      stopped = false;
      cursor = 0;
      answer = None;
      question = None;
    }) t
opens f size told slot t nothing content size_is begins = record {
  lists = record { runs = tt; inside = λ i e. absurd (false≢true e); asked_for = λ i e. absurd (false≢true e); few = omega arith };
  lacks = λ has_slot. record {
    given = [];
    few = omega arith;
    listed = λ i place few lt is e. ⊎_elim
        (λ late. absurd (both_ways (asked_since place i t.story) (asks_none place i t.story late) e))
        (λ unasked. absurd (both_ways (asked_since place i t.story) unasked e))
        (begins.unasked i place is);
  };
  slot = record { same = sym (none_choked t.story begins.unsaid); unchoked = λ e. refl; empty = λ e. refl; due = λ e is. ap (λ (b : Bool). not b) e };
  window = record { same = ap (λ (n : ℕ). new_meter n) (sym size_is) ∙ sym (still f.size t.story begins.unsaid); inside = tt };
  told = record { content = content; known = λ n. nothing n ∙ sym (begins.unheard n) };
  claims = ap (take 128) (sym begins.unclaimed);
  proven = sym begins.unproven;
  own = record { named = λ i moment e. absurd (none_some moment e); expired = λ e. absurd (false≢true e); choked = λ e. absurd (false≢true e) };
  haves = λ i lt. absurd (omega arith);
  fresh = record { early = λ e i. begins.untold i; above = λ e i above. begins.untold i };
  exchange = record { answered = sym (none_answered t.story begins.unsaid); asked = sym (none_asked t.story begins.unsaid) };
}
