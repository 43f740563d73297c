-- What messages do, one after the other.
use Rattle.std.proofs.Common.{◌≡◌, ℕ, ◌<◌, ◌≤◌, Bool, true, false, Option, is_some, List, [], ◌∷◌, ◌++◌, length, drop, refl, sym, ◌∙◌, ap, subst}
use Rattle.std.specs.Prelude.{if◌then◌else◌}
use Rattle.std.proofs.lemmas.Bool.{false≢true}
use Rattle.std.proofs.lemmas.List.{append_assoc, append-nil}
use Rattle.pp_terms.specs.format.Descriptor.{Descriptor}
use Rattle.pp_terms.specs.format.Options.{IsBytes}
use Rattle.pp_terms.specs.format.Messages.{Message, WireKind, Read, End, Cut, next_message, moved, Messages}
use Rattle.pp_terms.proofs.Spellings.{IsBytes-drop}
use Rattle.pp_terms.proofs.DatagramLaws.{one_by_one}
use Rattle.pp_terms.proofs.ReadSteps.{is_read}
use Rattle.pp_terms.proofs.MovedSteps.{moved_end, cut_at}
use Rattle.pp_traffic.specs.Life.{closes}
use Rattle.pp_counts.specs.Counts.{after_note}
use Rattle.pp_counts.specs.declared.note.Note.{Note}
use Rattle.pp_counts.specs.declared.note.Note.TheVariants as notes
use Rattle.pp_wire.specs.Views.{message_of}
use Rattle.pp_wire.specs.declared.message.Message as code
use Rattle.pp_wire.specs.declared.message.Message.TheVariants as variants
use Rattle.pp_desk.specs.Hearing as desk
use Rattle.pp_seats.specs.Standing.{SeatsState}
use Rattle.pp_seats.specs.Hearing.{ChangesSeat, HearsAll}
use Rattle.pp_peer.specs.declared.parts.Parts.{Parts}
use Rattle.pp_peer.specs.Taking.{after_some, is_closing, read_at}
use Rattle.pp_peer.specs.Messages.{Heeds, TakesOther, Does, InTurn, before_close, with_cut, HearsAllOf, HearsSome, Shuts, ReadsAll}

-- ---- one message

pub does_other : (seat : ℕ) (m : code.Message) (old new : Parts) → ((chunk sent_at : ℕ) (bytes : _) → m ≡ variants.Data chunk sent_at bytes → ⊥)
    → TakesOther seat (message_of m) old new → Does seat (message_of m) old new
does_other seat (variants.Handshake source options) old new not t = t
does_other seat (variants.Data chunk sent_at bytes) old new not t = absurd (not chunk sent_at bytes refl)
does_other seat (variants.Ack span delay) old new not t = t
does_other seat (variants.Have span) old new not t = t
does_other seat (variants.Integrity span digest) old new not t = t
does_other seat (variants.Pex4 address port) old new not t = t
does_other seat variants.PexReq old new not t = t
does_other seat (variants.Request span) old new not t = t
does_other seat (variants.Cancel span) old new not t = t
does_other seat variants.Choke old new not t = t
does_other seat variants.Unchoke old new not t = t
does_other seat (variants.Pex6 address port) old new not t = t

-- It was heeded, heard and counted.
pub other_exact : (seat : ℕ) (m : Message) (old mid new : Parts) (seats : SeatsState) (o : Option Note) → Heeds seat m old mid
    → ChangesSeat seat (λ before after. desk.Hears mid.seats.moment m o before after × HearsAll mid.seats.moment (m ∷ []) before after) mid.seats seats
    → new ≡ record mid { seats = seats; counts = after_some o mid.counts } → TakesOther seat m old new
other_exact seat m old mid new seats o heeds heard is = record {
  mid = mid;
  heeds = heeds;
  noted = o;
  heard = record {
    before = heard.before;
    after = heard.after;
    there = heard.there;
    is = ap (λ (p : Parts). p.seats) is ∙ heard.is;
    changes = heard.changes.0;
  };
  rest = is ∙ ap (λ (s : SeatsState). record mid { seats = s; counts = after_some o mid.counts }) (sym (ap (λ (p : Parts). p.seats) is));
}

-- ---- one after the other

pub in_turn_more : (seat : ℕ) (ms : List Message) (m : Message) (a b c : Parts) → InTurn seat ms a b → Does seat m b c → InTurn seat (ms ++ m ∷ []) a c
in_turn_more seat [] m a b c t does = (c, subst (λ (p : Parts). Does seat m p c) t does, refl)
in_turn_more seat (x ∷ ms) m a b c t does = (t.0, t.1, in_turn_more seat ms m t.0 b c t.2 does)

stays_open : (m : Message) (ms : List Message) → is_closing m ≡ false → before_close (m ∷ ms) ≡ m ∷ before_close ms
stays_open m ms e = ap (λ (b : Bool). if b then [] else m ∷ before_close ms) e

shut_by : (m : Message) (ms : List Message) → is_closing m ≡ true → before_close (m ∷ ms) ≡ []
shut_by m ms e = ap (λ (b : Bool). if b then [] else m ∷ before_close ms) e

pub some_none : (seat : ℕ) (d : Descriptor) (bytes : List ℕ) (start : ℕ) (old : Parts) → HearsSome seat d bytes start start old old
some_none seat d bytes start old = record { heard = []; in_turn = refl; left = refl; cut = refl }

module _ (seat : ℕ) (d : Descriptor) (bytes : List ℕ) (start : ℕ) (some : 0 < d.chunk) (fits : IsBytes bytes) (old : Parts) where
  pub some_more : (at next : ℕ) (m : Message) (mid new : Parts) → at ≤ length bytes
      → Read m next ≡ moved at (next_message d.method d.chunk (drop at bytes)) → HearsSome seat d bytes start at old mid → is_closing m ≡ false
      → Does seat m mid new → HearsSome seat d bytes start next old new
  some_more at next m mid new within e h open_still does =
      let r = is_read d.method d.chunk at next bytes m some fits within (sym e) in
      let first : read_at d bytes at ≡ m ∷ read_at d bytes next = ap (λ (x : Messages). x.read) r.rest in
      record {
        heard = h.heard ++ m ∷ [];
        in_turn = in_turn_more seat h.heard m old mid new h.in_turn does;
        left = h.left ∙ ap (λ (xs : List Message). h.heard ++ xs) (ap before_close first ∙ stays_open m (read_at d bytes next) open_still)
            ∙ sym (append_assoc h.heard (m ∷ []) (before_close (read_at d bytes next)));
        cut = h.cut ∙ ap (λ (x : Messages). is_some x.fault) r.rest;
      }

  all_left : (at : ℕ) (mid : Parts) → HearsSome seat d bytes start at old mid → before_close (read_at d bytes at) ≡ []
      → InTurn seat (before_close (read_at d bytes start)) old mid
  all_left at mid h none = subst (λ (ms : List Message). InTurn seat ms old mid)
      (sym (h.left ∙ ap (λ (xs : List Message). h.heard ++ xs) none ∙ append-nil h.heard)) h.in_turn

  pub all_closed : (at next : ℕ) (m : Message) (mid : Parts) → at ≤ length bytes → Read m next ≡ moved at (next_message d.method d.chunk (drop at bytes))
      → HearsSome seat d bytes start at old mid → is_closing m ≡ true → HearsAllOf seat d bytes start true old mid
  all_closed at next m mid within e h closing =
      let r = is_read d.method d.chunk at next bytes m some fits within (sym e) in
      let first : read_at d bytes at ≡ m ∷ read_at d bytes next = ap (λ (x : Messages). x.read) r.rest in
      record {
        mid = mid;
        in_turn = all_left at mid h (ap before_close first ∙ shut_by m (read_at d bytes next) closing);
        rest = refl;
      }

  pub all_ended : (at : ℕ) (mid : Parts) → End ≡ moved at (next_message d.method d.chunk (drop at bytes))
      → HearsSome seat d bytes start at old mid → HearsAllOf seat d bytes start false old mid
  all_ended at mid e h =
      let is = (one_by_one d.method d.chunk at (drop at bytes) some (IsBytes-drop at bytes fits)).1 (moved_end at (next_message d.method d.chunk (drop at bytes)) (sym e)) in
      record {
        mid = mid;
        in_turn = all_left at mid h (ap (λ (x : Messages). before_close x.read) is);
        rest = ap (λ (cut : Bool). with_cut cut mid) (sym (h.cut ∙ ap (λ (x : Messages). is_some x.fault) is));
      }

  pub all_cut : (at place : ℕ) (kind : WireKind) (mid new : Parts) → Cut place kind ≡ moved at (next_message d.method d.chunk (drop at bytes))
      → HearsSome seat d bytes start at old mid → new ≡ record mid { counts = after_note notes.Cut mid.counts } → HearsAllOf seat d bytes start false old new
  all_cut at place kind mid new e h is_counted =
      let p = cut_at at (next_message d.method d.chunk (drop at bytes)) place kind (sym e) in
      let is = (one_by_one d.method d.chunk at (drop at bytes) some (IsBytes-drop at bytes fits)).2 p.place kind p.is in
      record {
        mid = mid;
        in_turn = all_left at mid h (ap (λ (x : Messages). before_close x.read) is);
        rest = is_counted ∙ ap (λ (cut : Bool). with_cut cut mid) (sym (h.cut ∙ ap (λ (x : Messages). is_some x.fault) is));
      }

-- ---- a whole datagram

pub reads_shut : (seat : ℕ) (d : Descriptor) (bytes : List ℕ) (start : ℕ) (is_closed : Bool) (old mid new : Parts) → is_closed ≡ true
    → is_closed ≡ closes (read_at d bytes start) → HearsAllOf seat d bytes start is_closed old mid → Shuts seat mid new → ReadsAll seat d bytes start old new
reads_shut seat d bytes start true old mid new is closing h shuts = record {
  mid = mid;
  in_turn = subst (λ (p : Parts). InTurn seat (before_close (read_at d bytes start)) old p) (sym h.rest) h.in_turn;
  shuts = λ e. shuts;
  stays = λ e. absurd (false≢true (sym e ∙ sym closing));
}
reads_shut seat d bytes start false old mid new is closing h shuts = absurd (false≢true is)

pub reads_stay : (seat : ℕ) (d : Descriptor) (bytes : List ℕ) (start : ℕ) (is_closed : Bool) (old new : Parts) → is_closed ≡ false
    → is_closed ≡ closes (read_at d bytes start) → HearsAllOf seat d bytes start is_closed old new → ReadsAll seat d bytes start old new
reads_stay seat d bytes start false old new is closing h = record {
  mid = h.mid;
  in_turn = h.in_turn;
  shuts = λ e. absurd (false≢true (closing ∙ e));
  stays = λ e. h.rest;
}
reads_stay seat d bytes start true old new is closing h = absurd (false≢true (sym is))
