-- A datagram heard message by message on one channel.
use Rattle.std.proofs.Common.{◌≡◌, ℕ, ◌-◌, ◌<◌, ◌≤◌, Bool, true, false, ◌||◌, List, [], ◌∷◌, ◌++◌, length, drop, refl, sym, ◌∙◌, ap, arith}
use Rattle.std.proofs.lemmas.List.{append_assoc, append-nil}
use Rattle.pp_terms.specs.disk.Disk.{DiskState}
use Rattle.pp_terms.specs.format.Descriptor.{Descriptor}
use Rattle.pp_terms.specs.format.Options.{IsBytes}
use Rattle.pp_terms.specs.format.Messages.{Message, Handshake, Data, Ack, Have, Integrity, Pex4, PexReq, Request, Cancel, Choke, Unchoke, Pex6, WireKind, Read, End, Cut, next_message, moved, Messages}
use Rattle.pp_terms.proofs.Spellings.{IsBytes-drop}
use Rattle.pp_terms.proofs.DatagramLaws.{one_by_one}
use Rattle.pp_terms.proofs.ReadSteps.{is_read}
use Rattle.pp_terms.proofs.MovedSteps.{moved_end, cut_at}
use Rattle.pp_traffic.specs.Life.{closes}
use Rattle.pp_peer.specs.declared.parts.Parts.{Parts}
use Rattle.pp_peer.specs.Taking.{is_closing, read_at, Takes, Hears, HearsTo}
use Rattle.pp_peer.proofs.Heard.{takes_twice}

goes_on : (m : Message) (ms : List Message) → is_closing m ≡ false → closes (m ∷ ms) ≡ closes ms
goes_on (Handshake source options) ms e = ap (λ (b : Bool). b || closes ms) e
goes_on (Data chunk sent_at bytes) ms e = refl
goes_on (Ack span delay) ms e = refl
goes_on (Have span) ms e = refl
goes_on (Integrity span digest) ms e = refl
goes_on (Pex4 address port) ms e = refl
goes_on PexReq ms e = refl
goes_on (Request span) ms e = refl
goes_on (Cancel span) ms e = refl
goes_on Choke ms e = refl
goes_on Unchoke ms e = refl
goes_on (Pex6 address port) ms e = refl

shuts : (m : Message) (ms : List Message) → is_closing m ≡ true → closes (m ∷ ms) ≡ true
shuts (Handshake source options) ms e = ap (λ (b : Bool). b || closes ms) e
shuts (Data chunk sent_at bytes) ms e = absurd cc
shuts (Ack span delay) ms e = absurd cc
shuts (Have span) ms e = absurd cc
shuts (Integrity span digest) ms e = absurd cc
shuts (Pex4 address port) ms e = absurd cc
shuts PexReq ms e = absurd cc
shuts (Request span) ms e = absurd cc
shuts (Cancel span) ms e = absurd cc
shuts Choke ms e = absurd cc
shuts Unchoke ms e = absurd cc
shuts (Pex6 address port) ms e = absurd cc

pub hears_none : (seat : ℕ) (d : Descriptor) (bytes : List ℕ) (start : ℕ) (old : Parts) (disk : DiskState) → start ≤ length bytes
    → Takes seat [] old old disk disk → HearsTo seat d bytes start start old old disk disk
hears_none seat d bytes start old disk le takes = record { within = le; heard = []; takes = takes; read = refl; closing = refl }

module _ (seat : ℕ) (d : Descriptor) (bytes : List ℕ) (start : ℕ) (some : 0 < d.chunk) (fits : IsBytes bytes) (old : Parts) (disk : DiskState) where
  pub hears_more : (at next : ℕ) (m : Message) (mid new : Parts) (half left : DiskState)
      → Read m next ≡ moved at (next_message d.method d.chunk (drop at bytes)) → HearsTo seat d bytes start at old mid disk half → is_closing m ≡ false
      → Takes seat (m ∷ []) mid new half left → HearsTo seat d bytes start next old new disk left
  hears_more at next m mid new half left e h open_still takes =
      let r = is_read d.method d.chunk at next bytes m some fits h.within (sym e) in
      let first : read_at d bytes at ≡ m ∷ read_at d bytes next = ap (λ (x : Messages). x.read) r.rest in
      record {
        within = r.within;
        heard = h.heard ++ m ∷ [];
        takes = takes_twice seat h.heard (m ∷ []) old mid new disk half left h.takes takes;
        read = h.read ∙ ap (λ (xs : List Message). h.heard ++ xs) first ∙ sym (append_assoc h.heard (m ∷ []) (read_at d bytes next));
        closing = h.closing ∙ ap closes first ∙ goes_on m (read_at d bytes next) open_still;
      }

  pub hears_nearer : (at next : ℕ) (m : Message) → at ≤ length bytes → Read m next ≡ moved at (next_message d.method d.chunk (drop at bytes))
      → length bytes - next < length bytes - at
  hears_nearer at next m within e =
      let r = is_read d.method d.chunk at next bytes m some fits within (sym e) in
      let later = r.later in let inside = r.within in omega arith

  pub hears_closed : (at next : ℕ) (m : Message) (mid : Parts) (half : DiskState) → Read m next ≡ moved at (next_message d.method d.chunk (drop at bytes))
      → HearsTo seat d bytes start at old mid disk half → is_closing m ≡ true → Hears seat (read_at d bytes start) true old mid disk half
  hears_closed at next m mid half e h closing =
      let r = is_read d.method d.chunk at next bytes m some fits h.within (sym e) in
      let first : read_at d bytes at ≡ m ∷ read_at d bytes next = ap (λ (x : Messages). x.read) r.rest in
      record {
        heard = h.heard;
        takes = h.takes;
        closing = sym (h.closing ∙ ap closes first ∙ shuts m (read_at d bytes next) closing);
        whole = λ e. absurd cc;
      }

  hears_done : (at : ℕ) (mid : Parts) (half : DiskState) → HearsTo seat d bytes start at old mid disk half → read_at d bytes at ≡ []
      → Hears seat (read_at d bytes start) false old mid disk half
  hears_done at mid half h none = record {
    heard = h.heard;
    takes = h.takes;
    closing = sym (h.closing ∙ ap closes none);
    whole = λ e. sym (h.read ∙ ap (λ (xs : List Message). h.heard ++ xs) none ∙ append-nil h.heard);
  }

  pub hears_end : (at : ℕ) (mid : Parts) (half : DiskState) → End ≡ moved at (next_message d.method d.chunk (drop at bytes))
      → HearsTo seat d bytes start at old mid disk half → Hears seat (read_at d bytes start) false old mid disk half
  hears_end at mid half e h = hears_done at mid half h
      (ap (λ (x : Messages). x.read) ((one_by_one d.method d.chunk at (drop at bytes) some (IsBytes-drop at bytes fits)).1 (moved_end at (next_message d.method d.chunk (drop at bytes)) (sym e))))

  pub hears_cut : (at place : ℕ) (kind : WireKind) (mid : Parts) (half : DiskState) → Cut place kind ≡ moved at (next_message d.method d.chunk (drop at bytes))
      → HearsTo seat d bytes start at old mid disk half → Hears seat (read_at d bytes start) false old mid disk half
  hears_cut at place kind mid half e h =
      let p = cut_at at (next_message d.method d.chunk (drop at bytes)) place kind (sym e) in
      hears_done at mid half h
      (ap (λ (x : Messages). x.read) ((one_by_one d.method d.chunk at (drop at bytes) some (IsBytes-drop at bytes fits)).2 p.place kind p.is))
