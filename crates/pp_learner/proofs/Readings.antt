-- The messages of a datagram, read one after the other.
use Rattle.std.proofs.Common.{◌≡◌, ⊎_elim, take, ℕ, ◌-◌, ◌<◌, ◌≤◌, Bool, true, false, Option, Some, None, is_some, List, [], ◌∷◌, length, drop, sym, ◌∙◌, ap, arith}
use Rattle.std.specs.Prelude.{if◌then◌else◌}
use Rattle.std.proofs.lemmas.Nat.{pow_pos}
use Rattle.pp_terms.specs.tree.Content.{IsChunkSize}
use Rattle.pp_terms.specs.format.Descriptor.{Descriptor, Method}
use Rattle.pp_terms.specs.format.Options.{IsBytes}
use Rattle.pp_terms.specs.format.Messages.{Message, Messages, Handshake, Data, Ack, Have, Integrity, Pex4, PexReq, Request, Cancel, Choke, Unchoke, Pex6, IsSpelt, MayPrecede, WireKind, Read, End, Cut, next_message, moved, with_first}
use Rattle.pp_terms.proofs.Spellings.{IsBytes-drop}
use Rattle.pp_terms.proofs.DatagramLaws.{one_by_one}
use Rattle.pp_terms.proofs.ReadSteps.{is_read}
use Rattle.pp_terms.proofs.MovedSteps.{size_of, moved_end, cut_at}
use Rattle.pp_terms.proofs.MessageLaws.{read_is_spelt}
use Rattle.pp_counts.specs.Counts.{after_note}
use Rattle.pp_counts.specs.declared.counts.Counts.{Counts}
use Rattle.pp_counts.specs.declared.note.Note.TheVariants as notes
use Rattle.pp_targets.specs.Target.{SwarmName}
use Rattle.pp_learner.specs.Rows.{RowState, heard, size_in, noted}
use Rattle.pp_learner.specs.Reading.{Hearing, IsPiece, after_some, is_closing, reading, stopped, messages_from, read_from}
use Rattle.pp_learner.specs.declared.reading.Ending.TheVariants as endings

-- what reading comes to, by the messages
abbrev read_of : SwarmName → RowState → Counts → Messages → Hearing
read_of name row counts m = reading name (is_some m.fault) m.read row counts

module _ (name : SwarmName) (bytes : List ℕ) (some : 0 < name.chunk) (fits : IsBytes bytes) (row : RowState) (counts : Counts) where
  -- the first message stands there, and the others behind it
  first : (at next : ℕ) (m : Message) → at ≤ length bytes → Read m next ≡ moved at (next_message name.method name.chunk (drop at bytes))
      → read_from name bytes at row counts ≡ read_of name row counts (with_first m (messages_from name bytes next))
  first at next m within e =
      let r = is_read name.method name.chunk at next bytes m some fits within (sym e) in
      ap (read_of name row counts) r.rest

  pub read_closed : (at next : ℕ) (m : Message) → at ≤ length bytes → Read m next ≡ moved at (next_message name.method name.chunk (drop at bytes))
      → is_closing m ≡ true → read_from name bytes at row counts ≡ record { row = row; counts = counts; ending = endings.Closed }
  read_closed at next m within e closing = first at next m within e
      ∙ ap (λ (b : Bool). if b then record { row = row; counts = counts; ending = endings.Closed } else stopped (size_in name m row) (heard m row) (after_some (noted name m row) counts)
      (read_from name bytes next (heard m row) (after_some (noted name m row) counts))) closing

  goes_on : (at next : ℕ) (m : Message) → at ≤ length bytes → Read m next ≡ moved at (next_message name.method name.chunk (drop at bytes))
      → is_closing m ≡ false → read_from name bytes at row counts ≡ stopped (size_in name m row) (heard m row) (after_some (noted name m row) counts)
      (read_from name bytes next (heard m row) (after_some (noted name m row) counts))
  goes_on at next m within e open_still = first at next m within e
      ∙ ap (λ (b : Bool). if b then record { row = row; counts = counts; ending = endings.Closed } else stopped (size_in name m row) (heard m row) (after_some (noted name m row) counts)
      (read_from name bytes next (heard m row) (after_some (noted name m row) counts))) open_still

  pub read_learned : (at next : ℕ) (m : Message) (e : Descriptor) → at ≤ length bytes → Read m next ≡ moved at (next_message name.method name.chunk (drop at bytes))
      → is_closing m ≡ false → size_in name m row ≡ Some e
      → read_from name bytes at row counts ≡ record { row = heard m row; counts = after_some (noted name m row) counts; ending = endings.Learned e }
  read_learned at next m e within is open_still tells = goes_on at next m within is open_still
      ∙ ap (λ (o : Option Descriptor). stopped o (heard m row) (after_some (noted name m row) counts) (read_from name bytes next (heard m row) (after_some (noted name m row) counts))) tells

  pub read_more : (at next : ℕ) (m : Message) → at ≤ length bytes → Read m next ≡ moved at (next_message name.method name.chunk (drop at bytes))
      → is_closing m ≡ false → size_in name m row ≡ None
      → read_from name bytes at row counts ≡ read_from name bytes next (heard m row) (after_some (noted name m row) counts)
  read_more at next m within is open_still tells = goes_on at next m within is open_still
      ∙ ap (λ (o : Option Descriptor). stopped o (heard m row) (after_some (noted name m row) counts) (read_from name bytes next (heard m row) (after_some (noted name m row) counts))) tells

  pub read_ended : (at : ℕ) → End ≡ moved at (next_message name.method name.chunk (drop at bytes))
      → read_from name bytes at row counts ≡ record { row = row; counts = counts; ending = endings.Read }
  read_ended at e = ap (read_of name row counts)
      ((one_by_one name.method name.chunk at (drop at bytes) some (IsBytes-drop at bytes fits)).1 (moved_end at (next_message name.method name.chunk (drop at bytes)) (sym e)))

  pub read_cut : (at place : ℕ) (kind : WireKind) → Cut place kind ≡ moved at (next_message name.method name.chunk (drop at bytes))
      → read_from name bytes at row counts ≡ record { row = row; counts = after_note notes.Cut counts; ending = endings.Read }
  read_cut at place kind e =
      let p = cut_at at (next_message name.method name.chunk (drop at bytes)) place kind (sym e) in
      ap (read_of name row counts) ((one_by_one name.method name.chunk at (drop at bytes) some (IsBytes-drop at bytes fits)).2 p.place kind p.is)

-- a message stands there, and the others behind it
pub read_first : (name : SwarmName) (bytes : List ℕ) → 0 < name.chunk → IsBytes bytes → (at next : ℕ) (m : Message) → at ≤ length bytes
    → Read m next ≡ moved at (next_message name.method name.chunk (drop at bytes)) → (messages_from name bytes at).read ≡ m ∷ (messages_from name bytes next).read
read_first name bytes some fits at next m within e =
    ap (λ (x : Messages). x.read) (is_read name.method name.chunk at next bytes m some fits within (sym e)).rest

-- the place behind a message is nearer to the end
pub read_nearer : (name : SwarmName) (bytes : List ℕ) → 0 < name.chunk → IsBytes bytes → (at next : ℕ) (m : Message) → at ≤ length bytes
    → Read m next ≡ moved at (next_message name.method name.chunk (drop at bytes)) → (next ≤ length bytes) × (length bytes - next < length bytes - at)
read_nearer name bytes some fits at next m within e =
    let r = is_read name.method name.chunk at next bytes m some fits within (sym e) in
    let later = r.later in let inside = r.within in (inside, omega arith)

-- a chunk has bytes
pub chunk_some : (chunk : ℕ) → IsChunkSize chunk → 0 < chunk
chunk_some chunk size = let power = size.power in omega (arith, power, pow_pos size.exponent)

-- a DATA has some bytes, and at most a chunk of them
piece_of : (method : Method) (chunk : ℕ) (m : Message) (text rest : List ℕ) → IsSpelt method m text → MayPrecede chunk m rest → IsPiece chunk m
piece_of method chunk (Handshake source options) text rest spelt may = tt
piece_of method chunk (Data i sent_at bytes) text rest spelt may = (spelt.0.2, ⊎_elim (λ (same : length bytes ≡ chunk). omega (arith, same)) (λ (h : (length bytes < chunk) × (rest ≡ [])). let less = h.0 in omega arith) may)
piece_of method chunk (Ack span delay) text rest spelt may = tt
piece_of method chunk (Have span) text rest spelt may = tt
piece_of method chunk (Integrity span digest) text rest spelt may = tt
piece_of method chunk (Pex4 address port) text rest spelt may = tt
piece_of method chunk PexReq text rest spelt may = tt
piece_of method chunk (Request span) text rest spelt may = tt
piece_of method chunk (Cancel span) text rest spelt may = tt
piece_of method chunk Choke text rest spelt may = tt
piece_of method chunk Unchoke text rest spelt may = tt
piece_of method chunk (Pex6 address port) text rest spelt may = tt

pub read_piece : (name : SwarmName) (bytes : List ℕ) → 0 < name.chunk → IsBytes bytes → (at next : ℕ) (m : Message)
    → Read m next ≡ moved at (next_message name.method name.chunk (drop at bytes)) → IsPiece name.chunk m
read_piece name bytes some fits at next m e =
    let s = size_of at (next_message name.method name.chunk (drop at bytes)) m next (sym e) in
    let begun = read_is_spelt name.method name.chunk (drop at bytes) m s.size some (IsBytes-drop at bytes fits) s.is in
    piece_of name.method name.chunk m (take s.size (drop at bytes)) (drop s.size (drop at bytes)) begun.spelt begun.may
