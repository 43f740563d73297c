-- A datagram read message by message.
use Rattle.std.proofs.Common.{◌≡◌, ⊎_elim, ℕ, ◌+◌, ◌<◌, ◌≤◌, min, Some, List, [], ◌∷◌, length, take, drop, refl, sym, ◌∙◌, ap, arith}
use Rattle.std.proofs.lemmas.List.{length-take, length-drop, drop-drop, drop_all}
use Rattle.std.proofs.lemmas.Bool.{le-ltb, lt-ltb, cases_lt}
use Rattle.pp_terms.specs.format.Descriptor.{Descriptor}
use Rattle.pp_terms.specs.format.Options.{IsBytes}
use Rattle.pp_terms.specs.format.Messages.{Message, WireKind, Step, Read, End, Cut, next_message, moved, Messages, messages_at, messages_from, datagram}
use Rattle.pp_terms.proofs.MessageLaws.{read_is_spelt, spelt_some}
use Rattle.pp_terms.proofs.DatagramLaws.{one_by_one}
use Rattle.pp_terms.proofs.MovedSteps.{moved_end, size_of}
use Rattle.pp_terms.proofs.Spellings.{IsBytes-drop}
use Rattle.std.specs.Int.{w32, from_be_bytes}
use Rattle.pp_recorded.specs.Parts.{all, rest, StandsAt}

pub record Fault (at : ℕ) (s : Step) (kind : WireKind) : Type 0 where
  pub place : ℕ
  pub is : s ≡ Cut place kind

pub fault_of : (at : ℕ) (s : Step) (place : ℕ) (kind : WireKind) → moved at s ≡ Cut place kind → Fault at s kind
fault_of at (Read n size) place kind e = absurd cc
fault_of at End place kind e = absurd cc
fault_of at (Cut there why) place kind e = record { place = there; is = cc }

-- a message stands at the place, and others behind it
pub stands : (d : Descriptor) (bytes : List ℕ) (at : ℕ) (m : Message) (next : ℕ) → 0 < d.chunk → IsBytes bytes → at ≤ length bytes
    → Read m next ≡ moved at (next_message d.method d.chunk (drop at bytes)) → StandsAt d bytes at m next
stands d bytes at m next some fits le e =
    let s = size_of at (next_message d.method d.chunk (drop at bytes)) m next (sym e) in
    let begun = read_is_spelt d.method d.chunk (drop at bytes) m s.size some (IsBytes-drop at bytes fits) s.is in
    let longer : 0 < length (take s.size (drop at bytes)) = spelt_some d.method m (take s.size (drop at bytes)) begun.spelt in
    let inside : s.size ≤ length (drop at bytes) = begun.within in
    let there : at + s.size ≤ length bytes = omega (arith, inside, length-drop at bytes) in
    let moves : 0 < s.size = omega (arith, longer, length-take s.size (drop at bytes)) in
    record {
      later = omega (arith, s.ends, moves);
      within = omega (arith, s.ends, there);
      before = ap (λ (x : Messages). x.read) ((one_by_one d.method d.chunk at (drop at bytes) some (IsBytes-drop at bytes fits)).0 m s.size s.is)
          ∙ ap (λ (xs : List ℕ). m ∷ (messages_at d.method d.chunk (at + s.size) xs).read) (drop-drop s.size at bytes)
          ∙ ap (λ (n : ℕ). m ∷ rest d bytes n) (sym s.ends);
    }

-- none does, at the end and before a fault
pub none_at_end : (d : Descriptor) (bytes : List ℕ) (at : ℕ) → 0 < d.chunk → IsBytes bytes
    → End ≡ moved at (next_message d.method d.chunk (drop at bytes)) → rest d bytes at ≡ []
none_at_end d bytes at some fits e =
    ap (λ (x : Messages). x.read) ((one_by_one d.method d.chunk at (drop at bytes) some (IsBytes-drop at bytes fits)).1
    (moved_end at (next_message d.method d.chunk (drop at bytes)) (sym e)))

pub none_at_fault : (d : Descriptor) (bytes : List ℕ) (at place : ℕ) (kind : WireKind) → 0 < d.chunk → IsBytes bytes
    → Cut place kind ≡ moved at (next_message d.method d.chunk (drop at bytes)) → rest d bytes at ≡ []
none_at_fault d bytes at place kind some fits e =
    let f = fault_of at (next_message d.method d.chunk (drop at bytes)) place kind (sym e) in
    ap (λ (x : Messages). x.read) ((one_by_one d.method d.chunk at (drop at bytes) some (IsBytes-drop at bytes fits)).2 f.place kind f.is)

-- ---- whole datagrams

pub channel_some : (d : Descriptor) (bytes : List ℕ) (number : ℕ) → 4 ≤ length bytes → number ≡ from_be_bytes w32 (take 4 bytes)
    → (datagram d.method d.chunk bytes).channel ≡ Some number
unfolding datagram
channel_some d bytes number le is = rw (le-ltb (length bytes) 4 le) (ap (λ (n : ℕ). Some n) (sym is))

-- behind the end there is none
pub rest_end : (d : Descriptor) (bytes : List ℕ) (at : ℕ) → length bytes ≤ at → rest d bytes at ≡ []
unfolding messages_from
rest_end d bytes at le = ap (λ (xs : List ℕ). (messages_at d.method d.chunk at xs).read) (drop_all at bytes le)

-- they begin behind the number
pub all_short : (d : Descriptor) (bytes : List ℕ) (at : ℕ) → length bytes < 4 → length bytes ≤ at → (datagram d.method d.chunk bytes).messages.read ≡ rest d bytes at
unfolding datagram
all_short d bytes at lt le = rw (lt-ltb (length bytes) 4 lt) (sym (rest_end d bytes at le))

pub all_long : (d : Descriptor) (bytes : List ℕ) → 4 ≤ length bytes → (datagram d.method d.chunk bytes).messages.read ≡ rest d bytes 4
unfolding datagram
all_long d bytes le = rw (le-ltb (length bytes) 4 le) refl

pub all_from : (d : Descriptor) (bytes : List ℕ) (at : ℕ) → at ≡ min (length bytes) 4 → all d bytes ≡ rest d bytes at
all_from d bytes at is = ⊎_elim
    (λ lt. all_short d bytes at lt (omega (arith, is)))
    (λ le. all_long d bytes le ∙ ap (λ (n : ℕ). rest d bytes n) (let e : 4 ≡ at = omega (arith, is) in e))
    (cases_lt (length bytes) 4)
