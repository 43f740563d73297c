-- What is read of a datagram by its bytes.
use Rattle.std.proofs.Common.{◌≡◌, ℕ, ltb, false, ◌^◌, ◌+◌, ◌<◌, ◌≤◌, Some, None, List, [], ◌∷◌, ◌++◌, length, take, drop, refl, sym, ◌∙◌, ap, subst, arith, append_assoc}
use Rattle.std.specs.List.{AllByRecursion}
use Rattle.std.specs.Int.{w32, to_be_bytes, from_be_bytes}
use Rattle.std.proofs.lemmas.Bool.{le-ltb}
use Rattle.std.proofs.lemmas.List.{length-append, take_at, drop_at}
use Rattle.pp_terms.specs.format.Descriptor.{Descriptor, Method}
use Rattle.pp_terms.specs.format.Options.{IsBytes}
use Rattle.pp_terms.specs.format.Messages.{Message, Messages, Datagram, spell, IsSpelt, MayPrecede, datagram, messages_at, with_first}
use Rattle.pp_terms.proofs.DatagramLaws.{one_by_one}
use Rattle.pp_terms.proofs.MessageLaws.{wide32, spelt_is_read, nothing_left}
use Rattle.pp_terms.proofs.Spellings.{IsBytes-drop}
use Rattle.pp_draft.specs.Datagrams.{spelled, datagram_text, IsDatagram}
use Rattle.pp_draft.specs.Puts.{Stands}

pub spelled_more : (method : Method) (ms others : List Message) → spelled method (ms ++ others) ≡ spelled method ms ++ spelled method others
spelled_more method [] others = refl
spelled_more method (m ∷ ms) others =
    ap (λ (t : List ℕ). spell method m ++ t) (spelled_more method ms others) ∙ sym (append_assoc (spell method m) (spelled method ms) (spelled method others))

-- Each message is spelled, and may stand before those behind it.
abbrev pub AreInOrder : Descriptor → List Message → Type 0
AreInOrder d [] = Unit {0}
AreInOrder d (m ∷ ms) = IsSpelt d.method m (spell d.method m) × MayPrecede d.chunk m (spelled d.method ms) × AreInOrder d ms

pub in_order : (d : Descriptor) (ms last : List Message) → AllByRecursion (Stands d) ms → AreInOrder d last → AreInOrder d (ms ++ last)
in_order d [] last all end = end
in_order d (m ∷ ms) last all end = (all.0.spelt, all.0.may (spelled d.method (ms ++ last)), in_order d ms last all.1 end)

messages_are : (d : Descriptor) (at : ℕ) (ms : List Message) → 0 < d.chunk → IsBytes (spelled d.method ms) → AreInOrder d ms
    → messages_at d.method d.chunk at (spelled d.method ms) ≡ record { read = ms; fault = None }
messages_are d at [] some fits order = (one_by_one d.method d.chunk at [] some fits).1 (nothing_left d.method d.chunk)
messages_are d at (m ∷ ms) some fits order =
    let text : List ℕ = spell d.method m in
    let rest : List ℕ = spelled d.method ms in
    let is = spelt_is_read d.method d.chunk m text rest order.0 order.1 in
    let step = (one_by_one d.method d.chunk at (text ++ rest) some fits).0 m (length text) is in
    let left : drop (length text) (text ++ rest) ≡ rest = drop_at text rest (length text) refl in
    let more = messages_are d (at + length text) ms some (subst IsBytes left (IsBytes-drop (length text) (text ++ rest) fits)) order.2 in
    step ∙ ap (λ (t : List ℕ). with_first m (messages_at d.method d.chunk (at + length text) t)) left ∙ ap (with_first m) more

datagram_is : (method : Method) (chunk : ℕ) (bytes : List ℕ) → 4 ≤ length bytes
    → datagram method chunk bytes ≡ record { channel = Some (from_be_bytes w32 (take 4 bytes)); messages = messages_at method chunk 4 (drop 4 bytes) }
unfolding datagram
datagram_is method chunk bytes le =
    let long : ltb (length bytes) 4 ≡ false = le-ltb _ _ le in rw long refl

pub datagram_read : (d : Descriptor) (channel : ℕ) (ms : List Message) → 0 < d.chunk → channel < 2 ^ 32 → IsBytes (datagram_text d.method channel ms) → AreInOrder d ms
    → datagram d.method d.chunk (datagram_text d.method channel ms) ≡ record { channel = Some channel; messages = record { read = ms; fault = None } }
datagram_read d channel ms some low fits order =
    let number : List ℕ = to_be_bytes w32 channel in
    let rest : List ℕ = spelled d.method ms in
    let four : length number ≡ 4 = wide32.len channel in
    let front : take 4 (number ++ rest) ≡ number = take_at number rest 4 four in
    let back : drop 4 (number ++ rest) ≡ rest = drop_at number rest 4 four in
    let make = λ (n : ℕ) (x : Messages). let r : Datagram = record { channel = Some n; messages = x } in r in
    datagram_is d.method d.chunk (number ++ rest) (omega (arith, length-append number rest, four))
    ∙ ap (λ (t : List ℕ). make (from_be_bytes w32 t) (messages_at d.method d.chunk 4 (drop 4 (number ++ rest)))) front
    ∙ ap (λ (n : ℕ). make n (messages_at d.method d.chunk 4 (drop 4 (number ++ rest)))) (wide32.again channel low)
    ∙ ap (λ (t : List ℕ). make channel (messages_at d.method d.chunk 4 t)) back
    ∙ ap (make channel) (messages_are d 4 ms some (subst IsBytes back (IsBytes-drop 4 (number ++ rest) fits)) order)

-- a text that is a datagram's is the datagram
pub datagram_of_text : (d : Descriptor) (channel : ℕ) (ms : List Message) (bytes : List ℕ) → 0 < d.chunk → channel < 2 ^ 32 → IsBytes bytes → length bytes ≤ 16384
    → bytes ≡ datagram_text d.method channel ms → AreInOrder d ms → IsDatagram d channel ms bytes
datagram_of_text d channel ms bytes some low fits short text order = record {
  text = text;
  read = ap (datagram d.method d.chunk) text ∙ datagram_read d channel ms some low (subst IsBytes text fits) order;
  short = short;
}
