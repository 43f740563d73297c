-- The messages of a datagram: one by one, and behind others.
use Rattle.std.proofs.Common.{◌≡◌, ℕ, zero, suc, ◌+◌, ◌<◌, ◌≤◌, ◌⊎◌, false, ltb, List, [], ◌∷◌, ◌++◌, length, take, drop, Some, None, refl, sym, ap, subst, ◌∙◌, append_assoc, append-nil, arith, inl, inr}
use Rattle.std.specs.List.{AllByRecursion}
use Rattle.std.proofs.lemmas.List.{take-append-le, drop_all, drop-append-le, take-append-drop, length-append, length-take, length-drop}
use Rattle.std.proofs.lemmas.Bool.{cases_lt, le-ltb}
use Rattle.std.specs.Int.{w32, from_be_bytes}
use Rattle.pp_terms.specs.format.Descriptor.{Method}
use Rattle.pp_terms.specs.format.Options.{IsBytes}
use Rattle.pp_terms.specs.format.Messages.{Message, Handshake, Data, Ack, Have, Integrity, Pex4, PexReq, Request, Cancel, Choke, Unchoke, Pex6, IsSpelt, MayPrecede, IsFull, AtMostFull, WireKind, Step, Read, End, Cut, next_message, Messages, with_first, with_last, messages_from, messages_at, Datagram, datagram, OneByOne}
use Rattle.pp_terms.proofs.MessageLaws.{read_is_spelt, spelt_is_read, ended, spelt_some}
use Rattle.pp_terms.proofs.Spellings.{IsBytes-drop}

abbrev nothing : Messages
nothing = record { read = []; fault = None }

-- nothing is read of nothing
empty : (n : ℕ) (method : Method) (chunk at : ℕ) → messages_from n method chunk at [] ≡ nothing
unfolding messages_from next_message
empty zero method chunk at = refl
empty (suc n) method chunk at = refl

-- one more message
after : (n : ℕ) (method : Method) (chunk at : ℕ) (bytes : List ℕ) (m : Message) (size : ℕ) → next_message method chunk bytes ≡ Read m size
    → messages_from (suc n) method chunk at bytes ≡ with_first m (messages_from n method chunk (at + size) (drop size bytes))
unfolding messages_from
after n method chunk at bytes m size e = rw (e, messages_from) refl

-- what is read first is of some bytes
data_full : (chunk : ℕ) (m : Message) (rest : List ℕ) → IsFull chunk m → MayPrecede chunk m rest
data_full chunk (Handshake source options) rest h = tt
data_full chunk (Data number sent_at bytes) rest h = inl h
data_full chunk (Ack span delay) rest h = tt
data_full chunk (Have span) rest h = tt
data_full chunk (Integrity span digest) rest h = tt
data_full chunk (Pex4 address port) rest h = tt
data_full chunk PexReq rest h = tt
data_full chunk (Request span) rest h = tt
data_full chunk (Cancel span) rest h = tt
data_full chunk Choke rest h = tt
data_full chunk Unchoke rest h = tt
data_full chunk (Pex6 address port) rest h = tt

abbrev no_bytes : List ℕ
no_bytes = []

at_most : (size chunk : ℕ) → size ≤ chunk → (size ≡ chunk) ⊎ ((size < chunk) × (no_bytes ≡ []))
at_most size chunk le = elim (cases_lt size chunk) [ inl lt ↦ inr (lt, refl) | inr ge ↦ inl (omega arith) ]

last_may : (chunk : ℕ) (m : Message) → AtMostFull chunk m → MayPrecede chunk m []
last_may chunk (Handshake source options) h = tt
last_may chunk (Data number sent_at bytes) h = at_most (length bytes) chunk h
last_may chunk (Ack span delay) h = tt
last_may chunk (Have span) h = tt
last_may chunk (Integrity span digest) h = tt
last_may chunk (Pex4 address port) h = tt
last_may chunk PexReq h = tt
last_may chunk (Request span) h = tt
last_may chunk (Cancel span) h = tt
last_may chunk Choke h = tt
last_may chunk Unchoke h = tt
last_may chunk (Pex6 address port) h = tt

-- a text that is the whole of what is left
one_left : (n : ℕ) (method : Method) (chunk at : ℕ) (m : Message) (text : List ℕ) → IsSpelt method m text → AtMostFull chunk m → 0 < n
    → messages_from n method chunk at text ≡ with_last m nothing
one_left zero method chunk at m text is most some = absurd (omega arith)
one_left (suc n) method chunk at m text is most some =
    let e : next_message method chunk text ≡ Read m (length text) =
    ap (next_message method chunk) (sym (append-nil text)) ∙ spelt_is_read method chunk m text [] is (last_may chunk m most) in
    after n method chunk at text m (length text) e
    ∙ ap (λ (t : List ℕ). with_first m (messages_from n method chunk (at + length text) t)) (drop_all (length text) text (omega arith))
    ∙ ap (with_first m) (empty n method chunk (at + length text))

-- the same message, with more behind it
still : (method : Method) (chunk : ℕ) (bytes text : List ℕ) (m : Message) (size : ℕ) → 0 < chunk → IsBytes bytes
    → next_message method chunk bytes ≡ Read m size → IsFull chunk m → next_message method chunk (bytes ++ text) ≡ Read m size
still method chunk bytes text m size some fits e full =
    let b = read_is_spelt method chunk bytes m size some fits e in
    let len : length (take size bytes) ≡ size = omega (arith, length-take size bytes, b.within) in
    let regroup : bytes ++ text ≡ take size bytes ++ (drop size bytes ++ text) =
    ap (λ (t : List ℕ). t ++ text) (sym (take-append-drop size bytes)) ∙ append_assoc (take size bytes) (drop size bytes) text in
    ap (next_message method chunk) regroup
    ∙ spelt_is_read method chunk m (take size bytes) (drop size bytes ++ text) b.spelt (data_full chunk m (drop size bytes ++ text) full)
    ∙ ap (Read m) len

-- What was read up to the end, without a short DATA.
record IsWhole (chunk : ℕ) (all : Messages) : Type 0 where
  no_fault : all.fault ≡ None
  full : AllByRecursion (IsFull chunk) all.read

first_of : (chunk : ℕ) (m : Message) (more : Messages) → IsWhole chunk (with_first m more) → IsFull chunk m × IsWhole chunk more
first_of chunk m more h = (h.full.0, record { no_fault = h.no_fault; full = h.full.1 })

some_read : (method : Method) (chunk : ℕ) (bytes : List ℕ) (m : Message) (size : ℕ) → 0 < chunk → IsBytes bytes
    → next_message method chunk bytes ≡ Read m size → (0 < size) × (size ≤ length bytes)
some_read method chunk bytes m size some fits e =
    let b = read_is_spelt method chunk bytes m size some fits e in
    let any = spelt_some method m (take size bytes) b.spelt in
    (omega (arith, length-take size bytes, any), b.within)

cut_is : (n : ℕ) (method : Method) (chunk at : ℕ) (bytes : List ℕ) (place : ℕ) (kind : WireKind) → next_message method chunk bytes ≡ Cut place kind
    → messages_from (suc n) method chunk at bytes ≡ record { read = []; fault = Some (at + place, kind) }
unfolding messages_from
cut_is n method chunk at bytes place kind e = rw (e, messages_from) refl

mutual_step : (s : Step) → ((m : Message) × (size : ℕ) × (s ≡ Read m size)) ⊎ ((s ≡ End) ⊎ ((place : ℕ) × (kind : WireKind) × (s ≡ Cut place kind)))
mutual_step (Read m size) = inl (m, size, refl)
mutual_step End = inr (inl refl)
mutual_step (Cut place kind) = inr (inr (place, kind, refl))

some_none : (x : ℕ × WireKind) → Some x ≡ None → ⊥
some_none x e = cc

is_cut : (chunk place : ℕ) (kind : WireKind) → IsWhole chunk (record { read = []; fault = Some (place, kind) }) → ⊥
is_cut chunk place kind h = some_none (place, kind) h.no_fault

grows : (n k : ℕ) (method : Method) (chunk at : ℕ) (bytes : List ℕ) (m : Message) (text : List ℕ) → 0 < chunk → IsBytes bytes
    → length bytes ≤ n → length bytes < k → IsWhole chunk (messages_from n method chunk at bytes) → IsSpelt method m text → AtMostFull chunk m
    → messages_from k method chunk at (bytes ++ text) ≡ with_last m (messages_from n method chunk at bytes)
grows n k method chunk at [] m text some fits le lt whole is most =
    one_left k method chunk at m text is most (omega arith) ∙ ap (with_last m) (sym (empty n method chunk at))
grows zero k method chunk at (b ∷ bs) m text some fits le lt whole is most = absurd (omega arith)
grows (suc n) zero method chunk at (b ∷ bs) m text some fits le lt whole is most = absurd (omega arith)
grows (suc n) (suc k) method chunk at (b ∷ bs) m text some fits le lt whole is most =
    let bytes : List ℕ = b ∷ bs in
    elim (mutual_step (next_message method chunk bytes)) [
      | inl r ↦
          let size : ℕ = r.1 in
          let old = after n method chunk at bytes r.0 size r.2 in
          let parts = first_of chunk r.0 (messages_from n method chunk (at + size) (drop size bytes)) (subst (IsWhole chunk) old whole) in
          let new = after k method chunk at (bytes ++ text) r.0 size (still method chunk bytes text r.0 size some fits r.2 parts.0) in
          let read = some_read method chunk bytes r.0 size some fits r.2 in
          let rest : drop size (bytes ++ text) ≡ drop size bytes ++ text = drop-append-le size bytes text read.1 in
          let shorter : length (drop size bytes) < length bytes = omega (arith, length-drop size bytes, read.0, read.1) in
          let next = grows n k method chunk (at + size) (drop size bytes) m text some (IsBytes-drop size bytes fits)
          (omega (arith, shorter, le)) (omega (arith, shorter, lt)) parts.1 is most in
          new ∙ ap (λ (t : List ℕ). with_first r.0 (messages_from k method chunk (at + size) t)) rest ∙ ap (with_first r.0) next
          ∙ ap (with_last m) (sym old)
      | inr r ↦ elim r [
        | inl e ↦ let none : bytes ≡ [] = ended method chunk bytes e in absurd cc
        | inr c ↦ absurd (is_cut chunk (at + c.0) c.1 (subst (IsWhole chunk) (cut_is n method chunk at bytes c.0 c.1 c.2) whole))
      ]
    ]

datagram_is : (method : Method) (chunk : ℕ) (bytes : List ℕ) → 4 ≤ length bytes
    → datagram method chunk bytes ≡ record { channel = Some (from_be_bytes w32 (take 4 bytes)); messages = messages_at method chunk 4 (drop 4 bytes) }
unfolding datagram
datagram_is method chunk bytes le =
    let long : ltb (length bytes) 4 ≡ false = le-ltb _ _ le in rw long refl

-- what is put behind a datagram that was read to its end is read behind it
pub grows_by_one : (method : Method) (chunk : ℕ) (bytes : List ℕ) (m : Message) (text : List ℕ) → 0 < chunk → IsBytes bytes → 4 ≤ length bytes
    → (datagram method chunk bytes).messages.fault ≡ None → AllByRecursion (IsFull chunk) (datagram method chunk bytes).messages.read
    → IsSpelt method m text → AtMostFull chunk m
    → datagram method chunk (bytes ++ text)
    ≡ record { channel = (datagram method chunk bytes).channel; messages = with_last m (datagram method chunk bytes).messages }
grows_by_one method chunk bytes m text some fits le no_fault full is most =
    let old = datagram_is method chunk bytes le in
    let more : length bytes ≤ length (bytes ++ text) = omega (arith, length-append bytes text) in
    let new = datagram_is method chunk (bytes ++ text) (omega (arith, more, le)) in
    let whole : IsWhole chunk (messages_at method chunk 4 (drop 4 bytes)) =
    subst (λ (d : Datagram). IsWhole chunk d.messages) old (record { no_fault = no_fault; full = full }) in
    let any = spelt_some method m text is in
    let e = grows (length (drop 4 bytes)) (length (drop 4 bytes ++ text)) method chunk 4 (drop 4 bytes) m text some (IsBytes-drop 4 bytes fits)
    (omega arith) (omega (arith, length-append (drop 4 bytes) text, any)) whole is most in
    let make = λ (c : List ℕ) (x : Messages). let d : Datagram = record { channel = Some (from_be_bytes w32 c); messages = x } in d in
    new ∙ ap (λ (c : List ℕ). make c (messages_at method chunk 4 (drop 4 (bytes ++ text)))) (take-append-le 4 bytes text le)
    ∙ ap (λ (t : List ℕ). make (take 4 bytes) (messages_at method chunk 4 t)) (drop-append-le 4 bytes text le)
    ∙ ap (make (take 4 bytes)) e
    ∙ ap (λ (d : Datagram). let r : Datagram = record { channel = d.channel; messages = with_last m d.messages } in r) (sym old)

-- ---- the bound is enough

ended_is : (n : ℕ) (method : Method) (chunk at : ℕ) (bytes : List ℕ) → next_message method chunk bytes ≡ End → messages_from n method chunk at bytes ≡ nothing
ended_is n method chunk at bytes e = ap (messages_from n method chunk at) (ended method chunk bytes e) ∙ empty n method chunk at

any_bound : (n k : ℕ) (method : Method) (chunk at : ℕ) (bytes : List ℕ) → 0 < chunk → IsBytes bytes → length bytes ≤ n → length bytes ≤ k
    → messages_from n method chunk at bytes ≡ messages_from k method chunk at bytes
any_bound n k method chunk at [] some fits le low = empty n method chunk at ∙ sym (empty k method chunk at)
any_bound zero k method chunk at (b ∷ bs) some fits le low = absurd (omega arith)
any_bound (suc n) zero method chunk at (b ∷ bs) some fits le low = absurd (omega arith)
any_bound (suc n) (suc k) method chunk at (b ∷ bs) some fits le low =
    let bytes : List ℕ = b ∷ bs in
    elim (mutual_step (next_message method chunk bytes)) [
      | inl r ↦
          let size : ℕ = r.1 in
          let read = some_read method chunk bytes r.0 size some fits r.2 in
          let shorter : length (drop size bytes) < length bytes = omega (arith, length-drop size bytes, read.0, read.1) in
          let next = any_bound n k method chunk (at + size) (drop size bytes) some (IsBytes-drop size bytes fits) (omega (arith, shorter, le)) (omega (arith, shorter, low)) in
          after n method chunk at bytes r.0 size r.2 ∙ ap (with_first r.0) next ∙ sym (after k method chunk at bytes r.0 size r.2)
      | inr r ↦ elim r [
        | inl e ↦ ended_is (suc n) method chunk at bytes e ∙ sym (ended_is (suc k) method chunk at bytes e)
        | inr c ↦ cut_is n method chunk at bytes c.0 c.1 c.2 ∙ sym (cut_is k method chunk at bytes c.0 c.1 c.2)
      ]
    ]

first_and_rest : (method : Method) (chunk at : ℕ) (bytes : List ℕ) (m : Message) (size : ℕ) → 0 < chunk → IsBytes bytes
    → next_message method chunk bytes ≡ Read m size
    → messages_at method chunk at bytes ≡ with_first m (messages_at method chunk (at + size) (drop size bytes))
first_and_rest method chunk at bytes m size some fits e =
    let read = some_read method chunk bytes m size some fits e in
    let more = any_bound (length bytes) (suc (length bytes)) method chunk at bytes some fits (omega arith) (omega arith) in
    let less = any_bound (length bytes) (length (drop size bytes)) method chunk (at + size) (drop size bytes) some (IsBytes-drop size bytes fits)
    (omega (arith, length-drop size bytes)) (omega arith) in
    more ∙ after (length bytes) method chunk at bytes m size e ∙ ap (with_first m) less

cut_here : (method : Method) (chunk at : ℕ) (bytes : List ℕ) (place : ℕ) (kind : WireKind) → 0 < chunk → IsBytes bytes
    → next_message method chunk bytes ≡ Cut place kind → messages_at method chunk at bytes ≡ record { read = []; fault = Some (at + place, kind) }
cut_here method chunk at bytes place kind some fits e =
    any_bound (length bytes) (suc (length bytes)) method chunk at bytes some fits (omega arith) (omega arith)
    ∙ cut_is (length bytes) method chunk at bytes place kind e

-- the messages one by one
pub one_by_one : OneByOne
one_by_one method chunk at bytes some fits = (
  λ m size e. first_and_rest method chunk at bytes m size some fits e,
  λ e. ended_is (length bytes) method chunk at bytes e,
  λ place kind e. cut_here method chunk at bytes place kind some fits e,
)
