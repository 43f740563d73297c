-- What is spelled is read, and what is read is spelled so.
use Rattle.std.proofs.Common.{◌≡◌, ◌↔◌, ℕ, suc, ◌+◌, ◌-◌, ◌^◌, ◌<◌, ◌≤◌, ◌⊎◌, Bool, true, false, cond, eqb, ltb, List, [], ◌∷◌, ◌++◌, length, take, drop, Result, Ok, Err, refl, sym, ap, subst, ◌∙◌, append_assoc, append-nil, arith, inl, inr}
use Rattle.std.specs.Int.{Width, w16, w32, w64, byte_len, from_be_bytes, to_be_bytes}
use Rattle.std.proofs.lemmas.Bool.{cases_lt, ltb-false, le-ltb, eqb-true, eqb-false, eq-eqb, ne_eqb}
use Rattle.std.proofs.lemmas.List.{take_at, take_all, drop_at, drop_all, take-append-drop, length-append, length-take, length-drop, get_or-take, get_or_past}
use Rattle.std.proofs.lemmas.Nat.{be_bytes_2, be_bytes_4, be_bytes_8, from_be_bytes-to_be_bytes_2, from_be_bytes-to_be_bytes_4, from_be_bytes-to_be_bytes_8}
use Rattle.pp_terms.specs.format.Descriptor.{Method, Bin32, Range32, Bin64, Range64}
use Rattle.pp_terms.specs.format.Options.{Options, OptionFault, IsSpelling, read_options, IsBytes}
use Rattle.pp_terms.specs.format.Messages.{Message, Handshake, Data, Ack, Have, Integrity, Pex4, PexReq, Request, Cancel, Choke, Unchoke, Pex6, type_of, IsBinSpan, bin_number_of, IsNamed, spell_span, only, spell_fields, spell, IsSpelt, MayPrecede, BeginsWith, WireKind, Short, Range, Wide, ◌>>=◌, bytes_at, number_at, span_length, leaves_of, span_of_bin, span_of_range, span_in, one_chunk, options_in, handshake_at, chunk_bytes_at, data_at, ack_at, integrity_at, span_at, spanned, address_at, addressed, message_at, Step, Read, End, Cut, step_over, next_message, moved}
use Rattle.pp_terms.specs.tree.Range.{Span}
use Rattle.pp_terms.proofs.Spellings.{spelled_is_read, read_is_spelled, IsBytes-drop}
use Rattle.pp_terms.proofs.BinSpans.{leaves_of_bin, leaves_are, AreLeaves, span_same}
use Rattle.pp_terms.proofs.MovedSteps.{moved_end}

-- ---- numbers and bytes

pub IsBytes-take : (n : ℕ) (bytes : List ℕ) → IsBytes bytes → IsBytes (take n bytes)
IsBytes-take n bytes h i =
    elim (cases_lt i n) [
      | inl lt ↦ rw (get_or-take n bytes i 0 lt) (h i)
      | inr le ↦ rw (get_or_past (take n bytes) i 0 (omega (arith, length-take n bytes))) (omega arith)
    ]

pub record IsWide (w : Width) (limit : ℕ) : Type 0 where
  pub len : (n : ℕ) → length (to_be_bytes w n) ≡ byte_len w
  pub back : (bytes : List ℕ) → length bytes ≡ byte_len w → IsBytes bytes → to_be_bytes w (from_be_bytes w bytes) ≡ bytes
  pub again : (n : ℕ) → n < limit → from_be_bytes w (to_be_bytes w n) ≡ n
  pub below : (bytes : List ℕ) → IsBytes bytes → from_be_bytes w bytes < limit

pub wide16 : IsWide w16 (2 ^ 16)
wide16 = record {
  len = λ n. refl;
  back = λ bytes len fits. be_bytes_2 bytes _ len fits refl;
  again = λ n lt. from_be_bytes-to_be_bytes_2 n lt;
  below = λ bytes fits. omega (arith, fits 0, fits 1);
}

pub wide32 : IsWide w32 (2 ^ 32)
wide32 = record {
  len = λ n. refl;
  back = λ bytes len fits. be_bytes_4 bytes _ len fits refl;
  again = λ n lt. from_be_bytes-to_be_bytes_4 n lt;
  below = λ bytes fits. omega (arith, fits 0, fits 1, fits 2, fits 3);
}

pub wide64 : IsWide w64 (2 ^ 64)
wide64 = record {
  len = λ n. refl;
  back = λ bytes len fits. be_bytes_8 bytes _ len fits refl;
  again = λ n lt. from_be_bytes-to_be_bytes_8 n lt;
  below = λ bytes fits. omega (arith, fits 0, fits 1, fits 2, fits 3, fits 4, fits 5, fits 6, fits 7);
}

-- ---- what is spelled is read

bytes_again : (n : ℕ) (text rest : List ℕ) → length text ≡ n → bytes_at n (text ++ rest) ≡ Ok (text, rest)
bytes_again n text rest len =
    let long : ltb (length (text ++ rest)) n ≡ false = le-ltb _ _ (omega (arith, length-append text rest)) in
    rw (long, take_at text rest n len, drop_at text rest n len) refl

number_again : (w : Width) (limit : ℕ) (wide : IsWide w limit) (n : ℕ) (rest : List ℕ) → n < limit → number_at w (to_be_bytes w n ++ rest) ≡ Ok (n, rest)
number_again w limit wide n rest lt =
    let len = wide.len n in
    let long : ltb (length (to_be_bytes w n ++ rest)) (byte_len w) ≡ false = le-ltb _ _ (omega (arith, length-append (to_be_bytes w n) rest)) in
    rw (long, take_at (to_be_bytes w n) rest (byte_len w) len, drop_at (to_be_bytes w n) rest (byte_len w) len, wide.again n lt) refl

length-spell_span : (method : Method) (s : Span) → length (spell_span method s) ≡ span_length method
length-spell_span Bin32 s = refl
length-spell_span Range32 s = refl
length-spell_span Bin64 s = refl
length-spell_span Range64 s = refl

bin_again : (s : Span) (bits : ℕ) → IsBinSpan s → bin_number_of s < 2 ^ bits - 1 → span_of_bin bits (bin_number_of s) ≡ Ok s
bin_again s bits bin low =
    let other : eqb (bin_number_of s) (2 ^ bits - 1) ≡ false = ne_eqb _ _ (λ e. absurd (omega (arith, e, low))) in
    rw other (ap (λ (x : Span). let r : Result Span WireKind = Ok x in r) (leaves_of_bin s bits bin (omega (arith, low))))

range_again : (s : Span) → s.first ≤ s.last → span_of_range s.first s.last ≡ Ok s
range_again s le =
    let other : ltb s.last s.first ≡ false = le-ltb _ _ le in rw other refl

span_again : (method : Method) (s : Span) → IsNamed method s → span_in method (spell_span method s) ≡ Ok s
unfolding span_in
span_again Bin32 s h =
    ap (λ (n : ℕ). span_of_bin 32 n) (from_be_bytes-to_be_bytes_4 (bin_number_of s) (omega (arith, h.1))) ∙ bin_again s 32 h.0 h.1
span_again Range32 s h =
    ap (λ (n : ℕ). span_of_range n (from_be_bytes w32 (to_be_bytes w32 s.last))) (from_be_bytes-to_be_bytes_4 s.first (omega (arith, h.0, h.1)))
    ∙ ap (λ (n : ℕ). span_of_range s.first n) (from_be_bytes-to_be_bytes_4 s.last h.1) ∙ range_again s h.0
span_again Bin64 s h =
    ap (λ (n : ℕ). span_of_bin 64 n) (from_be_bytes-to_be_bytes_8 (bin_number_of s) (omega (arith, h.1))) ∙ bin_again s 64 h.0 h.1
span_again Range64 s h =
    ap (λ (n : ℕ). span_of_range n (from_be_bytes w64 (to_be_bytes w64 s.last))) (from_be_bytes-to_be_bytes_8 s.first (omega (arith, h.0, h.1)))
    ∙ ap (λ (n : ℕ). span_of_range s.first n) (from_be_bytes-to_be_bytes_8 s.last h.1) ∙ range_again s h.0

place_again : (method : Method) (s : Span) (rest : List ℕ) → bytes_at (span_length method) (spell_span method s ++ rest) ≡ Ok (spell_span method s, rest)
place_again method s rest = bytes_again (span_length method) (spell_span method s) rest (length-spell_span method s)

chunks_again : (method : Method) (s : Span) (rest : List ℕ) → IsNamed method s → span_at method (spell_span method s ++ rest) ≡ Ok (s, rest)
unfolding span_at
chunks_again method s rest h = rw (place_again method s rest, span_again method s h) refl

ack_again : (method : Method) (s : Span) (delay : ℕ) (rest : List ℕ) → IsNamed method s → delay < 2 ^ 64
    → ack_at method ((spell_span method s ++ to_be_bytes w64 delay) ++ rest) ≡ Ok (Ack s delay, rest)
unfolding ack_at
ack_again method s delay rest h low =
    let tail : List ℕ = to_be_bytes w64 delay ++ rest in
    ap (ack_at method) (append_assoc (spell_span method s) (to_be_bytes w64 delay) rest)
    ∙ rw (place_again method s tail, number_again w64 (2 ^ 64) wide64 delay rest low, span_again method s h) refl

integrity_again : (method : Method) (s : Span) (digest rest : List ℕ) → IsNamed method s → length digest ≡ 32
    → integrity_at method ((spell_span method s ++ digest) ++ rest) ≡ Ok (Integrity s digest, rest)
unfolding integrity_at
integrity_again method s digest rest h len =
    ap (integrity_at method) (append_assoc (spell_span method s) digest rest)
    ∙ rw (place_again method s (digest ++ rest), bytes_again 32 digest rest len, span_again method s h) refl

address_again : (size : ℕ) (address : List ℕ) (port : ℕ) (rest : List ℕ) → length address ≡ size → port < 2 ^ 16
    → address_at size ((address ++ to_be_bytes w16 port) ++ rest) ≡ Ok (address, port, rest)
unfolding address_at
address_again size address port rest len low =
    ap (address_at size) (append_assoc address (to_be_bytes w16 port) rest)
    ∙ rw (bytes_again size address (to_be_bytes w16 port ++ rest) len, number_again w16 (2 ^ 16) wide16 port rest low) refl

content_again : (chunk : ℕ) (bytes rest : List ℕ) → 0 < length bytes → (length bytes ≡ chunk) ⊎ ((length bytes < chunk) × (rest ≡ []))
    → chunk_bytes_at chunk (bytes ++ rest) ≡ Ok (bytes, rest)
content_again chunk bytes rest some (inl full) =
    let long : eqb (length (bytes ++ rest)) 0 ≡ false = ne_eqb _ _ (λ e. absurd (omega (arith, e, length-append bytes rest))) in
    rw (long, take_at bytes rest chunk full, drop_at bytes rest chunk full) refl
content_again chunk bytes rest some (inr short) =
    let all : bytes ++ rest ≡ bytes = ap (λ (t : List ℕ). bytes ++ t) short.1 ∙ append-nil bytes in
    let long : eqb (length bytes) 0 ≡ false = ne_eqb _ _ (λ e. absurd (omega (arith, e, some))) in
    let le : length bytes ≤ chunk = omega (arith, short.0) in
    ap (chunk_bytes_at chunk) all ∙ rw (long, take_all chunk bytes le, drop_all chunk bytes le, short.1) refl

data_again : (method : Method) (chunk number sent_at : ℕ) (bytes rest : List ℕ) → IsNamed method (only number) → sent_at < 2 ^ 64 → 0 < length bytes
    → (length bytes ≡ chunk) ⊎ ((length bytes < chunk) × (rest ≡ []))
    → data_at method chunk ((spell_span method (only number) ++ (to_be_bytes w64 sent_at ++ bytes)) ++ rest) ≡ Ok (Data number sent_at bytes, rest)
unfolding data_at
data_again method chunk number sent_at bytes rest h low some may =
    let regroup : (spell_span method (only number) ++ (to_be_bytes w64 sent_at ++ bytes)) ++ rest ≡ spell_span method (only number) ++ (to_be_bytes w64 sent_at ++ (bytes ++ rest)) =
    append_assoc (spell_span method (only number)) (to_be_bytes w64 sent_at ++ bytes) rest in
    let one : eqb number number ≡ true = eq-eqb number number refl in
    ap (data_at method chunk) regroup
    ∙ rw (
      place_again method (only number) (to_be_bytes w64 sent_at ++ (bytes ++ rest)),
      number_again w64 (2 ^ 64) wide64 sent_at (bytes ++ rest) low,
      content_again chunk bytes rest some may,
      span_again method (only number) h,
      one,
    ) refl

handshake_again : (source : ℕ) (options : Options) (tail rest : List ℕ) → source < 2 ^ 32 → IsSpelling options tail
    → handshake_at ((to_be_bytes w32 source ++ tail) ++ rest) ≡ Ok (Handshake source options, rest)
unfolding handshake_at
handshake_again source options tail rest low spelled =
    ap handshake_at (append_assoc (to_be_bytes w32 source) tail rest)
    ∙ rw (number_again w32 (2 ^ 32) wide32 source (tail ++ rest) low, spelled_is_read options tail rest spelled, drop_at tail rest (length tail) refl) refl

-- The text is a type and fields, and these are read behind that type.
pub record IsReadAgain (method : Method) (chunk : ℕ) (m : Message) (text rest : List ℕ) : Type 0 where
  pub fields : List ℕ
  pub parts : text ≡ type_of m ∷ fields
  pub is_read : message_at method chunk (type_of m) (fields ++ rest) ≡ Ok (m, rest)

again_spanned : (make : Span → Message) (method : Method) (s : Span) (rest : List ℕ) → IsNamed method s
    → spanned make (span_at method (spell_span method s ++ rest)) ≡ Ok (make s, rest)
again_spanned make method s rest h = ap (spanned make) (chunks_again method s rest h)

again_addressed : (make : List ℕ → ℕ → Message) (size : ℕ) (address : List ℕ) (port : ℕ) (rest : List ℕ) → length address ≡ size → port < 2 ^ 16
    → addressed make (address_at size ((address ++ to_be_bytes w16 port) ++ rest)) ≡ Ok (make address port, rest)
again_addressed make size address port rest len low = ap (addressed make) (address_again size address port rest len low)

again : (method : Method) (chunk : ℕ) (m : Message) (text rest : List ℕ) → IsSpelt method m text → MayPrecede chunk m rest
    → IsReadAgain method chunk m text rest
unfolding spell message_at
again method chunk (Handshake source options) text rest h may =
    record { fields = to_be_bytes w32 source ++ h.1; parts = h.3; is_read = handshake_again source options h.1 rest h.0 h.2 }
again method chunk (Data number sent_at bytes) text rest h may =
    record { fields = spell_fields method (Data number sent_at bytes); parts = h.1; is_read = data_again method chunk number sent_at bytes rest h.0.0 h.0.1 h.0.2 may }
again method chunk (Ack span delay) text rest h may =
    record { fields = spell_fields method (Ack span delay); parts = h.1; is_read = ack_again method span delay rest h.0.0 h.0.1 }
again method chunk (Have span) text rest h may =
    record { fields = spell_fields method (Have span); parts = h.1; is_read = again_spanned Have method span rest h.0 }
again method chunk (Integrity span digest) text rest h may =
    record { fields = spell_fields method (Integrity span digest); parts = h.1; is_read = integrity_again method span digest rest h.0.0 h.0.1 }
again method chunk (Pex4 address port) text rest h may =
    record { fields = spell_fields method (Pex4 address port); parts = h.1; is_read = again_addressed Pex4 4 address port rest h.0.0 h.0.1 }
again method chunk PexReq text rest h may = record { fields = []; parts = h.1; is_read = refl }
again method chunk (Request span) text rest h may =
    record { fields = spell_fields method (Request span); parts = h.1; is_read = again_spanned Request method span rest h.0 }
again method chunk (Cancel span) text rest h may =
    record { fields = spell_fields method (Cancel span); parts = h.1; is_read = again_spanned Cancel method span rest h.0 }
again method chunk Choke text rest h may = record { fields = []; parts = h.1; is_read = refl }
again method chunk Unchoke text rest h may = record { fields = []; parts = h.1; is_read = refl }
again method chunk (Pex6 address port) text rest h may =
    record { fields = spell_fields method (Pex6 address port); parts = h.1; is_read = again_addressed Pex6 16 address port rest h.0.0 h.0.1 }

next_at : (method : Method) (chunk type : ℕ) (fields rest : List ℕ) (m : Message) → message_at method chunk type (fields ++ rest) ≡ Ok (m, rest)
    → next_message method chunk ((type ∷ fields) ++ rest) ≡ Read m (length (type ∷ fields))
unfolding next_message
next_at method chunk type fields rest m e =
    let size : (1 + length (fields ++ rest)) - length rest ≡ 1 + length fields = omega (arith, length-append fields rest) in
    let tidy : 1 + length fields ≡ suc (length fields) = omega arith in
    ap (step_over (1 + length (fields ++ rest))) e ∙ ap (Read m) (size ∙ tidy)

-- what is spelled is read, whatever follows that may
pub spelt_is_read : (method : Method) (chunk : ℕ) (m : Message) (text rest : List ℕ) → IsSpelt method m text → MayPrecede chunk m rest
    → next_message method chunk (text ++ rest) ≡ Read m (length text)
spelt_is_read method chunk m text rest h may =
    let a = again method chunk m text rest h may in
    let P : List ℕ → Type 0 = λ t. next_message method chunk (t ++ rest) ≡ Read m (length t) in
    subst P (sym a.parts) (next_at method chunk (type_of m) a.fields rest m a.is_read)

-- ---- what is read is spelled so

bind_ok : {A B : Type 0} (r : Result A WireKind) (f : A → Result B WireKind) (y : B) → (r >>= f) ≡ Ok y → (x : A) × (r ≡ Ok x) × (f x ≡ Ok y)
bind_ok (Ok x) f y e = (x, refl, e)
bind_ok (Err d) f y e = absurd cc

guard_ok : {A : Type 0} (b : Bool) (d : WireKind) (x y : A) → cond b (Err d) (Ok x) ≡ Ok y → (b ≡ false) × (x ≡ y)
guard_ok true d x y e = absurd cc
guard_ok false d x y e = (refl, cc)

abbrev found : {A : Type 0} → A → Result A WireKind
found x = Ok x

found_is : {A : Type 0} (x y : A) → found x ≡ found y → x ≡ y
found_is x y e = cc

-- What a reader took from the front of bytes.
record Takes (bytes text rest : List ℕ) : Type 0 where
  parts : bytes ≡ text ++ rest
  rest_fits : IsBytes rest

Takes-then : (a x b y c : List ℕ) → Takes a x b → Takes b y c → Takes a (x ++ y) c
Takes-then a x b y c p q =
    record { parts = p.parts ∙ ap (λ (t : List ℕ). x ++ t) q.parts ∙ sym (append_assoc x y c); rest_fits = q.rest_fits }

bytes_take : (n : ℕ) (bytes text rest : List ℕ) → IsBytes bytes → bytes_at n bytes ≡ Ok (text, rest)
    → Takes bytes text rest × IsBytes text × (length text ≡ n)
bytes_take n bytes text rest fits e =
    let g = guard_ok (ltb (length bytes) n) Short (take n bytes, drop n bytes) (text, rest) e in
    let long : n ≤ length bytes = ltb-false _ _ g.0 in
    let text-is : take n bytes ≡ text = ap (λ (p : List ℕ × List ℕ). p.0) g.1 in
    let rest-is : drop n bytes ≡ rest = ap (λ (p : List ℕ × List ℕ). p.1) g.1 in
    let split : bytes ≡ text ++ rest = sym (take-append-drop n bytes) ∙ ap (λ (t : List ℕ). t ++ drop n bytes) text-is ∙ ap (λ (t : List ℕ). text ++ t) rest-is in (
      record { parts = split; rest_fits = subst IsBytes rest-is (IsBytes-drop n bytes fits) },
      subst IsBytes text-is (IsBytes-take n bytes fits),
      ap length (sym text-is) ∙ omega (arith, length-take n bytes),
    )

number_takes : (w : Width) (limit : ℕ) (wide : IsWide w limit) (bytes : List ℕ) (n : ℕ) (rest : List ℕ) → IsBytes bytes → number_at w bytes ≡ Ok (n, rest) → Takes bytes (to_be_bytes w n) rest × (n < limit)
number_takes w limit wide bytes n rest fits e =
    let g = guard_ok (ltb (length bytes) (byte_len w)) Short (from_be_bytes w (take (byte_len w) bytes), drop (byte_len w) bytes) (n, rest) e in
    let long : byte_len w ≤ length bytes = ltb-false _ _ g.0 in
    let n-is : from_be_bytes w (take (byte_len w) bytes) ≡ n = ap (λ (p : ℕ × List ℕ). p.0) g.1 in
    let rest-is : drop (byte_len w) bytes ≡ rest = ap (λ (p : ℕ × List ℕ). p.1) g.1 in
    let front : to_be_bytes w n ≡ take (byte_len w) bytes = rw (← n-is) (wide.back (take (byte_len w) bytes) (omega (arith, length-take (byte_len w) bytes)) (IsBytes-take (byte_len w) bytes fits)) in
    (record { parts = rw (front, ← rest-is) (sym (take-append-drop (byte_len w) bytes)); rest_fits = rw (← rest-is) (IsBytes-drop (byte_len w) bytes fits) }, rw (← n-is) (wide.below (take (byte_len w) bytes) (IsBytes-take (byte_len w) bytes fits)))

bin_is : (bits number : ℕ) (s : Span) → number < 2 ^ bits → span_of_bin bits number ≡ Ok s
    → IsBinSpan s × (bin_number_of s < 2 ^ bits - 1) × (bin_number_of s ≡ number)
bin_is bits number s low e =
    let g = guard_ok (eqb number (2 ^ bits - 1)) Range (leaves_of bits number) s e in
    let other : number ≡ 2 ^ bits - 1 → ⊥ = eqb-false _ _ g.0 in
    let a : AreLeaves number s = subst (AreLeaves number) g.1 (leaves_are bits number low) in
    (a.span, omega (arith, a.sum, other, low), a.sum)

range_is : (first last : ℕ) (s : Span) → span_of_range first last ≡ Ok s → (s.first ≡ first) × (s.last ≡ last) × (s.first ≤ s.last)
range_is first last s e =
    let g = guard_ok (ltb last first) Range (record { first = first; last = last }) s e in
    let le : first ≤ last = ltb-false _ _ g.0 in
    let a : s.first ≡ first = ap (λ (x : Span). x.first) (sym g.1) in
    let b : s.last ≡ last = ap (λ (x : Span). x.last) (sym g.1) in
    (a, b, omega (arith, a, b, le))

span_is : (method : Method) (bytes : List ℕ) (s : Span) → IsBytes bytes → length bytes ≡ span_length method → span_in method bytes ≡ Ok s
    → IsNamed method s × (spell_span method s ≡ bytes)
unfolding span_in
span_is Bin32 bytes s fits len e =
    let b = bin_is 32 (from_be_bytes w32 bytes) s (wide32.below bytes fits) e in
    ((b.0, b.1), ap (to_be_bytes w32) b.2 ∙ wide32.back bytes len fits)
span_is Range32 bytes s fits len e =
    let r = range_is (from_be_bytes w32 (take 4 bytes)) (from_be_bytes w32 (drop 4 bytes)) s e in
    let low = wide32.below (drop 4 bytes) (IsBytes-drop 4 bytes fits) in
    let one : to_be_bytes w32 s.first ≡ take 4 bytes = ap (to_be_bytes w32) r.0 ∙ wide32.back (take 4 bytes) (omega (arith, length-take 4 bytes, len)) (IsBytes-take 4 bytes fits) in
    let two : to_be_bytes w32 s.last ≡ drop 4 bytes = ap (to_be_bytes w32) r.1 ∙ wide32.back (drop 4 bytes) (omega (arith, length-drop 4 bytes, len)) (IsBytes-drop 4 bytes fits) in (
      (r.2, omega (arith, r.1, low)),
      ap (λ (t : List ℕ). t ++ to_be_bytes w32 s.last) one ∙ ap (λ (t : List ℕ). take 4 bytes ++ t) two ∙ take-append-drop 4 bytes,
    )
span_is Bin64 bytes s fits len e =
    let b = bin_is 64 (from_be_bytes w64 bytes) s (wide64.below bytes fits) e in
    ((b.0, b.1), ap (to_be_bytes w64) b.2 ∙ wide64.back bytes len fits)
span_is Range64 bytes s fits len e =
    let r = range_is (from_be_bytes w64 (take 8 bytes)) (from_be_bytes w64 (drop 8 bytes)) s e in
    let low = wide64.below (drop 8 bytes) (IsBytes-drop 8 bytes fits) in
    let one : to_be_bytes w64 s.first ≡ take 8 bytes = ap (to_be_bytes w64) r.0 ∙ wide64.back (take 8 bytes) (omega (arith, length-take 8 bytes, len)) (IsBytes-take 8 bytes fits) in
    let two : to_be_bytes w64 s.last ≡ drop 8 bytes = ap (to_be_bytes w64) r.1 ∙ wide64.back (drop 8 bytes) (omega (arith, length-drop 8 bytes, len)) (IsBytes-drop 8 bytes fits) in (
      (r.2, omega (arith, r.1, low)),
      ap (λ (t : List ℕ). t ++ to_be_bytes w64 s.last) one ∙ ap (λ (t : List ℕ). take 8 bytes ++ t) two ∙ take-append-drop 8 bytes,
    )

-- a chunk specification that was cut off, and read later
place_takes : (method : Method) (bytes place rest : List ℕ) (s : Span) → IsBytes bytes → bytes_at (span_length method) bytes ≡ Ok (place, rest)
    → span_in method place ≡ Ok s → Takes bytes (spell_span method s) rest × IsNamed method s
place_takes method bytes place rest s fits e f =
    let t = bytes_take (span_length method) bytes place rest fits e in
    let h = span_is method place s t.1 t.2 f in
    (subst (λ (x : List ℕ). Takes bytes x rest) (sym h.1) t.0, h.0)

span_takes : (method : Method) (bytes : List ℕ) (s : Span) (rest : List ℕ) → IsBytes bytes → span_at method bytes ≡ Ok (s, rest)
    → Takes bytes (spell_span method s) rest × IsNamed method s
unfolding span_at
span_takes method bytes s rest fits e =
    let a = bind_ok (bytes_at (span_length method) bytes) (λ place. span_in method place.0 >>= λ span. Ok (span, place.1)) (s, rest) e in
    let b = bind_ok (span_in method a.0.0) (λ span. Ok (span, a.0.1)) (s, rest) a.2 in
    let made : Span × List ℕ = (b.0, a.0.1) in
    subst (λ (x : Span × List ℕ). Takes bytes (spell_span method x.0) x.1 × IsNamed method x.0) (found_is made (s, rest) b.2)
    (place_takes method bytes a.0.0 a.0.1 b.0 fits a.1 b.1)

-- A message was read: it begins with its spelling, and its rest may follow it.
record IsReadOf (method : Method) (chunk type : ℕ) (bytes : List ℕ) (m : Message) (rest : List ℕ) : Type 0 where
  text : List ℕ
  parts : bytes ≡ text ++ rest
  spelt : IsSpelt method m (type ∷ text)
  may : MayPrecede chunk m rest

abbrev Reads : Method → ℕ → ℕ → List ℕ → Message × List ℕ → Type 0
Reads method chunk type bytes x = IsReadOf method chunk type bytes x.0 x.1

ack_takes : (method : Method) (chunk : ℕ) (bytes : List ℕ) (x : Message × List ℕ) → IsBytes bytes → ack_at method bytes ≡ Ok x → Reads method chunk 2 bytes x
unfolding ack_at spell
ack_takes method chunk bytes x fits e =
    let a = bind_ok (bytes_at (span_length method) bytes) (λ place. number_at w64 place.1 >>= λ delay. span_in method place.0 >>= λ span. Ok (Ack span delay.0, delay.1)) x e in
    let b = bind_ok (number_at w64 a.0.1) (λ delay. span_in method a.0.0 >>= λ span. Ok (Ack span delay.0, delay.1)) x a.2 in
    let c = bind_ok (span_in method a.0.0) (λ span. Ok (Ack span b.0.0, b.0.1)) x b.2 in
    let p = place_takes method bytes a.0.0 a.0.1 c.0 fits a.1 c.1 in
    let n = number_takes w64 (2 ^ 64) wide64 a.0.1 b.0.0 b.0.1 p.0.rest_fits b.1 in
    let both = Takes-then bytes (spell_span method c.0) a.0.1 (to_be_bytes w64 b.0.0) b.0.1 p.0 n.0 in
    let made : Message × List ℕ = (Ack c.0 b.0.0, b.0.1) in
    subst (Reads method chunk 2 bytes) (found_is made x c.2)
    (record { text = spell_span method c.0 ++ to_be_bytes w64 b.0.0; parts = both.parts; spelt = ((p.1, n.1), refl); may = tt })

integrity_takes : (method : Method) (chunk : ℕ) (bytes : List ℕ) (x : Message × List ℕ) → IsBytes bytes → integrity_at method bytes ≡ Ok x → Reads method chunk 4 bytes x
unfolding integrity_at spell
integrity_takes method chunk bytes x fits e =
    let a = bind_ok (bytes_at (span_length method) bytes) (λ place. bytes_at 32 place.1 >>= λ digest. span_in method place.0 >>= λ span. Ok (Integrity span digest.0, digest.1)) x e in
    let b = bind_ok (bytes_at 32 a.0.1) (λ digest. span_in method a.0.0 >>= λ span. Ok (Integrity span digest.0, digest.1)) x a.2 in
    let c = bind_ok (span_in method a.0.0) (λ span. Ok (Integrity span b.0.0, b.0.1)) x b.2 in
    let p = place_takes method bytes a.0.0 a.0.1 c.0 fits a.1 c.1 in
    let n = bytes_take 32 a.0.1 b.0.0 b.0.1 p.0.rest_fits b.1 in
    let both = Takes-then bytes (spell_span method c.0) a.0.1 b.0.0 b.0.1 p.0 n.0 in
    let made : Message × List ℕ = (Integrity c.0 b.0.0, b.0.1) in
    subst (Reads method chunk 4 bytes) (found_is made x c.2)
    (record { text = spell_span method c.0 ++ b.0.0; parts = both.parts; spelt = ((p.1, n.2), refl); may = tt })

-- bytes of a chunk, or those that are left
content_takes : (chunk : ℕ) (bytes content rest : List ℕ) → chunk_bytes_at chunk bytes ≡ Ok (content, rest) → 0 < chunk
    → (bytes ≡ content ++ rest) × (0 < length content) × ((length content ≡ chunk) ⊎ ((length content < chunk) × (rest ≡ [])))
content_takes chunk bytes content rest e some =
    let g = guard_ok (eqb (length bytes) 0) Short (take chunk bytes, drop chunk bytes) (content, rest) e in
    let any : length bytes ≡ 0 → ⊥ = eqb-false _ _ g.0 in
    let P : List ℕ × List ℕ → Type 0 = λ p. (bytes ≡ p.0 ++ p.1) × (0 < length p.0) × ((length p.0 ≡ chunk) ⊎ ((length p.0 < chunk) × (p.1 ≡ []))) in
    let size : 0 < length (take chunk bytes) = omega (arith, length-take chunk bytes, any, some) in
    subst P g.1 (
      sym (take-append-drop chunk bytes),
      size,
      elim (cases_lt (length bytes) chunk) [
        | inl short ↦ inr (omega (arith, length-take chunk bytes, short), drop_all chunk bytes (omega (arith, short)))
        | inr full ↦ inl (omega (arith, length-take chunk bytes, full))
      ],
    )

one_ok : (b : Bool) (x y : ℕ) → cond b (found x) (Err Wide) ≡ Ok y → (b ≡ true) × (x ≡ y)
one_ok true x y e = (refl, cc)
one_ok false x y e = absurd cc

one_is : (s : Span) (n : ℕ) → one_chunk s ≡ Ok n → s ≡ only n
one_is s n e =
    let g = one_ok (eqb s.first s.last) s.first n e in
    let same : s.first ≡ s.last = eqb-true _ _ g.0 in
    span_same s (only n) g.1 (sym same ∙ g.1)

data_takes : (method : Method) (chunk : ℕ) (bytes : List ℕ) (x : Message × List ℕ) → 0 < chunk → IsBytes bytes → data_at method chunk bytes ≡ Ok x
    → Reads method chunk 1 bytes x
unfolding data_at spell
data_takes method chunk bytes x some fits e =
    let a = bind_ok (bytes_at (span_length method) bytes) (λ place. number_at w64 place.1 >>= λ sent_at. chunk_bytes_at chunk sent_at.1 >>= λ content. span_in method place.0 >>= λ span. one_chunk span >>= λ number. Ok (Data number sent_at.0 content.0, content.1)) x e in
    let b = bind_ok (number_at w64 a.0.1) (λ sent_at. chunk_bytes_at chunk sent_at.1 >>= λ content. span_in method a.0.0 >>= λ span. one_chunk span >>= λ number. Ok (Data number sent_at.0 content.0, content.1)) x a.2 in
    let c = bind_ok (chunk_bytes_at chunk b.0.1) (λ content. span_in method a.0.0 >>= λ span. one_chunk span >>= λ number. Ok (Data number b.0.0 content.0, content.1)) x b.2 in
    let d = bind_ok (span_in method a.0.0) (λ span. one_chunk span >>= λ number. Ok (Data number b.0.0 c.0.0, c.0.1)) x c.2 in
    let f = bind_ok (one_chunk d.0) (λ number. Ok (Data number b.0.0 c.0.0, c.0.1)) x d.2 in
    let p = place_takes method bytes a.0.0 a.0.1 d.0 fits a.1 d.1 in
    let n = number_takes w64 (2 ^ 64) wide64 a.0.1 b.0.0 b.0.1 p.0.rest_fits b.1 in
    let t = content_takes chunk b.0.1 c.0.0 c.0.1 c.1 some in
    let one : d.0 ≡ only f.0 = one_is d.0 f.0 f.1 in
    let place : Takes bytes (spell_span method (only f.0)) a.0.1 = subst (λ (s : Span). Takes bytes (spell_span method s) a.0.1) one p.0 in
    let named : IsNamed method (only f.0) = subst (IsNamed method) one p.1 in
    let second : Takes b.0.1 c.0.0 c.0.1 = record { parts = t.0; rest_fits = subst IsBytes (drop_at c.0.0 c.0.1 (length c.0.0) refl) (IsBytes-drop (length c.0.0) (c.0.0 ++ c.0.1) (subst IsBytes t.0 n.0.rest_fits)) } in
    let tail = Takes-then a.0.1 (to_be_bytes w64 b.0.0) b.0.1 c.0.0 c.0.1 n.0 second in
    let whole = Takes-then bytes (spell_span method (only f.0)) a.0.1 (to_be_bytes w64 b.0.0 ++ c.0.0) c.0.1 place tail in
    let made : Message × List ℕ = (Data f.0 b.0.0 c.0.0, c.0.1) in
    subst (Reads method chunk 1 bytes) (found_is made x f.2)
    (record { text = spell_span method (only f.0) ++ (to_be_bytes w64 b.0.0 ++ c.0.0); parts = whole.parts; spelt = ((named, n.1, t.1), refl); may = t.2 })

-- What an address and a port took.
abbrev TakesAddress : ℕ → List ℕ → List ℕ × ℕ × List ℕ → Type 0
TakesAddress size bytes x = (bytes ≡ (x.0 ++ to_be_bytes w16 x.1) ++ x.2) × (length x.0 ≡ size) × (x.1 < 2 ^ 16)

address_takes : (size : ℕ) (bytes : List ℕ) (x : List ℕ × ℕ × List ℕ) → IsBytes bytes → address_at size bytes ≡ Ok x → TakesAddress size bytes x
unfolding address_at
address_takes size bytes x fits e =
    let a = bind_ok (bytes_at size bytes) (λ address. number_at w16 address.1 >>= λ port. Ok (address.0, port.0, port.1)) x e in
    let b = bind_ok (number_at w16 a.0.1) (λ port. Ok (a.0.0, port.0, port.1)) x a.2 in
    let t = bytes_take size bytes a.0.0 a.0.1 fits a.1 in
    let n = number_takes w16 (2 ^ 16) wide16 a.0.1 b.0.0 b.0.1 t.0.rest_fits b.1 in
    let both = Takes-then bytes a.0.0 a.0.1 (to_be_bytes w16 b.0.0) b.0.1 t.0 n.0 in
    let made : List ℕ × ℕ × List ℕ = (a.0.0, b.0.0, b.0.1) in
    subst (TakesAddress size bytes) (found_is made x b.2) (both.parts, t.2, n.1)

pex4_takes : (method : Method) (chunk : ℕ) (bytes : List ℕ) (x : Message × List ℕ) → IsBytes bytes → addressed Pex4 (address_at 4 bytes) ≡ Ok x
    → Reads method chunk 5 bytes x
unfolding spell
pex4_takes method chunk bytes x fits e =
    let a = bind_ok (address_at 4 bytes) (λ y. Ok (Pex4 y.0 y.1, y.2)) x e in
    let t = address_takes 4 bytes a.0 fits a.1 in
    let made : Message × List ℕ = (Pex4 a.0.0 a.0.1, a.0.2) in
    subst (Reads method chunk 5 bytes) (found_is made x a.2)
    (record { text = a.0.0 ++ to_be_bytes w16 a.0.1; parts = t.0; spelt = ((t.1, t.2), refl); may = tt })

pex6_takes : (method : Method) (chunk : ℕ) (bytes : List ℕ) (x : Message × List ℕ) → IsBytes bytes → addressed Pex6 (address_at 16 bytes) ≡ Ok x
    → Reads method chunk 12 bytes x
unfolding spell
pex6_takes method chunk bytes x fits e =
    let a = bind_ok (address_at 16 bytes) (λ y. Ok (Pex6 y.0 y.1, y.2)) x e in
    let t = address_takes 16 bytes a.0 fits a.1 in
    let made : Message × List ℕ = (Pex6 a.0.0 a.0.1, a.0.2) in
    subst (Reads method chunk 12 bytes) (found_is made x a.2)
    (record { text = a.0.0 ++ to_be_bytes w16 a.0.1; parts = t.0; spelt = ((t.1, t.2), refl); may = tt })

have_takes : (method : Method) (chunk : ℕ) (bytes : List ℕ) (x : Message × List ℕ) → IsBytes bytes → spanned Have (span_at method bytes) ≡ Ok x
    → Reads method chunk 3 bytes x
unfolding spell
have_takes method chunk bytes x fits e =
    let a = bind_ok (span_at method bytes) (λ y. Ok (Have y.0, y.1)) x e in
    let t = span_takes method bytes a.0.0 a.0.1 fits a.1 in
    let made : Message × List ℕ = (Have a.0.0, a.0.1) in
    subst (Reads method chunk 3 bytes) (found_is made x a.2)
    (record { text = spell_span method a.0.0; parts = t.0.parts; spelt = (t.1, refl); may = tt })

request_takes : (method : Method) (chunk : ℕ) (bytes : List ℕ) (x : Message × List ℕ) → IsBytes bytes → spanned Request (span_at method bytes) ≡ Ok x
    → Reads method chunk 8 bytes x
unfolding spell
request_takes method chunk bytes x fits e =
    let a = bind_ok (span_at method bytes) (λ y. Ok (Request y.0, y.1)) x e in
    let t = span_takes method bytes a.0.0 a.0.1 fits a.1 in
    let made : Message × List ℕ = (Request a.0.0, a.0.1) in
    subst (Reads method chunk 8 bytes) (found_is made x a.2)
    (record { text = spell_span method a.0.0; parts = t.0.parts; spelt = (t.1, refl); may = tt })

cancel_takes : (method : Method) (chunk : ℕ) (bytes : List ℕ) (x : Message × List ℕ) → IsBytes bytes → spanned Cancel (span_at method bytes) ≡ Ok x
    → Reads method chunk 9 bytes x
unfolding spell
cancel_takes method chunk bytes x fits e =
    let a = bind_ok (span_at method bytes) (λ y. Ok (Cancel y.0, y.1)) x e in
    let t = span_takes method bytes a.0.0 a.0.1 fits a.1 in
    let made : Message × List ℕ = (Cancel a.0.0, a.0.1) in
    subst (Reads method chunk 9 bytes) (found_is made x a.2)
    (record { text = spell_span method a.0.0; parts = t.0.parts; spelt = (t.1, refl); may = tt })

options_ok : (bytes : List ℕ) (r : Result (Options × ℕ) OptionFault) (x : Options × List ℕ) → options_in bytes r ≡ Ok x
    → (end : ℕ) × (r ≡ Ok (x.0, end)) × (drop end bytes ≡ x.1)
options_ok bytes (Ok y) x e =
    let made : Options × List ℕ = (y.0, drop y.1 bytes) in
    let same : made ≡ x = found_is made x e in
    (y.1, ap (λ (o : Options). let r : Result (Options × ℕ) OptionFault = Ok (o, y.1) in r) (ap (λ (p : Options × List ℕ). p.0) same), ap (λ (p : Options × List ℕ). p.1) same)
options_ok bytes (Err f) x e = absurd cc

handshake_takes : (method : Method) (chunk : ℕ) (bytes : List ℕ) (x : Message × List ℕ) → IsBytes bytes → handshake_at bytes ≡ Ok x
    → Reads method chunk 0 bytes x
unfolding handshake_at
handshake_takes method chunk bytes x fits e =
    let a = bind_ok (number_at w32 bytes) (λ source. options_in source.1 (read_options source.1) >>= λ options. Ok (Handshake source.0 options.0, options.1)) x e in
    let b = bind_ok (options_in a.0.1 (read_options a.0.1)) (λ options. Ok (Handshake a.0.0 options.0, options.1)) x a.2 in
    let n = number_takes w32 (2 ^ 32) wide32 bytes a.0.0 a.0.1 fits a.1 in
    let o = options_ok a.0.1 (read_options a.0.1) b.0 b.1 in
    let r = read_is_spelled a.0.1 b.0.0 o.0 n.0.rest_fits o.1 in
    let tail : List ℕ = take o.0 a.0.1 in
    let split : a.0.1 ≡ tail ++ b.0.1 = sym (take-append-drop o.0 a.0.1) ∙ ap (λ (t : List ℕ). tail ++ t) o.2 in
    let whole : bytes ≡ (to_be_bytes w32 a.0.0 ++ tail) ++ b.0.1 =
    n.0.parts ∙ ap (λ (t : List ℕ). to_be_bytes w32 a.0.0 ++ t) split ∙ sym (append_assoc (to_be_bytes w32 a.0.0) tail b.0.1) in
    let made : Message × List ℕ = (Handshake a.0.0 b.0.0, b.0.1) in
    subst (Reads method chunk 0 bytes) (found_is made x b.2)
    (record { text = to_be_bytes w32 a.0.0 ++ tail; parts = whole; spelt = (n.1, tail, r.1, refl); may = tt })

pex_req_takes : (method : Method) (chunk : ℕ) (bytes : List ℕ) (x : Message × List ℕ) → found (PexReq, bytes) ≡ Ok x → Reads method chunk 6 bytes x
unfolding spell
pex_req_takes method chunk bytes x e =
    subst (Reads method chunk 6 bytes) (found_is (PexReq, bytes) x e) (record { text = []; parts = refl; spelt = (tt, refl); may = tt })

choke_takes : (method : Method) (chunk : ℕ) (bytes : List ℕ) (x : Message × List ℕ) → found (Choke, bytes) ≡ Ok x → Reads method chunk 10 bytes x
unfolding spell
choke_takes method chunk bytes x e =
    subst (Reads method chunk 10 bytes) (found_is (Choke, bytes) x e) (record { text = []; parts = refl; spelt = (tt, refl); may = tt })

unchoke_takes : (method : Method) (chunk : ℕ) (bytes : List ℕ) (x : Message × List ℕ) → found (Unchoke, bytes) ≡ Ok x → Reads method chunk 11 bytes x
unfolding spell
unchoke_takes method chunk bytes x e =
    subst (Reads method chunk 11 bytes) (found_is (Unchoke, bytes) x e) (record { text = []; parts = refl; spelt = (tt, refl); may = tt })

chosen : {A : Type 0} (b : Bool) (x y z : A) → cond b x y ≡ z → ((b ≡ true) × (x ≡ z)) ⊎ ((b ≡ false) × (y ≡ z))
chosen true x y z e = inl (refl, e)
chosen false x y z e = inr (refl, e)

-- One of two, by a test of the type.
by_type : (method : Method) (chunk type k : ℕ) (bytes : List ℕ) (x : Message × List ℕ) (one other : Result (Message × List ℕ) WireKind)
    → (one ≡ Ok x → Reads method chunk k bytes x) → (other ≡ Ok x → Reads method chunk type bytes x)
    → cond (eqb type k) one other ≡ Ok x → Reads method chunk type bytes x
by_type method chunk type k bytes x one other first then e =
    elim (chosen (eqb type k) one other (found x) e) [
      | inl p ↦ subst (λ (t : ℕ). Reads method chunk t bytes x) (sym (eqb-true type k p.0)) (first p.1)
      | inr p ↦ then p.1
    ]

message_takes : (method : Method) (chunk type : ℕ) (bytes : List ℕ) (x : Message × List ℕ) → 0 < chunk → IsBytes bytes
    → message_at method chunk type bytes ≡ Ok x → Reads method chunk type bytes x
unfolding message_at
message_takes method chunk type bytes x some fits =
    by_type method chunk type 0 bytes x _ _ (handshake_takes method chunk bytes x fits)
    (by_type method chunk type 1 bytes x _ _ (data_takes method chunk bytes x some fits)
    (by_type method chunk type 2 bytes x _ _ (ack_takes method chunk bytes x fits)
    (by_type method chunk type 3 bytes x _ _ (have_takes method chunk bytes x fits)
    (by_type method chunk type 4 bytes x _ _ (integrity_takes method chunk bytes x fits)
    (by_type method chunk type 5 bytes x _ _ (pex4_takes method chunk bytes x fits)
    (by_type method chunk type 6 bytes x _ _ (pex_req_takes method chunk bytes x)
    (by_type method chunk type 8 bytes x _ _ (request_takes method chunk bytes x fits)
    (by_type method chunk type 9 bytes x _ _ (cancel_takes method chunk bytes x fits)
    (by_type method chunk type 10 bytes x _ _ (choke_takes method chunk bytes x)
    (by_type method chunk type 11 bytes x _ _ (unchoke_takes method chunk bytes x)
    (by_type method chunk type 12 bytes x _ _ (pex6_takes method chunk bytes x fits)
    (λ e. absurd cc))))))))))))

-- ---- the laws of one message

read_is : (m m' : Message) (n n' : ℕ) → Read m n ≡ Read m' n' → (m ≡ m') × (n ≡ n')
read_is m m' n n' e = (cc, cc)

-- what a message was read of
abbrev HasRead : Method → ℕ → ℕ → List ℕ → Message → ℕ → Type 0
HasRead method chunk type rest m count = (left : List ℕ) × (message_at method chunk type rest ≡ Ok (m, left)) × (count ≡ (1 + length rest) - length left)

over_is : (method : Method) (chunk type : ℕ) (rest : List ℕ) (r : Result (Message × List ℕ) WireKind) (m : Message) (count : ℕ)
    → step_over (1 + length rest) r ≡ Read m count → message_at method chunk type rest ≡ r → HasRead method chunk type rest m count
over_is method chunk type rest (Ok x) m count e is =
    let same = read_is x.0 m ((1 + length rest) - length x.1) count e in
    (x.1, is ∙ ap (λ (y : Message). let r : Result (Message × List ℕ) WireKind = Ok (y, x.1) in r) same.0, sym same.1)
over_is method chunk type rest (Err kind) m count e is = absurd cc

begins_at : (method : Method) (chunk type : ℕ) (rest : List ℕ) (m : Message) (count : ℕ) (left : List ℕ)
    → IsReadOf method chunk type rest m left → count ≡ (1 + length rest) - length left → BeginsWith method chunk m count (type ∷ rest)
begins_at method chunk type rest m count left h is =
    let whole : type ∷ rest ≡ (type ∷ h.text) ++ left = ap (λ (t : List ℕ). type ∷ t) h.parts in
    let size : length rest ≡ length h.text + length left = ap length h.parts ∙ length-append h.text left in
    let count-is : length (type ∷ h.text) ≡ count = omega (arith, size, is) in
    let front : take count (type ∷ rest) ≡ type ∷ h.text = ap (take count) whole ∙ take_at (type ∷ h.text) left count count-is in
    let back : drop count (type ∷ rest) ≡ left = ap (drop count) whole ∙ drop_at (type ∷ h.text) left count count-is in
    record {
      within = omega (arith, size, is);
      spelt = subst (IsSpelt method m) (sym front) h.spelt;
      may = subst (MayPrecede chunk m) (sym back) h.may;
    }

-- what is read is spelled so
pub read_is_spelt : (method : Method) (chunk : ℕ) (bytes : List ℕ) (m : Message) (count : ℕ) → 0 < chunk → IsBytes bytes
    → next_message method chunk bytes ≡ Read m count → BeginsWith method chunk m count bytes
unfolding next_message
read_is_spelt method chunk [] m count some fits e = absurd cc
read_is_spelt method chunk (type ∷ rest) m count some fits e =
    let h = over_is method chunk type rest (message_at method chunk type rest) m count e refl in
    begins_at method chunk type rest m count h.0 (message_takes method chunk type rest (m, h.0) some (λ i. fits (suc i)) h.1) h.2

-- and what is spelled so is read
pub begun_is_read : (method : Method) (chunk : ℕ) (bytes : List ℕ) (m : Message) (count : ℕ) → BeginsWith method chunk m count bytes
    → next_message method chunk bytes ≡ Read m count
begun_is_read method chunk bytes m count h =
    let e = spelt_is_read method chunk m (take count bytes) (drop count bytes) h.spelt h.may in
    let size : length (take count bytes) ≡ count = omega (arith, length-take count bytes, h.within) in
    ap (next_message method chunk) (sym (take-append-drop count bytes)) ∙ e ∙ ap (Read m) size

some_of : (text : List ℕ) {type : ℕ} {fields : List ℕ} → text ≡ type ∷ fields → 0 < length text
some_of text e = omega (arith, ap length e)

-- a spelling has at least the type
pub spelt_some : (method : Method) (m : Message) (text : List ℕ) → IsSpelt method m text → 0 < length text
unfolding spell
spelt_some method (Handshake source options) text h = some_of text h.3
spelt_some method (Data number sent_at bytes) text h = some_of text h.1
spelt_some method (Ack span delay) text h = some_of text h.1
spelt_some method (Have span) text h = some_of text h.1
spelt_some method (Integrity span digest) text h = some_of text h.1
spelt_some method (Pex4 address port) text h = some_of text h.1
spelt_some method PexReq text h = some_of text h.1
spelt_some method (Request span) text h = some_of text h.1
spelt_some method (Cancel span) text h = some_of text h.1
spelt_some method Choke text h = some_of text h.1
spelt_some method Unchoke text h = some_of text h.1
spelt_some method (Pex6 address port) text h = some_of text h.1

-- No spelling begins another message's, and each is of one message, where both may stand before what follows them.
pub one_message : (method : Method) (chunk : ℕ) (m n : Message) (a b x y : List ℕ) → IsSpelt method m a → IsSpelt method n b
    → MayPrecede chunk m x → MayPrecede chunk n y → a ++ x ≡ b ++ y → (a ≡ b) × (m ≡ n)
one_message method chunk m n a b x y is also may might e =
    let both : Read m (length a) ≡ Read n (length b) =
    sym (spelt_is_read method chunk m a x is may) ∙ ap (next_message method chunk) e ∙ spelt_is_read method chunk n b y also might in
    let same = read_is m n (length a) (length b) both in
    (sym (take_at a x (length b) same.1) ∙ ap (take (length b)) e ∙ take_at b y (length b) refl, same.0)

moved_read : (at : ℕ) (s : Step) (m : Message) (count : ℕ) → moved at s ≡ Read m (at + count) → s ≡ Read m count
moved_read at (Read m' n) m count e =
    let same = read_is m' m (at + n) (at + count) e in
    let n-is : n ≡ count = omega (arith, same.1) in
    ap (λ (x : Message). Read x n) same.0 ∙ ap (Read m) n-is
moved_read at End m count e = absurd cc
moved_read at (Cut p kind) m count e = absurd cc

-- both ways, at a place
pub begins_iff : (method : Method) (chunk at : ℕ) (bytes : List ℕ) (s : Step) → 0 < chunk → IsBytes (drop at bytes)
    → s ≡ moved at (next_message method chunk (drop at bytes))
    → (m : Message) (count : ℕ) → (s ≡ Read m (at + count)) ↔ BeginsWith method chunk m count (drop at bytes)
begins_iff method chunk at bytes s some fits is m count = (
  λ e. read_is_spelt method chunk (drop at bytes) m count some fits (moved_read at (next_message method chunk (drop at bytes)) m count (sym is ∙ e)),
  λ h. is ∙ ap (moved at) (begun_is_read method chunk (drop at bytes) m count h),
)

over_end : (size : ℕ) (r : Result (Message × List ℕ) WireKind) → step_over size r ≡ End → ⊥
over_end size (Ok x) e = cc
over_end size (Err kind) e = cc

pub ended : (method : Method) (chunk : ℕ) (bytes : List ℕ) → next_message method chunk bytes ≡ End → bytes ≡ []
unfolding next_message
ended method chunk [] e = refl
ended method chunk (type ∷ rest) e = absurd (over_end (1 + length rest) (message_at method chunk type rest) e)

pub nothing_left : (method : Method) (chunk : ℕ) → next_message method chunk [] ≡ End
unfolding next_message
nothing_left method chunk = refl

-- the end is read at the end alone
pub end_iff : (method : Method) (chunk at : ℕ) (bytes : List ℕ) (s : Step) → at ≤ length bytes
    → s ≡ moved at (next_message method chunk (drop at bytes)) → (s ≡ End) ↔ (at ≡ length bytes)
end_iff method chunk at bytes s le is = (
  λ e. let none : drop at bytes ≡ [] = ended method chunk (drop at bytes) (moved_end at (next_message method chunk (drop at bytes)) (sym is ∙ e)) in
      omega (arith, length-drop at bytes, ap length none, le),
  λ e. is ∙ ap (λ (t : List ℕ). moved at (next_message method chunk t)) (drop_all at bytes (omega (arith, e))) ∙ ap (moved at) (nothing_left method chunk),
)
