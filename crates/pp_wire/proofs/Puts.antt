-- Bytes put one after the other.
use Rattle.std.proofs.Common.{◌≡◌, ℕ, ◌+◌, ◌^◌, ◌<◌, ◌≤◌, List, [], ◌∷◌, ◌++◌, length, take, drop, Result, Ok, Err, ap, ◌∙◌, append_assoc, arith}
use Rattle.std.proofs.lemmas.List.{length-take, length-append, take_at}
use Rattle.std.specs.Prelude.{IfOk}
use Rattle.std.specs.Int.{w64, to_be_bytes}
use Rattle.pp_terms.specs.Place.{placed}
use Rattle.pp_terms.specs.format.Descriptor.{Method}
use Rattle.pp_terms.specs.format.Messages.{Data, IsNamed, IsSpelt, only, spell, spell_span}
use Rattle.pp_terms.proofs.Placing.{placed-twice}
use Rattle.pp_terms.proofs.MessageLaws.{wide64}
use Rattle.pp_terms.proofs.MessageLengths.{length_span}
use Rattle.pp_wire.specs.Put.{data_head, IsPut}
use Rattle.pp_wire.specs.declared.message.PutFault.{PutFault}

-- the front of a buffer in which bytes were put
pub placed_front : (old : List ℕ) (at : ℕ) (text : List ℕ) → at + length text ≤ length old → take (at + length text) (placed old at text) ≡ take at old ++ text
placed_front old at text le =
    take_at (take at old ++ text) (drop (at + length text) old) (at + length text) (omega (arith, length-append (take at old) text, length-take at old))

-- more bytes behind those that were put
pub then_put : (old one two : List ℕ) (at end : ℕ) (a b : List ℕ) → one ≡ placed old at a → end ≡ at + length a
    → at + length a ≤ length old → two ≡ placed one end b → two ≡ placed old at (a ++ b)
then_put old one two at end a b one-is end-is fits two-is =
    two-is ∙ ap (λ (x : List ℕ). placed x end b) one-is ∙ ap (λ (k : ℕ). placed (placed old at a) k b) end-is
    ∙ placed-twice old at a b fits

-- a byte and a field
pub two_put : (old one two : List ℕ) (at end kind : ℕ) (text : List ℕ) → one ≡ placed old at (kind ∷ []) → end ≡ at + 1 → at + (1 + length text) ≤ length old → two ≡ placed one end text
    → two ≡ placed old at (kind ∷ text)
two_put old one two at end kind text one-is end-is fits two-is = then_put old one two at end (kind ∷ []) text one-is end-is (omega arith) two-is

regroup : (kind : ℕ) (a b c : List ℕ) → ((kind ∷ a) ++ b) ++ c ≡ kind ∷ (a ++ (b ++ c))
regroup kind a b c = ap (λ (t : List ℕ). kind ∷ t) (append_assoc a b c)

-- a byte and three fields
pub four_put : (old o1 o2 o3 o4 : List ℕ) (at e1 e2 e3 kind : ℕ) (a b c : List ℕ)
    → o1 ≡ placed old at (kind ∷ []) → e1 ≡ at + 1 → o2 ≡ placed o1 e1 a → e2 ≡ e1 + length a → o3 ≡ placed o2 e2 b
    → e3 ≡ e2 + length b → o4 ≡ placed o3 e3 c → at + (1 + (length a + (length b + length c))) ≤ length old
    → o4 ≡ placed old at (kind ∷ (a ++ (b ++ c)))
four_put old o1 o2 o3 o4 at e1 e2 e3 kind a b c h1 n1 h2 n2 h3 n3 h4 fits =
    let two : o2 ≡ placed old at (kind ∷ a) = then_put old o1 o2 at e1 (kind ∷ []) a h1 n1 (omega arith) h2 in
    let three : o3 ≡ placed old at ((kind ∷ a) ++ b) = then_put old o2 o3 at e2 (kind ∷ a) b two (omega arith) (omega arith) h3 in
    let four : o4 ≡ placed old at (((kind ∷ a) ++ b) ++ c) =
    then_put old o3 o4 at e3 ((kind ∷ a) ++ b) c three (omega (arith, length-append (kind ∷ a) b)) (omega (arith, length-append (kind ∷ a) b)) h4 in
    four ∙ ap (λ (t : List ℕ). placed old at t) (regroup kind a b c)

-- the head of a DATA, and the chunk's bytes behind it
pub head_spelt : (method : Method) (chunk sent_at : ℕ) (bytes : List ℕ) → IsNamed method (only chunk) → sent_at < 2 ^ 64 → 0 < length bytes
    → IsSpelt method (Data chunk sent_at bytes) (data_head method chunk sent_at ++ bytes)
unfolding spell
head_spelt method chunk sent_at bytes named low some =
    ((named, low, some), ap (λ (t : List ℕ). 1 ∷ t) (append_assoc (spell_span method (only chunk)) (to_be_bytes w64 sent_at) bytes))

pub length_head : (method : Method) (chunk sent_at : ℕ) → length (data_head method chunk sent_at) ≤ 25
length_head method chunk sent_at =
    omega (arith, length_span method (only chunk), length-append (spell_span method (only chunk)) (to_be_bytes w64 sent_at), wide64.len sent_at)

pub head_put : (method : Method) (chunk sent_at : ℕ) (text old new : List ℕ) (at : ℕ) (r : Result ℕ PutFault) → sent_at < 2 ^ 64 → IsPut (IsNamed method (only chunk)) text old at r new
    → IfOk r (λ end. (bytes : List ℕ) → 0 < length bytes → IsSpelt method (Data chunk sent_at bytes) (data_head method chunk sent_at ++ bytes))
head_put method chunk sent_at text old new at (Ok end) low put = λ bytes some. head_spelt method chunk sent_at bytes put.0 low some
head_put method chunk sent_at text old new at (Err e) low put = tt
