-- Hashes of nodes, and a chunk behind them.
use Rattle.std.proofs.Common.{◌≡◌, inl, inr, ℕ, zero, suc, ◌*◌, ◌+◌, ◌-◌, ◌^◌, ◌<◌, ◌≤◌, true, Option, Some, None, List, [], ◌∷◌, ◌++◌, map, get_or, length, take, drop, refl, sym, ◌∙◌, ap, subst, arith, append_assoc, append-nil}
use Rattle.std.specs.Prelude.{is_some}
use Rattle.std.specs.List.{AllByRecursion}
use Rattle.std.specs.Int.{w32, to_be_bytes}
use Rattle.std.proofs.lemmas.Bool.{cases_lt}
use borrow.Rule.Slice.PartMut.{put_mid}
use Rattle.std.proofs.lemmas.List.{length-append, length-take, length-drop, take_all}
use Rattle.std.proofs.lemmas.Nat.{pow_pos}
use Rattle.pp_terms.specs.tree.Tree as terms
use Rattle.pp_terms.specs.tree.Book.{LookUp}
use Rattle.pp_terms.specs.tree.Range.{Span, leaves_of}
use Rattle.pp_terms.specs.format.Descriptor.{Descriptor, Method, chunks_of}
use Rattle.pp_terms.specs.format.Options.{IsBytes}
use Rattle.pp_terms.specs.format.Messages.{Message, Data, only, spell, MayPrecede}
use Rattle.pp_terms.proofs.MessageLaws.{IsBytes-take}
use Rattle.pp_traffic.specs.Laws.{IsInBook}
use Rattle.pp_traffic.proofs.PlansInBooks.{full_bound}
use Rattle.pp_tree.specs.declared.node.Node.{Node}
use Rattle.pp_tree.specs.Node.{node_of}
use Rattle.pp_wire.specs.Put.{data_head}
use Rattle.pp_draft.specs.declared.chunk.Delivery.{Delivery}
use Rattle.pp_draft.specs.Datagrams.{spelled, datagram_text, IsDatagram, hash_of}
use Rattle.pp_draft.specs.Deliveries.{hashes_of, delivers, AddsHead, HasFront}
use Rattle.pp_draft.specs.Puts.{AddsOne, PutsOne, Adds, IsFront, IsLow}
use Rattle.pp_draft.proofs.Reading.{in_order, datagram_of_text, spelled_more}
use Rattle.pp_draft.proofs.Names.{HasName, node_name}
use Rattle.pp_draft.proofs.Filling.{front_more}
use Rattle.pp_draft.proofs.Putting.{map_more, adds_more}

-- with room a message is put
pub room_some : (d : Descriptor) (m : Message) (old new : List ℕ) (at : ℕ) (r : Option ℕ) → at + length (spell d.method m) ≤ length old → PutsOne d m old at r new
    → (end : ℕ) × (r ≡ Some end) × AddsOne d m old at end new
room_some d m old new at None room puts = absurd (let long = puts.long in omega arith)
room_some d m old new at (Some end) room puts = (end, refl, puts)

-- ---- one hash after the other

given_at : (d : Descriptor) (book : LookUp) (nodes : List Node) (k : ℕ) (x : Node) → AllByRecursion (IsInBook d book) (map node_of nodes) → k < length nodes → IsInBook d book (node_of (get_or nodes k x))
given_at d book [] k x all lt = absurd (omega arith)
given_at d book (n ∷ nodes) zero x all lt = all.0
given_at d book (n ∷ nodes) (suc k) x all lt = given_at d book nodes k x all.1 (omega arith)

pub there_at : (d : Descriptor) (book : LookUp) (nodes : List Node) (k : ℕ) (x : Node) (r : Option (List ℕ)) → AllByRecursion (IsInBook d book) (map node_of nodes) → k < length nodes
    → r ≡ book (get_or nodes k x).layer (get_or nodes k x).offset → is_some r ≡ true
there_at d book nodes k x r all lt is = ap is_some is ∙ (given_at d book nodes k x all lt).1

pub given_low : (d : Descriptor) (book : LookUp) (nodes : List Node) (k : ℕ) (x : Node) (chunks : ℕ) → chunks ≡ chunks_of d → chunks ≤ 2 ^ 20 → AllByRecursion (IsInBook d book) (map node_of nodes)
    → k < length nodes → IsLow (get_or nodes k x)
given_low d book nodes k x chunks is most all lt =
    let n : Node = get_or nodes k x in
    let bound = full_bound (chunks_of d) (node_of n) (given_at d book nodes k x all lt).0 in
    let power = pow_pos n.layer in
    let more : (n.offset + 1) * 2 ^ n.layer ≡ n.offset * 2 ^ n.layer + 2 ^ n.layer = omega arith in
    omega (arith, is)

map_twice : (book : LookUp) (nodes : List Node) → map (λ (n : Node). hash_of book (node_of n)) nodes ≡ map (hash_of book) (map node_of nodes)
map_twice book [] = refl
map_twice book (n ∷ nodes) = ap (λ (ms : List Message). hash_of book (node_of n) ∷ ms) (map_twice book nodes)

pub hashes_more : (d : Descriptor) (book : LookUp) (nodes : List Node) (k : ℕ) (x : Node) (m : Message) (old new newer : List ℕ) (at end next : ℕ) → k < length nodes
    → m ≡ hash_of book (node_of (get_or nodes k x))
    → Adds d (map (hash_of book) (map node_of (take k nodes))) old at end new → AddsOne d m new end next newer
    → Adds d (map (hash_of book) (map node_of (take (k + 1) nodes))) old at next newer
hashes_more d book nodes k x m old new newer at end next lt is adds one =
    let f : Node → Message = λ (n : Node). hash_of book (node_of n) in
    let up : suc k ≡ k + 1 = omega arith in
    let list : map (hash_of book) (map node_of (take k nodes)) ++ f (get_or nodes k x) ∷ [] ≡ map (hash_of book) (map node_of (take (k + 1) nodes)) =
    ap (λ (ms : List Message). ms ++ f (get_or nodes k x) ∷ []) (sym (map_twice book (take k nodes))) ∙ sym (map_more f nodes k x lt)
    ∙ ap (λ (n : ℕ). map f (take n nodes)) up ∙ map_twice book (take (k + 1) nodes) in
    subst (λ (ms : List Message). Adds d ms old at next newer) list
    (adds_more d (map (hash_of book) (map node_of (take k nodes))) (f (get_or nodes k x)) old new newer at end next adds (λ rest. tt)
    (subst (λ (y : Message). AddsOne d y new end next newer) is one))

pub hashes_done : (d : Descriptor) (book : LookUp) (nodes : List Node) (k : ℕ) (old new : List ℕ) (at end : ℕ) → length nodes ≤ k
    → Adds d (map (hash_of book) (map node_of (take k nodes))) old at end new → Adds d (map (hash_of book) (map node_of nodes)) old at end new
hashes_done d book nodes k old new at end all adds =
    subst (λ (xs : List Node). Adds d (map (hash_of book) (map node_of xs)) old at end new) (take_all k nodes all) adds

-- ---- a chunk behind them

-- a chunk is its own leaf
pub chunk_name : (method : Method) (i : ℕ) → i < 2 ^ 20 → HasName method (only i)
chunk_name method i low =
    let leaf : terms.Node = record { layer = 0; offset = i } in
    let first : i * 2 ^ 0 ≡ i = omega arith in
    let last : (i + 1) * 2 ^ 0 - 1 ≡ i = omega arith in
    let is : leaves_of leaf ≡ only i = ap (λ (n : ℕ). record { first = n; last = (i + 1) * 2 ^ 0 - 1 }) first ∙ ap (λ (n : ℕ). record { first = i; last = n }) last in
    subst (λ (s : Span). HasName method s) is (node_name method leaf (omega arith))

last_may : (chunk i sent_at : ℕ) (bytes : List ℕ) → length bytes ≤ chunk → MayPrecede chunk (Data i sent_at bytes) []
last_may chunk i sent_at bytes le = elim (cases_lt (length bytes) chunk) [ inl lt ↦ inr (lt, refl) | inr ge ↦ inl (omega arith) ]

-- the datagram before the chunk's bytes
pub chunk_front : (d : Descriptor) (x : Delivery) (one two three : List ℕ) (start end next : ℕ) → IsFront d x.to.channel [] start one → Adds d (hashes_of x) one start end two
    → AddsHead d x.chunk x.sent_at two end next three → HasFront d x next three
chunk_front d x one two three start end next begun hashes head =
    let front = front_more d x.to.channel [] (hashes_of x) start end one two begun hashes in
    record {
      within = head.within;
      text = head.text ∙ ap (λ (t : List ℕ). t ++ data_head d.method x.chunk x.sent_at) front.text;
      stand = front.stand;
      spelt = head.spelt;
    }

-- and with them
chunk_text : (method : Method) (channel : ℕ) (hashes : List Message) (m : Message) (head bytes : List ℕ) → head ++ bytes ≡ spell method m
    → (datagram_text method channel hashes ++ head) ++ bytes ≡ datagram_text method channel (hashes ++ m ∷ [])
chunk_text method channel hashes m head bytes is =
    let number : List ℕ = to_be_bytes w32 channel in
    append_assoc (number ++ spelled method hashes) head bytes
    ∙ ap (λ (t : List ℕ). (number ++ spelled method hashes) ++ t) is
    ∙ append_assoc number (spelled method hashes) (spell method m)
    ∙ ap (λ (t : List ℕ). number ++ (spelled method hashes ++ t)) (sym (append-nil (spell method m)))
    ∙ ap (λ (t : List ℕ). number ++ t) (sym (spelled_more method hashes (m ∷ [])))

-- a buffer is as long when a part of it was written
pub long_mid : (a k : ℕ) (xs ys : List ℕ) → a + k ≤ length xs → length ys ≡ k → length (put_mid a k xs ys) ≡ length xs
long_mid a k xs ys le same =
    omega (arith, length-append (take a xs) (ys ++ drop k (drop a xs)), length-append ys (drop k (drop a xs)), length-take a xs, length-drop k (drop a xs), length-drop a xs)

pub chunk_written : (d : Descriptor) (x : Delivery) (bytes one two : List ℕ) (start end : ℕ) → 0 < d.chunk → x.to.channel < 2 ^ 32 → 0 < length bytes → length bytes ≤ d.chunk
    → HasFront d x start one → take end two ≡ take start one ++ bytes → IsBytes two → end ≤ length two → length two ≡ 16384
    → IsDatagram d x.to.channel (delivers x bytes) (take end two)
chunk_written d x bytes one two start end some low any most front text fits within size =
    let m : Message = Data x.chunk x.sent_at bytes in
    let spelt = front.spelt bytes any in
    datagram_of_text d x.to.channel (hashes_of x ++ m ∷ []) (take end two) some low (IsBytes-take end two fits) (omega (arith, length-take end two, size))
    (text ∙ ap (λ (t : List ℕ). t ++ bytes) front.text ∙ chunk_text d.method x.to.channel (hashes_of x) m (data_head d.method x.chunk x.sent_at) bytes spelt.1)
    (in_order d (hashes_of x) (m ∷ []) front.stand ((spelt.0, refl), last_may d.chunk x.chunk x.sent_at bytes most, tt))
