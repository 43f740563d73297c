-- Messages put behind others.
use Rattle.std.proofs.Common.{◌≡◌, ℕ, zero, suc, ◌*◌, ◌+◌, ◌<◌, ◌≤◌, Option, Some, None, List, [], ◌∷◌, ◌++◌, map, get_or, length, take, Err, refl, sym, ◌∙◌, ap, subst, arith, append_assoc, append-nil}
use Rattle.std.specs.Prelude.{IfSome}
use Rattle.std.specs.List.{AllByRecursion}
use Rattle.std.specs.Int.{w16, w64, to_be_bytes}
use Rattle.std.proofs.lemmas.List.{length-take, length-append, take_at, take_all, take-take}
use Rattle.pp_terms.specs.Place.{placed}
use Rattle.pp_terms.specs.format.Descriptor.{Descriptor, IsDescriptor, Method}
use Rattle.pp_terms.specs.format.Options.{spelling_of}
use Rattle.pp_terms.specs.format.Messages as plain
use Rattle.pp_terms.specs.format.Messages.{Message, spell, spell_span, bin_number_of, IsSpelt, MayPrecede}
use Rattle.pp_terms.specs.tree.Range.{Span, leaves_of}
use Rattle.pp_terms.proofs.MessageLaws.{wide16, wide64}
use Rattle.pp_terms.proofs.MessageLengths.{length_span}
use Rattle.pp_wire.specs.Put.{IsPut, NamesChunks}
use Rattle.pp_wire.proofs.Puts.{placed_front}
use Rattle.pp_wire.specs.declared.message.PutFault.{PutFault}
use Rattle.pp_wire.specs.declared.message.PutFault.TheVariants as faults
use Rattle.pp_tree.specs.declared.node.Node.{Node}
use Rattle.pp_tree.specs.Node.{node_of}
use Rattle.pp_draft.specs.declared.ranges.Kind.{Kind}
use Rattle.pp_draft.specs.declared.ranges.Kind.TheVariants.{Ack, Have, Request, Cancel}
use Rattle.pp_draft.specs.Notes.{own_options, no_options}
use Rattle.pp_draft.specs.Datagrams.{spelled}
use Rattle.pp_draft.specs.Puts.{AddsOne, LacksOne, PutsOne, Stands, Adds, Puts, message_for, message_at}
use Rattle.pp_draft.proofs.Reading.{spelled_more}

pub one_added : (d : Descriptor) (m : Message) (old new : List ℕ) (at end : ℕ) → IsSpelt d.method m (spell d.method m) → end ≡ at + length (spell d.method m)
    → end ≤ length old → new ≡ placed old at (spell d.method m) → length new ≡ length old → AddsOne d m old at end new
one_added d m old new at end spelt ends within is same = record {
  within = omega (arith, same);
  ends = ends;
  text = ap (λ (n : ℕ). take n new) ends ∙ ap (take (at + length (spell d.method m))) is ∙ placed_front old at (spell d.method m) (omega (arith, ends));
  spelt = spelt;
}

lacks_room : (d : Descriptor) (m : Message) (named : Type 0) (old new : List ℕ) (at : ℕ) (e : PutFault) → named → IsPut named (spell d.method m) old at (Err e) new → LacksOne d m old at new
lacks_room d m named old new at faults.NoRoom name put = record { long = put.1; same = put.2 }
lacks_room d m named old new at faults.NotABin name put = absurd (put.0 name)

pub one_lacks : (d : Descriptor) (m : Message) (method : Method) (old new : List ℕ) (at : ℕ) (e : PutFault) → method ≡ d.method → NamesChunks d.method m
    → IsPut (NamesChunks method m) (spell method m) old at (Err e) new → LacksOne d m old at new
one_lacks d m method old new at e same name put =
    lacks_room d m (NamesChunks d.method m) old new at e name (subst (λ (x : Method). IsPut (NamesChunks x m) (spell x m) old at (Err e) new) same put)

-- ---- one message alone

-- it ends no farther than it is long
pub ends_by : (d : Descriptor) (m : Message) (old new : List ℕ) (at most : ℕ) (r : Option ℕ) → length (spell d.method m) ≤ most → PutsOne d m old at r new
    → IfSome r (λ end. end ≤ at + most)
ends_by d m old new at most None short puts = tt
ends_by d m old new at most (Some end) short puts = (let ends = puts.ends in omega (arith, short, ends))

pub one_puts : (d : Descriptor) (m : Message) (holds : List Message → Type 0) (old new : List ℕ) (at : ℕ) (r : Option ℕ) → holds (m ∷ []) → ((rest : List ℕ) → MayPrecede d.chunk m rest)
    → length (spell d.method m) ≤ 64 → PutsOne d m old at r new → Puts d holds old at r new
one_puts d m holds old new at None is may short puts = record {
  messages = m ∷ [];
  hold = is;
  outcome = record {
    long = omega (arith, puts.long, length-append (spell d.method m) []);
    front = ap (take at) puts.same;
    short = omega (arith, length-append (spell d.method m) []);
  };
}
one_puts d m holds old new at (Some end) is may short puts = record {
  messages = m ∷ [];
  hold = is;
  outcome = record {
    within = puts.within;
    ends = omega (arith, puts.ends, length-append (spell d.method m) []);
    text = puts.text ∙ ap (λ (t : List ℕ). take at old ++ t) (sym (append-nil (spell d.method m)));
    stand = (record { spelt = puts.spelt; may = may }, tt);
  };
}

-- no message
pub none_puts : (d : Descriptor) (out : List ℕ) (at : ℕ) → at ≤ length out → Puts d (λ ms. ms ≡ []) out at (Some at) out
none_puts d out at within = record {
  messages = [];
  hold = refl;
  outcome = record { within = within; ends = omega arith; text = sym (append-nil (take at out)); stand = tt };
}

pub choke_short : (method : Method) → length (spell method plain.Choke) ≤ 64
unfolding spell
choke_short method = omega arith

pub unchoke_short : (method : Method) → length (spell method plain.Unchoke) ≤ 64
unfolding spell
unchoke_short method = omega arith

pub ask_short : (method : Method) → length (spell method plain.PexReq) ≤ 64
unfolding spell
ask_short method = omega arith

pub address4_short : (method : Method) (address : List ℕ) (port : ℕ) → length address ≡ 4 → length (spell method (plain.Pex4 address port)) ≤ 64
unfolding spell
address4_short method address port len = omega (arith, len, length-append address (to_be_bytes w16 port), wide16.len port)

pub address6_short : (method : Method) (address : List ℕ) (port : ℕ) → length address ≡ 16 → length (spell method (plain.Pex6 address port)) ≤ 64
unfolding spell
address6_short method address port len = omega (arith, len, length-append address (to_be_bytes w16 port), wide16.len port)

pub handshake_short : (d : Descriptor) (source : ℕ) → IsDescriptor d → length (spell d.method (plain.Handshake source (own_options d))) ≤ 64
unfolding spell spelling_of
handshake_short d source valid = let len = valid.root_length in simp length-append (omega (arith, len))

pub close_short : (method : Method) → length (spell method (plain.Handshake 0 no_options)) ≤ 64
unfolding spell spelling_of
close_short method = omega arith

pub range_short : (method : Method) (kind : Kind) (s : Span) → length (spell method (message_for kind s)) ≤ 64
unfolding spell
range_short method (Ack delay) s = omega (arith, length_span method s, length-append (spell_span method s) (to_be_bytes w64 delay), wide64.len delay)
range_short method Have s = omega (arith, length_span method s)
range_short method Request s = omega (arith, length_span method s)
range_short method Cancel s = omega (arith, length_span method s)

pub range_may : (chunk : ℕ) (kind : Kind) (s : Span) (rest : List ℕ) → MayPrecede chunk (message_for kind s) rest
range_may chunk (Ack delay) s rest = tt
range_may chunk Have s rest = tt
range_may chunk Request s rest = tt
range_may chunk Cancel s rest = tt

-- ---- one message more behind the first of a list

pub map_more : {X : Type 0} (f : X → Message) (xs : List X) (k : ℕ) (x : X) → k < length xs → map f (take (suc k) xs) ≡ map f (take k xs) ++ f (get_or xs k x) ∷ []
map_more f [] k x lt = absurd (omega arith)
map_more f (n ∷ xs) zero x lt = refl
map_more f (n ∷ xs) (suc k) x lt = ap (λ (ys : List Message). f n ∷ ys) (map_more f xs k x (omega arith))

pub map_long : {X : Type 0} (method : Method) (f : X → Message) (xs : List X) (k : ℕ) (x : X) → k < length xs
    → length (spelled method (map f (take k xs))) + length (spell method (f (get_or xs k x))) ≤ length (spelled method (map f xs))
map_long method f [] k x lt = absurd (omega arith)
map_long method f (n ∷ xs) zero x lt = omega (arith, length-append (spell method (f n)) (spelled method (map f xs)))
map_long method f (n ∷ xs) (suc k) x lt =
    let more = map_long method f xs k x (omega arith) in
    omega (arith, more, length-append (spell method (f n)) (spelled method (map f xs)), length-append (spell method (f n)) (spelled method (map f (take k xs))))

pub map_short : {X : Type 0} (method : Method) (f : X → Message) (xs : List X) → ((x : X) → length (spell method (f x)) ≤ 64) → length (spelled method (map f xs)) ≤ 64 * length xs
map_short method f [] each = omega arith
map_short method f (n ∷ xs) each =
    let one = each n in
    let more = map_short method f xs each in
    omega (arith, length-append (spell method (f n)) (spelled method (map f xs)))

all_last : {X : Type 0} (P : X → Type 0) (xs : List X) (x : X) → AllByRecursion P xs → P x → AllByRecursion P (xs ++ x ∷ [])
all_last P [] x all h = (h, tt)
all_last P (y ∷ xs) x all h = (all.0, all_last P xs x all.1 h)

pub adds_none : (d : Descriptor) (out : List ℕ) (at : ℕ) → at ≤ length out → Adds d [] out at at out
adds_none d out at within = record { within = within; ends = omega arith; text = sym (append-nil (take at out)); stand = tt }

pub adds_more : (d : Descriptor) (ms : List Message) (m : Message) (old new newer : List ℕ) (at end next : ℕ) → Adds d ms old at end new → ((rest : List ℕ) → MayPrecede d.chunk m rest)
    → AddsOne d m new end next newer → Adds d (ms ++ m ∷ []) old at next newer
adds_more d ms m old new newer at end next adds may one =
    let both : spelled d.method (ms ++ m ∷ []) ≡ spelled d.method ms ++ spell d.method m =
    spelled_more d.method ms (m ∷ []) ∙ ap (λ (t : List ℕ). spelled d.method ms ++ t) (append-nil (spell d.method m)) in
    record {
      within = one.within;
      ends = let len = ap length both in omega (arith, one.ends, adds.ends, len, length-append (spelled d.method ms) (spell d.method m));
      text = one.text ∙ ap (λ (t : List ℕ). t ++ spell d.method m) adds.text ∙ append_assoc (take at old) (spelled d.method ms) (spell d.method m)
          ∙ ap (λ (t : List ℕ). take at old ++ t) (sym both);
      stand = all_last (Stands d) ms m adds.stand (record { spelt = one.spelt; may = may });
    }

adds_keeps : (d : Descriptor) (ms : List Message) (old new : List ℕ) (at end : ℕ) → at ≤ length old → Adds d ms old at end new → take at new ≡ take at old
adds_keeps d ms old new at end within adds =
    sym (take-take at end new (omega (arith, adds.ends))) ∙ ap (take at) adds.text ∙ take_at (take at old) (spelled d.method ms) at (omega (arith, length-take at old))

-- ---- a message for each node of a cover

pub cover_more : (d : Descriptor) (kind : Kind) (nodes : List Node) (k : ℕ) (x : Node) (m : Message) (old new newer : List ℕ) (at end next : ℕ) → k < length nodes
    → m ≡ message_at kind (get_or nodes k x) → Adds d (map (message_at kind) (take k nodes)) old at end new → AddsOne d m new end next newer
    → Adds d (map (message_at kind) (take (k + 1) nodes)) old at next newer
cover_more d kind nodes k x m old new newer at end next lt is adds one =
    let up : suc k ≡ k + 1 = omega arith in
    let list : map (message_at kind) (take k nodes) ++ message_at kind (get_or nodes k x) ∷ [] ≡ map (message_at kind) (take (k + 1) nodes) =
    sym (map_more (message_at kind) nodes k x lt) ∙ ap (λ (n : ℕ). map (message_at kind) (take n nodes)) up in
    subst (λ (ms : List Message). Adds d ms old at next newer) list
    (adds_more d (map (message_at kind) (take k nodes)) (message_at kind (get_or nodes k x)) old new newer at end next adds
    (range_may d.chunk kind (leaves_of (node_of (get_or nodes k x)))) (subst (λ (y : Message). AddsOne d y new end next newer) is one))

pub cover_lacks : (d : Descriptor) (kind : Kind) (nodes : List Node) (k : ℕ) (x : Node) (m : Message) (old new newer : List ℕ) (at end : ℕ) → k < length nodes → length nodes ≤ 64 → at ≤ length old
    → m ≡ message_at kind (get_or nodes k x) → length new ≡ length old → Adds d (map (message_at kind) (take k nodes)) old at end new → LacksOne d m new end newer
    → Puts d (λ ms. ms ≡ map (message_at kind) nodes) old at None newer
cover_lacks d kind nodes k x m old new newer at end lt few within is size adds lacks =
    let same : length (spell d.method m) ≡ length (spell d.method (message_at kind (get_or nodes k x))) = ap (λ (y : Message). length (spell d.method y)) is in
    let most = map_long d.method (message_at kind) nodes k x lt in
    let short = map_short d.method (message_at kind) nodes (λ n. range_short d.method kind (leaves_of (node_of n))) in
    record {
      messages = map (message_at kind) nodes;
      hold = refl;
      outcome = record {
        long = omega (arith, adds.ends, lacks.long);
        front = ap (take at) lacks.same ∙ adds_keeps d (map (message_at kind) (take k nodes)) old new at end within adds;
        short = omega arith;
      };
    }

pub cover_done : (d : Descriptor) (kind : Kind) (nodes : List Node) (k : ℕ) (old new : List ℕ) (at end : ℕ) → length nodes ≤ k → Adds d (map (message_at kind) (take k nodes)) old at end new
    → Puts d (λ ms. ms ≡ map (message_at kind) nodes) old at (Some end) new
cover_done d kind nodes k old new at end all adds = record {
  messages = map (message_at kind) nodes;
  hold = refl;
  outcome = subst (λ (xs : List Node). Adds d (map (message_at kind) xs) old at end new) (take_all k nodes all) adds;
}

-- what holds of the messages may be said otherwise
pub puts_as : (d : Descriptor) (holds other : List Message → Type 0) (old new : List ℕ) (at : ℕ) (r : Option ℕ) → ((ms : List Message) → holds ms → other ms) → Puts d holds old at r new → Puts d other old at r new
puts_as d holds other old new at r turn puts = record { messages = puts.messages; hold = turn puts.messages puts.hold; outcome = puts.outcome }
