-- A datagram read to its end, message by message.
use Rattle.std.proofs.Common.{◌≡◌, ◌↔◌, ⊎_elim, ℕ, ◌+◌, ◌<◌, ◌≤◌, min, leb, true, false, ◌&&◌, Option, Some, None, List, [], ◌∷◌, length, drop, refl, sym, ◌∙◌, ap, arith}
use Rattle.std.specs.Prelude.{is_some, is_none}
use Rattle.std.specs.List.{list_all, AllByRecursion}
use Rattle.std.proofs.lemmas.List.{drop-drop, drop_all}
use Rattle.std.proofs.lemmas.Bool.{le-ltb, lt-ltb, cases_lt, and_parts, and_from, leb-true, le-leb}
use Rattle.pp_terms.specs.format.Descriptor.{Descriptor}
use Rattle.pp_terms.specs.format.Options.{IsBytes}
use Rattle.pp_terms.specs.format.Messages.{Message, WireKind, Read, Cut, next_message, moved, Messages, messages_at, messages_from, datagram}
use Rattle.pp_terms.proofs.DatagramLaws.{one_by_one}
use Rattle.pp_terms.proofs.MovedSteps.{size_of}
use Rattle.pp_terms.proofs.Spellings.{IsBytes-drop}
use Rattle.pp_terms.specs.format.Traffic.{Record, Received, Quiet, Sent}
use Rattle.pp_traffic.specs.Past.{read}
use Rattle.pp_promises.specs.Datagrams.{most_bytes, IsWhole}
use Rattle.pp_recorded.specs.Faults.{fault_from, PassesTo, is_whole}
use Rattle.pp_recorded.proofs.Messages.{stands, fault_of}

pub passes_to : (d : Descriptor) (bytes : List ℕ) (at : ℕ) (m : Message) (next : ℕ) → 0 < d.chunk → IsBytes bytes → at ≤ length bytes
    → Read m next ≡ moved at (next_message d.method d.chunk (drop at bytes)) → PassesTo d bytes at next
passes_to d bytes at m next some fits le e =
    let it = stands d bytes at m next some fits le e in
    let s = size_of at (next_message d.method d.chunk (drop at bytes)) m next (sym e) in
    record {
      later = it.later;
      within = it.within;
      same = ap (λ (x : Messages). x.fault) ((one_by_one d.method d.chunk at (drop at bytes) some (IsBytes-drop at bytes fits)).0 m s.size s.is)
          ∙ ap (λ (xs : List ℕ). (messages_at d.method d.chunk (at + s.size) xs).fault) (drop-drop s.size at bytes)
          ∙ ap (λ (n : ℕ). fault_from d bytes n) (sym s.ends);
    }

pub cut_at : (d : Descriptor) (bytes : List ℕ) (at place : ℕ) (kind : WireKind) → 0 < d.chunk → IsBytes bytes
    → Cut place kind ≡ moved at (next_message d.method d.chunk (drop at bytes)) → fault_from d bytes at ≡ None → ⊥
cut_at d bytes at place kind some fits e none =
    let f = fault_of at (next_message d.method d.chunk (drop at bytes)) place kind (sym e) in
    let cut : fault_from d bytes at ≡ Some (at + f.place, kind) =
    ap (λ (x : Messages). x.fault) ((one_by_one d.method d.chunk at (drop at bytes) some (IsBytes-drop at bytes fits)).2 f.place kind f.is) in
    cc

-- at the end there is no fault
pub none_behind : (d : Descriptor) (bytes : List ℕ) (at : ℕ) → length bytes ≤ at → fault_from d bytes at ≡ None
unfolding messages_from
none_behind d bytes at le = ap (λ (xs : List ℕ). (messages_at d.method d.chunk at xs).fault) (drop_all at bytes le)

-- the messages begin behind the number
fault_short : (d : Descriptor) (bytes : List ℕ) (at : ℕ) → length bytes < 4 → length bytes ≤ at → (datagram d.method d.chunk bytes).messages.fault ≡ fault_from d bytes at
unfolding datagram
fault_short d bytes at lt le = rw (lt-ltb (length bytes) 4 lt) (sym (none_behind d bytes at le))

fault_long : (d : Descriptor) (bytes : List ℕ) → 4 ≤ length bytes → (datagram d.method d.chunk bytes).messages.fault ≡ fault_from d bytes 4
unfolding datagram
fault_long d bytes le = rw (le-ltb (length bytes) 4 le) refl

pub fault_first : (d : Descriptor) (bytes : List ℕ) (at : ℕ) → at ≡ min (length bytes) 4 → (datagram d.method d.chunk bytes).messages.fault ≡ fault_from d bytes at
fault_first d bytes at is = ⊎_elim
    (λ lt. fault_short d bytes at lt (omega (arith, is)))
    (λ le. fault_long d bytes le ∙ ap (λ (n : ℕ). fault_from d bytes n) (let e : 4 ≡ at = omega (arith, is) in e))
    (cases_lt (length bytes) 4)

-- ---- whole datagrams

pub is_none_at : (o : Option (ℕ × WireKind)) → is_none o ≡ true → o ≡ None
is_none_at None e = refl
is_none_at (Some x) e = absurd cc

pub fault_some : (o : Option (ℕ × WireKind)) → (o ≡ None → ⊥) → is_none o ≡ false
fault_some None none = absurd (none refl)
fault_some (Some x) none = refl

whole_one : (d : Descriptor) (r : Record) → (is_whole d r ≡ true) ↔ IsWhole d r
whole_one d (Received at sender bytes) = (λ e. tt, λ t. refl)
whole_one d (Quiet at) = (λ e. tt, λ t. refl)
whole_one d (Sent moment receiver bytes) =
    let it = read d (Sent moment receiver bytes) in
    let numbered = is_some it.channel in
    let short = leb (length bytes) most_bytes in
    let ended = is_none it.messages.fault in (
      λ e.
          let a = and_parts (numbered && short) ended e in
          let b = and_parts numbered short a.0 in
          record { numbered = b.0; short = leb-true (length bytes) most_bytes b.1; to_end = is_none_at it.messages.fault a.1 },
      λ is.
          and_from (numbered && short) ended (and_from numbered short is.numbered (le-leb (length bytes) most_bytes is.short))
          (ap (λ (o : Option (ℕ × WireKind)). is_none o) is.to_end),
    )

pub whole_decided : (d : Descriptor) (past : List Record) → (list_all (is_whole d) past ≡ true) ↔ AllByRecursion (IsWhole d) past
whole_decided d [] = (λ e. tt, λ t. refl)
whole_decided d (r ∷ past) =
    let one = whole_one d r in
    let more = whole_decided d past in (
      λ e. let a = and_parts (is_whole d r) (list_all (is_whole d) past) e in (one.0 a.0, more.0 a.1),
      λ all. and_from (is_whole d r) (list_all (is_whole d) past) (one.1 all.0) (more.1 all.1),
    )
