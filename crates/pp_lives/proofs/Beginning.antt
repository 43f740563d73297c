-- A datagram read message by message, and its first message.
use Rattle.std.proofs.Common.{◌≡◌, ℕ, ◌<◌, ◌≤◌, Bool, false, Option, Some, None, List, ◌∷◌, length, drop, refl, sym, ◌∙◌, ap}
use Rattle.pp_terms.specs.format.Descriptor.{Descriptor}
use Rattle.pp_terms.specs.format.Options.{IsBytes}
use Rattle.pp_terms.specs.format.Messages.{Message, WireKind, Read, End, Cut, next_message, moved, Messages, messages_at, with_first}
use Rattle.pp_terms.proofs.Spellings.{IsBytes-drop}
use Rattle.pp_terms.proofs.ReadSteps.{IsRead, is_read}
use Rattle.pp_terms.proofs.MovedSteps.{moved_end, cut_at}
use Rattle.pp_terms.proofs.DatagramLaws.{one_by_one}
use Rattle.pp_traffic.specs.Life.{begins}
use Rattle.pp_wire.specs.Views.{message_of}
use Rattle.pp_wire.specs.declared.message.Message as code
use Rattle.pp_wire.specs.declared.message.Message.TheVariants as variants
use Rattle.pp_options.specs.declared.value.Options as written
use Rattle.pp_lives.specs.Arriving.{is_in_options, is_faulty}

-- The first message is one; it has a fault; there is none.
pub begins_read : (d : Descriptor) (bytes : List ℕ) (next : ℕ) (m : Message) → 0 < d.chunk → IsBytes bytes → 4 ≤ length bytes → Read m next ≡ moved 4 (next_message d.method d.chunk (drop 4 bytes))
    → IsRead d.method d.chunk 4 next bytes m
begins_read d bytes next m some fits le e = is_read d.method d.chunk 4 next bytes m some fits le (sym e)

no_handshake : (m : code.Message) → ((source : ℕ) (o : written.Options) → m ≡ variants.Handshake source o → ⊥) → (ms : List Message) → begins (message_of m ∷ ms) ≡ false
no_handshake (variants.Handshake source options) none ms = absurd (none source options refl)
no_handshake (variants.Data chunk sent_at bytes) none ms = refl
no_handshake (variants.Ack span delay) none ms = refl
no_handshake (variants.Have span) none ms = refl
no_handshake (variants.Integrity span digest) none ms = refl
no_handshake (variants.Pex4 address port) none ms = refl
no_handshake variants.PexReq none ms = refl
no_handshake (variants.Request span) none ms = refl
no_handshake (variants.Cancel span) none ms = refl
no_handshake variants.Choke none ms = refl
no_handshake variants.Unchoke none ms = refl
no_handshake (variants.Pex6 address port) none ms = refl

abbrev pub IsOther : Messages → Type 0
IsOther m = (is_faulty m ≡ false) × (begins m.read ≡ false)

unfaulty : (m : Message) (rest : Messages) → is_faulty (with_first m rest) ≡ false
unfaulty m rest = by rest.fault
  where
    by : (f : Option (ℕ × WireKind)) → is_faulty (record { read = m ∷ rest.read; fault = f }) ≡ false
    by None = refl
    by (Some (place, kind)) = refl

pub begins_other : (d : Descriptor) (bytes : List ℕ) (next : ℕ) (m : code.Message) → 0 < d.chunk → IsBytes bytes → 4 ≤ length bytes
    → Read (message_of m) next ≡ moved 4 (next_message d.method d.chunk (drop 4 bytes)) → ((source : ℕ) (o : written.Options) → m ≡ variants.Handshake source o → ⊥)
    → IsOther (messages_at d.method d.chunk 4 (drop 4 bytes))
begins_other d bytes next m some fits le e none =
    let r = begins_read d bytes next (message_of m) some fits le e in
    let rest = messages_at d.method d.chunk next (drop next bytes) in
    (ap is_faulty r.rest ∙ unfaulty (message_of m) rest, ap (λ (x : Messages). begins x.read) r.rest ∙ no_handshake m none rest.read)

pub begins_cut : (d : Descriptor) (bytes : List ℕ) (place : ℕ) (kind : WireKind) (b : Bool) → 0 < d.chunk → IsBytes bytes → Cut place kind ≡ moved 4 (next_message d.method d.chunk (drop 4 bytes))
    → is_in_options kind ≡ b → (is_faulty (messages_at d.method d.chunk 4 (drop 4 bytes)) ≡ b) × (begins (messages_at d.method d.chunk 4 (drop 4 bytes)).read ≡ false)
begins_cut d bytes place kind b some fits e is =
    let p = cut_at 4 (next_message d.method d.chunk (drop 4 bytes)) place kind (sym e) in
    let m = (one_by_one d.method d.chunk 4 (drop 4 bytes) some (IsBytes-drop 4 bytes fits)).2 p.place kind p.is in
    (ap is_faulty m ∙ is, ap (λ (x : Messages). begins x.read) m)

pub begins_end : (d : Descriptor) (bytes : List ℕ) → 0 < d.chunk → IsBytes bytes → End ≡ moved 4 (next_message d.method d.chunk (drop 4 bytes)) → IsOther (messages_at d.method d.chunk 4 (drop 4 bytes))
begins_end d bytes some fits e =
    let m = (one_by_one d.method d.chunk 4 (drop 4 bytes) some (IsBytes-drop 4 bytes fits)).1 (moved_end 4 (next_message d.method d.chunk (drop 4 bytes)) (sym e)) in
    (ap is_faulty m, ap (λ (x : Messages). begins x.read) m)
