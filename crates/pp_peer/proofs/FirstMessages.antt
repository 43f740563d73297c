-- Which messages of peer exchange another peer takes, by the first message of a datagram.
use Rattle.std.proofs.Common.{◌≡◌, ℕ, ◌<◌, ◌≤◌, None, List, [], ◌∷◌, length, drop, refl, sym, ◌∙◌, ap, arith}
use Rattle.pp_terms.specs.format.Descriptor.{Descriptor}
use Rattle.pp_terms.specs.format.Options.{IsBytes}
use Rattle.pp_terms.specs.format.Messages.{Message, WireKind, Read, End, Cut, next_message, moved, Messages, messages_at, messages_from}
use Rattle.pp_terms.proofs.Spellings.{IsBytes-drop}
use Rattle.pp_terms.proofs.DatagramLaws.{one_by_one}
use Rattle.pp_terms.proofs.MovedSteps.{moved_end, cut_at}
use Rattle.pp_terms.proofs.ReadSteps.{is_read}
use Rattle.pp_options.specs.declared.value.Options as written
use Rattle.pp_wire.specs.Views.{kind_of, message_of, step_of}
use Rattle.pp_wire.specs.declared.message.Message as code
use Rattle.pp_wire.specs.declared.message.Message.TheVariants as variants
use Rattle.pp_wire.specs.declared.message.Step as written_step
use Rattle.pp_wire.specs.declared.message.Step.TheVariants as steps
use Rattle.pp_lives.specs.Arriving.{contents}
use Rattle.pp_peer.specs.Supporting.{by_option, supported_by}

short_nothing : (bytes : List ℕ) → length bytes < 4 → drop 4 bytes ≡ []
short_nothing [] lt = refl
short_nothing (a ∷ []) lt = refl
short_nothing (a ∷ b ∷ []) lt = refl
short_nothing (a ∷ b ∷ c ∷ []) lt = refl
short_nothing (a ∷ b ∷ c ∷ d ∷ rest) lt = absurd (omega (arith, lt))

no_messages : (d : Descriptor) → supported_by (messages_at d.method d.chunk 4 []).read ≡ by_option None
unfolding messages_from
no_messages d = refl

pub supported_short : (d : Descriptor) (bytes : List ℕ) → length bytes < 4 → supported_by (contents d bytes).read ≡ by_option None
supported_short d bytes lt =
    ap (λ (rest : List ℕ). supported_by (messages_at d.method d.chunk 4 rest).read) (short_nothing bytes lt) ∙ no_messages d

by_first : (m : code.Message) → ((source : ℕ) (o : written.Options) → m ≡ variants.Handshake source o → ⊥) → (ms : List Message)
    → supported_by (message_of m ∷ ms) ≡ by_option None
by_first (variants.Handshake source options) none ms = absurd (none source options refl)
by_first (variants.Data chunk sent_at bytes) none ms = refl
by_first (variants.Ack span delay) none ms = refl
by_first (variants.Have span) none ms = refl
by_first (variants.Integrity span digest) none ms = refl
by_first (variants.Pex4 address port) none ms = refl
by_first variants.PexReq none ms = refl
by_first (variants.Request span) none ms = refl
by_first (variants.Cancel span) none ms = refl
by_first variants.Choke none ms = refl
by_first variants.Unchoke none ms = refl
by_first (variants.Pex6 address port) none ms = refl

module _ (d : Descriptor) (bytes : List ℕ) (some : 0 < d.chunk) (fits : IsBytes bytes) where
  pub supported_first : (next : ℕ) (m : Message) → 4 ≤ length bytes → Read m next ≡ moved 4 (next_message d.method d.chunk (drop 4 bytes))
      → supported_by (contents d bytes).read ≡ supported_by (m ∷ (messages_at d.method d.chunk next (drop next bytes)).read)
  supported_first next m le e =
      ap (λ (x : Messages). supported_by x.read) (is_read d.method d.chunk 4 next bytes m some fits le (sym e)).rest

  pub supported_other : (next : ℕ) (m : code.Message) → 4 ≤ length bytes
      → Read (message_of m) next ≡ moved 4 (next_message d.method d.chunk (drop 4 bytes))
      → ((source : ℕ) (o : written.Options) → m ≡ variants.Handshake source o → ⊥) → supported_by (contents d bytes).read ≡ by_option None
  supported_other next m le e none = supported_first next (message_of m) le e ∙ by_first m none _

  pub supported_cut : (place : ℕ) (kind : WireKind) → Cut place kind ≡ moved 4 (next_message d.method d.chunk (drop 4 bytes))
      → supported_by (contents d bytes).read ≡ by_option None
  supported_cut place kind e =
      let p = cut_at 4 (next_message d.method d.chunk (drop 4 bytes)) place kind (sym e) in
      ap (λ (x : Messages). supported_by x.read)
      ((one_by_one d.method d.chunk 4 (drop 4 bytes) some (IsBytes-drop 4 bytes fits)).2 p.place kind p.is)

  pub supported_end : End ≡ moved 4 (next_message d.method d.chunk (drop 4 bytes)) → supported_by (contents d bytes).read ≡ by_option None
  supported_end e = ap (λ (x : Messages). supported_by x.read)
      ((one_by_one d.method d.chunk 4 (drop 4 bytes) some (IsBytes-drop 4 bytes fits)).1
      (moved_end 4 (next_message d.method d.chunk (drop 4 bytes)) (sym e)))

  pub supported_else : (s : written_step.Step) → step_of s ≡ moved 4 (next_message d.method d.chunk (drop 4 bytes))
      → ((m : code.Message) (next : ℕ) → s ≡ steps.Message m next → ⊥) → supported_by (contents d bytes).read ≡ by_option None
  supported_else (steps.Message m next) e none = absurd (none m next refl)
  supported_else steps.End e none = supported_end e
  supported_else (steps.Cut fault) e none = supported_cut fault.at (kind_of fault.kind) e
