-- What the handshakes of a datagram say of it, message by message.
use Rattle.std.proofs.Common.{◌≡◌, ℕ, eqb, Bool, false, cond, ◌&&◌, ◌||◌, None, List, [], ◌∷◌, refl}
use Rattle.std.specs.Prelude.{is_some}
use Rattle.std.specs.Option.{option_map_or}
use Rattle.pp_terms.specs.format.Descriptor.{Descriptor}
use Rattle.pp_terms.specs.format.Messages.{Message, Handshake, Data, Ack, Have, Integrity, Pex4, PexReq, Request, Cancel, Choke, Unchoke, Pex6}
use Rattle.pp_traffic.specs.Life.{fits, begins, begins_as, begins_fitting, closes}
use Rattle.pp_traffic.specs.Story.{behind}
use Rattle.pp_promises.specs.Answered.{is_of}
use Rattle.pp_wire.specs.Views.{message_of}
use Rattle.pp_wire.specs.declared.message.Message as code
use Rattle.pp_wire.specs.declared.message.Message.TheVariants as variants
use Rattle.pp_options.specs.declared.value.Options as written
use Rattle.pp_recorded.specs.Parts.{shake_of, first_shake}

-- by the first message
pub begins_shake : (ms : List Message) → begins ms ≡ is_some (first_shake ms)
begins_shake [] = refl
begins_shake (Handshake source options ∷ ms) = refl
begins_shake (Data chunk sent_at bytes ∷ ms) = refl
begins_shake (Ack span delay ∷ ms) = refl
begins_shake (Have span ∷ ms) = refl
begins_shake (Integrity span digest ∷ ms) = refl
begins_shake (Pex4 address port ∷ ms) = refl
begins_shake (PexReq ∷ ms) = refl
begins_shake (Request span ∷ ms) = refl
begins_shake (Cancel span ∷ ms) = refl
begins_shake (Choke ∷ ms) = refl
begins_shake (Unchoke ∷ ms) = refl
begins_shake (Pex6 address port ∷ ms) = refl

-- its source
pub begins_as_shake : (number : ℕ) (ms : List Message) → begins_as number ms ≡ option_map_or (λ x. eqb x.0 number) (first_shake ms) false
begins_as_shake number [] = refl
begins_as_shake number (Handshake source options ∷ ms) = refl
begins_as_shake number (Data chunk sent_at bytes ∷ ms) = refl
begins_as_shake number (Ack span delay ∷ ms) = refl
begins_as_shake number (Have span ∷ ms) = refl
begins_as_shake number (Integrity span digest ∷ ms) = refl
begins_as_shake number (Pex4 address port ∷ ms) = refl
begins_as_shake number (PexReq ∷ ms) = refl
begins_as_shake number (Request span ∷ ms) = refl
begins_as_shake number (Cancel span ∷ ms) = refl
begins_as_shake number (Choke ∷ ms) = refl
begins_as_shake number (Unchoke ∷ ms) = refl
begins_as_shake number (Pex6 address port ∷ ms) = refl

-- and its options
pub begins_fitting_shake : (d : Descriptor) (is_reply : Bool) (number : ℕ) (ms : List Message) → begins_fitting d is_reply number ms ≡ option_map_or (λ x. eqb x.0 number && fits d is_reply x.1) (first_shake ms) false
begins_fitting_shake d is_reply number [] = refl
begins_fitting_shake d is_reply number (Handshake source options ∷ ms) = refl
begins_fitting_shake d is_reply number (Data chunk sent_at bytes ∷ ms) = refl
begins_fitting_shake d is_reply number (Ack span delay ∷ ms) = refl
begins_fitting_shake d is_reply number (Have span ∷ ms) = refl
begins_fitting_shake d is_reply number (Integrity span digest ∷ ms) = refl
begins_fitting_shake d is_reply number (Pex4 address port ∷ ms) = refl
begins_fitting_shake d is_reply number (PexReq ∷ ms) = refl
begins_fitting_shake d is_reply number (Request span ∷ ms) = refl
begins_fitting_shake d is_reply number (Cancel span ∷ ms) = refl
begins_fitting_shake d is_reply number (Choke ∷ ms) = refl
begins_fitting_shake d is_reply number (Unchoke ∷ ms) = refl
begins_fitting_shake d is_reply number (Pex6 address port ∷ ms) = refl

-- one that closes
pub closes-more : (m : Message) (ms : List Message) → closes (m ∷ ms) ≡ (is_of 0 m || closes ms)
closes-more (Handshake source options) ms = refl
closes-more (Data chunk sent_at bytes) ms = refl
closes-more (Ack span delay) ms = refl
closes-more (Have span) ms = refl
closes-more (Integrity span digest) ms = refl
closes-more (Pex4 address port) ms = refl
closes-more PexReq ms = refl
closes-more (Request span) ms = refl
closes-more (Cancel span) ms = refl
closes-more Choke ms = refl
closes-more Unchoke ms = refl
closes-more (Pex6 address port) ms = refl

-- those behind one
pub behind-more : (number : ℕ) (m : Message) (ms : List Message) → behind number (m ∷ ms) ≡ cond (is_of number m) ms (behind number ms)
behind-more number (Handshake source options) ms = refl
behind-more number (Data chunk sent_at bytes) ms = refl
behind-more number (Ack span delay) ms = refl
behind-more number (Have span) ms = refl
behind-more number (Integrity span digest) ms = refl
behind-more number (Pex4 address port) ms = refl
behind-more number PexReq ms = refl
behind-more number (Request span) ms = refl
behind-more number (Cancel span) ms = refl
behind-more number Choke ms = refl
behind-more number Unchoke ms = refl
behind-more number (Pex6 address port) ms = refl

-- any other message
pub no_shake : (m : code.Message) → ((source : ℕ) (o : written.Options) → m ≡ variants.Handshake source o → ⊥) → shake_of (message_of m) ≡ None
no_shake (variants.Handshake source options) none = absurd (none source options refl)
no_shake (variants.Data chunk sent_at bytes) none = refl
no_shake (variants.Ack span delay) none = refl
no_shake (variants.Have span) none = refl
no_shake (variants.Integrity span digest) none = refl
no_shake (variants.Pex4 address port) none = refl
no_shake variants.PexReq none = refl
no_shake (variants.Request span) none = refl
no_shake (variants.Cancel span) none = refl
no_shake variants.Choke none = refl
no_shake variants.Unchoke none = refl
no_shake (variants.Pex6 address port) none = refl
