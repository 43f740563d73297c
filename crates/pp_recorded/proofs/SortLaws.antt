-- Sorts of messages, where a definition is a recursion of its own.
use Rattle.std.proofs.Common.{◌≡◌, ℕ, eqb, not, false, ◌&&◌, ◌||◌, List, [], ◌∷◌, refl, ap, Bool}
use Rattle.std.specs.Option.{option_map_or}
use Rattle.pp_terms.specs.format.Descriptor.{Descriptor}
use Rattle.pp_traffic.specs.Life.{fits}
use Rattle.pp_traffic.specs.Prompt.{knocks, first_source}
use Rattle.pp_recorded.specs.Parts.{first_shake}
use Rattle.std.specs.List.{list_any}
use Rattle.pp_terms.specs.format.Messages.{Message, Handshake, Data, Ack, Have, Integrity, Pex4, PexReq, Request, Cancel, Choke, Unchoke, Pex6}
use Rattle.pp_terms.specs.tree.Range.{within}
use Rattle.pp_traffic.specs.Committed.{has_request}
use Rattle.pp_traffic.specs.Keeping.{announces}
use Rattle.pp_recorded.specs.Sorts.{is_request, announces_in}

pub has_request_any : (ms : List Message) → has_request ms ≡ list_any is_request ms
has_request_any [] = refl
has_request_any (Handshake source options ∷ ms) = has_request_any ms
has_request_any (Data chunk sent_at bytes ∷ ms) = has_request_any ms
has_request_any (Ack span delay ∷ ms) = has_request_any ms
has_request_any (Have span ∷ ms) = has_request_any ms
has_request_any (Integrity span digest ∷ ms) = has_request_any ms
has_request_any (Pex4 address port ∷ ms) = has_request_any ms
has_request_any (PexReq ∷ ms) = has_request_any ms
has_request_any (Request span ∷ ms) = refl
has_request_any (Cancel span ∷ ms) = has_request_any ms
has_request_any (Choke ∷ ms) = has_request_any ms
has_request_any (Unchoke ∷ ms) = has_request_any ms
has_request_any (Pex6 address port ∷ ms) = has_request_any ms

pub announces_any : (i : ℕ) (ms : List Message) → announces i ms ≡ list_any (announces_in i) ms
announces_any i [] = refl
announces_any i (Handshake source options ∷ ms) = announces_any i ms
announces_any i (Data chunk sent_at bytes ∷ ms) = announces_any i ms
announces_any i (Ack span delay ∷ ms) = ap (λ (b : Bool). within span i || b) (announces_any i ms)
announces_any i (Have span ∷ ms) = ap (λ (b : Bool). within span i || b) (announces_any i ms)
announces_any i (Integrity span digest ∷ ms) = announces_any i ms
announces_any i (Pex4 address port ∷ ms) = announces_any i ms
announces_any i (PexReq ∷ ms) = announces_any i ms
announces_any i (Request span ∷ ms) = announces_any i ms
announces_any i (Cancel span ∷ ms) = announces_any i ms
announces_any i (Choke ∷ ms) = announces_any i ms
announces_any i (Unchoke ∷ ms) = announces_any i ms
announces_any i (Pex6 address port ∷ ms) = announces_any i ms

-- by the first message
pub knocks_shake : (d : Descriptor) (ms : List Message) → knocks d ms ≡ option_map_or (λ x. fits d false x.1 && not (eqb x.0 0)) (first_shake ms) false
knocks_shake d [] = refl
knocks_shake d (Handshake source options ∷ ms) = refl
knocks_shake d (Data chunk sent_at bytes ∷ ms) = refl
knocks_shake d (Ack span delay ∷ ms) = refl
knocks_shake d (Have span ∷ ms) = refl
knocks_shake d (Integrity span digest ∷ ms) = refl
knocks_shake d (Pex4 address port ∷ ms) = refl
knocks_shake d (PexReq ∷ ms) = refl
knocks_shake d (Request span ∷ ms) = refl
knocks_shake d (Cancel span ∷ ms) = refl
knocks_shake d (Choke ∷ ms) = refl
knocks_shake d (Unchoke ∷ ms) = refl
knocks_shake d (Pex6 address port ∷ ms) = refl

pub first_source_shake : (ms : List Message) → first_source ms ≡ option_map_or (λ x. x.0) (first_shake ms) 0
first_source_shake [] = refl
first_source_shake (Handshake source options ∷ ms) = refl
first_source_shake (Data chunk sent_at bytes ∷ ms) = refl
first_source_shake (Ack span delay ∷ ms) = refl
first_source_shake (Have span ∷ ms) = refl
first_source_shake (Integrity span digest ∷ ms) = refl
first_source_shake (Pex4 address port ∷ ms) = refl
first_source_shake (PexReq ∷ ms) = refl
first_source_shake (Request span ∷ ms) = refl
first_source_shake (Cancel span ∷ ms) = refl
first_source_shake (Choke ∷ ms) = refl
first_source_shake (Unchoke ∷ ms) = refl
first_source_shake (Pex6 address port ∷ ms) = refl
