-- What is planned, message by message.
use Rattle.std.proofs.Common.{◌≡◌, ◌↔◌, ℕ, ◌^◌, ◌≤◌, Option, None, List, [], ◌∷◌, ◌++◌}
use Rattle.std.proofs.lemmas.Bool.{both_ways}
use Rattle.pp_terms.specs.format.Traffic.{Address, Record}
use Rattle.pp_terms.specs.format.Descriptor.{Descriptor, chunks_of, height_of}
use Rattle.pp_terms.specs.format.Messages.{Message, Handshake, Data, Ack, Have, Integrity, Pex4, PexReq, Request, Cancel, Choke, Unchoke, Pex6}
use Rattle.pp_traffic.specs.Hashes.{brings}
use Rattle.pp_traffic.specs.Serving.{Window}
use Rattle.pp_traffic.specs.Story.{story}
use Rattle.pp_promises.specs.Datagrams.{PlansPeer, PlansFrom}
use Rattle.pp_recorded.specs.Plannings.{PlansMessage}
use Rattle.pp_recorded.proofs.FarChunks.{far_chunk}

-- the first message, and those behind it
abbrev PlansBoth : Descriptor → Window → List Record → Address → Option ℕ → List Message → Message → List Message → Type 0
PlansBoth d window past receiver channel front m rest =
    PlansMessage d window past receiver channel front m × PlansFrom d window past receiver channel (front ++ m ∷ []) rest

pub split_first : (d : Descriptor) (window : Window) (past : List Record) (receiver : Address) (channel : Option ℕ) (front : List Message) (m : Message) (rest : List Message)
    → PlansFrom d window past receiver channel front (m ∷ rest) ↔ PlansBoth d window past receiver channel front m rest
split_first d window past receiver channel front (Handshake source options) rest = (λ s. (tt, s), λ s. s.1)
split_first d window past receiver channel front (Data chunk sent_at bytes) rest = (λ s. (s.0, s.1), λ s. (s.0, s.1))
split_first d window past receiver channel front (Ack span delay) rest = (λ s. (tt, s), λ s. s.1)
split_first d window past receiver channel front (Have span) rest = (λ s. (tt, s), λ s. s.1)
split_first d window past receiver channel front (Integrity span digest) rest = (λ s. (tt, s), λ s. s.1)
split_first d window past receiver channel front (Pex4 address port) rest = (λ s. (tt, s), λ s. s.1)
split_first d window past receiver channel front PexReq rest = (λ s. (tt, s), λ s. s.1)
split_first d window past receiver channel front (Request span) rest = (λ s. (tt, s), λ s. s.1)
split_first d window past receiver channel front (Cancel span) rest = (λ s. (tt, s), λ s. s.1)
split_first d window past receiver channel front Choke rest = (λ s. (tt, s), λ s. s.1)
split_first d window past receiver channel front Unchoke rest = (λ s. (tt, s), λ s. s.1)
split_first d window past receiver channel front (Pex6 address port) rest = (λ s. (tt, s), λ s. s.1)

-- no chunk of a number that 32 bits don't hold is planned
pub far_unplanned : (d : Descriptor) (window : Window) (past : List Record) (receiver : Address) (channel : Option ℕ) (i : ℕ) (front : List Message)
    → chunks_of d ≤ 2 ^ 20 → height_of d ≤ 20 → 2 ^ 32 ≤ i → PlansPeer d window past receiver channel i front → ⊥
far_unplanned d window past receiver channel i front few low far plans =
    let whole = plans.plans.answers.whole_path in
    let none = far_chunk (chunks_of d) (brings front) (story d plans.life past) i few low far in
    both_ways _ none whole

-- a datagram without a number reaches nobody
pub none_unplanned : (d : Descriptor) (window : Window) (past : List Record) (receiver : Address) (channel : Option ℕ) (i : ℕ) (front : List Message)
    → channel ≡ None → PlansPeer d window past receiver channel i front → ⊥
none_unplanned d window past receiver channel i front none plans = let by = plans.by in cc
