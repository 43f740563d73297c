-- What the calls of a link mean, in the words on traffic.
use Rattle.std.specs.Prelude.{◌≡◌, ℕ, ◌+◌, ◌-◌, ◌^◌, ◌≤◌, min, Bool, [], ◌∷◌, List, length, take, Result, IfOk, OnOk, OnErr}
use Rattle.pp_terms.specs.Count.{HasCause}
use Rattle.pp_terms.specs.format.Traffic as traffic
use Rattle.pp_terms.specs.format.Traffic.{Record, Received, Sent, LinkState, GainsRecords, GainsAddress}
use Rattle.pp_outside.specs.declared.link.Address.{Address}
use Rattle.pp_outside.specs.declared.link.Address.TheVariants.{V4, V6}
use Rattle.pp_outside.specs.declared.link.Event.{Event}
use Rattle.pp_outside.specs.declared.link.Event.TheVariants.{Datagram, Quiet}

-- an address as plain data
abbrev pub address_of : Address → traffic.Address
address_of (V4 bytes port) = traffic.V4 bytes port
address_of (V6 bytes port) = traffic.V6 bytes port

-- one address
abbrev pub is_same : Address → Address → Bool
is_same a b = traffic.same_address (address_of a) (address_of b)

-- the record of an event, with the buffer that it came in
abbrev pub record_of : Event → List ℕ → Record
record_of (Datagram sender len at) buffer = Received at (address_of sender) (take len buffer)
record_of (Quiet at) buffer = traffic.Quiet at

-- the bytes of an event lie in the buffer
abbrev pub FitsIn : Event → List ℕ → Type 0
FitsIn (Datagram sender len at) buffer = len ≤ length buffer
FitsIn (Quiet at) buffer = Unit {0}

-- how many bytes it put into the buffer
abbrev pub size_of : Event → ℕ
size_of (Datagram sender len at) = len
size_of (Quiet at) = 0

pub record DoesBind {E : Type 0} (old : LinkState) (listen : Address) (result : Result (Unit {0}) E) (new : LinkState) : Type 0 where
  pub traffic : new.traffic ≡ old.traffic
  pub nexts : new.nexts ≡ old.nexts
  pub bound : OnOk result (GainsAddress old.bound (address_of listen) new.bound)
  pub refused : OnErr result (new.bound ≡ old.bound)
  pub cause : HasCause old.faults new.faults result

pub record DoesNext {E : Type 0} (old : LinkState) (buffer : List ℕ) (result : Result Event E) (new : LinkState) : Type 0 where
  pub fits : IfOk result (λ event. FitsIn event buffer)
  pub gained : IfOk result (λ event. GainsRecords old.traffic (record_of event buffer ∷ []) new.traffic)
  pub refused : OnErr result (new.traffic ≡ old.traffic)
  pub nexts : new.nexts ≡ min (old.nexts + 1) (2 ^ 64 - 1)
  pub bound : new.bound ≡ old.bound
  pub cause : HasCause old.faults new.faults result

-- The record carries the disk's moment when the call was made.
pub record DoesSend {E : Type 0} (old : LinkState) (moment : ℕ) (receiver : Address) (bytes : List ℕ)
    (result : Result (Unit {0}) E) (new : LinkState) : Type 0 where
  pub gained : OnOk result (GainsRecords old.traffic (Sent moment (address_of receiver) bytes ∷ []) new.traffic)
  pub refused : OnErr result (new.traffic ≡ old.traffic)
  pub nexts : new.nexts ≡ old.nexts
  pub bound : new.bound ≡ old.bound
  pub cause : HasCause old.faults new.faults result
