-- The turns of a run (RFC 7574, section 8): a turn begins with an event and has what was sent until the next one. What a peer
-- sends when it closes its channels (section 8.4) stands behind the last turn.
use Rattle.std.specs.Prelude.{◌≡◌, ◌⊎◌, ℕ, suc, ◌+◌, ◌≤◌, ◌==◌, Bool, true, false, if◌then◌else◌, List, [], ◌∷◌, length}
use Rattle.std.specs.List.{list_any}
use Rattle.pp_terms.specs.format.Traffic.{Record, Received, Quiet, Sent}
use Rattle.pp_terms.specs.format.Descriptor.{Descriptor}
use Rattle.pp_traffic.specs.Past.{read}
use Rattle.pp_traffic.specs.Life.{closes}

-- how many events there were
abbrev pub events : List Record → ℕ
events [] = 0
events (Received at sender bytes ∷ before) = events before + 1
events (Quiet at ∷ before) = events before + 1
events (Sent moment receiver bytes ∷ before) = events before

-- the record was sent, and has a closing handshake
abbrev pub is_closing : Descriptor → Record → Bool
is_closing d (Received at sender bytes) = false
is_closing d (Quiet at) = false
is_closing d (Sent moment receiver bytes) = closes (read d (Sent moment receiver bytes)).messages.read

-- the records of the turns, without those that closed the channels behind the last one
abbrev pub in_turns : Descriptor → List Record → List Record
in_turns d [] = []
in_turns d (r ∷ before) = if is_closing d r then in_turns d before else r ∷ before

-- Channels are closed behind the last turn alone.
abbrev pub ClosesLast : Descriptor → List Record → Type 0
ClosesLast d past = list_any (is_closing d) (in_turns d past) ≡ false

-- At the end of every turn but the last one, and but so many others, P holds of the records until then.
abbrev pub AtTurnEndsBut : ℕ → (List Record → Type 0) → List Record → Type 0
AtTurnEndsBut r P [] = Unit {0}
AtTurnEndsBut r P (Received at sender bytes ∷ before) =
    (P before × AtTurnEndsBut r P before) ⊎ ((k : ℕ) × (r ≡ suc k) × AtTurnEndsBut k P before)
AtTurnEndsBut r P (Quiet at ∷ before) =
    (P before × AtTurnEndsBut r P before) ⊎ ((k : ℕ) × (r ≡ suc k) × AtTurnEndsBut k P before)
AtTurnEndsBut r P (Sent moment receiver bytes ∷ before) = AtTurnEndsBut r P before

-- At the end of every turn but so many, the last one included, P holds of the records until then.
abbrev pub AtEndsOfTurnsBut : ℕ → (List Record → Type 0) → List Record → Type 0
AtEndsOfTurnsBut r P turns = (P turns × AtTurnEndsBut r P turns) ⊎ ((k : ℕ) × (r ≡ suc k) × AtTurnEndsBut k P turns)

-- The same of a whole traffic. The last turn ends before the channels are closed.
abbrev pub AtEndsBut : ℕ → Descriptor → (List Record → Type 0) → List Record → Type 0
AtEndsBut r d P past = AtEndsOfTurnsBut r P (in_turns d past)

-- At most so many numbers have P.
abbrev pub AtMost : ℕ → (ℕ → Type 0) → Type 0
AtMost r P = (few : List ℕ) × (length few ≤ r) × ((i : ℕ) → P i → list_any (λ k. k == i) few ≡ true)
