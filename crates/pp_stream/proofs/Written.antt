-- Bytes that a sink takes a piece at a time.
use Rattle.std.proofs.Common.{◌≡◌, ℕ, ◌+◌, ◌-◌, ◌<◌, ◌≤◌, Option, Some, None, List, [], ◌++◌, length, take, drop, Ok, refl, sym, ◌∙◌, ap, subst, arith, append_assoc}
use Rattle.std.proofs.Math.Seq.{take-add}
use Rattle.std.proofs.lemmas.List.{take_all, append-nil, length-drop}
use Rattle.pp_terms.specs.command.Stream.{SinkState, DoesGive, Gains}

-- the sink has taken the first bytes
pub record IsWritten (old new : SinkState) (bytes : List ℕ) (written : ℕ) : Type 0 where
  pub within : written ≤ length bytes
  pub taken : Gains old.taken (take written bytes) new.taken
  pub later : old.faults ≤ new.faults

pub gains-nil : (taken : Option (List ℕ)) → Gains taken [] taken
gains-nil None = refl
gains-nil (Some old) = ap Some (sym (append-nil old))

pub gains_more : (old mid new : Option (List ℕ)) (first second : List ℕ) → Gains old first mid → Gains mid second new → Gains old (first ++ second) new
gains_more None mid new first second one two = subst (λ (m : Option (List ℕ)). Gains m second new) one two
gains_more (Some old) mid new first second one two =
    subst (λ (m : Option (List ℕ)). Gains m second new) one two ∙ ap Some (append_assoc old first second)

pub written_none : (state : SinkState) (bytes : List ℕ) → IsWritten state state bytes 0
written_none state bytes = record { within = omega arith; taken = gains-nil state.taken; later = omega arith }

-- one piece more
pub written_more : {E : Type 0} (old mid new : SinkState) (bytes : List ℕ) (written count : ℕ) → IsWritten old mid bytes written → written < length bytes
    → DoesGive {E = E} mid (take (length bytes - written) (drop written bytes)) (Ok count) new → IsWritten old new bytes (written + count)
written_more old mid new bytes written count before room gives =
    let rest : take (length bytes - written) (drop written bytes) ≡ drop written bytes = take_all (length bytes - written) (drop written bytes) (omega (arith, length-drop written bytes)) in
    let within : count ≤ length (drop written bytes) = subst (λ (b : List ℕ). count ≤ length b) rest gives.within in
    let taken : Gains mid.taken (take count (drop written bytes)) new.taken = subst (λ (b : List ℕ). Gains mid.taken (take count b) new.taken) rest gives.taken in
    record {
      within = omega (arith, within, length-drop written bytes);
      taken = subst (λ (b : List ℕ). Gains old.taken b new.taken) (sym (take-add written count bytes)) (gains_more old.taken mid.taken new.taken (take written bytes) (take count (drop written bytes)) before.taken taken);
      later = omega (arith, before.later, gives.cause.later);
    }

pub written_all : (old new : SinkState) (bytes : List ℕ) (written : ℕ) → IsWritten old new bytes written → length bytes ≤ written → Gains old.taken bytes new.taken
written_all old new bytes written before done = subst (λ (b : List ℕ). Gains old.taken b new.taken) (take_all written bytes done) before.taken
