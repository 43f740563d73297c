-- One message of a datagram read, and what is left behind it.
use Rattle.std.proofs.Common.{◌≡◌, ℕ, ◌+◌, ◌<◌, ◌≤◌, List, length, take, drop, sym, ◌∙◌, ap, arith}
use Rattle.std.proofs.lemmas.List.{length-take, length-drop, drop-drop}
use Rattle.pp_terms.specs.format.Descriptor.{Method}
use Rattle.pp_terms.specs.format.Options.{IsBytes}
use Rattle.pp_terms.specs.format.Messages.{Message, Read, next_message, moved, messages_at, with_first}
use Rattle.pp_terms.proofs.Spellings.{IsBytes-drop}
use Rattle.pp_terms.proofs.MessageLaws.{read_is_spelt, spelt_some}
use Rattle.pp_terms.proofs.DatagramLaws.{one_by_one}
use Rattle.pp_terms.proofs.MovedSteps.{size_of}

-- A message stands at the place, and others behind it.
pub record IsRead (method : Method) (chunk at next : ℕ) (bytes : List ℕ) (m : Message) : Type 0 where
  pub later : at < next
  pub within : next ≤ length bytes
  pub rest : messages_at method chunk at (drop at bytes) ≡ with_first m (messages_at method chunk next (drop next bytes))

pub is_read : (method : Method) (chunk at next : ℕ) (bytes : List ℕ) (m : Message) → 0 < chunk → IsBytes bytes → at ≤ length bytes
    → moved at (next_message method chunk (drop at bytes)) ≡ Read m next → IsRead method chunk at next bytes m
is_read method chunk at next bytes m some fits le e =
    let s = size_of at (next_message method chunk (drop at bytes)) m next e in
    let begun = read_is_spelt method chunk (drop at bytes) m s.size some (IsBytes-drop at bytes fits) s.is in
    let longer : 0 < length (take s.size (drop at bytes)) = spelt_some method m (take s.size (drop at bytes)) begun.spelt in
    let inside : s.size ≤ length (drop at bytes) = begun.within in
    let there : at + s.size ≤ length bytes = omega (arith, inside, length-drop at bytes) in
    let moves : 0 < s.size = omega (arith, longer, length-take s.size (drop at bytes)) in
    record {
      later = omega (arith, s.ends, moves);
      within = omega (arith, s.ends, there);
      rest = (one_by_one method chunk at (drop at bytes) some (IsBytes-drop at bytes fits)).0 m s.size s.is
          ∙ ap (λ (xs : List ℕ). with_first m (messages_at method chunk (at + s.size) xs)) (drop-drop s.size at bytes)
          ∙ ap (λ (n : ℕ). with_first m (messages_at method chunk n (drop n bytes))) (sym s.ends);
    }
