-- What a turn of all seats leaves, step by step.
use Rattle.std.proofs.Common.{◌≡◌, inl, inr, ℕ, zero, suc, Bool, Option, Some, None, List, sym, subst}
use Rattle.pp_terms.specs.format.Traffic.{LinkState}
use Rattle.pp_terms.specs.tree.Range.{Span}
use Rattle.pp_channels.specs.Seats.{channel_at}
use Rattle.pp_lives.specs.Fars.{far_of}
use Rattle.pp_lives.specs.declared.lives.Far.{Far}
use Rattle.pp_seat.specs.declared.service.Turn.{Turn}
use Rattle.pp_peer.specs.declared.parts.Parts.{Parts}
use Rattle.pp_peer.specs.declared.speaking.Speaker.{Speaker}
use Rattle.pp_peer.specs.Flushing.{Scene}
use Rattle.pp_peer.specs.Greeting.{IsGreeted}
use Rattle.pp_peer.specs.Speaking.{SetsBack, SpeaksTo, Attends, SpeaksOn, TurnsIf, TurnsTo, TurnsBelow}

-- A relation that each step of a seat's turn keeps.
pub record IsStepwise (R : Parts → Parts → Type 0) : Type 0 where
  pub none : (p : Parts) → R p p
  pub twice : (a b c : Parts) → R a b → R b c → R a c
  pub greets : (seat moment : ℕ) (sent : Bool) (old new : Parts) (link later : LinkState) → IsGreeted seat moment sent old new link later → R old new
  pub back : (seat : ℕ) (greets : Bool) (news : List Span) (old new : Parts) → SetsBack seat greets news old new → R old new
  pub speaks : (seat : ℕ) (far : Far) (greets : Bool) (refused : ℕ) (speaker left : Speaker) (old new : Scene)
      → SpeaksTo (record { seat = seat; far = far; greets = greets }) refused speaker left old new → R old.parts new.parts
  pub attends : (seat : ℕ) (turn : Option Turn) (old new : Parts) → Attends seat turn old new → R old new

module _ (R : Parts → Parts → Type 0) (k : IsStepwise R) where
  kept_same : (old new : Parts) → new ≡ old → R old new
  kept_same old new same = subst (λ (p : Parts). R old p) (sym same) (k.none old)

  on_kept : (seat : ℕ) (far : Far) (greets : Bool) (refused : ℕ) (speaker left : Speaker) (old new : Scene)
      → SpeaksOn (record { seat = seat; far = far; greets = greets }) refused speaker left old new → R old.parts new.parts
  on_kept seat far greets refused speaker left old new s =
      k.twice old.parts s.back new.parts (k.back seat greets speaker.news.ranges old.parts s.back s.sets_back)
      (k.twice s.back s.said new.parts
      (k.speaks seat far greets refused speaker left (record old { parts = s.back }) (record new { parts = s.said }) s.speaks)
      (k.attends seat _ s.said new.parts s.attends))

  pub turn_kept : (seat refused : ℕ) (speaker left : Speaker) (old new : Scene) → TurnsTo seat refused speaker left old new → R old.parts new.parts
  turn_kept seat refused speaker left old new t = of (far_of (channel_at old.parts.seats.table seat)) t
    where
      of : (o : Option Far) → TurnsIf o seat refused speaker left old new → R old.parts new.parts
      of None g = k.greets seat _ g.greeted old.parts new.parts old.link new.link g.greets
      of (Some far) (inl n) = kept_same old.parts new.parts n.silent.parts
      of (Some far) (inr s) = on_kept seat far s.0 refused speaker left old new s.1

  pub turns_kept : (seats refused : ℕ) (speaker left : Speaker) (old new : Scene) → TurnsBelow seats refused speaker left old new
      → R old.parts new.parts
  unfolding TurnsBelow
  turns_kept zero refused speaker left old new t = kept_same old.parts new.parts t.parts
  turns_kept (suc seat) refused speaker left old new t =
      k.twice old.parts t.3.parts new.parts (turns_kept seat t.0 speaker t.2 old t.3 t.4) (turn_kept seat t.1 t.2 left t.3 new t.5)
