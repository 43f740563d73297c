-- A datagram that is sent, or refused.
use Rattle.std.proofs.Common.{◌≡◌, ℕ, Bool, List, Result, Ok, Err, refl, subst, sym}
use Rattle.std.specs.Result.{is_ok}
use Rattle.pp_terms.specs.format.Traffic.{LinkState}
use Rattle.pp_outside.specs.Outside.{address_of, DoesSend}
use Rattle.pp_outside.specs.declared.link.Address.{Address}
use Rattle.pp_draft.specs.Posts.{Sends}

pub sends_by : {E : Type 0} (receiver : Address) (bytes : List ℕ) (moment : ℕ) (old new : LinkState) (r : Result (Unit {0}) E) (sent : Bool) → sent ≡ is_ok r
    → DoesSend old moment receiver bytes r new → Sends (address_of receiver) bytes moment old new sent
sends_by receiver bytes moment old new (Ok x) sent is does = subst (λ (b : Bool). Sends (address_of receiver) bytes moment old new b) (sym is)
    (record { outcome = does.gained; nexts = does.nexts; bound = does.bound; later = does.cause.later })
sends_by receiver bytes moment old new (Err e) sent is does = subst (λ (b : Bool). Sends (address_of receiver) bytes moment old new b) (sym is)
    (record { outcome = (does.refused, does.cause.risen refl); nexts = does.nexts; bound = does.bound; later = does.cause.later })
