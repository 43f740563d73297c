-- What is left unread moves no window.
use Rattle.std.proofs.Common.{◌≡◌, ℕ, leb, eqb, Bool, true, false, cond, not, ◌&&◌, ◌||◌, List, [], ◌∷◌, length, refl, sym, ◌∙◌, ap, subst}
use Rattle.std.proofs.lemmas.Bool.{and_parts, or_parts, not-true}
use Rattle.std.specs.List.{list_any}
use Rattle.pp_terms.specs.format.Traffic.{Record, Received, Quiet, Sent}
use Rattle.pp_terms.specs.format.Descriptor.{Descriptor}
use Rattle.pp_terms.specs.format.Messages.{Message, Handshake, Data, Ack, Have, Integrity, Pex4, PexReq, Request, Cancel, Choke, Unchoke, Pex6}
use Rattle.pp_traffic.specs.declared.entries.Entry.{Entry}
use Rattle.pp_traffic.specs.Past.{now}
use Rattle.pp_traffic.specs.Life.{Life, greets}
use Rattle.pp_traffic.specs.Story.{Line, Heard, Said, hear, say, heard_in, said_in, told, story}
use Rattle.pp_traffic.specs.Meter.{Meter, meter, heard_by, said_by, is_due, timed_out, ended, hits, settled}
use Rattle.pp_promises.specs.ReadStory.{with_unread, is_replied, is_read, read_story}
use Rattle.pp_promises.specs.Laws.{is_any_data, is_bare}

-- nothing flies
abbrev IsStill : Meter → Type 0
IsStill m = m.entries ≡ []

-- then an ACK does nothing, nor does the end of a wait
heard_still : (at : ℕ) (x : Message) (m : Meter) → IsStill m → heard_by at x m ≡ m
heard_still at (Ack span delay) m still = subst (λ (es : List Entry). cond (eqb (hits span.first span.last es) 0) m (settled span.first span.last delay at m) ≡ m) (sym still) refl
heard_still at (Handshake source options) m still = refl
heard_still at (Data chunk sent_at bytes) m still = refl
heard_still at (Have span) m still = refl
heard_still at (Integrity span digest) m still = refl
heard_still at (Pex4 address port) m still = refl
heard_still at PexReq m still = refl
heard_still at (Request span) m still = refl
heard_still at (Cancel span) m still = refl
heard_still at Choke m still = refl
heard_still at Unchoke m still = refl
heard_still at (Pex6 address port) m still = refl

hear_still : (chunk at : ℕ) (ms : List Message) (s : List Line) → IsStill (meter chunk s) → meter chunk (hear at ms s) ≡ meter chunk s
hear_still chunk at [] s still = refl
hear_still chunk at (x ∷ ms) s still =
    let one : meter chunk (Heard at x ∷ s) ≡ meter chunk s = heard_still at x (meter chunk s) still in
    hear_still chunk at ms (Heard at x ∷ s) (subst IsStill (sym one) still) ∙ one

-- what is heard and said moves equal meters alike
hear_meters : (chunk at : ℕ) (ms : List Message) (s s' : List Line) → meter chunk s ≡ meter chunk s' → meter chunk (hear at ms s) ≡ meter chunk (hear at ms s')
hear_meters chunk at [] s s' e = e
hear_meters chunk at (x ∷ ms) s s' e = hear_meters chunk at ms (Heard at x ∷ s) (Heard at x ∷ s') (ap (heard_by at x) e)

say_meters : (chunk at : ℕ) (ms : List Message) (s s' : List Line) → meter chunk s ≡ meter chunk s' → meter chunk (say at ms s) ≡ meter chunk (say at ms s')
say_meters chunk at [] s s' e = e
say_meters chunk at (x ∷ ms) s s' e = say_meters chunk at ms (Said at x ∷ s) (Said at x ∷ s') (ap (said_by at x) e)

told_meters : (d : Descriptor) (life : Life) (chunk : ℕ) (o : Bool) (at : ℕ) (r : Record) (s s' : List Line) → meter chunk s ≡ meter chunk s' → meter chunk (told d life o at r s) ≡ meter chunk (told d life o at r s')
told_meters d life chunk o at (Received a sender bytes) s s' e = ap (ended at) (hear_meters chunk at (heard_in d life o (Received a sender bytes)) s s' e)
told_meters d life chunk o at (Quiet a) s s' e = ap (ended at) e
told_meters d life chunk o at (Sent moment receiver bytes) s s' e = say_meters chunk at (said_in d life (Sent moment receiver bytes)) s s' e

-- where nothing flies, a record that is left unread moves nothing either
unread_meters : (d : Descriptor) (life : Life) (chunk : ℕ) (o : Bool) (at : ℕ) (r : Record) (s s' : List Line) → IsStill (meter chunk s) → meter chunk s ≡ meter chunk s'
    → meter chunk (with_unread d life o at r s) ≡ meter chunk (told d life o at r s')
unread_meters d life chunk o at (Received a sender bytes) s s' still e =
    ap (ended at) (e ∙ sym (hear_still chunk at (heard_in d life o (Received a sender bytes)) s' (subst IsStill e still)))
unread_meters d life chunk o at (Quiet a) s s' still e = ap (ended at) e
unread_meters d life chunk o at (Sent moment receiver bytes) s s' still e = say_meters chunk at (said_in d life (Sent moment receiver bytes)) s s' e

-- nothing flies before the reply
ended_still : (at : ℕ) (m : Meter) → IsStill m → IsStill (ended at m)
ended_still at m still = pick (is_due at m)
  where
    pick : (x : Bool) → IsStill (cond x (timed_out at m) m)
    pick true = refl
    pick false = still

said_none : (at : ℕ) (x : Message) (m : Meter) → is_any_data x ≡ false → said_by at x m ≡ m
said_none at (Data chunk sent_at bytes) m none = absurd cc
said_none at (Ack span delay) m none = refl
said_none at (Handshake source options) m none = refl
said_none at (Have span) m none = refl
said_none at (Integrity span digest) m none = refl
said_none at (Pex4 address port) m none = refl
said_none at PexReq m none = refl
said_none at (Request span) m none = refl
said_none at (Cancel span) m none = refl
said_none at Choke m none = refl
said_none at Unchoke m none = refl
said_none at (Pex6 address port) m none = refl

say_still : (chunk at : ℕ) (ms : List Message) (s : List Line) → list_any is_any_data ms ≡ false → meter chunk (say at ms s) ≡ meter chunk s
say_still chunk at [] s none = refl
say_still chunk at (x ∷ ms) s none =
    let parts = or_parts (is_any_data x) (list_any is_any_data ms) none in
    say_still chunk at ms (Said at x ∷ s) parts.1 ∙ said_none at x (meter chunk s) parts.0

unread_still : (d : Descriptor) (life : Life) (chunk : ℕ) (o : Bool) (at : ℕ) (r : Record) (s : List Line) → list_any is_any_data (said_in d life r) ≡ false
    → IsStill (meter chunk s) → IsStill (meter chunk (with_unread d life o at r s))
unread_still d life chunk o at (Received a sender bytes) s none still = ended_still at (meter chunk s) still
unread_still d life chunk o at (Quiet a) s none still = ended_still at (meter chunk s) still
unread_still d life chunk o at (Sent moment receiver bytes) s none still =
    subst IsStill (sym (say_still chunk at (said_in d life (Sent moment receiver bytes)) s none)) still

earlier_unread : (x y z : Bool) → (x || (y || z)) ≡ false → (x || z) ≡ false
earlier_unread true y z e = e
earlier_unread false true z e = absurd cc
earlier_unread false false z e = e

still_unread : (d : Descriptor) (life : Life) (chunk : ℕ) (past : List Record) → is_read d life past ≡ false → is_bare d life past ≡ true
    → IsStill (meter chunk (read_story d life past))
still_unread d life chunk [] e bare = refl
still_unread d life chunk (r ∷ b) e bare = pick (leb life.opening (length b)) (is_read d life (r ∷ b)) e bare
    (still_unread d life chunk b (earlier_unread (not life.is_dialled) (leb life.opening (length b) && greets d life r) (is_replied d life b) e))
  where
    pick : (x y : Bool) → y ≡ false → cond x ((y || not (list_any is_any_data (said_in d life r))) && is_bare d life b) true ≡ true
        → (is_bare d life b ≡ true → IsStill (meter chunk (read_story d life b)))
        → IsStill (meter chunk (cond x (cond y (told d life (eqb life.opening (length b)) (now (r ∷ b)) r (read_story d life b)) (with_unread d life (eqb life.opening (length b)) (now (r ∷ b)) r (read_story d life b))) []))
    pick true true e' bare' ih = absurd cc
    pick true false e' bare' ih =
        let parts = and_parts (not (list_any is_any_data (said_in d life r))) (is_bare d life b) bare' in
        unread_still d life chunk (eqb life.opening (length b)) (now (r ∷ b)) r (read_story d life b)
        (not-true (list_any is_any_data (said_in d life r)) parts.0) (ih parts.1)
    pick false y e' bare' ih = refl

pub meters_agree : (d : Descriptor) (life : Life) (chunk : ℕ) (past : List Record) → is_bare d life past ≡ true
    → meter chunk (read_story d life past) ≡ meter chunk (story d life past)
meters_agree d life chunk [] bare = refl
meters_agree d life chunk (r ∷ b) bare = pick (leb life.opening (length b)) (is_read d life (r ∷ b)) refl bare (meters_agree d life chunk b)
  where
    pick : (x y : Bool) → is_read d life (r ∷ b) ≡ y → cond x ((y || not (list_any is_any_data (said_in d life r))) && is_bare d life b) true ≡ true
        → (is_bare d life b ≡ true → meter chunk (read_story d life b) ≡ meter chunk (story d life b))
        → meter chunk (cond x (cond y (told d life (eqb life.opening (length b)) (now (r ∷ b)) r (read_story d life b)) (with_unread d life (eqb life.opening (length b)) (now (r ∷ b)) r (read_story d life b))) []) ≡ meter chunk (cond x (told d life (eqb life.opening (length b)) (now (r ∷ b)) r (story d life b)) [])
    pick true true e bare' ih =
        told_meters d life chunk (eqb life.opening (length b)) (now (r ∷ b)) r (read_story d life b) (story d life b) (ih bare')
    pick true false e bare' ih =
        let parts = and_parts (not (list_any is_any_data (said_in d life r))) (is_bare d life b) bare' in
        unread_meters d life chunk (eqb life.opening (length b)) (now (r ∷ b)) r (read_story d life b) (story d life b)
        (still_unread d life chunk b (earlier_unread (not life.is_dialled) (leb life.opening (length b) && greets d life r) (is_replied d life b) e) parts.1) (ih parts.1)
    pick false y e bare' ih = refl
