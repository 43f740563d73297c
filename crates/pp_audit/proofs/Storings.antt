-- What each message of a datagram is asked for, in front of a closing handshake.
use Rattle.std.proofs.Common.{◌≡◌, ⊎_elim, Bool, true, false, ◌&&◌, ◌||◌, List, [], ◌∷◌, ◌++◌, refl, sym, ◌∙◌, ap, append_assoc}
use Rattle.std.proofs.lemmas.Bool.{and_parts, and_from, or_left, or_right, or_parts, cases_Bool}
use Rattle.std.proofs.lemmas.List.{append-nil}
use Rattle.pp_terms.specs.format.Messages.{Message, Handshake, Data, Ack, Have, Integrity, Pex4, PexReq, Request, Cancel, Choke, Unchoke, Pex6}
use Rattle.pp_traffic.specs.Life.{closes}
use Rattle.pp_promises.specs.Answered.{is_of}
use Rattle.pp_audit.specs.Storings.{each_stored}

pub closes_more : (m : Message) (ms : List Message) → closes (m ∷ ms) ≡ (is_of 0 m || closes ms)
closes_more (Handshake source options) ms = refl
closes_more (Data chunk sent_at bytes) ms = refl
closes_more (Ack span delay) ms = refl
closes_more (Have span) ms = refl
closes_more (Integrity span digest) ms = refl
closes_more (Pex4 address port) ms = refl
closes_more PexReq ms = refl
closes_more (Request span) ms = refl
closes_more (Cancel span) ms = refl
closes_more Choke ms = refl
closes_more Unchoke ms = refl
closes_more (Pex6 address port) ms = refl

-- where each passes, one does that stands in front of all that close
pub one_of_each : (test : List Message → Message → Bool) (front mid : List Message) (m : Message) (more : List Message) → closes mid ≡ false → is_of 0 m ≡ false
    → each_stored test front (mid ++ m ∷ more) ≡ true → test (front ++ mid) m ≡ true
one_of_each test front [] m more open_still other e =
    let passes : (test front m && each_stored test (front ++ m ∷ []) more) ≡ true = ap (λ (b : Bool). b || (test front m && each_stored test (front ++ m ∷ []) more)) (sym other) ∙ e in
    ap (λ (f : List Message). test f m) (append-nil front) ∙ (and_parts (test front m) (each_stored test (front ++ m ∷ []) more) passes).0
one_of_each test front (x ∷ mid) m more open_still other e =
    let parts = or_parts (is_of 0 x) (closes mid) (sym (closes_more x mid) ∙ open_still) in
    let passes : (test front x && each_stored test (front ++ x ∷ []) (mid ++ m ∷ more)) ≡ true =
    ap (λ (b : Bool). b || (test front x && each_stored test (front ++ x ∷ []) (mid ++ m ∷ more))) (sym parts.0) ∙ e in
    ap (λ (f : List Message). test f m) (sym (append_assoc front (x ∷ []) mid))
    ∙ one_of_each test (front ++ x ∷ []) mid m more parts.1 other (and_parts (test front x) (each_stored test (front ++ x ∷ []) (mid ++ m ∷ more)) passes).1

-- and where each such one does, each passes
pub each_of_one : (test : List Message → Message → Bool) (front rest : List Message)
    → ((mid : List Message) (m : Message) (more : List Message) → rest ≡ mid ++ m ∷ more → closes mid ≡ false → is_of 0 m ≡ false → test (front ++ mid) m ≡ true)
    → each_stored test front rest ≡ true
each_of_one test front [] all = refl
each_of_one test front (m ∷ ms) all = ⊎_elim
    (λ closing. or_left (is_of 0 m) (test front m && each_stored test (front ++ m ∷ []) ms) closing)
    (λ other. or_right (is_of 0 m) (test front m && each_stored test (front ++ m ∷ []) ms)
    (and_from (test front m) (each_stored test (front ++ m ∷ []) ms)
    (ap (λ (f : List Message). test f m) (sym (append-nil front)) ∙ all [] m ms refl refl other)
    (each_of_one test (front ++ m ∷ []) ms (λ mid x more split open_still is_other.
    ap (λ (f : List Message). test f x) (append_assoc front (m ∷ []) mid)
    ∙ all (m ∷ mid) x more (ap (λ (ys : List Message). m ∷ ys) split)
    (closes_more m mid ∙ ap (λ (b : Bool). b || closes mid) other ∙ open_still) is_other))))
    (cases_Bool (is_of 0 m))

-- one message more
pub pass_one : (test : List Message → Message → Bool) (front rest : List Message) (m : Message) → is_of 0 m ≡ false → test front m ≡ true
    → each_stored test front (m ∷ rest) ≡ each_stored test (front ++ m ∷ []) rest
pass_one test front rest m other passes =
    ap (λ (b : Bool). b || (test front m && each_stored test (front ++ m ∷ []) rest)) other
    ∙ ap (λ (b : Bool). b && each_stored test (front ++ m ∷ []) rest) passes
