-- Who has taken a datagram in runs on, or a write or a sync of its disk was refused.
use Rattle.std.proofs.Common.{◌≡◌, ◌⊎◌, inl, inr, ℕ, zero, suc, ◌+◌, ◌<◌, Bool, true, false, Some, List, [], ◌∷◌, length, refl, sym, ◌∙◌, ap, subst, arith, length-append}
use Rattle.std.specs.Prelude.{if◌then◌else◌, slice_get, slice_set, MatchBool}
use Rattle.pp_terms.specs.format.Descriptor.{Descriptor}
use Rattle.pp_terms.specs.format.Traffic.{Address, Record, Received}
use Rattle.pp_traffic.specs.Life.{Life}
use Rattle.pp_world.specs.Change.{Changes, Stays, MayTakeTurn, MayOpen, Moves, while_running, with_loss, with_repeat, with_delay, with_forged, with_failing, with_stop, with_crash, with_peer}
use Rattle.pp_world.specs.Move.{Move, Wait, Make}
use Rattle.pp_world.specs.Opening.{Opens, FailsToOpen}
use Rattle.pp_world.specs.Queue.{queue_after, peers_after_from}
use Rattle.pp_world.specs.Schedule.{Turn, Lose, Repeat, Later, Forge, Fail, Crash, Stop, Start}
use Rattle.pp_world.specs.Session.{Session}
use Rattle.pp_world.specs.Shipment.{Shipment, TookIn}
use Rattle.pp_world.specs.Turn.{TakesTurn}
use Rattle.pp_world.specs.World.{PeerState, World, address_of}

-- ---- what may become of a peer

-- It has the same sessions, or a new one; or it runs, or more of its calls were refused.
abbrev Fares : (old new : PeerState) → Type 0
Fares old new = (new.sessions ≡ old.sessions) ⊎ ((length new.sessions ≡ suc (length old.sessions))
    ⊎ ((new.is_running ≡ true) ⊎ (old.hard < new.hard)))

stays_so : (x : PeerState) → Fares x x
stays_so x = inl refl

-- one that is changed alone
changed : (p q : ℕ) (change : PeerState → PeerState) (xs : List PeerState) (x y : PeerState) → ((z : PeerState) → (change z).sessions ≡ z.sessions)
    → slice_get xs q ≡ Some x → slice_get (with_peer p change xs) q ≡ Some y → Fares x y
changed p q change [] x y keeps was is = absurd cc
changed zero zero change (z ∷ zs) x y keeps was is =
    let a : z ≡ x = cc in
    let b : change z ≡ y = cc in
    inl (ap (λ (u : PeerState). u.sessions) (sym b) ∙ keeps z ∙ ap (λ (u : PeerState). u.sessions) a)
changed zero (suc q) change (z ∷ zs) x y keeps was is = let same : x ≡ y = cc in subst (Fares x) same (stays_so x)
changed (suc p) zero change (z ∷ zs) x y keeps was is = let same : x ≡ y = cc in subst (Fares x) same (stays_so x)
changed (suc p) (suc q) change (z ∷ zs) x y keeps was is = changed p q change zs x y keeps was is

while_keeps : (change : PeerState → PeerState) → ((z : PeerState) → (change z).sessions ≡ z.sessions) → (z : PeerState) → (while_running change z).sessions ≡ z.sessions
while_keeps change keeps z = of z.is_running
  where
    of : (b : Bool) → (if b then change z else z).sessions ≡ z.sessions
    of true = keeps z
    of false = refl

-- ---- the peers behind a turn or an opening

-- A peer but for its queue.
record IsQueued (xs : List PeerState) (q : ℕ) (y : PeerState) : Type 0 where
  x : PeerState
  here : slice_get xs q ≡ Some x
  sessions : y.sessions ≡ x.sessions
  runs : y.is_running ≡ x.is_running
  hard : y.hard ≡ x.hard

queued : (n q : ℕ) (sender : Address) (added : List Record) (xs : List PeerState) (y : PeerState)
    → slice_get (peers_after_from n sender added xs) q ≡ Some y → IsQueued xs q y
queued n q sender added [] y is = absurd cc
queued n zero sender added (x ∷ xs) y is =
    let same : record x { queue = queue_after sender (address_of n) added x.queue } ≡ y = cc in record {
      x = x;
      here = refl;
      sessions = ap (λ (u : PeerState). u.sessions) (sym same);
      runs = ap (λ (u : PeerState). u.is_running) (sym same);
      hard = ap (λ (u : PeerState). u.hard) (sym same);
    }
queued n (suc q) sender added (x ∷ xs) y is =
    let at = queued (n + 1) q sender added xs y is in
    record { x = at.x; here = at.here; sessions = at.sessions; runs = at.runs; hard = at.hard }

put : (p q : ℕ) (xs : List PeerState) (a b x z : PeerState) → slice_get xs p ≡ Some a → slice_get xs q ≡ Some x
    → slice_get (slice_set xs p b) q ≡ Some z → (z ≡ x) ⊎ ((x ≡ a) × (z ≡ b))
put p q [] a b x z here was is = absurd cc
put zero zero (y ∷ ys) a b x z here was is = inr (let e : x ≡ a = cc in e, let e : z ≡ b = cc in e)
put zero (suc q) (y ∷ ys) a b x z here was is = inl cc
put (suc p) zero (y ∷ ys) a b x z here was is = inl cc
put (suc p) (suc q) (y ∷ ys) a b x z here was is = put p q ys a b x z here was is

as_another : (x y z : PeerState) → y.sessions ≡ z.sessions → y.is_running ≡ z.is_running → y.hard ≡ z.hard → Fares x z → Fares x y
as_another x y z sessions runs hard (inl same) = inl (sessions ∙ same)
as_another x y z sessions runs hard (inr (inl one_more)) = inr (inl (ap length sessions ∙ one_more))
as_another x y z sessions runs hard (inr (inr (inl on))) = inr (inr (inl (runs ∙ on)))
as_another x y z sessions runs hard (inr (inr (inr refused))) = inr (inr (inr (subst (λ (n : ℕ). x.hard < n) (sym hard) refused)))

behind : (Change : PeerState → List Record → PeerState → Type 0) (p q : ℕ) (old new : World) (x y : PeerState)
    → ((a : PeerState) (added : List Record) (b : PeerState) → Change a added b → Fares a b)
    → Changes Change p old new → slice_get old.peers q ≡ Some x → slice_get new.peers q ≡ Some y → Fares x y
behind Change p q old new x y fares by was is =
    let at = queued 0 q (address_of p) by.added (slice_set old.peers p by.after) y
    (sym (ap (λ (w : World). slice_get w.peers q) by.is) ∙ is) in
    as_another x y at.x at.sessions at.runs at.hard (elim (put p q old.peers by.before by.after x at.x by.here was at.here) [
      | inl same ↦ subst (Fares x) (sym same) (stays_so x)
      | inr (own, put_there) ↦ subst (λ (u : PeerState). Fares u at.x) (sym own)
          (subst (Fares by.before) (sym put_there) (fares by.before by.added by.after by.changed))
    ])

turns : (clock : ℕ) (a : PeerState) (added : List Record) (b : PeerState) → MayTakeTurn clock a added b → Fares a b
turns clock a added b may = of a.is_running may
  where
    of : (runs : Bool) → MatchBool runs (TakesTurn clock a added b) (Stays a added b) → Fares a b
    of true turn = elim turn.goes_on [
      | inl on ↦ inr (inr (inl on))
      | inr (_, _, refused) ↦ inr (inr (inr refused))
    ]
    of false stays = inl (ap (λ (u : PeerState). u.sessions) stays.0)

opens : (d : Descriptor) (a : PeerState) (added : List Record) (b : PeerState) → MayOpen d a added b → Fares a b
opens d a added b may = of a.is_running may
  where
    of : (runs : Bool) → MatchBool runs (Stays a added b) ((Opens d a b ⊎ FailsToOpen d a b) × (added ≡ [])) → Fares a b
    of true stays = inl (ap (λ (u : PeerState). u.sessions) stays.0)
    of false (inl new, _) = inr (inl (ap length new.is))
    of false (inr fails, _) = inl fails.same

fares_on : (d : Descriptor) (move : Move) (old new : World) (q : ℕ) (x y : PeerState) → Moves d move old new
    → slice_get old.peers q ≡ Some x → slice_get new.peers q ≡ Some y → Fares x y
fares_on d (Wait gain) old new q x y moves was is =
    let same : x ≡ y = (let there = sym was ∙ sym (ap (λ (w : World). slice_get w.peers q) moves) ∙ is in cc) in subst (Fares x) same (stays_so x)
fares_on d (Make (Turn p)) old new q x y moves was is = behind (MayTakeTurn old.clock) p q old new x y (turns old.clock) moves was is
fares_on d (Make (Lose p)) old new q x y moves was is =
    changed p q (while_running with_loss) old.peers x y (while_keeps with_loss (λ z. refl)) was (sym (ap (λ (w : World). slice_get w.peers q) moves) ∙ is)
fares_on d (Make (Repeat p)) old new q x y moves was is =
    changed p q (while_running with_repeat) old.peers x y (while_keeps with_repeat (λ z. refl)) was (sym (ap (λ (w : World). slice_get w.peers q) moves) ∙ is)
fares_on d (Make (Later p)) old new q x y moves was is =
    changed p q (while_running with_delay) old.peers x y (while_keeps with_delay (λ z. refl)) was (sym (ap (λ (w : World). slice_get w.peers q) moves) ∙ is)
fares_on d (Make (Forge p sender bytes)) old new q x y moves was is =
    changed p q (while_running (with_forged sender bytes)) old.peers x y (while_keeps (with_forged sender bytes) (λ z. refl)) was
    (sym (ap (λ (w : World). slice_get w.peers q) moves) ∙ is)
fares_on d (Make (Fail p call)) old new q x y moves was is =
    changed p q (while_running (with_failing call)) old.peers x y (while_keeps (with_failing call) (λ z. refl)) was
    (sym (ap (λ (w : World). slice_get w.peers q) moves) ∙ is)
fares_on d (Make (Crash p pick)) old new q x y moves was is =
    changed p q (with_crash pick) old.peers x y (λ z. refl) was (sym (ap (λ (w : World). slice_get w.peers q) moves) ∙ is)
fares_on d (Make (Stop p)) old new q x y moves was is =
    changed p q with_stop old.peers x y (λ z. refl) was (sym (ap (λ (w : World). slice_get w.peers q) moves) ∙ is)
fares_on d (Make (Start p)) old new q x y moves was is = behind (MayOpen d) p q old new x y (opens d) moves was is

-- ---- who took a datagram in

pub goes_on : (d : Descriptor) (move : Move) (old new : World) (it : Shipment) (life : Life) → Moves d move old new → (took : TookIn d old new it life)
    → (took.after.is_running ≡ true) ⊎ (took.before.hard < took.after.hard)
goes_on d move old new it life moves took = elim (fares_on d move old new it.receiver took.before took.after moves took.was took.is) [
  | inl same ↦
      let first : took.session' ∷ took.earlier ≡ took.session ∷ took.earlier = sym took.sessions' ∙ same ∙ took.sessions in
      let one : took.session' ≡ took.session = cc in
      let long = ap length (sym took.traffic ∙ ap (λ (s : Session). s.traffic) one) in
      let sum = length-append took.sent (Received took.at (address_of it.sender) it.bytes ∷ took.session.traffic) in
      absurd (omega (arith, long, sum))
  | inr (inl one_more) ↦
      let before = ap length took.sessions in
      let after = ap length took.sessions' in
      absurd (omega (arith, one_more, before, after))
  | inr (inr either) ↦ either
]
