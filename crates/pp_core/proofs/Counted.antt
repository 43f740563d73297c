-- Of what was given up in a flush the counts of the link and of the disk tell.
use Rattle.std.proofs.Common.{◌≡◌, inl, inr, ℕ, zero, suc, ◌+◌, ◌-◌, ◌^◌, ◌<◌, ◌≤◌, Bool, true, false, Option, Some, None, List, [], ◌∷◌, refl, sym, ◌∙◌, ap, subst, arith}
use Rattle.std.specs.Prelude.{MatchBool}
use Rattle.pp_terms.specs.Count.{HasRisen}
use Rattle.pp_terms.specs.disk.Disk.{DiskState, IsKnown}
use Rattle.pp_terms.specs.format.Traffic.{LinkState}
use Rattle.pp_tree.specs.Book.{entry}
use Rattle.pp_scan.specs.Holding.{is_there}
use Rattle.pp_store.specs.Store.{is_committed}
use Rattle.pp_channels.specs.Seats.{channel_at}
use Rattle.pp_lives.specs.Fars.{far_of}
use Rattle.pp_lives.specs.declared.lives.Far.{Far}
use Rattle.pp_draft.specs.declared.note.Note.{Note}
use Rattle.pp_desk.specs.declared.steps.Delivered.{Delivered}
use Rattle.pp_desk.specs.Delivers.{Way, Batch, At, none_delivered, counted, DeliversOne, DeliversEach, GoesIf, Goes}
use Rattle.pp_holding.specs.Holding.{HoldingState}
use Rattle.pp_peer.specs.declared.speaking.Speaker.{Speaker}
use Rattle.pp_peer.specs.Delivering.{ReadsRight, AreRefused}
use Rattle.pp_peer.specs.Flushing.{Scene}
use Rattle.pp_peer.specs.Speaking.{TurnsIf, TurnsTo, TurnsBelow}
use Rattle.pp_core.specs.Peers.{PeerState}
use Rattle.pp_core.specs.Turning.{scene, Sends}
use Rattle.pp_core.proofs.Rooms.{greets_faults}

-- ---- what was delivered

-- The link's count rose by so many, where it tells, and didn't fall.
abbrev pub RisesBy : ℕ → LinkState → LinkState → Type 0
RisesBy many link later = (link.faults ≤ later.faults) × (later.faults < 2 ^ 64 - 1 → link.faults + many ≤ later.faults)

-- as many datagrams more are counted as refused
abbrev pub Rises : At → At → Type 0
Rises old new = (old.link.faults ≤ new.link.faults)
    × (new.link.faults < 2 ^ 64 - 1 → old.link.faults + new.so_far.refused ≤ new.link.faults + old.so_far.refused)

one_risen : (sent : Bool) (notes : List Note) (old new : At) → new.so_far ≡ counted sent notes old.so_far → old.link.faults ≤ new.link.faults
    → MatchBool sent (Unit {0}) (HasRisen old.link.faults new.link.faults) → Rises old new
one_risen true notes old new is le risen = (le, λ tells. let same = ap (λ (d : Delivered). d.refused) is in omega (arith, le, same))
one_risen false notes old new is le risen =
    (le, λ tells. let more = ap (λ (d : Delivered). d.refused) is in let lt = risen tells in omega (arith, lt, more))

batch_risen : (w : Way) (b : Batch) (old new : At) → DeliversOne w b old new → Rises old new
batch_risen w b old new one = one_risen b.sent b.notes old new one.count one.goes.later (of _ b.sent one.goes.outcome)
  where
    of : (A : Type 0) (sent : Bool) → MatchBool sent A ((new.link.traffic ≡ old.link.traffic) × HasRisen old.link.faults new.link.faults)
        → MatchBool sent (Unit {0}) (HasRisen old.link.faults new.link.faults)
    of A true h = tt
    of A false h = h.1

each_risen : (w : Way) (bs : List Batch) (old new : At) → DeliversEach w bs old new → Rises old new
each_risen w [] old new is = (
  let l = ap (λ (a : At). a.link.faults) is in omega (arith, l),
  λ tells. let l = ap (λ (a : At). a.link.faults) is in
      let n = ap (λ (a : At). a.so_far.refused) is in omega (arith, l, n),
)
each_risen w (b ∷ bs) old new h =
    let one = batch_risen w b old h.0 h.1 in
    let rest = each_risen w bs h.0 new h.2 in
    let low = one.0 in
    let high = rest.0 in (
      omega (arith, low, high),
      λ tells.
          let then = rest.1 tells in
          let first = one.1 (omega (arith, tells, high)) in
          omega (arith, then, first),
    )

goes_risen_by : (opening : Option ℕ) (w : Way) (notes : List Note) (old new : At) → Goes opening w notes old new → old.so_far ≡ none_delivered
    → RisesBy new.so_far.refused old.link new.link
goes_risen_by opening w notes old new goes none = by (of opening goes)
  where
    by : Rises old new → RisesBy new.so_far.refused old.link new.link
    by r = (r.0, λ tells. let more = r.1 tells in let zero_is = ap (λ (d : Delivered). d.refused) none in omega (arith, more, zero_is))

    taken : (t : Bool) (source : ℕ) → GoesIf t source w notes old new → Rises old new
    taken true source g = each_risen w g.delivers.batches old new g.delivers.each
    taken false source g = (
      g.goes.later,
      λ tells.
          let lt = g.goes.outcome.1 tells in
          let one = ap (λ (d : Delivered). d.refused) g.count in
          omega (arith, lt, one),
    )

    of : (o : Option ℕ) → Goes o w notes old new → Rises old new
    of None g = each_risen w g.batches old new g.each
    of (Some source) g = taken g.0 source g.1

-- ---- what was said

turn_risen : (seat refused : ℕ) (speaker left : Speaker) (old new : Scene) → TurnsTo seat refused speaker left old new
    → RisesBy refused old.link new.link
turn_risen seat refused speaker left old new t = of (far_of (channel_at old.parts.seats.table seat)) t
  where
    none : (many : ℕ) → many ≡ 0 → old.link.faults ≤ new.link.faults → RisesBy many old.link new.link
    none many is le = (le, λ tells. omega (arith, is, le))

    of : (o : Option Far) → TurnsIf o seat refused speaker left old new → RisesBy refused old.link new.link
    of None g = none refused g.none (greets_faults seat _ g.greeted old.parts new.parts old.link new.link g.greets)
    of (Some far) (inl n) = none refused n.silent.none (let same = ap (λ (l : LinkState). l.faults) n.silent.link in omega (arith, same))
    of (Some far) (inr s) =
        let to = s.1.speaks in
        subst (λ (n : ℕ). RisesBy n old.link new.link) (sym to.many) (goes_risen_by _ _ _ _ _ to.says.speaks.goes refl)

turns_risen : (seats refused : ℕ) (speaker left : Speaker) (old new : Scene) → TurnsBelow seats refused speaker left old new
    → RisesBy refused old.link new.link
unfolding TurnsBelow
turns_risen zero refused speaker left old new t =
    let same = ap (λ (l : LinkState). l.faults) t.link in
    let none = t.none in
    (omega (arith, same), λ tells. omega (arith, same, none))
turns_risen (suc seat) refused speaker left old new t =
    let first = turns_risen seat t.0 speaker t.2 old t.3 t.4 in
    let then = turn_risen seat t.1 t.2 left t.3 new t.5 in
    let low = first.0 in
    let high = then.0 in
    let sum = t.6 in (
      omega (arith, low, high),
      λ tells.
          let last = then.1 tells in
          let before = first.1 (omega (arith, tells, high)) in
          omega (arith, last, before, sum),
    )

-- ---- all of it

-- As many calls were refused as were given up.
pub sends_counted : (refused : ℕ) (old new : PeerState) (link later : LinkState) (disk left : DiskState)
    → (course : Sends refused old new link later disk left) → (dials : link.faults ≤ course.sends.dialled.link.faults)
    → AreRefused refused (scene old.parts link disk) (scene course.sent later left)
sends_counted refused old new link later disk left course dials right few low =
    let s = course.sends in
    let said = turns_risen 64 s.unsaid s.speaks.gathered new.speaker (record s.dialled { parts = s.turned }) s.said s.speaks.turns in
    let high = s.serves.flushes.later in
    let spoken = said.1 (omega (arith, few, high)) in
    let served = s.serves.lost right_said few low in
    let many = s.many in
    let unread = ap (λ (d : DiskState). d.faults) s.unread in
    omega (arith, dials, spoken, served, many, unread)
  where
    held : course.sends.said.parts.holding ≡ old.parts.holding
    held = sym course.sends.serves.flushes.holding ∙ course.flushes.holding

    right_said : ReadsRight course.sends.said
    right_said = record {
      known = subst (λ (d : DiskState). IsKnown d) (sym course.sends.unread) right.known;
      there = λ i committed.
          subst (λ (d : DiskState). is_there course.sends.said.parts.holding.store.descriptor d.history.reads
          (entry course.sends.said.parts.holding.book) i ≡ true) (sym course.sends.unread)
          (subst (λ (h : HoldingState). is_there h.store.descriptor disk.history.reads (entry h.book) i ≡ true) (sym held)
          (right.there i (ap (λ (h : HoldingState). is_committed h.store i) (sym held) ∙ committed)));
    }
