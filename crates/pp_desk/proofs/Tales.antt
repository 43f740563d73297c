-- The tale of a channel's life after a delivery.
use Rattle.std.proofs.Common.{◌≡◌, ℕ, nat_le, Bool, true, false, cond, not, ◌&&◌, ◌||◌, List, [], ◌∷◌, ◌++◌, length, refl, sym, ◌∙◌, ap, subst, arith, append_assoc}
use Rattle.std.proofs.lemmas.Bool.{eq-eqb}
use Rattle.pp_terms.specs.format.Messages as plain
use Rattle.pp_terms.specs.format.Messages.{Message}
use Rattle.pp_terms.specs.format.Traffic.{Record, Sent, same_address}
use Rattle.pp_traffic.specs.Asking.{is_heard}
use Rattle.pp_traffic.specs.Life.{Life}
use Rattle.pp_traffic.specs.Past.{read, is_number}
use Rattle.pp_traffic.specs.Story.{Line, Said, said_in, behind}
use Rattle.pp_promises.specs.OwnSide.{has_in}
use Rattle.pp_seat.specs.Lines.{Tale, with_line, with_said}
use Rattle.pp_seat.specs.Frames.{IsSameTale, tale_of}
use Rattle.pp_seat.proofs.Framing.{tales_grow}
use Rattle.pp_desk.specs.Delivers.{Way, Batch, At, DeliversOne}
use Rattle.pp_desk.specs.Laws.{records_of, said_by, IsOn, TaleGrows}
use Rattle.pp_desk.proofs.Saying.{with_said_append}

same_self : (t : Tale) → IsSameTale t t
same_self t = record { story = refl; proven = refl; told = λ i. refl }

same_then : (a b c : Tale) → IsSameTale a b → IsSameTale b c → IsSameTale a c
same_then a b c first then = record { story = then.story ∙ first.story; proven = then.proven ∙ first.proven; told = λ i. then.told i ∙ first.told i }

same_said : (at : ℕ) (ms : List Message) (p : Bool) (t other : Tale) → IsSameTale t other → IsSameTale (with_said at ms p t) (with_said at ms p other)
same_said at [] p t other h = h
same_said at (m ∷ ms) p t other h = same_said at ms p (with_line (Said at m) p t) (with_line (Said at m) p other) (record {
  story = ap (λ (xs : List Line). Said at m ∷ xs) h.story;
  proven = ap (λ (xs : List Line). Said at m ∷ xs) h.proven;
  told = λ i. ap (λ (b : Bool). (has_in i m && p) || b) (h.told i);
})

-- ---- one record

abbrev record_of : Way → Batch → Record
record_of w b = Sent w.moment w.receiver b.bytes

said_is : (w : Way) (b : Batch) (old new : At) (life : Life) (past : List Record) → DeliversOne w b old new → IsOn w life past → said_in w.d life (record_of w b) ≡ b.messages
said_is w b old new life past one on =
    both (same_address w.receiver life.address) (is_number life.remote (read w.d (record_of w b)).channel) on.address number
    ∙ ap (λ (x : plain.Datagram). x.messages.read) one.written.read
  where
    number : is_number life.remote (read w.d (record_of w b)).channel ≡ true
    number = ap (λ (x : plain.Datagram). is_number life.remote x.channel) one.written.read ∙ eq-eqb w.channel life.remote on.number

    both : (x y : Bool) → x ≡ true → y ≡ true
        → cond (not x) [] (cond y (read w.d (record_of w b)).messages.read
        (cond (is_number 0 (read w.d (record_of w b)).channel) (behind life.local (read w.d (record_of w b)).messages.read) []))
        ≡ (read w.d (record_of w b)).messages.read
    both true true p q = refl
    both true false p q = absurd cc
    both false y p q = absurd cc

heard_same : (w : Way) (b : Batch) (life : Life) (past : List Record) → is_heard w.d life (record_of w b ∷ past) ≡ is_heard w.d life past
heard_same w b life past = none (nat_le life.opening (length past)) (is_heard w.d life past)
  where
    none : (x y : Bool) → ((x && false) || y) ≡ y
    none true y = refl
    none false y = refl

-- What one datagram leaves: the tale with its messages, if it was sent.
record Leaves (w : Way) (ms : List Message) (life : Life) (past after : List Record) : Type 0 where
  tale : IsSameTale (with_said w.now ms (is_heard w.d life past) (tale_of w.d life past)) (tale_of w.d life after)
  heard : is_heard w.d life after ≡ is_heard w.d life past
  on : IsOn w life after

one_leaves : (w : Way) (b : Batch) (sent : Bool) (old new : At) (life : Life) (past : List Record) → DeliversOne w b old new → IsOn w life past
    → Leaves w (cond sent b.messages []) life past (cond sent (record_of w b ∷ []) [] ++ past)
one_leaves w b false old new life past one on = record { tale = same_self (tale_of w.d life past); heard = refl; on = on }
one_leaves w b true old new life past one on = record {
  tale = subst (λ (ms : List Message). IsSameTale (with_said w.now ms (is_heard w.d life past) (tale_of w.d life past)) (tale_of w.d life (record_of w b ∷ past)))
      (said_is w b old new life past one on)
      (subst (λ (at : ℕ). IsSameTale (with_said at (said_in w.d life (record_of w b)) (is_heard w.d life past) (tale_of w.d life past)) (tale_of w.d life (record_of w b ∷ past)))
      (sym on.moment) (tales_grow.sent w.d life w.moment w.receiver b.bytes past on.begun));
  heard = heard_same w b life past;
  on = record { begun = (let begun = on.begun in omega arith); address = on.address; number = on.number; moment = on.moment };
}

-- ---- one after the other

pub tale_grows : TaleGrows
tale_grows w [] old new life past h on = same_self (tale_of w.d life past)
tale_grows w (b ∷ bs) old new life past h on =
    let own = cond b.sent b.messages [] in
    let news = cond b.sent (record_of w b ∷ []) [] in
    let p = is_heard w.d life past in
    let t = tale_of w.d life past in
    let s = one_leaves w b b.sent old h.0 life past h.1 on in
    let rest = tale_grows w bs h.0 new life (news ++ past) h.2 s.on in
    subst (λ (rs : List Record). IsSameTale (with_said w.now (own ++ said_by bs) p t) (tale_of w.d life rs)) (sym (append_assoc (records_of w bs) news past))
    (subst (λ (u : Tale). IsSameTale u (tale_of w.d life (records_of w bs ++ (news ++ past)))) (sym (with_said_append w.now own (said_by bs) p t))
    (same_then (with_said w.now (said_by bs) p (with_said w.now own p t)) (with_said w.now (said_by bs) p (tale_of w.d life (news ++ past)))
    (tale_of w.d life (records_of w bs ++ (news ++ past)))
    (same_said w.now (said_by bs) p (with_said w.now own p t) (tale_of w.d life (news ++ past)) s.tale)
    (subst (λ (q : Bool). IsSameTale (with_said w.now (said_by bs) q (tale_of w.d life (news ++ past))) (tale_of w.d life (records_of w bs ++ (news ++ past)))) s.heard rest)))
