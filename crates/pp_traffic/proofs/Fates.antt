-- What flies in the meter is what flies.
use Rattle.std.proofs.Common.{◌≡◌, ℕ, ◌+◌, ◌≤◌, ◌==◌, leb, ltb, Bool, true, false, cond, ◌&&◌, List, [], ◌∷◌, ◌++◌, length, refl, sym, ◌∙◌, ap, arith, zero-add}
use Rattle.std.proofs.lemmas.Bool.{eqb-true}
use Rattle.std.proofs.lemmas.Bool.Decides.{nat_tests}
use Rattle.std.specs.List.{count_by}
use Rattle.std.proofs.lemmas.List.Sums.{sum_by-cons, sum_by_push}
use Rattle.pp_terms.specs.format.Messages.{Message, Data, Ack}
use Rattle.pp_terms.specs.tree.Range.{Span, within}
use Rattle.pp_traffic.specs.declared.entries.Entry.{Entry}
use Rattle.pp_traffic.specs.Story.{Line, Heard, Said, Taken}
use Rattle.pp_traffic.specs.Meter.{Meter, hits, overtakes, flying, loses, settled, is_due, timed_out, heard_by, said_by, meter}
use Rattle.pp_traffic.specs.Fates.{Fate, Flies, Acknowledged, Lost, WrittenOff, Sending, is_in_flight, is_acknowledged, is_lost, in_flight_of, acknowledged_of, lost_of, is_hit, is_passed, with_fate, after_hits, after_losses, after_timeout, after_heard, after_said, fates, timeouts, entries_of}
use Rattle.pp_traffic.specs.FatesLaws.{MetersFly}
use Rattle.pp_traffic.proofs.Fresh.{AreFresh, meter_fresh, all_stay}

-- ---- counts of a list with one more at its head

pub acknowledged_cons : (s : Sending) (behind : List Sending) → acknowledged_of (s ∷ behind) ≡ cond (is_acknowledged s.fate) 1 0 + acknowledged_of behind
acknowledged_cons s behind = sum_by-cons (λ x. cond (is_acknowledged x.fate) 1 0) s behind

pub lost_cons : (s : Sending) (behind : List Sending) → lost_of (s ∷ behind) ≡ cond (is_lost s.fate) 1 0 + lost_of behind
lost_cons s behind = sum_by-cons (λ x. cond (is_lost x.fate) 1 0) s behind

flight_cons : (s : Sending) (behind : List Sending) → in_flight_of (s ∷ behind) ≡ cond (is_in_flight s.fate) 1 0 + in_flight_of behind
flight_cons s behind = sum_by-cons (λ x. cond (is_in_flight x.fate) 1 0) s behind

hit_cons : (span : Span) (s : Sending) (behind : List Sending) → count_by (is_hit span) (s ∷ behind) ≡ cond (is_hit span s) 1 0 + count_by (is_hit span) behind
hit_cons span s behind = sum_by-cons (λ x. cond (is_hit span x) 1 0) s behind

entry_cons : (span : Span) (e : Entry) (later : List Entry)
    → hits span.first span.last (e ∷ later) ≡ cond (within span e.chunk) 1 0 + hits span.first span.last later
entry_cons span e later = sum_by-cons (λ x. cond (within span x.chunk) 1 0) e later

-- ---- as many are hit

abbrev pub one : Fate → (chunk sent_at : ℕ) → Sending
one fate chunk sent_at = record { chunk = chunk; sent_at = sent_at; fate = fate }

abbrev entry : (chunk sent_at : ℕ) → List Sending → Entry
entry chunk sent_at behind = record { chunk = chunk; overtaken = acknowledged_of behind; sent_at = sent_at }

hits_one : (span : Span) (fate : Fate) (chunk sent_at : ℕ) (behind : List Sending)
    → hits span.first span.last (entries_of behind) ≡ count_by (is_hit span) behind
    → hits span.first span.last (entries_of (one fate chunk sent_at ∷ behind)) ≡ count_by (is_hit span) (one fate chunk sent_at ∷ behind)
hits_one span Flies chunk sent_at behind is =
    entry_cons span (entry chunk sent_at behind) (entries_of behind) ∙ ap (λ (n : ℕ). cond (within span chunk) 1 0 + n) is
    ∙ sym (hit_cons span (one Flies chunk sent_at) behind)
hits_one span Acknowledged chunk sent_at behind is = is ∙ sym (hit_cons span (one Acknowledged chunk sent_at) behind ∙ zero-add (count_by (is_hit span) behind))
hits_one span Lost chunk sent_at behind is = is ∙ sym (hit_cons span (one Lost chunk sent_at) behind ∙ zero-add (count_by (is_hit span) behind))
hits_one span WrittenOff chunk sent_at behind is = is ∙ sym (hit_cons span (one WrittenOff chunk sent_at) behind ∙ zero-add (count_by (is_hit span) behind))

pub hits_same : (span : Span) (sendings : List Sending) → hits span.first span.last (entries_of sendings) ≡ count_by (is_hit span) sendings
hits_same span [] = refl
hits_same span (s ∷ behind) = hits_one span s.fate s.chunk s.sent_at behind (hits_same span behind)

flight_one : (fate : Fate) (chunk sent_at : ℕ) (behind : List Sending) → length (entries_of behind) ≡ in_flight_of behind
    → length (entries_of (one fate chunk sent_at ∷ behind)) ≡ in_flight_of (one fate chunk sent_at ∷ behind)
flight_one Flies chunk sent_at behind is = omega (arith, is, flight_cons (one Flies chunk sent_at) behind)
flight_one Acknowledged chunk sent_at behind is = omega (arith, is, flight_cons (one Acknowledged chunk sent_at) behind)
flight_one Lost chunk sent_at behind is = omega (arith, is, flight_cons (one Lost chunk sent_at) behind)
flight_one WrittenOff chunk sent_at behind is = omega (arith, is, flight_cons (one WrittenOff chunk sent_at) behind)

pub flight_same : (sendings : List Sending) → length (entries_of sendings) ≡ in_flight_of sendings
flight_same [] = refl
flight_same (s ∷ behind) = flight_one s.fate s.chunk s.sent_at behind (flight_same behind)

-- ---- those behind that are acknowledged, after an ACK

hit_one : (span : Span) (fate : Fate) (chunk : ℕ) (b : Bool) → within span chunk ≡ b → (sent_at : ℕ) → let s = one fate chunk sent_at in
    cond (is_acknowledged (cond (is_hit span s) (with_fate Acknowledged s) s).fate) 1 0 ≡ cond (is_acknowledged fate) 1 0 + cond (is_hit span s) 1 0
hit_one span Flies chunk true is sent_at = rw is refl
hit_one span Flies chunk false is sent_at = rw is refl
hit_one span Acknowledged chunk b is sent_at = refl
hit_one span Lost chunk b is sent_at = refl
hit_one span WrittenOff chunk b is sent_at = refl

-- those that were, and those that are hit
pub acknowledged_hits : (span : Span) (sendings : List Sending)
    → acknowledged_of (after_hits span sendings) ≡ acknowledged_of sendings + count_by (is_hit span) sendings
acknowledged_hits span [] = refl
acknowledged_hits span (s ∷ behind) =
    let head = hit_one span s.fate s.chunk (within span s.chunk) refl s.sent_at in
    let one_more = acknowledged_cons (cond (is_hit span s) (with_fate Acknowledged s) s) (after_hits span behind) in
    omega (arith, head, one_more, acknowledged_cons s behind, hit_cons span s behind, acknowledged_hits span behind)

loss_one : (fate : Fate) (b : Bool) (chunk sent_at : ℕ) → let s = one fate chunk sent_at in
    is_acknowledged (cond (is_in_flight fate && b) (with_fate Lost s) s).fate ≡ is_acknowledged fate
loss_one Flies true chunk sent_at = refl
loss_one Flies false chunk sent_at = refl
loss_one Acknowledged b chunk sent_at = refl
loss_one Lost b chunk sent_at = refl
loss_one WrittenOff b chunk sent_at = refl

-- a loss acknowledges nothing
pub acknowledged_losses : (sendings : List Sending) → acknowledged_of (after_losses sendings) ≡ acknowledged_of sendings
acknowledged_losses [] = refl
acknowledged_losses (s ∷ behind) =
    acknowledged_cons (cond (is_passed s behind) (with_fate Lost s) s) (after_losses behind)
    ∙ ap (λ (b : Bool). cond b 1 0 + acknowledged_of (after_losses behind)) (loss_one s.fate (leb 3 (acknowledged_of behind)) s.chunk s.sent_at)
    ∙ ap (λ (n : ℕ). cond (is_acknowledged s.fate) 1 0 + n) (acknowledged_losses behind)
    ∙ sym (acknowledged_cons s behind)

-- ---- what flies on

abbrev Onward : Span → List Sending → Type 0
Onward span sendings = entries_of (after_losses (after_hits span sendings)) ≡ flying span.first span.last (entries_of sendings)

overtakes_same : (span : Span) (chunk sent_at : ℕ) (behind : List Sending)
    → overtakes span.first span.last (entry chunk sent_at behind) (entries_of behind) ≡ acknowledged_of (after_hits span behind)
overtakes_same span chunk sent_at behind = ap (λ (n : ℕ). acknowledged_of behind + n) (hits_same span behind) ∙ sym (acknowledged_hits span behind)

-- one that flies and isn't hit, by whether three behind it are acknowledged
unhit : (span : Span) (chunk sent_at : ℕ) (behind : List Sending) (c : Bool) → within span chunk ≡ false → leb 3 (acknowledged_of (after_hits span behind)) ≡ c
    → Onward span behind → Onward span (one Flies chunk sent_at ∷ behind)
unhit span chunk sent_at behind true e is onward = rw (e, overtakes_same span chunk sent_at behind, is) onward
unhit span chunk sent_at behind false e is onward =
    rw (e, overtakes_same span chunk sent_at behind, is, acknowledged_losses (after_hits span behind), onward) refl

onward_one : (span : Span) (fate : Fate) (chunk sent_at : ℕ) (b : Bool) (behind : List Sending) → within span chunk ≡ b
    → Onward span behind → Onward span (one fate chunk sent_at ∷ behind)
onward_one span Flies chunk sent_at true behind e onward = rw e onward
onward_one span Flies chunk sent_at false behind e onward = unhit span chunk sent_at behind (leb 3 (acknowledged_of (after_hits span behind))) e refl onward
onward_one span Acknowledged chunk sent_at b behind e onward = onward
onward_one span Lost chunk sent_at b behind e onward = onward
onward_one span WrittenOff chunk sent_at b behind e onward = onward

pub flies_onward : (span : Span) (sendings : List Sending) → Onward span sendings
flies_onward span [] = refl
flies_onward span (s ∷ behind) = onward_one span s.fate s.chunk s.sent_at (within span s.chunk) behind refl (flies_onward span behind)

-- ---- what is lost

loss_lost : (fate : Fate) (b : Bool) (chunk sent_at : ℕ) → let s = one fate chunk sent_at in
    cond (is_lost fate) 1 0 ≤ cond (is_lost (cond (is_in_flight fate && b) (with_fate Lost s) s).fate) 1 0
loss_lost Flies true chunk sent_at = omega arith
loss_lost Flies false chunk sent_at = omega arith
loss_lost Acknowledged b chunk sent_at = omega arith
loss_lost Lost b chunk sent_at = omega arith
loss_lost WrittenOff b chunk sent_at = omega arith

losses_grow : (sendings : List Sending) → lost_of sendings ≤ lost_of (after_losses sendings)
losses_grow [] = omega arith
losses_grow (s ∷ behind) =
    let head = loss_lost s.fate (leb 3 (acknowledged_of behind)) s.chunk s.sent_at in
    omega (arith, head, lost_cons s behind, lost_cons (cond (is_passed s behind) (with_fate Lost s) s) (after_losses behind), losses_grow behind)

hit_lost : (span : Span) (fate : Fate) (chunk : ℕ) (b : Bool) → within span chunk ≡ b → (sent_at : ℕ) → let s = one fate chunk sent_at in
    is_lost (cond (is_hit span s) (with_fate Acknowledged s) s).fate ≡ is_lost fate
hit_lost span Flies chunk true is sent_at = rw is refl
hit_lost span Flies chunk false is sent_at = rw is refl
hit_lost span Acknowledged chunk b is sent_at = refl
hit_lost span Lost chunk b is sent_at = refl
hit_lost span WrittenOff chunk b is sent_at = refl

hits_lost : (span : Span) (sendings : List Sending) → lost_of (after_hits span sendings) ≡ lost_of sendings
hits_lost span [] = refl
hits_lost span (s ∷ behind) =
    lost_cons (cond (is_hit span s) (with_fate Acknowledged s) s) (after_hits span behind)
    ∙ ap (λ (b : Bool). cond b 1 0 + lost_of (after_hits span behind)) (hit_lost span s.fate s.chunk (within span s.chunk) refl s.sent_at)
    ∙ ap (λ (n : ℕ). cond (is_lost s.fate) 1 0 + n) (hits_lost span behind)
    ∙ sym (lost_cons s behind)

abbrev pub settled_of : Span → List Sending → List Sending
settled_of span sendings = after_losses (after_hits span sendings)

lost_grows : (span : Span) (sendings : List Sending) → lost_of sendings ≤ lost_of (settled_of span sendings)
lost_grows span sendings = omega (arith, losses_grow (after_hits span sendings), hits_lost span sendings)

abbrev Loses : Span → List Sending → Type 0
Loses span sendings = loses span.first span.last (entries_of sendings) ≡ ltb (lost_of sendings) (lost_of (settled_of span sendings))

-- as many more are lost on both sides
lost_as : (k x y m n : ℕ) (b : Bool) → x ≡ k + m → y ≡ k + n → b ≡ ltb m n → b ≡ ltb x y
lost_as k x y m n b e f is = is ∙ grind (arith, nat_tests)

lost_one_more : (x y m n : ℕ) → x ≡ m → y ≡ 1 + n → m ≤ n → true ≡ ltb x y
lost_one_more x y m n e f le = grind (arith, nat_tests)

unhit_loses : (span : Span) (chunk sent_at : ℕ) (behind : List Sending) (c : Bool) → within span chunk ≡ false → leb 3 (acknowledged_of (after_hits span behind)) ≡ c
    → Loses span behind → Loses span (one Flies chunk sent_at ∷ behind)
unhit_loses span chunk sent_at behind true e is loses =
    rw (e, overtakes_same span chunk sent_at behind, is)
    (lost_one_more (lost_of (one Flies chunk sent_at ∷ behind)) (lost_of (one Lost chunk sent_at ∷ settled_of span behind)) (lost_of behind) (lost_of (settled_of span behind))
    (lost_cons (one Flies chunk sent_at) behind ∙ zero-add (lost_of behind)) (lost_cons (one Lost chunk sent_at) (settled_of span behind)) (lost_grows span behind))
unhit_loses span chunk sent_at behind false e is loses =
    rw (e, overtakes_same span chunk sent_at behind, is)
    (lost_as 0 (lost_of (one Flies chunk sent_at ∷ behind)) (lost_of (one Flies chunk sent_at ∷ settled_of span behind)) (lost_of behind) (lost_of (settled_of span behind)) _
    (lost_cons (one Flies chunk sent_at) behind) (lost_cons (one Flies chunk sent_at) (settled_of span behind)) loses)

loses_one : (span : Span) (fate : Fate) (chunk sent_at : ℕ) (b : Bool) (behind : List Sending) → within span chunk ≡ b
    → Loses span behind → Loses span (one fate chunk sent_at ∷ behind)
loses_one span Flies chunk sent_at true behind e loses =
    rw e
    (lost_as 0 (lost_of (one Flies chunk sent_at ∷ behind)) (lost_of (one Acknowledged chunk sent_at ∷ settled_of span behind)) (lost_of behind) (lost_of (settled_of span behind)) _
    (lost_cons (one Flies chunk sent_at) behind) (lost_cons (one Acknowledged chunk sent_at) (settled_of span behind)) loses)
loses_one span Flies chunk sent_at false behind e loses = unhit_loses span chunk sent_at behind (leb 3 (acknowledged_of (after_hits span behind))) e refl loses
loses_one span Acknowledged chunk sent_at b behind e loses =
    lost_as 0 _ _ (lost_of behind) (lost_of (settled_of span behind)) _
    (lost_cons (one Acknowledged chunk sent_at) behind) (lost_cons (one Acknowledged chunk sent_at) (settled_of span behind)) loses
loses_one span Lost chunk sent_at b behind e loses =
    lost_as 1 _ _ (lost_of behind) (lost_of (settled_of span behind)) _
    (lost_cons (one Lost chunk sent_at) behind) (lost_cons (one Lost chunk sent_at) (settled_of span behind)) loses
loses_one span WrittenOff chunk sent_at b behind e loses =
    lost_as 0 _ _ (lost_of behind) (lost_of (settled_of span behind)) _
    (lost_cons (one WrittenOff chunk sent_at) behind) (lost_cons (one WrittenOff chunk sent_at) (settled_of span behind)) loses

pub loses_same : (span : Span) (sendings : List Sending) → Loses span sendings
loses_same span [] = refl
loses_same span (s ∷ behind) = loses_one span s.fate s.chunk s.sent_at (within span s.chunk) behind refl (loses_same span behind)

-- ---- the other steps

sent_one : (now i : ℕ) (fate : Fate) (chunk sent_at : ℕ) (behind : List Sending)
    → entries_of (behind ++ one Flies i now ∷ []) ≡ entries_of behind ++ record { chunk = i; overtaken = 0; sent_at = now } ∷ []
    → entries_of (one fate chunk sent_at ∷ behind ++ one Flies i now ∷ [])
    ≡ entries_of (one fate chunk sent_at ∷ behind) ++ record { chunk = i; overtaken = 0; sent_at = now } ∷ []
sent_one now i Flies chunk sent_at behind is =
    let same : acknowledged_of (behind ++ one Flies i now ∷ []) ≡ acknowledged_of behind =
    omega (arith, sum_by_push (λ x. cond (is_acknowledged x.fate) 1 0) behind (one Flies i now)) in
    rw (same, is) refl
sent_one now i Acknowledged chunk sent_at behind is = is
sent_one now i Lost chunk sent_at behind is = is
sent_one now i WrittenOff chunk sent_at behind is = is

pub sent_same : (now i : ℕ) (sendings : List Sending)
    → entries_of (sendings ++ one Flies i now ∷ []) ≡ entries_of sendings ++ record { chunk = i; overtaken = 0; sent_at = now } ∷ []
sent_same now i [] = refl
sent_same now i (s ∷ behind) = sent_one now i s.fate s.chunk s.sent_at behind (sent_same now i behind)

written_one : (fate : Fate) (chunk sent_at : ℕ) (behind : List Sending) → entries_of (after_timeout behind) ≡ []
    → entries_of (after_timeout (one fate chunk sent_at ∷ behind)) ≡ []
written_one Flies chunk sent_at behind is = is
written_one Acknowledged chunk sent_at behind is = is
written_one Lost chunk sent_at behind is = is
written_one WrittenOff chunk sent_at behind is = is

pub written_off : (sendings : List Sending) → entries_of (after_timeout sendings) ≡ []
written_off [] = refl
written_off (s ∷ behind) = written_one s.fate s.chunk s.sent_at behind (written_off behind)

-- ---- through a story

acked_same : (b : Bool) (span : Span) (delay now : ℕ) (m : Meter) (sendings : List Sending) → (hits span.first span.last m.entries == 0) ≡ b → AreFresh m.entries
    → m.entries ≡ entries_of sendings → (cond b m (settled span.first span.last delay now m)).entries ≡ entries_of (settled_of span sendings)
acked_same true span delay now m sendings none fresh is =
    sym ((all_stay span.first span.last m.entries fresh (eqb-true (hits span.first span.last m.entries) 0 none)).0)
    ∙ ap (λ (es : List Entry). flying span.first span.last es) is ∙ sym (flies_onward span sendings)
acked_same false span delay now m sendings none fresh is = ap (λ (es : List Entry). flying span.first span.last es) is ∙ sym (flies_onward span sendings)

heard_same : (now : ℕ) (message : Message) (m : Meter) (sendings : List Sending) → AreFresh m.entries
    → m.entries ≡ entries_of sendings → (heard_by now message m).entries ≡ entries_of (after_heard message sendings)
heard_same now (Ack span delay) m sendings fresh is = acked_same (hits span.first span.last m.entries == 0) span delay now m sendings refl fresh is
heard_same now _ m sendings fresh is = is

said_same : (now : ℕ) (message : Message) (m : Meter) (sendings : List Sending)
    → m.entries ≡ entries_of sendings → (said_by now message m).entries ≡ entries_of (after_said now message sendings)
said_same now (Data i sent_at bytes) m sendings is =
    ap (λ (es : List Entry). es ++ record { chunk = i; overtaken = 0; sent_at = now } ∷ []) is ∙ sym (sent_same now i sendings)
said_same now _ m sendings is = is

taken_same : (b : Bool) (now : ℕ) (m : Meter) (sendings : List Sending)
    → m.entries ≡ entries_of sendings → (cond b (timed_out now m) m).entries ≡ entries_of (cond b (after_timeout sendings) sendings)
taken_same true now m sendings is = sym (written_off sendings)
taken_same false now m sendings is = is

pub entries_same : (chunk : ℕ) (story : List Line) → (meter chunk story).entries ≡ entries_of (fates (timeouts chunk) story)
entries_same chunk [] = refl
entries_same chunk (Heard now message ∷ before) =
    heard_same now message (meter chunk before) (fates (timeouts chunk) before) (meter_fresh chunk before) (entries_same chunk before)
entries_same chunk (Said now message ∷ before) = said_same now message (meter chunk before) (fates (timeouts chunk) before) (entries_same chunk before)
entries_same chunk (Taken now ∷ before) =
    taken_same (is_due now (meter chunk before)) now (meter chunk before) (fates (timeouts chunk) before) (entries_same chunk before)

pub meters_fly : MetersFly
meters_fly = record {
  entries = entries_same;
  count = λ chunk story. ap (λ (es : List Entry). length es) (entries_same chunk story) ∙ flight_same (fates (timeouts chunk) story);
  hits = λ chunk span story.
      ap (λ (es : List Entry). hits span.first span.last es) (entries_same chunk story) ∙ hits_same span (fates (timeouts chunk) story);
  loses = λ chunk now delay span story.
      ap (λ (es : List Entry). loses span.first span.last es) (entries_same chunk story) ∙ loses_same span (fates (timeouts chunk) story);
}
