-- Lines that do nothing to a seat, and frames that grow.
use Rattle.pp_traffic.specs.Fates.{clock}
use Rattle.std.proofs.Common.{◌≡◌, ⊎_elim, ℕ, ◌+◌, ◌<◌, ◌≤◌, eqb, nat_lt, nat_le, Bool, true, false, cond, not, ◌&&◌, ◌||◌, Some, None, List, [], ◌∷◌, length, take, refl, sym, ◌∙◌, ap, subst, arith, Option}
use Rattle.std.specs.List.{AllByRecursion}
use Rattle.std.proofs.lemmas.Bool.{cond-true, or_left, or_right, or_from, and_right, both_ways, lt-ltb, false≢true, and_parts, and_from}
use Rattle.std.proofs.lemmas.Bool.Decides.{nat_tests}
use Rattle.std.proofs.lemmas.List.Sums.{sum_by-cons}
use Rattle.pp_terms.specs.format.Messages.{Message, Handshake, Data, Ack, Have, Integrity, Pex4, PexReq, Request, Cancel, Choke, Unchoke, Pex6}
use Rattle.pp_terms.specs.tree.Tree.{Node, height, is_peak}
use Rattle.pp_terms.specs.tree.Bins.{parent_of}
use Rattle.pp_terms.specs.tree.Range.{Span, within}
use Rattle.pp_traffic.specs.declared.entries.Entry.{Entry}
use Rattle.pp_traffic.specs.Story.{Line, Heard, Said, Taken}
use Rattle.pp_traffic.specs.Asking.{choked, asked_by, asked, asks_in}
use Rattle.pp_traffic.specs.Claims.{claims_in, with_claim, cut_to}
use Rattle.pp_traffic.specs.Hashes.{meets, tells, is_told}
use Rattle.pp_traffic.specs.Meter.{Meter, meter, covers, hits, acked, settled}
use Rattle.pp_traffic.proofs.Chokes.{said_none, said_choked}
use Rattle.pp_promises.specs.Announced.{is_told_of}
use Rattle.pp_promises.specs.OwnSide.{is_old, has_old_request, is_choked_by_peer, is_offered}
use Rattle.pp_seat.specs.Lines.{inside, asked_since, names_at, is_named_at, last_answer, last_question, Tale, with_line, with_said}
use Rattle.pp_seat.specs.Aspects.{Lacks, Haves, Fresh, Exchanges}
use Rattle.pp_seat.specs.Seats.{SeatState}
use Rattle.pp_seat.specs.Follows.{Frame, Lost, Follows, IsIdleSaid}
use Rattle.pp_seat.specs.Laws.{IsIdleHeard, IdleStays, AnnouncedStays, KnownStays, IdleSays, CutsNameAlike, OffersGrow}
use Rattle.pp_seat.proofs.Spans.{out_within, part_of, part_within, ordered}
use Rattle.pp_seat.proofs.Naming.{unclaimed, named_out}
use Rattle.pp_seat.proofs.Moments.{old_stays}

-- ---- what stories say

-- while a CHOKE stands nothing was asked for
heard_barred : (i : ℕ) (is_barred : Bool) (m : Message) (before : Bool) → is_barred ≡ true → before ≡ false → asked_by i is_barred m before ≡ false
heard_barred i is_barred (Request span) before barred none =
    or_from (within span i && not is_barred) before (and_right (within span i) (not is_barred) (ap (λ (b : Bool). not b) barred)) none
heard_barred i is_barred (Cancel span) before barred none = and_right (not (within span i)) before none
heard_barred i is_barred _ before barred none = none

pub choked_none : (place i : ℕ) (story : List Line) → choked story ≡ true → asked_since place i story ≡ false
choked_none place i [] e = refl
choked_none place i (Heard now m ∷ story) e =
    heard_barred i (choked story || nat_lt (length story) place) m (asked_since place i story) (or_left (choked story) (nat_lt (length story) place) e)
    (choked_none place i story e)
choked_none place i (Said now m ∷ story) e = said_choked i (choked story) m (asked_since place i story) e (λ c. choked_none place i story c)
choked_none place i (Taken now ∷ story) e = choked_none place i story e

-- nothing was asked for later than now
pub asks_none : (place i : ℕ) (story : List Line) → length story ≤ place → asked_since place i story ≡ false
asks_none place i [] le = refl
asks_none place i (Heard now m ∷ story) le =
    heard_barred i (choked story || nat_lt (length story) place) m (asked_since place i story)
    (or_right (choked story) (nat_lt (length story) place) (lt-ltb (length story) place (omega arith))) (asks_none place i story (omega arith))
asks_none place i (Said now m ∷ story) le = said_none i m (asked_since place i story) (asks_none place i story (omega arith))
asks_none place i (Taken now ∷ story) le = asks_none place i story (omega arith)

-- a chunk that was named long ago is an old request
pub named_old : (i moment now : ℕ) (story : List Line) → is_named_at i moment story ≡ true → moment + 10_000_000 ≤ now → has_old_request now story ≡ true
named_old i moment now [] e old = e
named_old i moment now (Heard at m ∷ story) e old = named_old i moment now story e old
named_old i moment now (Said at m ∷ story) e old = by (names_at i moment at m) refl (λ x. named_old i moment now story x old) e
  where
    of : (m : Message) → names_at i moment at m ≡ true → is_old now at m ≡ true
    of (Request span) here = grind (arith, nat_tests)
    of _ here = absurd (false≢true here)

    by : (b : Bool) → names_at i moment at m ≡ b → (is_named_at i moment story ≡ true → has_old_request now story ≡ true)
        → (b || is_named_at i moment story) ≡ true → (is_old now at m || has_old_request now story) ≡ true
    by true here rest x = or_left (is_old now at m) (has_old_request now story) (of m here)
    by false here rest x = or_right (is_old now at m) (has_old_request now story) (rest x)
named_old i moment now (Taken at ∷ story) e old = named_old i moment now story e old

-- ---- lines that do nothing

-- What two tales say is the same, as far as it concerns a seat's requests, hashes and window.
pub record Alike (f : Frame) (t later : Tale) : Type 0 where
  pub asked_same : (i : ℕ) → i < f.chunks → asked i later.story ≡ asked i t.story
  pub since_same : (place i : ℕ) → i < f.chunks → asked_since place i later.story ≡ asked_since place i t.story
  pub more : asks_in t.story ≤ asks_in later.story
  pub choked_same : choked later.story ≡ choked t.story
  pub meter_same : AllByRecursion (λ e. e.chunk < f.chunks) (meter f.size t.story).entries → meter f.size later.story ≡ meter f.size t.story
  pub told : (n : Node) → is_told f.chunks later.story n ≡ is_told f.chunks t.story n
  pub claims : claims_in f.chunks later.proven ≡ claims_in f.chunks t.proven
  pub named : (i moment : ℕ) → is_named_at i moment t.story ≡ true → is_named_at i moment later.story ≡ true
  pub old : has_old_request (clock t.story) t.story ≡ true → has_old_request (clock later.story) later.story ≡ true
  pub chokes_same : is_choked_by_peer later.story ≡ is_choked_by_peer t.story

pub alike_follows : (f : Frame) (lost : Lost) (s : SeatState) (t later : Tale) (cursor : ℕ) (answer question : Option ℕ) → Alike f t later → Follows f lost s t
    → Haves cursor f.known_of (λ i. is_told_of i later.story) → Fresh cursor f.proven later.told lost.haves
    → Exchanges answer question (last_answer later.story) (last_question later.story)
    → Follows f lost (record s { cursor = cursor; answer = answer; question = question }) later
alike_follows f lost s t later cursor answer question a h haves fresh exchange =
    let w = h.window in
    record {
      lists = record {
        runs = h.lists.runs;
        inside = h.lists.inside;
        asked_for = λ i e. a.asked_same i (h.lists.inside i e) ∙ h.lists.asked_for i e;
        few = (let few = h.lists.few in let more = a.more in omega arith);
      };
      lacks = λ slot. lacks_by (h.lacks slot);
      slot = record { same = h.slot.same ∙ sym a.choked_same; unchoked = h.slot.unchoked; empty = h.slot.empty; due = h.slot.due };
      window = record {
        same = w.same ∙ sym (a.meter_same (subst (λ (m : Meter). AllByRecursion (λ e. e.chunk < f.chunks) m.entries) w.same w.inside));
        inside = w.inside;
      };
      told = record { content = h.told.content; known = λ n. h.told.known n ∙ sym (a.told n) };
      claims = h.claims ∙ ap (take 128) (sym a.claims);
      proven = h.proven;
      own = record {
        named = λ i m e.
            let p = and_parts (nat_lt i f.chunks) (is_named_at i m t.story) (h.own.named i m e) in
            and_from (nat_lt i f.chunks) (is_named_at i m later.story) p.0 (a.named i m p.1);
        expired = λ e. a.old (h.own.expired e);
        choked = λ e. a.chokes_same ∙ h.own.choked e;
      };
      haves = haves;
      fresh = fresh;
      exchange = exchange;
    }
  where
    lacks_by : Lacks f.chunks lost.chunks f.since s.list (λ place i. asked_since place i t.story) (asks_in t.story)
        → Lacks f.chunks lost.chunks f.since s.list (λ place i. asked_since place i later.story) (asks_in later.story)
    lacks_by k = record {
      given = k.given;
      few = k.few;
      listed = λ i place few lt is e. k.listed i place (let more = a.more in omega arith) lt is (sym (a.since_same place i lt) ∙ e);
    }

same_alike : (f : Frame) (t : Tale) → Alike f t t
same_alike f t = record {
  asked_same = λ i lt. refl;
  since_same = λ place i lt. refl;
  more = omega arith;
  choked_same = refl;
  meter_same = λ e. refl;
  told = λ n. refl;
  claims = refl;
  named = λ i m e. e;
  old = λ e. e;
  chokes_same = refl;
}

twice_alike : (f : Frame) (t later last : Tale) → Alike f t later → Alike f later last → Alike f t last
twice_alike f t later last a b = record {
  asked_same = λ i lt. b.asked_same i lt ∙ a.asked_same i lt;
  since_same = λ place i lt. b.since_same place i lt ∙ a.since_same place i lt;
  more = (let one = a.more in let other = b.more in omega arith);
  choked_same = b.choked_same ∙ a.choked_same;
  meter_same = λ e. b.meter_same (subst (λ (m : Meter). AllByRecursion (λ e. e.chunk < f.chunks) m.entries) (sym (a.meter_same e)) e) ∙ a.meter_same e;
  told = λ n. b.told n ∙ a.told n;
  claims = b.claims ∙ a.claims;
  named = λ i m e. b.named i m (a.named i m e);
  old = λ e. b.old (a.old e);
  chokes_same = b.chokes_same ∙ a.chokes_same;
}

no_hits : (chunks : ℕ) (span : Span) (entries : List Entry) → inside chunks span ≡ None → AllByRecursion (λ e. e.chunk < chunks) entries
    → hits span.first span.last entries ≡ 0
no_hits chunks span [] is within = refl
no_hits chunks span (e ∷ rest) is within =
    sum_by-cons (λ (x : Entry). cond (covers span.first span.last x) 1 0) e rest
    ∙ both (out_within chunks span e.chunk is within.0) (no_hits chunks span rest is within.1)
  where
    both : {b : Bool} {m : ℕ} → b ≡ false → m ≡ 0 → cond b 1 0 + m ≡ 0
    both p q = cc

no_ack : (chunks : ℕ) (span : Span) (delay now : ℕ) (m : Meter) → inside chunks span ≡ None → AllByRecursion (λ e. e.chunk < chunks) m.entries
    → acked span.first span.last delay now m ≡ m
no_ack chunks span delay now m is within =
    let none = no_hits chunks span m.entries is within in
    cond-true (eqb (hits span.first span.last m.entries) 0) m (settled span.first span.last delay now m) (ap (λ (n : ℕ). eqb n 0) none)

not_asked : (chunks i : ℕ) (span : Span) (c before : Bool) → inside chunks span ≡ None → i < chunks → ((within span i && not c) || before) ≡ before
not_asked chunks i span c before is lt = ap (λ (b : Bool). (b && not c) || before) (out_within chunks span i is lt)

not_withdrawn : (chunks i : ℕ) (span : Span) (before : Bool) → inside chunks span ≡ None → i < chunks → (not (within span i) && before) ≡ before
not_withdrawn chunks i span before is lt = ap (λ (b : Bool). not b && before) (out_within chunks span i is lt)

-- a range that names no chunk of the content tells nothing
outside_tells : (chunks : ℕ) (span : Span) (n : Node) (story : List Line) → inside chunks span ≡ None
    → (tells chunks span n || is_told chunks story n) ≡ is_told chunks story n
outside_tells chunks span n story e = by (nat_lt span.first chunks) (nat_le span.first span.last) e
  where
    by : (a b : Bool) → cond (a && b) (Some (cut_to chunks span)) None ≡ None
        → ((a && b && (is_peak chunks n || (nat_lt n.layer (height chunks) && meets chunks span (parent_of n)))) || is_told chunks story n) ≡ is_told chunks story n
    by true true e = absurd cc
    by true false e = refl
    by false b e = refl

-- a message that came
heard_alike : (f : Frame) (now : ℕ) (m : Message) (t : Tale) → IsIdleHeard f.chunks m → Alike f t (with_line (Heard now m) f.proven t)
heard_alike f now (Handshake source options) t h = record {
  asked_same = λ i lt. refl;
  since_same = λ place i lt. refl;
  more = omega arith;
  choked_same = refl;
  meter_same = λ e. refl;
  told = λ n. refl;
  claims = unclaimed f.chunks now f.proven (Handshake source options) t.proven refl;
  named = λ i m e. e;
  old = old_stays (Heard now (Handshake source options)) t.story;
  chokes_same = refl;
}
heard_alike f now (Data chunk sent_at bytes) t h = absurd h
heard_alike f now (Ack span delay) t h = record {
  asked_same = λ i lt. refl;
  since_same = λ place i lt. refl;
  more = omega arith;
  choked_same = refl;
  meter_same = λ e. no_ack f.chunks span delay now (meter f.size t.story) h e;
  told = λ n. outside_tells f.chunks span n t.story h;
  claims = unclaimed f.chunks now f.proven (Ack span delay) t.proven refl;
  named = λ i m e. e;
  old = old_stays (Heard now (Ack span delay)) t.story;
  chokes_same = refl;
}
heard_alike f now (Have span) t h = record {
  asked_same = λ i lt. refl;
  since_same = λ place i lt. refl;
  more = omega arith;
  choked_same = refl;
  meter_same = λ e. refl;
  told = λ n. outside_tells f.chunks span n t.story h;
  claims = unclaimed f.chunks now f.proven (Have span) t.proven refl;
  named = λ i m e. e;
  old = old_stays (Heard now (Have span)) t.story;
  chokes_same = refl;
}
heard_alike f now (Integrity span digest) t h = record {
  asked_same = λ i lt. refl;
  since_same = λ place i lt. refl;
  more = omega arith;
  choked_same = refl;
  meter_same = λ e. refl;
  told = λ n. refl;
  claims = unclaimed f.chunks now f.proven (Integrity span digest) t.proven (ap (λ o. with_claim o digest (claims_in f.chunks t.proven)) (named_out f.chunks span h));
  named = λ i m e. e;
  old = old_stays (Heard now (Integrity span digest)) t.story;
  chokes_same = refl;
}
heard_alike f now (Pex4 address port) t h = record {
  asked_same = λ i lt. refl;
  since_same = λ place i lt. refl;
  more = omega arith;
  choked_same = refl;
  meter_same = λ e. refl;
  told = λ n. refl;
  claims = unclaimed f.chunks now f.proven (Pex4 address port) t.proven refl;
  named = λ i m e. e;
  old = old_stays (Heard now (Pex4 address port)) t.story;
  chokes_same = refl;
}
heard_alike f now PexReq t h = record {
  asked_same = λ i lt. refl;
  since_same = λ place i lt. refl;
  more = omega arith;
  choked_same = refl;
  meter_same = λ e. refl;
  told = λ n. refl;
  claims = unclaimed f.chunks now f.proven PexReq t.proven refl;
  named = λ i m e. e;
  old = old_stays (Heard now PexReq) t.story;
  chokes_same = refl;
}
heard_alike f now (Request span) t h = record {
  asked_same = λ i lt. not_asked f.chunks i span (choked t.story) (asked i t.story) h lt;
  since_same = λ place i lt. not_asked f.chunks i span (choked t.story || nat_lt (length t.story) place) (asked_since place i t.story) h lt;
  more = omega arith;
  choked_same = refl;
  meter_same = λ e. refl;
  told = λ n. refl;
  claims = unclaimed f.chunks now f.proven (Request span) t.proven refl;
  named = λ i m e. e;
  old = old_stays (Heard now (Request span)) t.story;
  chokes_same = refl;
}
heard_alike f now (Cancel span) t h = record {
  asked_same = λ i lt. not_withdrawn f.chunks i span (asked i t.story) h lt;
  since_same = λ place i lt. not_withdrawn f.chunks i span (asked_since place i t.story) h lt;
  more = omega arith;
  choked_same = refl;
  meter_same = λ e. refl;
  told = λ n. refl;
  claims = unclaimed f.chunks now f.proven (Cancel span) t.proven refl;
  named = λ i m e. e;
  old = old_stays (Heard now (Cancel span)) t.story;
  chokes_same = refl;
}
heard_alike f now Choke t h = absurd h
heard_alike f now Unchoke t h = absurd h
heard_alike f now (Pex6 address port) t h = record {
  asked_same = λ i lt. refl;
  since_same = λ place i lt. refl;
  more = omega arith;
  choked_same = refl;
  meter_same = λ e. refl;
  told = λ n. refl;
  claims = unclaimed f.chunks now f.proven (Pex6 address port) t.proven refl;
  named = λ i m e. e;
  old = old_stays (Heard now (Pex6 address port)) t.story;
  chokes_same = refl;
}

-- One that was sent: but for chunks and chokes all leave what concerns requests, hashes and the window.
abbrev pub IsLight : Message → Type 0
IsLight (Data chunk sent_at bytes) = ⊥
IsLight Choke = ⊥
IsLight Unchoke = ⊥
IsLight _ = Unit {0}

abbrev pub AreLight : List Message → Type 0
AreLight [] = Unit {0}
AreLight (m ∷ ms) = IsLight m × AreLight ms

one_alike : (f : Frame) (now : ℕ) (m : Message) (t : Tale) → IsLight m → Alike f t (with_line (Said now m) f.proven t)
one_alike f now (Handshake source options) t h = record {
  asked_same = λ i lt. refl;
  since_same = λ place i lt. refl;
  more = omega arith;
  choked_same = refl;
  meter_same = λ e. refl;
  told = λ n. refl;
  claims = refl;
  named = λ i m e. e;
  old = old_stays (Said now (Handshake source options)) t.story;
  chokes_same = refl;
}
one_alike f now (Data chunk sent_at bytes) t h = absurd h
one_alike f now (Ack span delay) t h = record {
  asked_same = λ i lt. refl;
  since_same = λ place i lt. refl;
  more = omega arith;
  choked_same = refl;
  meter_same = λ e. refl;
  told = λ n. refl;
  claims = refl;
  named = λ i m e. e;
  old = old_stays (Said now (Ack span delay)) t.story;
  chokes_same = refl;
}
one_alike f now (Have span) t h = record {
  asked_same = λ i lt. refl;
  since_same = λ place i lt. refl;
  more = omega arith;
  choked_same = refl;
  meter_same = λ e. refl;
  told = λ n. refl;
  claims = refl;
  named = λ i m e. e;
  old = old_stays (Said now (Have span)) t.story;
  chokes_same = refl;
}
one_alike f now (Integrity span digest) t h = record {
  asked_same = λ i lt. refl;
  since_same = λ place i lt. refl;
  more = omega arith;
  choked_same = refl;
  meter_same = λ e. refl;
  told = λ n. refl;
  claims = refl;
  named = λ i m e. e;
  old = old_stays (Said now (Integrity span digest)) t.story;
  chokes_same = refl;
}
one_alike f now (Pex4 address port) t h = record {
  asked_same = λ i lt. refl;
  since_same = λ place i lt. refl;
  more = omega arith;
  choked_same = refl;
  meter_same = λ e. refl;
  told = λ n. refl;
  claims = refl;
  named = λ i m e. e;
  old = old_stays (Said now (Pex4 address port)) t.story;
  chokes_same = refl;
}
one_alike f now PexReq t h = record {
  asked_same = λ i lt. refl;
  since_same = λ place i lt. refl;
  more = omega arith;
  choked_same = refl;
  meter_same = λ e. refl;
  told = λ n. refl;
  claims = refl;
  named = λ i m e. e;
  old = old_stays (Said now PexReq) t.story;
  chokes_same = refl;
}
one_alike f now (Request span) t h = record {
  asked_same = λ i lt. refl;
  since_same = λ place i lt. refl;
  more = omega arith;
  choked_same = refl;
  meter_same = λ e. refl;
  told = λ n. refl;
  claims = refl;
  named = λ i m e. or_right (within span i && eqb now m) (is_named_at i m t.story) e;
  old = old_stays (Said now (Request span)) t.story;
  chokes_same = refl;
}
one_alike f now (Cancel span) t h = record {
  asked_same = λ i lt. refl;
  since_same = λ place i lt. refl;
  more = omega arith;
  choked_same = refl;
  meter_same = λ e. refl;
  told = λ n. refl;
  claims = refl;
  named = λ i m e. e;
  old = old_stays (Said now (Cancel span)) t.story;
  chokes_same = refl;
}
one_alike f now Choke t h = absurd h
one_alike f now Unchoke t h = absurd h
one_alike f now (Pex6 address port) t h = record {
  asked_same = λ i lt. refl;
  since_same = λ place i lt. refl;
  more = omega arith;
  choked_same = refl;
  meter_same = λ e. refl;
  told = λ n. refl;
  claims = refl;
  named = λ i m e. e;
  old = old_stays (Said now (Pex6 address port)) t.story;
  chokes_same = refl;
}

pub said_alike : (f : Frame) (now : ℕ) (ms : List Message) (t : Tale) → AreLight ms → Alike f t (with_said now ms f.proven t)
said_alike f now [] t light = same_alike f t
said_alike f now (m ∷ ms) t light =
    twice_alike f t (with_line (Said now m) f.proven t) (with_said now (m ∷ ms) f.proven t) (one_alike f now m t light.0)
    (said_alike f now ms (with_line (Said now m) f.proven t) light.1)

-- such a line of an idle message leaves the rest too
idle_light : (m : Message) → IsIdleSaid m → IsLight m
idle_light (Data chunk sent_at bytes) h = absurd h
idle_light Choke h = absurd h
idle_light Unchoke h = absurd h
idle_light _ h = tt

idle_said : (f : Frame) (lost : Lost) (s : SeatState) (now : ℕ) (m : Message) (t : Tale) → IsIdleSaid m → Alike f t (with_line (Said now m) f.proven t)
    → Follows f lost s t → Follows f lost s (with_line (Said now m) f.proven t)
idle_said f lost s now (Data chunk sent_at bytes) t idle a h = absurd idle
idle_said f lost s now (Have span) t idle a h = absurd idle
idle_said f lost s now (Request span) t idle a h = absurd idle
idle_said f lost s now Choke t idle a h = absurd idle
idle_said f lost s now Unchoke t idle a h = absurd idle
idle_said f lost s now (Pex4 address port) t idle a h = absurd idle
idle_said f lost s now PexReq t idle a h = absurd idle
idle_said f lost s now (Pex6 address port) t idle a h = absurd idle
idle_said f lost s now (Handshake source options) t idle a h = alike_follows f lost s t _ s.cursor s.answer s.question a h h.haves h.fresh h.exchange
idle_said f lost s now (Ack span delay) t idle a h = alike_follows f lost s t _ s.cursor s.answer s.question a h h.haves h.fresh h.exchange
idle_said f lost s now (Integrity span digest) t idle a h = alike_follows f lost s t _ s.cursor s.answer s.question a h h.haves h.fresh h.exchange
idle_said f lost s now (Cancel span) t idle a h = alike_follows f lost s t _ s.cursor s.answer s.question a h h.haves h.fresh h.exchange

pub idle_stays : IdleStays
idle_stays (Heard now m) s = record {
  follows = λ f lost t idle h.
      alike_follows f lost s t (with_line (Heard now m) f.proven t) s.cursor s.answer s.question (heard_alike f now m t idle) h h.haves h.fresh h.exchange;
}
idle_stays (Said now m) s = record { follows = λ f lost t idle h. idle_said f lost s now m t idle (one_alike f now m t (idle_light m idle)) h }
idle_stays (Taken now) s = record { follows = λ f lost t h. absurd h }

pub idle_says : IdleSays
idle_says now [] s idle = record { follows = λ f lost t so h. h }
idle_says now (m ∷ ms) s idle = record {
  follows = λ f lost t so h.
      (idle_says now ms s idle.1).follows f lost (with_line (Said now m) f.proven t) tt ((idle_stays (Said now m) s).follows f lost t idle.0 h);
}

pub cuts_name_alike : CutsNameAlike
cuts_name_alike = record {
  some = λ chunks span range i is lt. part_within chunks span range i (part_of chunks span range is) lt;
  content = λ chunks span range is.
      let p = part_of chunks span range is in
      let low = p.low in
      let last = p.last in
      (ordered chunks span range p, omega arith);
  none = out_within;
}

pub offers_grow : OffersGrow
offers_grow = record {
  some = λ chunks now span range i story is lt.
      ap (λ (b : Bool). b || is_offered i story) (sym (part_within chunks span range i (part_of chunks span range is) lt));
  none = λ chunks now span i story is lt. ap (λ (b : Bool). b || is_offered i story) (out_within chunks span i is lt);
  others = λ now i m story none. ap (λ (b : Bool). b || is_offered i story) none;
}

-- ---- frames

pub announced_stays : AnnouncedStays
announced_stays f lost since s t each h = record {
  lists = h.lists;
  lacks = λ slot. lacks_by (h.lacks slot);
  slot = h.slot;
  window = h.window;
  told = h.told;
  claims = h.claims;
  proven = h.proven;
  own = h.own;
  haves = h.haves;
  fresh = h.fresh;
  exchange = h.exchange;
}
  where
    one_place : (i place at : ℕ) → since i ≡ Some place → since i ≡ Some at → place ≡ at
    one_place i place at p q = cc

    lacks_by : Lacks f.chunks lost.chunks f.since s.list (λ place i. asked_since place i t.story) (asks_in t.story)
        → Lacks f.chunks lost.chunks since s.list (λ place i. asked_since place i t.story) (asks_in t.story)
    lacks_by k = record {
      given = k.given;
      few = k.few;
      listed = λ i place few lt is e. ⊎_elim
          (λ (same : since i ≡ f.since i). k.listed i place few lt (sym same ∙ is) e)
          (λ (new : (f.since i ≡ None) × (at : ℕ) × (since i ≡ Some at) × (length t.story ≤ at)).
          absurd (both_ways (asked_since place i t.story)
          (asks_none place i t.story (let same = one_place i place new.1 is new.2 in let low = new.3 in omega arith)) e))
          (each i);
    }

pub known_stays : KnownStays
known_stays f lost known_of s t new h = record {
  lists = h.lists;
  lacks = h.lacks;
  slot = h.slot;
  window = h.window;
  told = h.told;
  claims = h.claims;
  proven = h.proven;
  own = h.own;
  haves = λ i below known. ⊎_elim (λ was. h.haves i below was) (λ told. told) (new i below known);
  fresh = h.fresh;
  exchange = h.exchange;
}
