-- A seat follows one line more, of a message that came, or of a wait that ended.
use Rattle.std.proofs.Common.{◌≡◌, ℕ, ◌+◌, ◌-◌, ◌^◌, min, ◌<◌, ◌≤◌, Bool, true, false, cond, ◌||◌, Option, Some, None, List, [], ◌∷◌, length, take, refl, sym, ◌∙◌, ap, subst, arith}
use Rattle.std.specs.List.{AllByRecursion}
use Rattle.std.proofs.Math.Bool.{or_comm}
use Rattle.std.proofs.lemmas.Bool.{cond-true, cond-false, or_right, both_ways, false≢true}
use Rattle.pp_terms.specs.format.Messages.{Data, Ack, Have, Integrity, Request, Cancel, Choke, Unchoke}
use Rattle.pp_terms.specs.tree.Tree.{Node}
use Rattle.pp_terms.specs.tree.Range.{Span, leaves_of}
use Rattle.pp_terms.specs.tree.Claims.{Claim}
use Rattle.pp_traffic.specs.Story.{Line, Heard, Taken}
use Rattle.pp_traffic.specs.Asking.{asked}
use Rattle.pp_traffic.specs.Claims.{with_claim, claims_in}
use Rattle.pp_traffic.specs.Hashes.{tells, is_told}
use Rattle.pp_traffic.specs.Meter.{Meter, meter, acked, is_due, timed_out, ended}
use Rattle.pp_ledbat.proofs.Cuts.{cuts_acknowledge_alike}
use Rattle.pp_plan.specs.Told.{ToldNodes, knows, span_of}
use Rattle.pp_plan.proofs.Ranges.{cuts_tell_alike}
use Rattle.pp_requests.specs.declared.asking.Asking.{Asking}
use Rattle.pp_requests.specs.Lists.{requested, cancelled}
use Rattle.pp_requests.specs.Moments.{asked_at, Changes}
use Rattle.pp_seat.specs.Lines.{Tale, with_line}
use Rattle.pp_seat.specs.Aspects.{Sends, Knows}
use Rattle.pp_seat.specs.Seats.{SeatState}
use Rattle.pp_seat.specs.Follows.{Frame, Lost, Follows, Goes, Always, IsCut}
use Rattle.pp_seat.proofs.Spans.{IsPart, part_of}
use Rattle.pp_seat.proofs.Listing.{requests_list, requests_lacks, cancels_list, cancels_lacks}
use Rattle.pp_seat.proofs.Moments.{later}
use Rattle.pp_seat.proofs.Naming.{unclaimed, named_is, named_none, claimed_more}

-- ---- requests

pub request_goes : (s : SeatState) (part : Span) (list : List Span) (now : ℕ) (span : Span) → s.slot ≡ true → list ≡ requested part s.list
    → length list ≤ length s.list + 1 → Goes (IsCut part span) (Heard now (Request span)) s (record s { list = list })
request_goes s part list now span slot is more = record {
  follows = λ f lost t cut h.
      let p = part_of f.chunks span part cut in
      let free = sym h.slot.same ∙ h.slot.unchoked slot in
      subst (λ (xs : List Span). Follows f lost (record s { list = xs }) (with_line (Heard now (Request span)) f.proven t)) (sym is) (record {
        lists = requests_list f.chunks span part s.list t.story now p free (subst (λ (xs : List Span). length xs ≤ length s.list + 1) is more) h.lists;
        lacks = λ e. requests_lacks f.chunks lost.chunks f.since span part s.list t.story now p h.lists (h.lacks e);
        slot = record { same = h.slot.same; unchoked = h.slot.unchoked; empty = λ e. absurd (both_ways s.slot e slot); due = h.slot.due };
        window = h.window;
        told = h.told;
        claims = h.claims ∙ ap (take 128) (sym (unclaimed f.chunks now f.proven (Request span) t.proven refl));
        proven = h.proven;
        own = later (Heard now (Request span)) t.story s.own s.stopped s.chokes _ _ h.own;
        haves = h.haves;
        fresh = h.fresh;
        exchange = h.exchange;
      });
}

-- one that came without a slot
pub choked_goes : (s : SeatState) (part : Span) (now : ℕ) (span : Span) → s.slot ≡ false → Goes (IsCut part span) (Heard now (Request span)) s s
choked_goes s part now span no_slot = record {
  follows = λ f lost t cut h. record {
    lists = record {
      runs = h.lists.runs;
      inside = h.lists.inside;
      asked_for = λ i e. or_right _ (asked i t.story) (h.lists.asked_for i e);
      few = (let few = h.lists.few in omega arith);
    };
    lacks = λ e. absurd (both_ways s.slot no_slot e);
    slot = h.slot;
    window = h.window;
    told = h.told;
    claims = h.claims ∙ ap (take 128) (sym (unclaimed f.chunks now f.proven (Request span) t.proven refl));
    proven = h.proven;
    own = later (Heard now (Request span)) t.story s.own s.stopped s.chokes _ _ h.own;
    haves = h.haves;
    fresh = h.fresh;
    exchange = h.exchange;
  };
}

pub cancel_goes : (s : SeatState) (part : Span) (list : List Span) (now : ℕ) (span : Span) → list ≡ cancelled part s.list
    → length list ≤ length s.list + 1 → Goes (IsCut part span) (Heard now (Cancel span)) s (record s { list = list })
cancel_goes s part list now span is more = record {
  follows = λ f lost t cut h.
      let p = part_of f.chunks span part cut in
      subst (λ (xs : List Span). Follows f lost (record s { list = xs }) (with_line (Heard now (Cancel span)) f.proven t)) (sym is) (record {
        lists = cancels_list f.chunks span part s.list t.story now p (subst (λ (xs : List Span). length xs ≤ length s.list + 1) is more) h.lists;
        lacks = λ e. cancels_lacks f.chunks lost.chunks f.since span part s.list t.story now p h.lists (h.lacks e);
        slot = record { same = h.slot.same; unchoked = h.slot.unchoked; empty = λ e. ap (cancelled part) (h.slot.empty e); due = h.slot.due };
        window = h.window;
        told = h.told;
        claims = h.claims ∙ ap (take 128) (sym (unclaimed f.chunks now f.proven (Cancel span) t.proven refl));
        proven = h.proven;
        own = later (Heard now (Cancel span)) t.story s.own s.stopped s.chokes _ _ h.own;
        haves = h.haves;
        fresh = h.fresh;
        exchange = h.exchange;
      });
}

-- ---- what is told

-- the part tells what the span tells
part_tells : (chunks : ℕ) (span part : Span) (n : Node) → IsPart chunks span part → tells chunks (span_of part) n ≡ tells chunks span n
part_tells chunks span part n p = same part.first part.last p.first p.last
  where
    same : (first last : ℕ) → first ≡ span.first → last ≡ min span.last (chunks - 1) → tells chunks (record { first = first; last = last }) n ≡ tells chunks span n
    same first last p q = rw (p, q) (cuts_tell_alike chunks span n)

tells_more : (chunks : ℕ) (span part : Span) (old new : ToldNodes) (story : List Line) → IsPart chunks span part → new.chunks ≡ old.chunks
    → ((n : Node) → knows new n ≡ (knows old n || tells old.chunks (span_of part) n)) → Knows chunks old (is_told chunks story)
    → Knows chunks new (λ n. tells chunks span n || is_told chunks story n)
tells_more chunks span part old new story p same more k = record {
  content = same ∙ k.content;
  known = λ n. more n ∙ or_comm (knows old n) (tells old.chunks (span_of part) n)
      ∙ ap (λ (b : Bool). b || knows old n) (ap (λ (c : ℕ). tells c (span_of part) n) k.content ∙ part_tells chunks span part n p)
      ∙ ap (λ (b : Bool). tells chunks span n || b) (k.known n);
}

pub have_goes : (s : SeatState) (part : Span) (told : ToldNodes) (now : ℕ) (span : Span) → told.chunks ≡ s.told.chunks
    → ((n : Node) → knows told n ≡ (knows s.told n || tells s.told.chunks (span_of part) n))
    → Goes (IsCut part span) (Heard now (Have span)) s (record s { told = told })
have_goes s part told now span chunks more = record {
  follows = λ f lost t cut h. record {
    lists = h.lists;
    lacks = h.lacks;
    slot = h.slot;
    window = h.window;
    told = tells_more f.chunks span part s.told told t.story (part_of f.chunks span part cut) chunks more h.told;
    claims = h.claims ∙ ap (take 128) (sym (unclaimed f.chunks now f.proven (Have span) t.proven refl));
    proven = h.proven;
    own = later (Heard now (Have span)) t.story s.own s.stopped s.chokes _ _ h.own;
    haves = h.haves;
    fresh = h.fresh;
    exchange = h.exchange;
  };
}

-- an ACK of the part acknowledges what that of the span does
acks_alike : (chunks : ℕ) (span part : Span) (delay now : ℕ) (old new m : Meter) → IsPart chunks span part → new ≡ acked part.first part.last delay now old
    → Sends chunks old m → Sends chunks new (acked span.first span.last delay now m)
acks_alike chunks span part delay now old new m p is w =
    let first = p.first in
    let last = p.last in
    let same = w.same in
    let alike = cuts_acknowledge_alike.same chunks span.first span.last delay now old w.inside in
    record {
      same = cc;
      inside = subst (λ (x : Meter). AllByRecursion (λ e. e.chunk < chunks) x.entries) (sym is)
          (cuts_acknowledge_alike.hears chunks part.first part.last delay now old w.inside);
    }

pub ack_goes : (s : SeatState) (part : Span) (told : ToldNodes) (window : Meter) (delay now : ℕ) (span : Span) → told.chunks ≡ s.told.chunks
    → ((n : Node) → knows told n ≡ (knows s.told n || tells s.told.chunks (span_of part) n)) → window ≡ acked part.first part.last delay now s.window
    → Goes (IsCut part span) (Heard now (Ack span delay)) s (record s { told = told; window = window })
ack_goes s part told window delay now span chunks more is = record {
  follows = λ f lost t cut h.
      let p = part_of f.chunks span part cut in
      record {
        lists = h.lists;
        lacks = h.lacks;
        slot = h.slot;
        window = acks_alike f.chunks span part delay now s.window window (meter f.size t.story) p is h.window;
        told = tells_more f.chunks span part s.told told t.story p chunks more h.told;
        claims = h.claims ∙ ap (take 128) (sym (unclaimed f.chunks now f.proven (Ack span delay) t.proven refl));
        proven = h.proven;
        own = later (Heard now (Ack span delay)) t.story s.own s.stopped s.chokes _ _ h.own;
        haves = h.haves;
        fresh = h.fresh;
        exchange = h.exchange;
      };
}

-- ---- claims

-- with these claims the seat follows an INTEGRITY
integrity_follows : (f : Frame) (lost : Lost) (s : SeatState) (t : Tale) (claims : List Claim) (now : ℕ) (span : Span) (digest : List ℕ) (proven : List Line)
    → claims ≡ take 128 (claims_in f.chunks proven) → Follows f lost s t
    → Follows f lost (record s { claims = claims }) (record { story = Heard now (Integrity span digest) ∷ t.story; proven = proven; told = t.told })
integrity_follows f lost s t claims now span digest proven is h = record {
  lists = h.lists;
  lacks = h.lacks;
  slot = h.slot;
  window = h.window;
  told = h.told;
  claims = is;
  proven = h.proven;
  own = later (Heard now (Integrity span digest)) t.story s.own s.stopped s.chokes _ _ h.own;
  haves = h.haves;
  fresh = h.fresh;
  exchange = h.exchange;
}

-- before the channel is proven
pub early_goes : (s : SeatState) (part : Span) (now : ℕ) (span : Span) (digest : List ℕ) → s.proven ≡ false
    → Goes (IsCut part span) (Heard now (Integrity span digest)) s s
early_goes s part now span digest unproven = record {
  follows = λ f lost t cut h.
      let none = sym h.proven ∙ unproven in
      integrity_follows f lost s t s.claims now span digest _
      (subst (λ (b : Bool). s.claims ≡ take 128 (claims_in f.chunks (cond b (Heard now (Integrity span digest) ∷ t.proven) t.proven))) (sym none) h.claims) h;
}

-- of a node, and of no node
pub claim_goes : (s : SeatState) (part : Span) (n : Node) (claims : List Claim) (now : ℕ) (span : Span) (digest : List ℕ) → s.proven ≡ true
    → s.told.chunks ≤ 2 ^ 20 → leaves_of n ≡ part → claims ≡ take 128 (record { node = n; digest = digest } ∷ s.claims)
    → Goes (IsCut part span) (Heard now (Integrity span digest)) s (record s { claims = claims })
claim_goes s part n claims now span digest proven most leaves is = record {
  follows = λ f lost t cut h.
      let here = sym h.proven ∙ proven in
      let content = h.told.content in
      let names = named_is f.chunks span part n (part_of f.chunks span part cut) leaves (omega arith) in
      integrity_follows f lost s t claims now span digest _
      (subst (λ (b : Bool). claims ≡ take 128 (claims_in f.chunks (cond b (Heard now (Integrity span digest) ∷ t.proven) t.proven))) (sym here)
      (is ∙ claimed_more f.chunks span n digest s.claims (claims_in f.chunks t.proven) names h.claims)) h;
}

pub no_claim_goes : (s : SeatState) (part : Span) (now : ℕ) (span : Span) (digest : List ℕ) → ((n : Node) → leaves_of n ≡ part → ⊥)
    → Goes (IsCut part span) (Heard now (Integrity span digest)) s s
no_claim_goes s part now span digest none = record {
  follows = λ f lost t cut h.
      let names = named_none f.chunks span part (part_of f.chunks span part cut) none in
      integrity_follows f lost s t s.claims now span digest _
      (h.claims ∙ ap (take 128) (sym (unclaimed f.chunks now f.proven (Integrity span digest) t.proven (ap (λ (o : Option Node). with_claim o digest (claims_in f.chunks t.proven)) names)))) h;
}

-- ---- own requests

pub choke_goes : (s : SeatState) (own : List Asking) (now : ℕ) → own ≡ [] → Goes Always (Heard now Choke) s (record s { chokes = true; own = own })
choke_goes s own now none = subst (λ (xs : List Asking). Goes Always (Heard now Choke) s (record s { chokes = true; own = xs })) (sym none) (record {
  follows = λ f lost t so h. record {
    lists = h.lists;
    lacks = h.lacks;
    slot = h.slot;
    window = h.window;
    told = h.told;
    claims = h.claims ∙ ap (take 128) (sym (unclaimed f.chunks now f.proven Choke t.proven refl));
    proven = h.proven;
    own = later (Heard now Choke) t.story [] s.stopped true _ _
        (record { named = λ i moment e. absurd (none_some moment e); expired = h.own.expired; choked = λ e. refl });
    haves = h.haves;
    fresh = h.fresh;
    exchange = h.exchange;
  };
})
  where
    none_some : (x : ℕ) → None ≡ Some x → ⊥
    none_some x e = cc

pub unchoke_goes : (s : SeatState) (now : ℕ) → Goes Always (Heard now Unchoke) s (record s { chokes = false })
unchoke_goes s now = record {
  follows = λ f lost t so h. record {
    lists = h.lists;
    lacks = h.lacks;
    slot = h.slot;
    window = h.window;
    told = h.told;
    claims = h.claims ∙ ap (take 128) (sym (unclaimed f.chunks now f.proven Unchoke t.proven refl));
    proven = h.proven;
    own = later (Heard now Unchoke) t.story s.own s.stopped false _ _
        (record { named = h.own.named; expired = h.own.expired; choked = λ e. absurd (false≢true e) });
    haves = h.haves;
    fresh = h.fresh;
    exchange = h.exchange;
  };
}

-- what is left was there
pub fewer_asked : (i : ℕ) (old new : List Asking) → Changes i None old new → (j m : ℕ) → asked_at new j ≡ Some m → asked_at old j ≡ Some m
fewer_asked i old new is j m e = by _ (sym (is j) ∙ e)
  where
    by : (b : Bool) → cond b None (asked_at old j) ≡ Some m → asked_at old j ≡ Some m
    by true p = cc
    by false p = p

pub data_goes : (s : SeatState) (own : List Asking) (i now sent_at : ℕ) (bytes : List ℕ) → Changes i None s.own own
    → Goes Always (Heard now (Data i sent_at bytes)) s (record s { own = own })
data_goes s own i now sent_at bytes is = record {
  follows = λ f lost t so h. record {
    lists = h.lists;
    lacks = h.lacks;
    slot = h.slot;
    window = h.window;
    told = h.told;
    claims = h.claims ∙ ap (take 128) (sym (unclaimed f.chunks now f.proven (Data i sent_at bytes) t.proven refl));
    proven = h.proven;
    own = later (Heard now (Data i sent_at bytes)) t.story own s.stopped s.chokes _ _
        (record { named = λ j m e. h.own.named j m (fewer_asked i s.own own is j m e); expired = h.own.expired; choked = h.own.choked });
    haves = h.haves;
    fresh = h.fresh;
    exchange = h.exchange;
  };
}

-- ---- a wait ends

waits : (chunks now : ℕ) (old new m : Meter) → new ≡ ended now old → Sends chunks old m → Sends chunks new (ended now m)
waits chunks now old new m is w = record {
  same = is ∙ ap (ended now) w.same;
  inside = subst (λ (x : Meter). AllByRecursion (λ e. e.chunk < chunks) x.entries) (sym is) (cuts_acknowledge_alike.waits chunks now old w.inside);
}

pub taken_goes : (s : SeatState) (window : Meter) (now : ℕ) → window ≡ ended now s.window → Goes Always (Taken now) s (record s { window = window })
taken_goes s window now is = record {
  follows = λ f lost t so h. record {
    lists = h.lists;
    lacks = h.lacks;
    slot = h.slot;
    window = waits f.chunks now s.window window (meter f.size t.story) is h.window;
    told = h.told;
    claims = h.claims;
    proven = h.proven;
    own = later (Taken now) t.story s.own s.stopped s.chokes _ _ h.own;
    haves = h.haves;
    fresh = h.fresh;
    exchange = h.exchange;
  };
}

pub ended_due : (now : ℕ) (m new : Meter) → is_due now m ≡ true → new ≡ timed_out now m → new ≡ ended now m
ended_due now m new due is = is ∙ sym (cond-true (is_due now m) (timed_out now m) m due)

pub ended_not : (now : ℕ) (m : Meter) → is_due now m ≡ false → m ≡ ended now m
ended_not now m not_due = sym (cond-false (is_due now m) (timed_out now m) m not_due)
