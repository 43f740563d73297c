-- A seat follows one line more, of a message that was sent, and what happens between lines.
use Rattle.std.proofs.Common.{◌≡◌, ◌⊎◌, ⊎_elim, ℕ, ◌+◌, ◌<◌, ◌≤◌, eqb, Bool, true, false, not, Some, None, List, [], ◌∷◌, map, max, length, refl, sym, ◌∙◌, ap, subst, arith, inl, inr, nat_lt}
use Rattle.std.specs.List.{AllByRecursion}
use Rattle.std.proofs.lemmas.Bool.{cases_lt, and_from, both_ways, false≢true, and_parts}
use Rattle.std.proofs.lemmas.Bool.Decides.{nat_tests}
use Rattle.pp_terms.specs.format.Messages.{Message, Data, Have, Request, Choke, Unchoke, PexReq, Cancel}
use Rattle.pp_terms.specs.tree.Range.{Span, within, has}
use Rattle.pp_ranges.specs.Edits.{without_below}
use Rattle.pp_traffic.specs.Story.{Said}
use Rattle.pp_traffic.specs.Asking.{choked, asked, asks_in}
use Rattle.pp_traffic.specs.Fates.{clock}
use Rattle.pp_traffic.specs.Meter.{Meter, meter, sent}
use Rattle.pp_promises.specs.Announced.{is_told_of}
use Rattle.pp_promises.specs.OwnSide.{is_choked_by_peer, has_old_request}
use Rattle.pp_ledbat.proofs.Cuts.{cuts_acknowledge_alike}
use Rattle.pp_requests.specs.declared.asking.Asking.{Asking}
use Rattle.pp_requests.specs.Lists.{without}
use Rattle.pp_requests.specs.Moments.{asked_at, Changes, IsLeastExpired}
use Rattle.pp_seat.specs.Lines.{asked_since, is_named_at, Tale, with_line, with_said, is_asked_at}
use Rattle.pp_seat.specs.Own.{AreAddresses}
use Rattle.pp_seat.specs.Aspects.{HasSlot, Sends, Asks, Haves, Fresh, Lacks}
use Rattle.pp_seat.specs.Seats.{SeatState}
use Rattle.pp_seat.specs.Follows.{Frame, Lost, Follows, Goes, Stays, Says, GivesUp, SetsBack, IsProved, Always, IsUnannounced, AreUnannounced, IsPassed, IsUnproven, HasCome, IsNext}
use Rattle.pp_seat.proofs.Listing.{leaves_list, sends_lacks, gives_lacks, passes_lacks, passes_list, below_lacks}
use Rattle.pp_seat.proofs.Moments.{later}
use Rattle.pp_seat.proofs.Hearing.{fewer_asked}
use Rattle.pp_seat.proofs.Passing.{choked_none, named_old, alike_follows, said_alike, idle_stays}
use Rattle.pp_seat.proofs.Telling.{requests_light, requests_tell, requests_fresh, requests_exchange, requests_name, haves_light, haves_keep, haves_tell, haves_fresh, haves_exchange, addresses_light, addresses_keep, addresses_fresh, addresses_answer, addresses_question}

-- ---- a chunk leaves the list

leaves_slot : (slot choked owes is_choked : Bool) (i : ℕ) (list : List Span) → HasSlot slot choked owes list is_choked → HasSlot slot choked owes (without i list) is_choked
leaves_slot slot choked owes is_choked i list h = record { same = h.same; unchoked = h.unchoked; empty = λ e. ap (without i) (h.empty e); due = h.due }

flies : (chunks i now : ℕ) (old new m : Meter) → i < chunks → new ≡ sent i now old → Sends chunks old m → Sends chunks new (sent i now m)
flies chunks i now old new m lt is w = record {
  same = is ∙ ap (sent i now) w.same;
  inside = subst (λ (x : Meter). AllByRecursion (λ e. e.chunk < chunks) x.entries) (sym is) (cuts_acknowledge_alike.sends chunks i now old lt w.inside);
}

pub data_goes : (s : SeatState) (i now : ℕ) (list : List Span) (window : Meter) (sent_at : ℕ) (bytes : List ℕ) → IsNext s i → list ≡ without i s.list
    → length list ≤ length s.list → window ≡ sent i now s.window → Goes Always (Said now (Data i sent_at bytes)) s (record s { list = list; window = window })
data_goes s i now list window sent_at bytes next is less flying = record {
  follows = λ f lost t so h.
      let lt = h.lists.inside i next.least.listed in
      subst (λ (xs : List Span). Follows f lost (record s { list = xs; window = window }) (with_line (Said now (Data i sent_at bytes)) f.proven t)) (sym is) (record {
        lists = leaves_list f.chunks i s.list (λ j. asked j t.story) (λ j. asked j (Said now (Data i sent_at bytes) ∷ t.story)) (asks_in t.story)
            (subst (λ (xs : List Span). length xs ≤ length s.list) is less)
            (λ j other e. and_from (not (eqb i j)) (asked j t.story) (turned i j other) e) h.lists;
        lacks = λ e. sends_lacks f.chunks lost.chunks i now sent_at bytes f.since s.list t.story h.lists.runs (h.lacks e);
        slot = leaves_slot s.slot s.choked s.owes (choked t.story) i s.list h.slot;
        window = flies f.chunks i now s.window window (meter f.size t.story) lt flying h.window;
        told = h.told;
        claims = h.claims;
        proven = h.proven;
        own = later (Said now (Data i sent_at bytes)) t.story s.own s.stopped s.chokes _ _ h.own;
        haves = h.haves;
        fresh = h.fresh;
        exchange = h.exchange;
      });
}
  where
    turned : (i j : ℕ) → eqb j i ≡ false → not (eqb i j) ≡ true
    turned i j e = grind (arith, nat_tests)

pub given_stays : (s : SeatState) (i : ℕ) (list : List Span) → list ≡ without i s.list → length list ≤ length s.list → GivesUp s (record s { list = list })
given_stays s i list is less = record {
  follows = λ f lost t h.
      subst (λ (xs : List Span). Follows f (record { chunks = lost.chunks + 1; haves = lost.haves }) (record s { list = xs }) t) (sym is) (record {
        lists = leaves_list f.chunks i s.list _ _ (asks_in t.story) (subst (λ (xs : List Span). length xs ≤ length s.list) is less) (λ j other e. e) h.lists;
        lacks = λ e. gives_lacks f.chunks lost.chunks i f.since s.list _ (asks_in t.story) h.lists.runs (h.lacks e);
        slot = leaves_slot s.slot s.choked s.owes (choked t.story) i s.list h.slot;
        window = h.window;
        told = h.told;
        claims = h.claims;
        proven = h.proven;
        own = h.own;
        haves = h.haves;
        fresh = h.fresh;
        exchange = h.exchange;
      });
}

pub passed_stays : (s : SeatState) (i : ℕ) (list : List Span) → list ≡ without i s.list → length list ≤ length s.list → Stays (IsUnannounced i) s (record s { list = list })
passed_stays s i list is less = record {
  follows = λ f lost t none h.
      subst (λ (xs : List Span). Follows f lost (record s { list = xs }) t) (sym is) (record {
        lists = leaves_list f.chunks i s.list _ _ (asks_in t.story) (subst (λ (xs : List Span). length xs ≤ length s.list) is less) (λ j other e. e) h.lists;
        lacks = λ e. passes_lacks f.chunks lost.chunks i f.since s.list _ (asks_in t.story) none h.lists.runs (h.lacks e);
        slot = leaves_slot s.slot s.choked s.owes (choked t.story) i s.list h.slot;
        window = h.window;
        told = h.told;
        claims = h.claims;
        proven = h.proven;
        own = h.own;
        haves = h.haves;
        fresh = h.fresh;
        exchange = h.exchange;
      });
}

pub below_stays : (s : SeatState) (i : ℕ) (list : List Span) → list ≡ without_below i s.list → length list ≤ length s.list
    → Stays (AreUnannounced s.list i) s (record s { list = list })
below_stays s i list is less = record {
  follows = λ f lost t none h.
      subst (λ (xs : List Span). Follows f lost (record s { list = xs }) t) (sym is) (record {
        lists = passes_list f.chunks i s.list _ (asks_in t.story) (subst (λ (xs : List Span). length xs ≤ length s.list) is less) h.lists;
        lacks = λ e. below_lacks f.chunks lost.chunks i f.since s.list _ (asks_in t.story) none h.lists.runs (h.lacks e);
        slot = record { same = h.slot.same; unchoked = h.slot.unchoked; empty = λ e. ap (without_below i) (h.slot.empty e); due = h.slot.due };
        window = h.window;
        told = h.told;
        claims = h.claims;
        proven = h.proven;
        own = h.own;
        haves = h.haves;
        fresh = h.fresh;
        exchange = h.exchange;
      });
}

-- ---- chokes

pub choke_goes : (s : SeatState) (list : List Span) (now : ℕ) → list ≡ []
    → Goes Always (Said now Choke) s (record s { list = list; slot = false; choked = true; owes = false })
choke_goes s list now none = record {
  follows = λ f lost t so h.
      subst (λ (xs : List Span). Follows f lost (record s { list = xs; slot = false; choked = true; owes = false }) (with_line (Said now Choke) f.proven t)) (sym none) (record {
        lists = record { runs = tt; inside = λ i e. absurd (false≢true e); asked_for = λ i e. absurd (false≢true e); few = omega arith };
        lacks = λ e. absurd (false≢true e);
        slot = record { same = refl; unchoked = λ e. absurd (false≢true e); empty = λ e. refl; due = λ e is. absurd (false≢true (sym is)) };
        window = h.window;
        told = h.told;
        claims = h.claims;
        proven = h.proven;
        own = later (Said now Choke) t.story s.own s.stopped s.chokes _ _ h.own;
        haves = h.haves;
        fresh = h.fresh;
        exchange = h.exchange;
      });
}

pub unchoke_goes : (s : SeatState) (now : ℕ) → s.choked ≡ true → Goes Always (Said now Unchoke) s (record s { slot = true; choked = false; owes = false })
unchoke_goes s now is = record {
  follows = λ f lost t so h. record {
    lists = h.lists;
    lacks = λ e. record {
      given = [];
      few = omega arith;
      listed = λ i place few lt at asks. absurd (both_ways (asked_since place i t.story) (choked_none place i t.story (sym h.slot.same ∙ is)) asks);
    };
    slot = record { same = refl; unchoked = λ e. refl; empty = λ e. absurd (false≢true (sym e)); due = λ e. absurd (false≢true (sym e)) };
    window = h.window;
    told = h.told;
    claims = h.claims;
    proven = h.proven;
    own = later (Said now Unchoke) t.story s.own s.stopped s.chokes _ _ h.own;
    haves = h.haves;
    fresh = h.fresh;
    exchange = h.exchange;
  };
}

-- to a channel that isn't choked
pub unchoke_again : (s : SeatState) (now : ℕ) → s.choked ≡ false → Goes Always (Said now Unchoke) s s
unchoke_again s now is = record {
  follows = λ f lost t so h. record {
    lists = h.lists;
    lacks = h.lacks;
    slot = record { same = is; unchoked = h.slot.unchoked; empty = h.slot.empty; due = h.slot.due };
    window = h.window;
    told = h.told;
    claims = h.claims;
    proven = h.proven;
    own = later (Said now Unchoke) t.story s.own s.stopped s.chokes _ _ h.own;
    haves = h.haves;
    fresh = h.fresh;
    exchange = h.exchange;
  };
}

pub owing_stays : (s : SeatState) → Stays Always s (record s { owes = true })
owing_stays s = record {
  follows = λ f lost t so h. record {
    lists = h.lists;
    lacks = h.lacks;
    slot = record { same = h.slot.same; unchoked = h.slot.unchoked; empty = h.slot.empty; due = λ e is. refl };
    window = h.window;
    told = h.told;
    claims = h.claims;
    proven = h.proven;
    own = h.own;
    haves = h.haves;
    fresh = h.fresh;
    exchange = h.exchange;
  };
}

-- ---- the channel is proven

pub proved_follows : (s : SeatState) → IsProved s (record s { proven = true })
proved_follows s = record {
  follows = λ f lost t h. record {
    lists = h.lists;
    lacks = h.lacks;
    slot = h.slot;
    window = h.window;
    told = h.told;
    claims = h.claims;
    proven = refl;
    own = h.own;
    haves = h.haves;
    fresh = record { early = λ e. absurd (false≢true (sym e)); above = h.fresh.above };
    exchange = h.exchange;
  };
}

-- ---- own requests

own_stays : (P : Frame → Tale → Type 0) (s : SeatState) (own : List Asking) (stopped : Bool)
    → ((f : Frame) (t : Tale) → P f t → Asks s.own s.stopped s.chokes (λ i moment. is_asked_at f.chunks i moment t.story) (has_old_request (clock t.story) t.story) (is_choked_by_peer t.story)
    → Asks own stopped s.chokes (λ i moment. is_asked_at f.chunks i moment t.story) (has_old_request (clock t.story) t.story) (is_choked_by_peer t.story))
    → Stays P s (record s { own = own; stopped = stopped })
own_stays P s own stopped step = record {
  follows = λ f lost t so h. record {
    lists = h.lists;
    lacks = h.lacks;
    slot = h.slot;
    window = h.window;
    told = h.told;
    claims = h.claims;
    proven = h.proven;
    own = step f t so h.own;
    haves = h.haves;
    fresh = h.fresh;
    exchange = h.exchange;
  };
}

pub resume_stays : (s : SeatState) → Stays Always s (record s { stopped = false })
resume_stays s = own_stays Always s s.own false (λ f t so a. record { named = a.named; expired = λ e. absurd (false≢true e); choked = a.choked })

pub expired_stays : (s : SeatState) (i now : ℕ) (own : List Asking) → IsLeastExpired s.own now i → Changes i None s.own own
    → Stays (HasCome now) s (record s { own = own; stopped = true })
expired_stays s i now own least is = own_stays (HasCome now) s own true (λ f t come a. record {
  named = λ j m e. a.named j m (fewer_asked i s.own own is j m e);
  expired = λ e. named_old i least.moment (clock t.story) t.story (and_parts (nat_lt i f.chunks) (is_named_at i least.moment t.story) (a.named i least.moment least.asked)).1 (let old = least.expired in omega arith);
  choked = a.choked;
})

pub cancel_goes : (s : SeatState) (own : List Asking) (i now : ℕ) (span : Span) → Changes i None s.own own
    → Goes Always (Said now (Cancel span)) s (record s { own = own })
cancel_goes s own i now span is = record {
  follows = λ f lost t so h.
      (idle_stays (Said now (Cancel span)) (record s { own = own })).follows f lost t tt
      ((own_stays Always s own s.stopped (λ f t so a. record {
        named = λ j m e. a.named j m (fewer_asked i s.own own is j m e);
        expired = a.expired;
        choked = a.choked;
      })).follows f lost t tt h);
}

-- none is waited for any longer
pub none_stays : (s : SeatState) → Stays Always s (record s { own = [] })
none_stays s = own_stays Always s [] s.stopped (λ f t so a. record {
  named = λ j m e. absurd cc;
  expired = a.expired;
  choked = a.choked;
})

pub same_stays : (P : Frame → Tale → Type 0) (s : SeatState) → Stays P s s
same_stays P s = record { follows = λ f lost t so h. h }

-- Chunks that are asked for are named by the REQUESTs.
pub requests_say : (s : SeatState) (range : Span) (now : ℕ) (own : List Asking) (spans : List Span) → range.last < s.told.chunks → ((i : ℕ) → has spans i ≡ within range i)
    → ((i m : ℕ) → asked_at own i ≡ Some m → (asked_at s.own i ≡ Some m) ⊎ ((within range i ≡ true) × (m ≡ now)))
    → Says Always now (map Request spans) s (record s { own = own })
requests_say s range now own spans inside split named = record {
  follows = λ f lost t so h.
      let a = said_alike f now (map Request spans) t (requests_light spans) in
      let k = alike_follows f lost s t (with_said now (map Request spans) f.proven t) s.cursor s.answer s.question a h
      (λ i lt known. requests_tell i now f.proven spans t (h.haves i lt known))
      (requests_fresh s.cursor now f.proven spans t lost.haves h.fresh)
      (requests_exchange s.answer s.question now f.proven spans t h.exchange) in
      record {
        lists = k.lists;
        lacks = k.lacks;
        slot = k.slot;
        window = k.window;
        told = k.told;
        claims = k.claims;
        proven = k.proven;
        own = record {
          named = λ i m e. ⊎_elim
              (λ was. k.own.named i m was)
              (λ (x : (within range i ≡ true) × (m ≡ now)).
              subst (λ (moment : ℕ). is_asked_at f.chunks i moment (with_said now (map Request spans) f.proven t).story ≡ true) (sym x.1)
              (and_from (nat_lt i f.chunks) (is_named_at i now (with_said now (map Request spans) f.proven t).story) (low f.chunks i h.told.content x.0)
              (requests_name i now f.proven spans t (inl (split i ∙ x.0)))))
              (named i m e);
          expired = k.own.expired;
          choked = k.own.choked;
        };
        haves = k.haves;
        fresh = k.fresh;
        exchange = k.exchange;
      };
}
  where
    low : (chunks i : ℕ) → s.told.chunks ≡ chunks → within range i ≡ true → nat_lt i chunks ≡ true
    low chunks i same here = grind (arith, nat_tests)

-- ---- the HAVE cursor

pub have_says : (s : SeatState) (range : Span) (now cursor : ℕ) (spans : List Span) → ((i : ℕ) → has spans i ≡ within range i) → range.first ≤ range.last
    → cursor ≡ max s.cursor (range.last + 1) → Says (IsPassed s.cursor range.first) now (map Have spans) s (record s { cursor = cursor })
have_says s range now cursor spans split order is = record {
  follows = λ f lost t passed h.
      subst (λ (c : ℕ). Follows f lost (record s { cursor = c }) (with_said now (map Have spans) f.proven t)) (sym is)
      (alike_follows f lost s t (with_said now (map Have spans) f.proven t) (max s.cursor (range.last + 1)) s.answer s.question
      (said_alike f now (map Have spans) t (haves_light spans)) h
      (λ i lt known. by_place f t passed h.haves i lt known (cases_lt i s.cursor) (cases_lt i range.first))
      (haves_fresh s.cursor range now f.proven spans t lost.haves split h.fresh)
      (haves_exchange s.answer s.question now f.proven spans t h.exchange));
}
  where
    here : (i : ℕ) → range.first ≤ i → i ≤ range.last → within range i ≡ true
    here i low high = grind (arith, nat_tests)

    none_some : (x : ℕ) → None ≡ Some x → ⊥
    none_some x e = cc

    by_place : (f : Frame) (t : Tale) → IsPassed s.cursor range.first f t → Haves s.cursor f.known_of (λ i. is_told_of i t.story)
        → (i : ℕ) → i < max s.cursor (range.last + 1) → f.known_of i ≡ true → (i < s.cursor) ⊎ (s.cursor ≤ i)
        → (i < range.first) ⊎ (range.first ≤ i) → is_told_of i (with_said now (map Have spans) f.proven t).story ≡ true
    by_place f t passed haves i lt known (inl below) other = haves_keep i now f.proven spans t (haves i below known)
    by_place f t passed haves i lt known (inr above) (inl before) = absurd (both_ways (f.known_of i) (passed i above before) known)
    by_place f t passed haves i lt known (inr above) (inr from) =
        haves_tell i now f.proven spans t (inl (split i ∙ here i from (omega arith)))

cursor_follows : (f : Frame) (lost back : Lost) (s : SeatState) (cursor : ℕ) (t : Tale) → lost.chunks ≡ back.chunks → cursor ≤ s.cursor
    → Fresh cursor f.proven t.told back.haves → Follows f lost s t → Follows f back (record s { cursor = cursor }) t
cursor_follows f lost back s cursor t same le fresh h = record {
  lists = h.lists;
  lacks = λ e. subst (λ (n : ℕ). Lacks f.chunks n f.since s.list (λ place i. asked_since place i t.story) (asks_in t.story)) same (h.lacks e);
  slot = h.slot;
  window = h.window;
  told = h.told;
  claims = h.claims;
  proven = h.proven;
  own = h.own;
  haves = λ i lt known. h.haves i (omega arith) known;
  fresh = fresh;
  exchange = h.exchange;
}

pub unproven_stays : (s : SeatState) (cursor : ℕ) → cursor ≤ s.cursor → Stays IsUnproven s (record s { cursor = cursor })
unproven_stays s cursor le = record {
  follows = λ f lost t unproven h. cursor_follows f lost lost s cursor t refl le
      (record { early = h.fresh.early; above = λ none i above. h.fresh.early unproven i }) h;
}

pub back_follows : (s : SeatState) (cursor : ℕ) → cursor ≤ s.cursor → SetsBack s (record s { cursor = cursor })
back_follows s cursor le = record {
  follows = λ f lost t h. cursor_follows f lost (record { chunks = lost.chunks; haves = lost.haves + 1 }) s cursor t refl le
      (record { early = h.fresh.early; above = λ none i above. absurd (omega (arith, none)) }) h;
}

-- ---- the exchange of addresses

pub addresses_say : (s : SeatState) (now : ℕ) (ms : List Message) → AreAddresses ms → Says Always now ms s (record s { answer = Some now })
addresses_say s now ms all = record {
  follows = λ f lost t so h.
      alike_follows f lost s t (with_said now ms f.proven t) s.cursor (Some now) s.question (said_alike f now ms t (addresses_light ms all.1)) h
      (λ i lt known. addresses_keep i now f.proven ms t all.1 (h.haves i lt known))
      (addresses_fresh s.cursor now f.proven ms t lost.haves all.1 h.fresh)
      (record { answered = sym (addresses_answer now f.proven ms t all); asked = h.exchange.asked ∙ sym (addresses_question now f.proven ms t all.1) });
}

pub question_goes : (s : SeatState) (now : ℕ) → Goes Always (Said now PexReq) s (record s { question = Some now })
question_goes s now = record {
  follows = λ f lost t so h.
      alike_follows f lost s t (with_said now (PexReq ∷ []) f.proven t) s.cursor s.answer (Some now) (said_alike f now (PexReq ∷ []) t (tt, tt)) h
      h.haves h.fresh (record { answered = h.exchange.answered; asked = refl });
}
