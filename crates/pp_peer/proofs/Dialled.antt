-- Which addresses are dialled.
use Rattle.std.proofs.Common.{◌≡◌, ◌⊎◌, inl, inr, ℕ, ◌+◌, ◌<◌, ◌≤◌, Bool, true, false, Option, Some, None, List, [], ◌∷◌, ◌++◌, length, take, drop, get_or, refl, sym, ◌∙◌, ap, subst, arith}
use Rattle.std.specs.Prelude.{nat_lt, MatchBool}
use Rattle.std.specs.List.{refill}
use Rattle.std.proofs.Math.ListN.{set}
use Rattle.std.proofs.lemmas.Bool.{lt-ltb, le-ltb}
use Rattle.std.proofs.lemmas.List.{length-set, take_more, take_more_set, take_all, drop_more, drop-set-lt}
use Rattle.pp_terms.specs.disk.Disk.{DiskState}
use Rattle.pp_terms.specs.format.Traffic.{LinkState}
use Rattle.pp_terms.proofs.Risings.{gains_nothing}
use Rattle.pp_counts.specs.declared.counts.Counts.{Counts}
use Rattle.pp_outside.specs.declared.link.Address.{Address}
use Rattle.pp_channels.specs.Seats.{used_of}
use Rattle.pp_pex.specs.Exchange.{Exchange}
use Rattle.pp_seats.specs.Standing as seats
use Rattle.pp_seats.proofs.Lists.{refilled}
use Rattle.pp_peer.specs.declared.dialling.Dial.{Dial}
use Rattle.pp_peer.specs.declared.dialling.DialState.{DialState}
use Rattle.pp_peer.specs.declared.dialling.DialState.TheVariants.{Seated}
use Rattle.pp_peer.specs.declared.parts.Parts.{Parts}
use Rattle.pp_peer.specs.Flushing.{Scene, Flushes}
use Rattle.pp_peer.specs.Dialling.{Tries, OnlyDials, has_channel, is_due, noticed, after_dial, StepsDial, DialsEach, with_queue, DialsFirst, HasNoneToDial, DialsSuggested}
use Rattle.pp_peer.proofs.Flushed.{flushes_none, flushes_twice}
use Rattle.pp_peer.proofs.Ending.{stands_same}
use Rattle.pp_peer.proofs.Greeted.{fetches_kept, dial_flushes}

-- ---- what is sent

-- What each step of dialling does.
pub record IsDialling (old new : Scene) : Type 0 where
  pub flushes : Flushes 0 old new
  pub only : OnlyDials old.parts new.parts

dialling_none : (s : Scene) → IsDialling s s
dialling_none s = record { flushes = flushes_none s; only = refl }

dialling_same : (old new : Scene) → new ≡ old → IsDialling old new
dialling_same old new same = subst (λ (s : Scene). IsDialling old s) (sym same) (dialling_none old)

dialling_twice : (a b c : Scene) → IsDialling a b → IsDialling b c → IsDialling a c
dialling_twice a b c one two = record {
  flushes = flushes_twice 0 0 a b c one.flushes two.flushes;
  only = two.only ∙ ap (λ (p : Parts). record p {
    seats = c.parts.seats;
    counts = c.parts.counts;
    pex = record p.pex { queue = c.parts.pex.queue };
  }) one.only;
}

same_scene : (old new : Scene) → new.parts ≡ old.parts → new.link ≡ old.link → new.disk ≡ old.disk → new ≡ old
same_scene old new parts link disk =
    ap (λ (p : Parts). record { parts = p; link = new.link; disk = new.disk }) parts
    ∙ ap (λ (l : LinkState). record { parts = old.parts; link = l; disk = new.disk }) link
    ∙ ap (λ (d : DiskState). record { parts = old.parts; link = old.link; disk = d }) disk

pub tries_only : (to : Address) (sent : Option Bool) (old new : Scene) → Tries to sent old new
    → new.parts ≡ record old.parts { seats = new.parts.seats; counts = new.parts.counts }
tries_only to None old new t = t.1.same
    ∙ ap (λ (p : Parts). record old.parts { seats = p.seats; counts = p.counts }) (sym t.1.same)
tries_only to (Some took) old new t = t.1.rest
    ∙ ap (λ (k : Counts). record old.parts { seats = new.parts.seats; counts = k }) (sym (ap (λ (p : Parts). p.counts) t.1.rest))

pub tries_queue : (to : Address) (sent : Option Bool) (old new : Scene) → Tries to sent old new → new.parts.pex ≡ old.parts.pex
tries_queue to sent old new t = ap (λ (p : Parts). p.pex) (tries_only to sent old new t)

pub tries_flushes : (to : Address) (sent : Option Bool) (old new : Scene) → Tries to sent old new → Flushes 0 old new
tries_flushes to None old new t =
    subst (λ (s : Scene). Flushes 0 old s) (sym (same_scene old new t.1.same t.1.none.link_same t.0)) (flushes_none old)
tries_flushes to (Some took) old new t =
    subst (λ (d : DiskState). Flushes 0 old (record new { disk = d })) (sym t.0)
    (dial_flushes to took old.parts new.parts old.link new.link old.disk t.1)

pub dialling_tries : (to : Address) (sent : Option Bool) (old new : Scene) → Tries to sent old new → IsDialling old new
dialling_tries to sent old new t = record {
  flushes = tries_flushes to sent old new t;
  only = tries_only to sent old new t
      ∙ ap (λ (x : Exchange). record old.parts {
        seats = new.parts.seats;
        counts = new.parts.counts;
        pex = record old.parts.pex { queue = x.queue };
      }) (sym (tries_queue to sent old new t));
}

-- What was suggested says nothing of what a peer stands for.
pub dialling_queue : (queue : List Address) (s : Scene) → IsDialling s (with_queue queue s)
dialling_queue queue s = record {
  flushes = record {
    added = [];
    gained = gains_nothing s.link.traffic s.link.traffic refl;
    nexts = refl;
    bound = refl;
    later = omega arith;
    ours = tt;
    seeds = λ none. record { fetching = none; asks = refl };
    waits = record { turns = refl; receive_faults = refl };
    reads = record { tells = refl; honest = refl; same = refl; faults = omega arith; hard = omega arith };
    holding = refl;
    swarm = refl;
    moment = refl;
    stands = λ b most past since h. stands_same b most (most + 0) s.parts (with_queue queue s).parts past refl
        (record { datagrams = refl; short = refl; sent = refl })
        (λ x h. subst (λ (n : ℕ). seats.StandsFor x n s.parts.seats past) (zero_more most) h)
        (fetches_kept s.parts (with_queue queue s).parts refl refl (λ n far. far)) h;
  };
  only = refl;
}
  where
    zero_more : (n : ℕ) → n ≡ n + 0
    zero_more n = omega arith

-- ---- the addresses that a peer was told to dial

pub of_match : {P Q R : Type 0} → (b : Bool) → (P → R) → (Q → R) → MatchBool b P Q → R
of_match true f g h = f h
of_match false f g h = g h

matched_true : {P : Type 0} (Q : Type 0) → (b : Bool) → b ≡ true → P → MatchBool b P Q
matched_true Q true e p = p
matched_true Q false e p = absurd cc

matched_false : {Q : Type 0} (P : Type 0) → (b : Bool) → b ≡ false → Q → MatchBool b P Q
matched_false P true e q = absurd cc
matched_false P false e q = q

pub step_seated : (dial : Dial) (s : Scene) → has_channel s.parts dial.address ≡ true → StepsDial dial Seated s s
step_seated dial s has = matched_true _ (has_channel s.parts dial.address) has (refl, refl)

module _ (dial : Dial) (state : DialState) (a b : Scene) (has : has_channel a.parts dial.address ≡ false) where
  pub step_noticed : is_due a.parts.seats.moment dial.state ≡ false → b ≡ a → state ≡ noticed a.parts.seats.moment dial.state
      → StepsDial dial state a b
  step_noticed due same is = matched_false _ (has_channel a.parts dial.address) has
      (matched_false _ (is_due a.parts.seats.moment dial.state) due (same, is))

  pub step_dialled : (sent : Option Bool) → is_due a.parts.seats.moment dial.state ≡ true → Tries dial.address sent a b
      → state ≡ after_dial a.parts.seats.moment dial.state sent → StepsDial dial state a b
  step_dialled sent due tries is =
      matched_false _ (has_channel a.parts dial.address) has (matched_true _ (is_due a.parts.seats.moment dial.state) due (sent, tries, is))

pub dialling_step : (dial : Dial) (state : DialState) (a b : Scene) → StepsDial dial state a b → IsDialling a b
dialling_step dial state a b h =
    of_match (has_channel a.parts dial.address) (λ p. dialling_same a b p.0)
    (λ q. of_match (is_due a.parts.seats.moment dial.state) (λ p. dialling_tries dial.address p.0 a b p.1) (λ p. dialling_same a b p.0) q) h

dialling_each : (dials lefts : List Dial) (a b : Scene) → DialsEach dials lefts a b → IsDialling a b
dialling_each [] [] a b h = dialling_same a b h
dialling_each [] (left ∷ lefts) a b h = absurd h
dialling_each (dial ∷ dials) [] a b h = absurd h
dialling_each (dial ∷ dials) (left ∷ lefts) a c h =
    dialling_twice a h.0 c (dialling_step dial left.state a h.0 h.2) (dialling_each dials lefts h.0 c h.3)

-- one more of them
each_then : (dials lefts : List Dial) (dial left : Dial) (a b c : Scene) → DialsEach dials lefts a b → left.address ≡ dial.address
    → StepsDial dial left.state b c
    → DialsEach (dials ++ dial ∷ []) (lefts ++ left ∷ []) a c
each_then [] [] dial left a b c h same step = (c, same, subst (λ (s : Scene). StepsDial dial left.state s c) h step, refl)
each_then [] (other ∷ lefts) dial left a b c h same step = absurd h
each_then (other ∷ dials) [] dial left a b c h same step = absurd h
each_then (one ∷ dials) (other ∷ lefts) dial left a b c h same step =
    (h.0, h.1, h.2, each_then dials lefts dial left h.0 b c h.3 same step)

first_of : Dial → List Dial → Dial
first_of dial [] = dial
first_of dial (first ∷ rest) = first

rest_of : List Dial → List Dial
rest_of [] = []
rest_of (first ∷ rest) = rest

-- The addresses before a place were dialled where that was due, and those from there on are as they were.
pub record DialsUpTo (place : ℕ) (dials lefts : List Dial) (a b : Scene) : Type 0 where
  pub many : length lefts ≡ length dials
  pub each : DialsEach (take place dials) (take place lefts) a b
  pub rest : drop place lefts ≡ drop place dials

pub up_to_none : (dials : List Dial) (s : Scene) → DialsUpTo 0 dials dials s s
up_to_none dials s = record { many = refl; each = refl; rest = refl }

pub up_to_more : (place : ℕ) (dials lefts : List Dial) (dial : Dial) (state : DialState) (a b c : Scene) → place < length lefts
    → dial ≡ get_or lefts place dial
    → DialsUpTo place dials lefts a b → StepsDial dial state b c
    → DialsUpTo (place + 1) dials (set lefts place (record dial { state = state })) a c
unfolding first_of rest_of
up_to_more place dials lefts dial state a b c lt is h step = record {
  many = length-set lefts place (record dial { state = state }) ∙ h.many;
  each = subst (λ (xs : List Dial). DialsEach xs (take (place + 1) (set lefts place (record dial { state = state }))) a c) (sym before)
      (subst (λ (xs : List Dial). DialsEach (take place dials ++ dial ∷ []) xs a c)
      (sym (take_more_set lefts place (record dial { state = state }) lt))
      (each_then (take place dials) (take place lefts) dial (record dial { state = state }) a b c h.each refl step));
  rest = drop-set-lt (place + 1) lefts place (record dial { state = state }) (omega arith) ∙ ap rest_of after;
}
  where
    within : place < length dials
    within = let many = h.many in omega (arith, lt, many)

    after : (get_or lefts place dial ∷ drop (place + 1) lefts) ≡ (get_or dials place dial ∷ drop (place + 1) dials)
    after = sym (drop_more lefts place dial lt) ∙ h.rest ∙ drop_more dials place dial within

    before : take (place + 1) dials ≡ take place dials ++ dial ∷ []
    before = take_more dials place dial within
        ∙ ap (λ (d : Dial). take place dials ++ d ∷ []) (sym (ap (first_of dial) after) ∙ sym is)

pub up_to_all : (place : ℕ) (dials lefts : List Dial) (a b : Scene) → length dials ≤ place → DialsUpTo place dials lefts a b
    → DialsEach dials lefts a b
up_to_all place dials lefts a b past_all h =
    subst (λ (xs : List Dial). DialsEach xs lefts a b) (take_all place dials past_all)
    (subst (λ (xs : List Dial). DialsEach (take place dials) xs a b)
    (take_all place lefts (let many = h.many in omega (arith, many, past_all))) h.each)

-- ---- the addresses that were suggested

dialling_suggested : (queue : List Address) (a c : Scene) → DialsSuggested queue a c → IsDialling a c
dialling_suggested [] a c h = dialling_same a c h
dialling_suggested (address ∷ queue) a c h = of_match (nat_lt (used_of a.parts.seats.table) 32)
    (λ p. dialling_twice a p.1 c
    (dialling_twice a (with_queue queue a) p.1 (dialling_queue queue a) (dialling_tries address p.0 (with_queue queue a) p.1 p.2))
    (dialling_suggested queue p.1 c p.3))
    (λ p. dialling_same a c p) h

pub first_taken : (left : Exchange) (address : Address) (sent : Option Bool) (a c : Scene) → left.table ≡ a.parts.pex.table
    → a.parts.pex.queue ≡ address ∷ left.queue → used_of a.parts.seats.table < 32
    → Tries address sent (record a { parts = record a.parts { pex = left } }) c → DialsFirst a c
first_taken left address sent a c table first few tries = record {
  address = address;
  rest = left.queue;
  first = first;
  few = few;
  sent = sent;
  tries = subst
      (λ (t : List _). Tries address sent (record a { parts = record a.parts { pex = record { table = t; queue = left.queue } } }) c)
      table tries;
}

first_queue : (a b : Scene) (f : DialsFirst a b) → b.parts.pex.queue ≡ f.rest
first_queue a b f = ap (λ (x : Exchange). x.queue) (tries_queue f.address f.sent (with_queue f.rest a) b f.tries)

pub first_fewer : (a b : Scene) → DialsFirst a b → length b.parts.pex.queue < length a.parts.pex.queue
first_fewer a b f =
    let was : length a.parts.pex.queue ≡ length (f.address ∷ f.rest) = ap length f.first in
    let is : length b.parts.pex.queue ≡ length f.rest = ap length (first_queue a b f) in
    omega (arith, was, is)

pub first_then : (a b c : Scene) → DialsFirst a b → DialsSuggested b.parts.pex.queue b c → DialsSuggested a.parts.pex.queue a c
first_then a b c f h = subst (λ (queue : List Address). DialsSuggested queue a c) (sym f.first)
    (matched_true _ (nat_lt (used_of a.parts.seats.table) 32) (lt-ltb _ _ f.few)
    (f.sent, b, f.tries, subst (λ (queue : List Address). DialsSuggested queue b c) (first_queue a b f) h))

pub suggested_none : (s : Scene) → HasNoneToDial s.parts → DialsSuggested s.parts.pex.queue s s
suggested_none s none = of s.parts.pex.queue none
  where
    of : (queue : List Address) → (queue ≡ []) ⊎ (32 ≤ used_of s.parts.seats.table) → DialsSuggested queue s s
    of [] none = refl
    of (address ∷ queue) (inl none) = absurd cc
    of (address ∷ queue) (inr many) = matched_false _ (nat_lt (used_of s.parts.seats.table) 32) (le-ltb _ _ many) refl

pub suggested_end : (p q : Parts) (l m : LinkState) (d : DiskState) → q ≡ p → m ≡ l → HasNoneToDial q
    → DialsSuggested p.pex.queue (record { parts = p; link = l; disk = d }) (record { parts = q; link = m; disk = d })
suggested_end p q l m d same link_same none =
    subst (λ (x : Parts). DialsSuggested x.pex.queue (record { parts = x; link = l; disk = d }) (record { parts = q; link = m; disk = d }))
    same
    (subst
    (λ (k : LinkState). DialsSuggested q.pex.queue (record { parts = q; link = k; disk = d }) (record { parts = q; link = m; disk = d }))
    link_same
    (suggested_none (record { parts = q; link = m; disk = d }) none))

-- ---- all of them

pub each_refilled : (told items slice lefts : List Dial) (a b : Scene) → told ≡ items → slice ≡ items → length lefts ≡ length slice
    → DialsEach slice lefts a b
    → DialsEach told (refill (length items) items lefts) a b
each_refilled told items slice lefts a b told_is slice_is len h =
    subst (λ (xs : List Dial). DialsEach told xs a b)
    (sym (refilled lefts (drop (length lefts) items) (length items) (sym (len ∙ ap length slice_is))))
    (subst (λ (xs : List Dial). DialsEach xs lefts a b) (slice_is ∙ sym told_is) h)

pub all_dialling : (dials lefts : List Dial) (a b c : Scene) → DialsEach dials lefts a b → DialsSuggested b.parts.pex.queue b c
    → IsDialling a c
all_dialling dials lefts a b c each suggested =
    dialling_twice a b c (dialling_each dials lefts a b each) (dialling_suggested b.parts.pex.queue b c suggested)
