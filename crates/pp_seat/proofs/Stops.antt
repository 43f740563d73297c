-- Where the promises let a channel be asked for more.
use Rattle.std.proofs.Common.{◌≡◌, ℕ, ◌+◌, ◌<◌, ◌≤◌, eqb, nat_lt, Bool, true, false, cond, not, ◌&&◌, ◌||◌, Option, Some, None, List, [], ◌∷◌, length, refl, sym, ◌∙◌, ap, subst, arith}
use Rattle.std.specs.Prelude.{is_some, option_map}
use Rattle.std.specs.List.{filter}
use Rattle.std.proofs.lemmas.Bool.{and_parts, le-leb, or_right, eq-eqb, ltb-true}
use Rattle.std.proofs.lemmas.Bool.Decides.{nat_tests}
use Rattle.pp_terms.specs.format.Traffic.{Record}
use Rattle.pp_terms.specs.format.Descriptor.{Descriptor}
use Rattle.pp_traffic.specs.Past.{now}
use Rattle.pp_traffic.specs.Life.{Life, comes_on}
use Rattle.pp_traffic.specs.Story.{Line, Taken}
use Rattle.pp_traffic.specs.Fates.{clock}
use Rattle.pp_promises.specs.OwnSide.{OwnRequest, is_expired, request_for, outstanding, own_requests, waiting_time, has_expired, stops_asking, is_stopped, asking, most_asked, may_ask}
use Rattle.pp_promises.specs.ReadStory.{is_read, read_story}
use Rattle.pp_requests.specs.declared.asking.Asking.{Asking}
use Rattle.pp_requests.specs.Moments.{asked_at, entry_of, IsRisingFrom, NoneExpired, NoneLost}
use Rattle.pp_requests.proofs.Chunks.{asked_entry, entry_least}
use Rattle.pp_seat.specs.Own.{room_of}
use Rattle.pp_seat.specs.Awaited.{request_of, AreAwaited, StopsAreTold}
use Rattle.pp_seat.proofs.OwnRequests.{any_passes, shorter, others_stay}
use Rattle.pp_seat.proofs.Outstanding.{own_out, own_is_asking}

-- ---- asking stays stopped

stays : (d : Descriptor) (life : Life) (r : Record) (past : List Record) → life.opening ≤ length past → (comes_on d life r && is_read d life (r ∷ past)) ≡ false
    → is_stopped d life past ≡ true → is_stopped d life (r ∷ past) ≡ true
stays d life r past begun elsewhere stopped =
    ap (λ (b : Bool). cond b (stops_asking r (read_story d life (r ∷ past))
    || (not (comes_on d life r && is_read d life (r ∷ past)) && is_stopped d life past)) false) (le-leb life.opening (length past) begun)
    ∙ or_right (stops_asking r (read_story d life (r ∷ past))) (not (comes_on d life r && is_read d life (r ∷ past)) && is_stopped d life past)
    (ap (λ (b : Bool). not b && is_stopped d life past) elsewhere ∙ stopped)

-- ---- asking stops

outstanding_is : (n : ℕ) (o : Option OwnRequest) (q : OwnRequest) → outstanding n o ≡ Some q → o ≡ Some q
outstanding_is n None q e = absurd (cc)
outstanding_is n (Some x) q e = by (Rattle.pp_promises.specs.OwnSide.is_outstanding n x) e
  where
    by : (b : Bool) → cond b (Some x) None ≡ Some q → Some x ≡ Some q
    by true is = is
    by false is = absurd (cc)

stops : (own : List Asking) (story : List Line) (now i moment : ℕ) → AreAwaited own story → NoneExpired own (clock story) → NoneLost own
    → asked_at own i ≡ Some moment → moment + waiting_time ≤ now → has_expired (Taken now ∷ story) ≡ true
stops own story now i moment is early kept asked old = by (entry_of own i) refl (sym (asked_entry own i) ∙ asked)
  where
    by : (o : Option Asking) → entry_of own i ≡ o → option_map (λ (x : Asking). x.moment) o ≡ Some moment → has_expired (Taken now ∷ story) ≡ true
    by None entry e = absurd (cc)
    by (Some x) entry e =
        let same : x.moment ≡ moment = cc in
        any_passes (is_expired now) i (request_of x) (own_requests story)
        (outstanding_is (clock story) (request_for i (own_requests story)) (request_of x)
        (sym (is i) ∙ own_out (clock story) own early kept i ∙ ap (λ (o : Option Asking). option_map request_of o) entry))
        (le-leb (x.moment + waiting_time) now (omega arith))

pub stops_are_told : StopsAreTold
stops_are_told = record { stays = stays; stops = stops }

-- ---- room

-- own requests that are all in a list are no more than that has
no_more : (own : List Asking) (low : ℕ) (requests : List OwnRequest) → IsRisingFrom low own
    → ((i : ℕ) (x : Asking) → entry_of own i ≡ Some x → is_some (request_for i requests) ≡ true) → length own ≤ length requests
no_more [] low requests rising all = omega arith
no_more (x ∷ xs) low requests rising all =
    let fewer = shorter x.chunk requests (all x.chunk x here) in
    let rest = no_more xs (x.chunk + 1) (filter (λ q. not (eqb q.chunk x.chunk)) requests) rising.1 later in
    omega arith
  where
    here : cond (eqb x.chunk x.chunk) (Some x) (entry_of xs x.chunk) ≡ Some x
    here = ap (λ (b : Bool). cond b (Some x) (entry_of xs x.chunk)) (eq-eqb x.chunk x.chunk refl)

    later : (i : ℕ) (y : Asking) → entry_of xs i ≡ Some y → is_some (request_for i (filter (λ q. not (eqb q.chunk x.chunk)) requests)) ≡ true
    later i y e =
        let beyond = entry_least xs (x.chunk + 1) i y rising.1 e in
        let other : eqb x.chunk i ≡ false = grind (arith, nat_tests) in
        ap (λ (o : Option OwnRequest). is_some o) (others_stay x.chunk i requests (λ same. absurd (omega arith)))
        ∙ all i y (ap (λ (b : Bool). cond b (Some x) (entry_of xs i)) other ∙ e)

pub room_for_more : (d : Descriptor) (life : Life) (past : List Record) (own : List Asking) (stopped : Bool) → IsRisingFrom 0 own
    → AreAwaited own (read_story d life past) → NoneExpired own (now past) → NoneLost own → stopped ≡ is_stopped d life past
    → may_ask (asking d life past) ≡ true → 0 < room_of stopped own
room_for_more d life past own stopped rising awaited none kept same may =
    let p = and_parts (not (asking d life past).is_choked) (nat_lt (length (asking d life past).requests) (most_asked (is_stopped d life past))) may in
    let few = ltb-true (length (asking d life past).requests) (most_asked (is_stopped d life past)) p.1 in
    let most = no_more own 0 (asking d life past).requests rising
    (λ i x e. ap (λ (o : Option OwnRequest). is_some o) (sym (own_is_asking d life own past awaited none kept i) ∙ ap (λ (o : Option Asking). option_map request_of o) e)) in
    subst (λ (b : Bool). 0 < room_of b own) (sym same) (omega arith)
