-- Rows of acts, from act to act.
use Rattle.std.proofs.Common.{◌≡◌, ℕ, zero, suc, ◌+◌, ◌-◌, ◌<◌, ◌≤◌, Bool, true, false, cond, Option, Some, None, is_some, List, [], ◌∷◌, ◌++◌, length, get_or, take, drop, refl, sym, ◌∙◌, ap, arith, zero-add}
use Rattle.std.specs.Option.{option_map_or}
use Rattle.std.proofs.lemmas.List.{drop_more, take_more, length-drop}
use Rattle.pp_traffic.specs.declared.entries.Entry as flown
use Rattle.pp_traffic.specs.Meter.{covers, hits, oldest}
use Rattle.pp_recorded.specs.declared.acts.Act.{Act}
use Rattle.pp_recorded.specs.declared.flying.Flown.{Flown}
use Rattle.pp_recorded.specs.Flying.{lands, is_acked, flying_of, oldest_of, counted}
use Rattle.pp_recorded.proofs.Flights.{hits_cons}

pub take_step : {X : Type 0} (n : ℕ) (xs ys : List X) (x : X) → 0 < n → xs ≡ x ∷ ys → take n xs ≡ x ∷ take (n - 1) ys
take_step zero xs ys x lt e = absurd (omega arith)
take_step (suc n) xs ys x lt e = let less : suc n - 1 ≡ n = omega arith in rw (e, less) refl

pub drop_step : {X : Type 0} (n : ℕ) (xs ys : List X) (x : X) → 0 < n → xs ≡ x ∷ ys → drop n xs ≡ drop (n - 1) ys
drop_step zero xs ys x lt e = absurd (omega arith)
drop_step (suc n) xs ys x lt e = let less : suc n - 1 ≡ n = omega arith in rw (e, less) refl

pub acked_step : (i : ℕ) (act : Act) (acts : List Act) → lands i act ≡ false → is_acked i (act ∷ acts) ≡ is_acked i acts
acked_step i act acts e = rw e refl

pub none_more : {X Y : Type 0} (f : X → Y) (o : Option X) (y : Y) → is_some o ≡ false → option_map_or f o y ≡ y
none_more f None y e = refl
none_more f (Some x) y e = absurd cc

-- a row with the act behind it
pub record IsMore {X : Type 0} (n : ℕ) (xs ys : List X) (x : X) : Type 0 where
  pub taken : take (n + 1) xs ≡ take n xs ++ x ∷ []
  pub behind : drop (n + 1) xs ≡ ys

pub one_more : {X : Type 0} (n : ℕ) (xs ys : List X) (x : X) → drop n xs ≡ x ∷ ys → IsMore n xs ys x
one_more {X = X} n xs ys x e =
    let long = ap (λ (zs : List X). length zs) e in
    let lt : n < length xs = omega (arith, length-drop n xs, long) in
    let both : get_or xs n x ∷ drop (n + 1) xs ≡ x ∷ ys = sym (drop_more xs n x lt) ∙ e in
    let head : get_or xs n x ≡ x = cc in
    record {
      taken = take_more xs n x lt ∙ ap (λ (y : X). take n xs ++ y ∷ []) head;
      behind = cc;
    }

-- ---- what is counted of a flight, and what is left to be

abbrev pub earlier : Option ℕ → Option ℕ → Option ℕ
earlier None other = other
earlier (Some sent_at) other = Some sent_at

pub record IsCounted (first last : ℕ) (f : Flown) (left whole : List flown.Entry) : Type 0 where
  pub total : length whole ≡ f.total + length left
  pub hits : hits first last whole ≡ f.hits + hits first last left
  pub sent : oldest first last whole ≡ earlier f.sent_at (oldest first last left)

pub counted_none : (first last : ℕ) (whole : List flown.Entry) → IsCounted first last (record { total = 0; hits = 0; sent_at = None }) whole whole
counted_none first last whole = record {
  total = sym (zero-add (length whole));
  hits = sym (zero-add (hits first last whole));
  sent = refl;
}

pub counted_end : (first last : ℕ) (f : Flown) (left whole : List flown.Entry) → IsCounted first last f left whole → left ≡ []
    → (f.total ≡ length whole) × (f.hits ≡ hits first last whole) × (f.sent_at ≡ oldest first last whole)
counted_end first last f left whole is none = (
  let t = is.total ∙ ap (λ (es : List flown.Entry). f.total + length es) none in omega (arith, t),
  let h = is.hits ∙ ap (λ (es : List flown.Entry). f.hits + hits first last es) none in omega (arith, h),
  sym (is.sent ∙ ap (λ (es : List flown.Entry). earlier f.sent_at (oldest first last es)) none ∙ by f.sent_at),
)
  where
    by : (o : Option ℕ) → earlier o None ≡ o
    by None = refl
    by (Some sent_at) = refl

-- a chunk more that flies
pub counted_more : (first last chunk now : ℕ) (f : Flown) (behind : List Act) (left whole : List flown.Entry)
    → IsCounted first last f (flying_of chunk now behind ∷ left) whole → IsCounted first last (counted first last chunk now f) left whole
counted_more first last chunk now f behind left whole is =
    let e = flying_of chunk now behind in
    record {
      total = is.total ∙ (let n : f.total + length (e ∷ left) ≡ f.total + 1 + length left = omega arith in n);
      hits = is.hits ∙ ap (λ (n : ℕ). f.hits + n) (hits_cons first last e left) ∙ one (covers first last e) f.hits (hits first last left);
      sent = is.sent ∙ first_of (covers first last e) f.sent_at (oldest first last left);
    }
  where
    one : (b : Bool) (m n : ℕ) → m + (cond b 1 0 + n) ≡ cond b (m + 1) m + n
    one true m n = omega arith
    one false m n = omega arith

    first_of : (b : Bool) (o p : Option ℕ) → earlier o (cond b (Some now) p) ≡ earlier (cond b (oldest_of o now) o) p
    first_of true None p = refl
    first_of true (Some sent_at) p = refl
    first_of false o p = refl

-- an act more, by which a chunk flies or none
pub record IsStep (first last total count : ℕ) (f : Flown) (left whole : List flown.Entry) : Type 0 where
  pub room : f.total + (count - 1) ≤ total
  pub few : f.hits ≤ f.total
  pub counted : IsCounted first last f left whole

pub counted_step : (first last total count : ℕ) (sending : Option (ℕ × ℕ)) (f : Flown) (behind : List Act) (left whole : List flown.Entry)
    → 0 < count → f.total + count ≤ total → f.hits ≤ f.total
    → IsCounted first last f (option_map_or (λ x. flying_of x.0 x.1 behind ∷ left) sending left) whole
    → IsStep first last total count (option_map_or (λ x. counted first last x.0 x.1 f) sending f) left whole
counted_step first last total count None f behind left whole some room few is = record { room = omega (arith, room); few = few; counted = is }
counted_step first last total count (Some x) f behind left whole some room few is = record {
  room = omega (arith, room, some);
  few = within (covers first last (flying_of x.0 x.1 behind));
  counted = counted_more first last x.0 x.1 f behind left whole is;
}
  where
    within : (b : Bool) → cond b (f.hits + 1) f.hits ≤ f.total + 1
    within true = omega (arith, few)
    within false = omega (arith, few)
