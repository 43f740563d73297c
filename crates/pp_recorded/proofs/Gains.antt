-- Of many chunks that are acknowledged at once, some move a window as far as all.
use Rattle.std.proofs.Common.{◌≡◌, ℕ, zero, suc, ◌+◌, ◌-◌, ◌*◌, ◌/◌, ◌^◌, ◌<◌, ◌≤◌, min, max, ltb, Bool, true, false, cond, pos, negsuc, neg_ℤ, ◌+ℤ◌, ◌-ℤ◌, ◌*ℤ◌, ⊎_elim, refl, sym, ◌∙◌, ap, arith}
use Rattle.std.proofs.lemmas.Bool.{ltb-true, ltb-false, cases_lt, cases_order, lt-ltb}
use Rattle.std.proofs.lemmas.Int.{ints}
use Rattle.std.proofs.lemmas.Nat.{le-div, div_below, mul-le, mul-lt}
use Rattle.std.specs.Prelude.{ℤ}
use Rattle.std.specs.Int.{int_min}
use Rattle.pp_traffic.specs.Gain.{floored, natural, gain, gained}

-- ---- between two chunks and 512

abbrev clip : (chunk moved room : ℕ) → ℕ
clip chunk moved room = min (512 * chunk) (max (2 * chunk) (min moved room))

natural_min : (x : ℤ) (n : ℕ) → natural (int_min x (pos n)) ≡ min (natural x) n
natural_min (pos m) n = by (ltb n m) refl
  where
    by : (b : Bool) → ltb n m ≡ b → natural (cond b (pos n) (pos m)) ≡ min m n
    by true e = let lt = ltb-true n m e in omega (arith, lt)
    by false e = let le = ltb-false n m e in omega (arith, le)
natural_min (negsuc m) n = omega arith

abbrev move : (window acked queuing chunk : ℕ) → ℕ
move window acked queuing chunk = natural (pos window +ℤ gain window acked queuing chunk)

is_clipped : (window acked queuing chunk flight : ℕ) → gained window acked queuing chunk flight ≡ clip chunk (move window acked queuing chunk) (flight + chunk)
is_clipped window acked queuing chunk flight =
    ap (λ (n : ℕ). min (512 * chunk) (max (2 * chunk) n)) (natural_min (pos window +ℤ gain window acked queuing chunk) (flight + chunk))

clip_far : (chunk m n room : ℕ) → 512 * chunk ≤ m → 512 * chunk ≤ n → clip chunk m room ≡ clip chunk n room
clip_far chunk m n room p q = omega arith

clip_roomy : (chunk moved m n : ℕ) → 512 * chunk ≤ m → 512 * chunk ≤ n → clip chunk moved (m + chunk) ≡ clip chunk moved (n + chunk)
clip_roomy chunk moved m n p q = omega arith

-- ---- the chunks that fly

clip_total : (chunk moved total : ℕ) → clip chunk moved (min total (2 ^ 36) * chunk + chunk) ≡ clip chunk moved (total * chunk + chunk)
clip_total chunk moved total = ⊎_elim few lots (cases_lt total (2 ^ 36))
  where
    few : total < 2 ^ 36 → clip chunk moved (min total (2 ^ 36) * chunk + chunk) ≡ clip chunk moved (total * chunk + chunk)
    few lt = ap (λ (n : ℕ). clip chunk moved (n * chunk + chunk)) (let e : min total (2 ^ 36) ≡ total = omega arith in e)

    lots : 2 ^ 36 ≤ total → clip chunk moved (min total (2 ^ 36) * chunk + chunk) ≡ clip chunk moved (total * chunk + chunk)
    lots le =
        let e : min total (2 ^ 36) ≡ 2 ^ 36 = omega arith in
        let far : 2 ^ 36 * chunk ≤ total * chunk = mul-le (2 ^ 36) chunk total chunk le (omega arith) in
        ap (λ (n : ℕ). clip chunk moved (n * chunk + chunk)) e ∙ clip_roomy chunk moved (2 ^ 36 * chunk) (total * chunk) (omega arith) (omega (arith, far))

-- ---- those that are acknowledged

-- how far many chunks move a window, for each microsecond of the delay
far : (window hits chunk excess : ℕ) → window ≤ 512 * chunk → 2 ^ 36 ≤ hits → 0 < excess
    → 512 * chunk * (100000 * window) + chunk * chunk ≤ excess * (hits * chunk) * chunk
far window hits chunk excess most lots some =
    let square = chunk * chunk in
    let wide : window * chunk ≤ 512 * chunk * chunk = mul-le window chunk (512 * chunk) chunk most (omega arith) in
    let long : 2 ^ 36 * square ≤ hits * square = mul-le (2 ^ 36) square hits square lots (omega arith) in
    let more : 1 * (hits * square) ≤ excess * (hits * square) = mul-le 1 (hits * square) excess (hits * square) some (omega arith) in
    let left : 512 * chunk * (100000 * window) ≡ 51200000 * (window * chunk) = grind arith in
    let right : excess * (hits * chunk) * chunk ≡ excess * (hits * square) = grind arith in
    let wider : 512 * chunk * chunk ≡ 512 * square = grind arith in
    omega (arith, wide, long, more, left, right, wider)

rises : (window hits queuing chunk : ℕ) → 0 < window → window ≤ 512 * chunk → 2 ^ 36 ≤ hits → queuing < 100000
    → 512 * chunk ≤ move window (hits * chunk) queuing chunk
rises window hits queuing chunk some most lots low =
    let gap : pos 100000 -ℤ pos queuing ≡ pos (100000 - queuing) = omega (arith, ints) in
    let goes = far window hits chunk (100000 - queuing) most lots (omega arith) in
    let rise = le-div (512 * chunk) ((100000 - queuing) * (hits * chunk) * chunk) (100000 * window) (omega arith) (omega (arith, goes)) in
    rw gap (omega (arith, rise))

level : (window acked chunk : ℕ) → 0 < window → move window acked 100000 chunk ≡ window
level window acked chunk some =
    let none : 0 * acked * chunk ≡ 0 = grind arith in
    let low = div_below (0 * acked * chunk) (100000 * window) 1 (omega arith) (omega (arith, none, some)) in
    omega (arith, low)

neg_some : (n : ℕ) → 0 < n → neg_ℤ (pos n) ≡ negsuc (n - 1)
neg_some zero some = absurd (omega arith)
neg_some (suc n) some = ap (λ (k : ℕ). negsuc k) (let e : n ≡ suc n - 1 = omega arith in e)

product : (n a c : ℕ) → 0 < a → 0 < c → negsuc n *ℤ pos a *ℤ pos c ≡ negsuc (suc n * a * c - 1)
product n a c p q =
    let one : 0 < suc n * a = mul-lt 0 0 (suc n) a (omega arith) p in
    let both : 0 < suc n * a * c = mul-lt 0 0 (suc n * a) c one q in
    let e : suc (suc n * a - 1) ≡ suc n * a = omega arith in
    ap (λ (z : ℤ). z *ℤ pos c) (neg_some (suc n * a) one)
    ∙ ap (λ (k : ℕ). neg_ℤ (pos (k * c))) e
    ∙ neg_some (suc n * a * c) both

none_left : (window fall : ℕ) → window ≤ fall → natural (pos window +ℤ negsuc fall) ≡ 0
none_left window fall le = rw (lt-ltb window (suc fall) (omega arith)) refl

falls : (window hits queuing chunk : ℕ) → 0 < chunk → 0 < window → window ≤ 512 * chunk → 2 ^ 36 ≤ hits → 100000 < queuing
    → move window (hits * chunk) queuing chunk ≡ 0
falls window hits queuing chunk positive some most lots high =
    let n = queuing - 100001 in
    let gap : pos 100000 -ℤ pos queuing ≡ negsuc (queuing - 100001) = omega (arith, ints) in
    let goes = far window hits chunk (suc n) most lots (omega arith) in
    let less : window * (100000 * window) ≤ 512 * chunk * (100000 * window) = mul-le window (100000 * window) (512 * chunk) (100000 * window) most (omega arith) in
    let square : 0 < chunk * chunk = mul-lt 0 0 chunk chunk positive positive in
    let acked : 0 < hits * chunk = mul-lt 0 0 hits chunk (omega (arith, lots)) positive in
    let fall = le-div window (suc n * (hits * chunk) * chunk - 1) (100000 * window) (omega (arith, some)) (omega (arith, goes, less, square)) in
    ap (λ (z : ℤ). natural (pos window +ℤ floored (z *ℤ pos (hits * chunk) *ℤ pos chunk) (100000 * window))) gap
    ∙ ap (λ (z : ℤ). natural (pos window +ℤ floored z (100000 * window))) (product n (hits * chunk) chunk acked positive)
    ∙ none_left window ((suc n * (hits * chunk) * chunk - 1) / (100000 * window)) fall

pub gained_capped : (window hits queuing chunk total : ℕ) → 0 < chunk → 0 < window → window ≤ 512 * chunk
    → gained window (min hits (2 ^ 36) * chunk) queuing chunk (min total (2 ^ 36) * chunk) ≡ gained window (hits * chunk) queuing chunk (total * chunk)
gained_capped window hits queuing chunk total positive some most =
    is_clipped window (min hits (2 ^ 36) * chunk) queuing chunk (min total (2 ^ 36) * chunk)
    ∙ clip_total chunk (move window (min hits (2 ^ 36) * chunk) queuing chunk) total
    ∙ ⊎_elim few lots (cases_lt hits (2 ^ 36))
    ∙ sym (is_clipped window (hits * chunk) queuing chunk (total * chunk))
  where
    few : hits < 2 ^ 36 → clip chunk (move window (min hits (2 ^ 36) * chunk) queuing chunk) (total * chunk + chunk) ≡ clip chunk (move window (hits * chunk) queuing chunk) (total * chunk + chunk)
    few lt = ap (λ (n : ℕ). clip chunk (move window (n * chunk) queuing chunk) (total * chunk + chunk)) (let e : min hits (2 ^ 36) ≡ hits = omega arith in e)

    lots : 2 ^ 36 ≤ hits → clip chunk (move window (min hits (2 ^ 36) * chunk) queuing chunk) (total * chunk + chunk) ≡ clip chunk (move window (hits * chunk) queuing chunk) (total * chunk + chunk)
    lots le = ap (λ (n : ℕ). clip chunk (move window (n * chunk) queuing chunk) (total * chunk + chunk)) (let e : min hits (2 ^ 36) ≡ 2 ^ 36 = omega arith in e) ∙ ⊎_elim is (λ o. ⊎_elim below above o) (cases_order queuing 100000)
      where
        is : queuing ≡ 100000 → clip chunk (move window (2 ^ 36 * chunk) queuing chunk) (total * chunk + chunk) ≡ clip chunk (move window (hits * chunk) queuing chunk) (total * chunk + chunk)
        is e = rw (e, level window (2 ^ 36 * chunk) chunk some, level window (hits * chunk) chunk some) refl

        below : queuing < 100000 → clip chunk (move window (2 ^ 36 * chunk) queuing chunk) (total * chunk + chunk) ≡ clip chunk (move window (hits * chunk) queuing chunk) (total * chunk + chunk)
        below lt =
            clip_far chunk (move window (2 ^ 36 * chunk) queuing chunk) (move window (hits * chunk) queuing chunk) (total * chunk + chunk)
            (rises window (2 ^ 36) queuing chunk some most (omega arith) lt) (rises window hits queuing chunk some most le lt)

        above : 100000 < queuing → clip chunk (move window (2 ^ 36 * chunk) queuing chunk) (total * chunk + chunk) ≡ clip chunk (move window (hits * chunk) queuing chunk) (total * chunk + chunk)
        above lt = ap (λ (n : ℕ). clip chunk n (total * chunk + chunk)) (falls window (2 ^ 36) queuing chunk positive some most (omega arith) lt ∙ sym (falls window hits queuing chunk positive some most le lt))
