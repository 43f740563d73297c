-- What flies of a row of acts, with one act more.
use Rattle.std.proofs.Common.{◌≡◌, ℕ, suc, ◌+◌, ◌-◌, ◌<◌, ◌≤◌, leb, ltb, Bool, true, false, cond, not, ◌&&◌, ◌||◌, List, [], ◌∷◌, ◌++◌, length, refl, sym, ◌∙◌, ap, arith, zero-add}
use Rattle.std.proofs.lemmas.Bool.{leb-false, leb-true, le-leb, lt-leb, lt-ltb, or_parts}
use Rattle.std.proofs.lemmas.Bool.Decides.{nat_tests}
use Rattle.std.proofs.lemmas.List.{append-nil}
use Rattle.std.proofs.lemmas.List.Sums.{sum_by-cons}
use Rattle.pp_traffic.specs.declared.entries.Entry.{Entry}
use Rattle.pp_traffic.specs.Meter.{covers, hits, overtakes, flying, loses}
use Rattle.pp_traffic.proofs.Fresh.{AreFresh}
use Rattle.pp_recorded.specs.declared.acts.Act.{Act}
use Rattle.pp_recorded.specs.declared.acts.Act.TheVariants.{Sends, Acks, Waits, Other}
use Rattle.pp_recorded.specs.Flying.{lands, is_acked, passes, passed, flying_of, with_act, flight_of}

-- ---- an act that acknowledges nothing

abbrev IsSilent : Act → Type 0
IsSilent act = (i : ℕ) → lands i act ≡ false

acked_more : (i : ℕ) (acts : List Act) (act : Act) → is_acked i (acts ++ act ∷ []) ≡ (is_acked i acts || lands i act)
acked_more i [] act = by (lands i act)
  where
    by : (b : Bool) → (b || false) ≡ b
    by true = refl
    by false = refl
acked_more i (x ∷ later) act = by (lands i x) (acked_more i later act)
  where
    by : (b : Bool) → is_acked i (later ++ act ∷ []) ≡ (is_acked i later || lands i act)
        → (b || is_acked i (later ++ act ∷ [])) ≡ ((b || is_acked i later) || lands i act)
    by true e = refl
    by false e = e

acked_silent : (i : ℕ) (acts : List Act) (act : Act) → IsSilent act → is_acked i (acts ++ act ∷ []) ≡ is_acked i acts
acked_silent i acts act silent = acked_more i acts act ∙ by (is_acked i acts) (lands i act) (silent i)
  where
    by : (a b : Bool) → b ≡ false → (a || b) ≡ a
    by true b e = refl
    by false b e = e

none_pass : (act : Act) → passes act [] ≡ 0
none_pass (Sends chunk now) = refl
none_pass (Acks first last delay now) = refl
none_pass (Waits now) = refl
none_pass Other = refl

passes_silent : (x : Act) (acts : List Act) (act : Act) → IsSilent act → passes x (acts ++ act ∷ []) ≡ passes x acts
passes_silent (Sends chunk now) acts act silent = ap (λ (b : Bool). cond b 1 0) (acked_silent chunk acts act silent)
passes_silent (Acks first last delay now) acts act silent = refl
passes_silent (Waits now) acts act silent = refl
passes_silent Other acts act silent = refl

passed_silent : (acts : List Act) (act : Act) → IsSilent act → passed (acts ++ act ∷ []) ≡ passed acts
passed_silent [] act silent = let none = none_pass act in omega (arith, none)
passed_silent (x ∷ later) act silent =
    let one = passes_silent x later act silent in
    let more = passed_silent later act silent in
    omega (arith, one, more)

with_silent : (x : Act) (acts : List Act) (act : Act) (entries more : List Entry) → IsSilent act
    → with_act x (acts ++ act ∷ []) (entries ++ more) ≡ with_act x acts entries ++ more
with_silent (Sends chunk now) acts act entries more silent =
    rw (acked_silent chunk acts act silent, passed_silent acts act silent) (by (is_acked chunk acts || leb 3 (passed acts)))
  where
    by : (b : Bool) → cond b (entries ++ more) (flying_of chunk now acts ∷ (entries ++ more)) ≡ cond b entries (flying_of chunk now acts ∷ entries) ++ more
    by true = refl
    by false = refl
with_silent (Acks first last delay now) acts act entries more silent = refl
with_silent (Waits now) acts act entries more silent = refl
with_silent Other acts act entries more silent = refl

flight_silent : (acts : List Act) (act : Act) → IsSilent act → flight_of (acts ++ act ∷ []) ≡ flight_of acts ++ flight_of (act ∷ [])
flight_silent [] act silent = refl
flight_silent (x ∷ later) act silent =
    ap (λ (es : List Entry). with_act x (later ++ act ∷ []) es) (flight_silent later act silent)
    ∙ with_silent x later act (flight_of later) (flight_of (act ∷ [])) silent

pub flight_sent : (acts : List Act) (chunk now : ℕ)
    → flight_of (acts ++ Sends chunk now ∷ []) ≡ flight_of acts ++ record { chunk = chunk; overtaken = 0; sent_at = now } ∷ []
flight_sent acts chunk now = flight_silent acts (Sends chunk now) (λ i. refl)

pub flight_waited : (acts : List Act) (now : ℕ) → flight_of (acts ++ Waits now ∷ []) ≡ flight_of acts
flight_waited acts now = flight_silent acts (Waits now) (λ i. refl) ∙ append-nil (flight_of acts)

pub flight_other : (acts : List Act) → flight_of (acts ++ Other ∷ []) ≡ flight_of acts
flight_other acts = flight_silent acts Other (λ i. refl) ∙ append-nil (flight_of acts)

-- ---- an ACK

-- how many chunks of a range a row sends that no act of the row acknowledges
abbrev in_range : (first last chunk : ℕ) → Bool
in_range first last chunk = leb first chunk && leb chunk last

abbrev opens : (first last : ℕ) → Act → List Act → ℕ
opens first last (Sends chunk now) later = cond (is_acked chunk later) 0 (cond (in_range first last chunk) 1 0)
opens first last _ later = 0

abbrev opened : (first last : ℕ) → List Act → ℕ
opened first last [] = 0
opened first last (act ∷ later) = opens first last act later + opened first last later

passes_acked : (x : Act) (acts : List Act) (first last delay now : ℕ)
    → passes x (acts ++ Acks first last delay now ∷ []) ≡ passes x acts + opens first last x acts
passes_acked (Sends chunk at) acts first last delay now =
    ap (λ (b : Bool). cond b 1 0) (acked_more chunk acts (Acks first last delay now)) ∙ by (is_acked chunk acts) (in_range first last chunk)
  where
    by : (a b : Bool) → cond (a || b) 1 0 ≡ cond a 1 0 + cond a 0 (cond b 1 0)
    by true b = refl
    by false true = refl
    by false false = refl
passes_acked (Acks first' last' delay' at) acts first last delay now = refl
passes_acked (Waits at) acts first last delay now = refl
passes_acked Other acts first last delay now = refl

passed_acked : (acts : List Act) (first last delay now : ℕ) → passed (acts ++ Acks first last delay now ∷ []) ≡ passed acts + opened first last acts
passed_acked [] first last delay now = refl
passed_acked (x ∷ later) first last delay now =
    let one = passes_acked x later first last delay now in
    let more = passed_acked later first last delay now in
    omega (arith, one, more)

pub hits_cons : (first last : ℕ) (e : Entry) (es : List Entry) → hits first last (e ∷ es) ≡ cond (covers first last e) 1 0 + hits first last es
hits_cons first last e es = sum_by-cons (λ x. cond (covers first last x) 1 0) e es

-- where few are overtaken, all of these fly
open_hits : (x : Act) (later : List Act) (first last : ℕ) → passed later < 3 → hits first last (flight_of later) ≡ opened first last later
    → hits first last (with_act x later (flight_of later)) ≡ opens first last x later + opened first last later
open_hits (Sends chunk now) later first last few e = rw (lt-leb 3 (passed later) few) (by (is_acked chunk later))
  where
    by : (b : Bool) → hits first last (cond (b || false) (flight_of later) (flying_of chunk now later ∷ flight_of later))
        ≡ cond b 0 (cond (in_range first last chunk) 1 0) + opened first last later
    by true = e ∙ sym (zero-add (opened first last later))
    by false = hits_cons first last (flying_of chunk now later) (flight_of later) ∙ ap (λ (n : ℕ). cond (in_range first last chunk) 1 0 + n) e
open_hits (Acks first' last' delay now) later first last few e = e ∙ sym (zero-add (opened first last later))
open_hits (Waits now) later first last few e = e ∙ sym (zero-add (opened first last later))
open_hits Other later first last few e = e ∙ sym (zero-add (opened first last later))

hits_opened : (acts : List Act) (first last : ℕ) → passed acts < 3 → hits first last (flight_of acts) ≡ opened first last acts
hits_opened [] first last few = refl
hits_opened (x ∷ later) first last few =
    let fewer : passed later < 3 = omega (arith, few) in
    open_hits x later first last fewer (hits_opened later first last fewer)

abbrev Onward : (first last delay now : ℕ) → List Act → Type 0
Onward first last delay now acts = flight_of (acts ++ Acks first last delay now ∷ []) ≡ flying first last (flight_of acts)

onward_late : (chunk at : ℕ) (later : List Act) (first last delay now : ℕ) → Onward first last delay now later
    → (is_acked chunk later || leb 3 (passed later)) ≡ true → Onward first last delay now (Sends chunk at ∷ later)
onward_late chunk at later first last delay now onward late =
    let gone : (is_acked chunk (later ++ Acks first last delay now ∷ []) || leb 3 (passed (later ++ Acks first last delay now ∷ []))) ≡ true =
    rw (acked_more chunk later (Acks first last delay now), passed_acked later first last delay now)
    (by (is_acked chunk later) (in_range first last chunk) (passed later) (opened first last later) late) in
    rw (gone, late) onward
  where
    by : (a b : Bool) (p n : ℕ) → (a || leb 3 p) ≡ true → ((a || b) || leb 3 (p + n)) ≡ true
    by true b p n e = refl
    by false true p n e = refl
    by false false p n e = le-leb 3 (p + n) (let le = leb-true 3 p e in omega (arith, le))

onward_early : (chunk at : ℕ) (later : List Act) (first last delay now : ℕ) → Onward first last delay now later
    → (is_acked chunk later || leb 3 (passed later)) ≡ false → Onward first last delay now (Sends chunk at ∷ later)
onward_early chunk at later first last delay now onward early =
    let parts = or_parts (is_acked chunk later) (leb 3 (passed later)) early in
    let few : passed later < 3 = leb-false 3 (passed later) parts.1 in
    let over : overtakes first last (flying_of chunk at later) (flight_of later) ≡ passed (later ++ Acks first last delay now ∷ []) =
    ap (λ (n : ℕ). passed later + n) (hits_opened later first last few) ∙ sym (passed_acked later first last delay now) in
    let acked : is_acked chunk (later ++ Acks first last delay now ∷ []) ≡ in_range first last chunk =
    acked_more chunk later (Acks first last delay now) ∙ ap (λ (b : Bool). b || in_range first last chunk) parts.0 in
    rw (early, acked, over, onward) refl

onward_one : (x : Act) (later : List Act) (first last delay now : ℕ) → Onward first last delay now later → Onward first last delay now (x ∷ later)
onward_one (Sends chunk at) later first last delay now onward = by (is_acked chunk later || leb 3 (passed later)) refl
  where
    by : (b : Bool) → (is_acked chunk later || leb 3 (passed later)) ≡ b → Onward first last delay now (Sends chunk at ∷ later)
    by true e = onward_late chunk at later first last delay now onward e
    by false e = onward_early chunk at later first last delay now onward e
onward_one (Acks first' last' delay' at) later first last delay now onward = onward
onward_one (Waits at) later first last delay now onward = onward
onward_one Other later first last delay now onward = onward

pub flight_acked : (acts : List Act) (first last delay now : ℕ) → Onward first last delay now acts
flight_acked [] first last delay now = refl
flight_acked (x ∷ later) first last delay now = onward_one x later first last delay now (flight_acked later first last delay now)

-- ---- all that flies was overtaken by fewer than three

fresh_one : (x : Act) (later : List Act) → AreFresh (flight_of later) → AreFresh (with_act x later (flight_of later))
fresh_one (Sends chunk now) later all = by (is_acked chunk later || leb 3 (passed later)) refl
  where
    by : (b : Bool) → (is_acked chunk later || leb 3 (passed later)) ≡ b → AreFresh (cond b (flight_of later) (flying_of chunk now later ∷ flight_of later))
    by true e = all
    by false e = (leb-false 3 (passed later) (or_parts (is_acked chunk later) (leb 3 (passed later)) e).1, all)
fresh_one (Acks first last delay now) later all = all
fresh_one (Waits now) later all = all
fresh_one Other later all = all

pub flight_fresh : (acts : List Act) → AreFresh (flight_of acts)
flight_fresh [] = tt
flight_fresh (x ∷ later) = fresh_one x later (flight_fresh later)

-- ---- what is lost, by the numbers of what flew, was acknowledged and flies on

abbrev left : (first last : ℕ) → List Entry → ℕ
left first last es = length (flying first last es)

-- one entry more: it is acknowledged, lost or flies on
left_one : (first last : ℕ) (e : Entry) (later : List Entry) (a b : Bool) → covers first last e ≡ a → leb 3 (overtakes first last e later) ≡ b
    → (left first last (e ∷ later) ≡ cond (a || b) (left first last later) (suc (left first last later)))
    × (loses first last (e ∷ later) ≡ ((not a && b) || loses first last later))
left_one first last e later true b p q = rw p (refl, refl)
left_one first last e later false true p q = rw (p, q) (refl, refl)
left_one first last e later false false p q = rw (p, q) (refl, refl)

within_one : (first last : ℕ) (e : Entry) (later : List Entry) (a b : Bool) → covers first last e ≡ a → leb 3 (overtakes first last e later) ≡ b
    → left first last later + hits first last later ≤ length later → left first last (e ∷ later) + hits first last (e ∷ later) ≤ length (e ∷ later)
within_one first last e later a b p q le =
    count a b _ _ _ _ _ (left_one first last e later a b p q).0 (hits_cons first last e later ∙ ap (λ (c : Bool). cond c 1 0 + hits first last later) p) le
  where
    count : (a b : Bool) (x y m n h : ℕ) → x ≡ cond (a || b) m (suc m) → y ≡ cond a 1 0 + h → m + h ≤ n → x + y ≤ suc n
    count true b x y m n h e f le = omega (arith, e, f, le)
    count false true x y m n h e f le = omega (arith, e, f, le)
    count false false x y m n h e f le = omega (arith, e, f, le)

left_within : (first last : ℕ) (es : List Entry) → left first last es + hits first last es ≤ length es
left_within first last [] = omega arith
left_within first last (e ∷ later) =
    within_one first last e later (covers first last e) (leb 3 (overtakes first last e later)) refl refl (left_within first last later)

abbrev LosesCounted : (first last : ℕ) → List Entry → Type 0
LosesCounted first last es = loses first last es ≡ ltb (left first last es) (length es - hits first last es)

loses_one : (first last : ℕ) (e : Entry) (later : List Entry) (a b : Bool) → covers first last e ≡ a → leb 3 (overtakes first last e later) ≡ b
    → LosesCounted first last later → LosesCounted first last (e ∷ later)
loses_one first last e later a b p q so_far =
    let one = left_one first last e later a b p q in
    one.1
    ∙ count a b (loses first last later) _ _ _ _ _ one.0 (hits_cons first last e later ∙ ap (λ (c : Bool). cond c 1 0 + hits first last later) p)
    (left_within first last later) so_far
  where
    count : (a b l : Bool) (x y m n h : ℕ) → x ≡ cond (a || b) m (suc m) → y ≡ cond a 1 0 + h → m + h ≤ n → l ≡ ltb m (n - h)
        → ((not a && b) || l) ≡ ltb x (suc n - y)
    count true b l x y m n h e f le is = is ∙ grind (arith, nat_tests)
    count false true l x y m n h e f le is = sym (lt-ltb x (suc n - y) (omega (arith, e, f, le)))
    count false false l x y m n h e f le is = is ∙ grind (arith, nat_tests)

pub loses_counted : (first last : ℕ) (es : List Entry) → LosesCounted first last es
loses_counted first last [] = refl
loses_counted first last (e ∷ later) =
    loses_one first last e later (covers first last e) (leb 3 (overtakes first last e later)) refl refl (loses_counted first last later)
