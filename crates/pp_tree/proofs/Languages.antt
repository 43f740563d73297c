-- Texts made of parts: words of fixed length under a test for each byte, and numbers. How far a text goes that isn't one.
use Rattle.std.proofs.Common.{◌≡◌, ◌⊎◌, ℕ, ◌+◌, ◌-◌, ◌<◌, ◌≤◌, Bool, true, false, List, [], ◌∷◌, ◌++◌, length, take, drop, get_or, refl, sym, ◌∙◌, ap, subst, inl, inr, arith, append_assoc}
use Rattle.std.proofs.lemmas.Bool.{cases_lt, cases_order}
use Rattle.std.proofs.lemmas.List.{get_or-take, get_or-drop, get_or_past, length-take-le, length-append, length-drop, take-append-drop, drop-drop, append_cancel_left}
use Rattle.std.proofs.Math.ListN.{get_or-append}
use Rattle.std.proofs.Math.Seq.{get_or-append_right, take-append-add}
use Rattle.pp_terms.specs.format.DescriptorRead.{is_digit, IsNumber}
use Rattle.pp_terms.proofs.Facts.{front_same}
use Rattle.pp_tree.specs.Scan.{IsRead, IsStopped, IsNumberRead, IsNoNumber}

pub data Part : Type 0 where
  Fixed : (len : ℕ) (test : ℕ → ℕ → Bool) → Part
  Numeral : Part

abbrev pub Matches : Part → List ℕ → Type 0
Matches (Fixed len test) x = (length x ≡ len) × ((k : ℕ) → k < len → test k (get_or x k 0) ≡ true)
Matches Numeral x = IsNumber x

-- the text is made of these parts
abbrev pub Made : List Part → List ℕ → Type 0
Made [] t = t ≡ []
Made (p ∷ ps) t = (x : List ℕ) × (y : List ℕ) × Matches p x × Made ps y × (t ≡ x ++ y)

abbrev pub Sample : List Part → Type 0
Sample ps = (t : List ℕ) × Made ps t

-- no text of these parts begins with a digit
abbrev pub IsApart : List Part → Type 0
IsApart ps = (t : List ℕ) → Made ps t → is_digit (get_or t 0 0) ≡ true → ⊥

-- The text isn't made of them; its first n bytes begin one that is, and one byte more doesn't.
pub record IsStop (ps : List Part) (t : List ℕ) (n : ℕ) : Type 0 where
  pub within : n ≤ length t
  pub fails : Made ps t → ⊥
  pub begins : (rest : List ℕ) × Made ps (take n t ++ rest)
  pub longest : n < length t → (rest : List ℕ) → Made ps (take (n + 1) t ++ rest) → ⊥

pub false_true : (b : Bool) → b ≡ false → b ≡ true → ⊥
false_true b p q = cc

-- the first byte of a front that isn't empty
first_of_front : (n : ℕ) (s rest : List ℕ) → n < length s → get_or (take (n + 1) s ++ rest) 0 0 ≡ get_or s 0 0
first_of_front n s rest lt =
    let long : length (take (n + 1) s) ≡ n + 1 = length-take-le (n + 1) s (omega arith) in
    let some : 0 < length (take (n + 1) s) = omega (arith, long) in
    let low : 0 < n + 1 = omega arith in
    get_or-append (take (n + 1) s) rest 0 0 some ∙ get_or-take (n + 1) s 0 0 low

-- a stop behind a part that is passed in one way only
pub on_part : (p : Part) (ps : List Part) (x s : List ℕ) (n : ℕ) → Matches p x
    → ((r y v : List ℕ) → get_or r 0 0 ≡ get_or s 0 0 → Matches p y → Made ps v → x ++ r ≡ y ++ v → y ≡ x)
    → IsStop ps s n → IsStop (p ∷ ps) (x ++ s) (length x + n)
on_part p ps x s n here alone stop = record {
  within = rw length-append (omega (arith, stop.within));
  fails = λ (y, v, matches, made, e).
      let same = alone s y v refl matches made e in
      let rest = append_cancel_left x s v (e ∙ ap (λ z. z ++ v) same) in
      stop.fails (subst (λ z. Made ps z) (sym rest) made);
  begins = (
    stop.begins.0,
    (
      x,
      take n s ++ stop.begins.0,
      here,
      stop.begins.1,
      ap (λ z. z ++ stop.begins.0) (take-append-add x s n) ∙ append_assoc x (take n s) stop.begins.0,
    ),
  );
  longest = λ lt rest (y, v, matches, made, e).
      let below : n < length s = (let sum = length-append x s in omega (arith, sum, lt)) in
      let more : length x + n + 1 ≡ length x + (n + 1) = omega arith in
      let split : x ++ (take (n + 1) s ++ rest) ≡ y ++ v =
      sym (append_assoc x (take (n + 1) s) rest) ∙ ap (λ z. z ++ rest) (sym (take-append-add x s (n + 1)))
      ∙ ap (λ m. take m (x ++ s) ++ rest) (sym more) ∙ e in
      let same = alone (take (n + 1) s ++ rest) y v (first_of_front n s rest below) matches made split in
      let after = append_cancel_left x (take (n + 1) s ++ rest) v (split ∙ ap (λ z. z ++ v) same) in
      stop.longest below rest (subst (λ z. Made ps z) (sym after) made);
}

-- a number ends in one way
pub number_same : (x r y v : List ℕ) → IsNumber x → IsNumber y
    → (is_digit (get_or r 0 0) ≡ true → (get_or x 0 0 ≡ 48) ⊎ (length x ≡ 20))
    → (is_digit (get_or v 0 0) ≡ true → ⊥) → x ++ r ≡ y ++ v → y ≡ x
number_same x r y v is_x is_y over apart e = elim (cases_order (length x) (length y)) [
  | inl same ↦ sym (front_same x r y v same e)
  | inr (inl shorter) ↦
      let low : length x ≤ length x = omega arith in
      let none : length x - length x ≡ 0 = omega arith in
      let at : get_or y (length x) 0 ≡ get_or r 0 0 =
      sym (get_or-append y v 0 (length x) shorter) ∙ ap (λ z. get_or z (length x) 0) (sym e)
      ∙ get_or-append_right x r (length x) 0 low ∙ ap (λ k. get_or r k 0) none in
      let digit = ap (λ c. is_digit c) (sym at) ∙ is_y.digits (length x) shorter in
      absurd (elim (over digit) [
        | inl nought ↦
            let first : get_or y 0 0 ≡ get_or x 0 0 =
            sym (get_or-append y v 0 0 is_y.some) ∙ ap (λ z. get_or z 0 0) (sym e) ∙ get_or-append x r 0 0 is_x.some in
            let one = is_y.plain (first ∙ nought) in
            let some = is_x.some in omega arith
        | inr full ↦ let most = is_y.most in omega arith
      ])
  | inr (inr longer) ↦
      let low : length y ≤ length y = omega arith in
      let none : length y - length y ≡ 0 = omega arith in
      let at : get_or v 0 0 ≡ get_or x (length y) 0 =
      ap (λ k. get_or v k 0) (sym none) ∙ sym (get_or-append_right y v (length y) 0 low) ∙ ap (λ z. get_or z (length y) 0) (sym e)
      ∙ get_or-append x r 0 (length y) longer in
      absurd (apart (ap (λ c. is_digit c) at ∙ is_x.digits (length y) longer))
]

-- the stop of the text from a place on
pub record IsStopAt (ps : List Part) (t : List ℕ) (at stop : ℕ) : Type 0 where
  pub from : at ≤ stop
  pub rest : IsStop ps (drop at t) (stop - at)

-- the bytes from one place to another
abbrev pub piece : List ℕ → ℕ → ℕ → List ℕ
piece t at end = take (end - at) (drop at t)

pub length-piece : (t : List ℕ) (at end : ℕ) → at ≤ end → end ≤ length t → length (piece t at end) ≡ end - at
length-piece t at end order inside = length-take-le (end - at) (drop at t) (rw length-drop (omega arith))

pub get-piece : (t : List ℕ) (at end k : ℕ) → k < end - at → get_or (piece t at end) k 0 ≡ get_or t (at + k) 0
get-piece t at end k lt = get_or-take (end - at) (drop at t) k 0 lt ∙ get_or-drop at t k 0

pub split_at : (t : List ℕ) (at end : ℕ) → at ≤ end → drop at t ≡ piece t at end ++ drop end t
split_at t at end order =
    let sum : at + (end - at) ≡ end = omega arith in
    sym (take-append-drop (end - at) (drop at t))
    ∙ ap (λ z. piece t at end ++ z) (drop-drop (end - at) at t ∙ ap (λ k. drop k t) sum)

stop_here : (p : Part) (ps : List Part) (t : List ℕ) (at end stop : ℕ) → at ≤ end → end ≤ length t → end ≤ stop
    → IsStop (p ∷ ps) (piece t at end ++ drop end t) (length (piece t at end) + (stop - end)) → IsStopAt (p ∷ ps) t at stop
stop_here p ps t at end stop order inside later is =
    let long = length-piece t at end order inside in
    let sum : length (piece t at end) + (stop - end) ≡ stop - at = omega (arith, long) in
    record {
      from = omega arith;
      rest = subst (λ z. IsStop (p ∷ ps) z (stop - at)) (sym (split_at t at end order))
          (subst (λ n. IsStop (p ∷ ps) (piece t at end ++ drop end t) n) sum is);
    }

pub matches_fixed : (test : ℕ → ℕ → Bool) (len : ℕ) (t : List ℕ) (at end : ℕ) → IsRead test len t at end
    → Matches (Fixed len test) (piece t at end)
matches_fixed test len t at end is =
    let order : at ≤ end = (let e = is.end_is in omega arith) in
    let span : end - at ≡ len = (let e = is.end_is in omega arith) in (
      length-piece t at end order is.inside ∙ span,
      λ k lt. let in_it : k < end - at = omega arith in
          ap (λ c. test k c) (get-piece t at end k in_it) ∙ is.each k lt,
    )

pub on_fixed : (test : ℕ → ℕ → Bool) (len : ℕ) (ps : List Part) (t : List ℕ) (at end stop : ℕ) → IsRead test len t at end
    → IsStopAt ps t end stop → IsStopAt (Fixed len test ∷ ps) t at stop
on_fixed test len ps t at end stop is later =
    let order : at ≤ end = (let e = is.end_is in omega arith) in
    let here = matches_fixed test len t at end is in
    stop_here (Fixed len test) ps t at end stop order is.inside later.from
    (on_part (Fixed len test) ps (piece t at end) (drop end t) (stop - end) here
    (λ r y v first matches made e. sym (front_same (piece t at end) r y v (here.0 ∙ sym matches.0) e)) later.rest)

pub matches_number : (t : List ℕ) (at value end : ℕ) → IsNumberRead t at value end → IsNumber (piece t at end)
matches_number t at value end is =
    let order : at ≤ end = (let lt = is.some in omega arith) in
    let long = length-piece t at end order is.inside in
    let some : 0 < end - at = (let lt = is.some in omega arith) in
    let first : get_or (piece t at end) 0 0 ≡ get_or t at 0 =
    get-piece t at end 0 some ∙ ap (λ k. get_or t k 0) (let e : at + 0 ≡ at = omega arith in e) in
    record {
      some = omega (arith, long);
      most = (let most = is.most in omega (arith, long));
      digits = λ k lt. let in_it : k < end - at = omega (arith, long) in
          ap (λ c. is_digit c) (get-piece t at end k in_it) ∙ is.digits (at + k) (omega arith) (omega arith);
      plain = λ nought. (let one = is.plain (sym first ∙ nought) in omega (arith, long));
    }

pub on_number : (ps : List Part) (t : List ℕ) (at value end stop : ℕ) → IsNumberRead t at value end → IsApart ps
    → IsStopAt ps t end stop → IsStopAt (Numeral ∷ ps) t at stop
on_number ps t at value end stop is apart later =
    let order : at ≤ end = (let lt = is.some in omega arith) in
    let some : 0 < end - at = (let lt = is.some in omega arith) in
    let long = length-piece t at end order is.inside in
    let here = matches_number t at value end is in
    let first : get_or (piece t at end) 0 0 ≡ get_or t at 0 =
    get-piece t at end 0 some ∙ ap (λ k. get_or t k 0) (let e : at + 0 ≡ at = omega arith in e) in
    let next : get_or (drop end t) 0 0 ≡ get_or t end 0 =
    get_or-drop end t 0 0 ∙ ap (λ k. get_or t k 0) (let e : end + 0 ≡ end = omega arith in e) in
    stop_here Numeral ps t at end stop order is.inside later.from
    (on_part Numeral ps (piece t at end) (drop end t) (stop - end) here
    (λ r y v same matches made e. number_same (piece t at end) r y v here matches
    (λ digit. elim (cases_lt end (length t)) [
      | inl lt ↦ elim (is.over lt (ap (λ c. is_digit c) (sym (same ∙ next)) ∙ digit)) [
        | inl nought ↦ inl (first ∙ nought)
        | inr full ↦ inr (omega (arith, long))
      ]
      | inr ge ↦
          let past = get_or_past t end 0 ge in
          let none : is_digit (get_or r 0 0) ≡ false = ap (λ c. is_digit c) (same ∙ next ∙ past) in
          absurd (false_true (is_digit (get_or r 0 0)) none digit)
    ])
    (apart v made) e)
    later.rest)

-- a text that stops inside a word of fixed length
pub stop_fixed : (test : ℕ → ℕ → Bool) (len : ℕ) (ps : List Part) (t : List ℕ) (at stop : ℕ) (x : List ℕ)
    → IsStopped test len t at stop → Matches (Fixed len test) x → Sample ps → IsStopAt (Fixed len test ∷ ps) t at stop
stop_fixed test len ps t at stop x is full sample =
    let from = is.from in
    let inside = is.inside in
    let n : ℕ = stop - at in
    let short : stop - at < len = (let lt = is.short in omega arith) in
    let room : stop - at ≤ length (drop at t) = rw length-drop (omega arith) in
    let part = length-take-le (stop - at) (drop at t) room in
    let place : at + (stop - at) ≡ stop = omega arith in
    record {
      from = is.from;
      rest = record {
        within = room;
        fails = λ (y, v, matches, made, e). elim (cases_lt stop (length t)) [
          | inl lt ↦
              let inner : stop - at < length y = omega (arith, matches.0) in
              let same : get_or y (stop - at) 0 ≡ get_or t stop 0 =
              sym (get_or-append y v 0 (stop - at) inner) ∙ ap (λ z. get_or z (stop - at) 0) (sym e)
              ∙ get_or-drop at t (stop - at) 0 ∙ ap (λ k. get_or t k 0) place in
              false_true (test (stop - at) (get_or t stop 0)) (is.wrong lt)
              (ap (λ c. test (stop - at) c) (sym same) ∙ matches.1 (stop - at) short)
          | inr ge ↦
              let sum : length (drop at t) ≡ length y + length v = ap (λ z. length z) e ∙ length-append y v in
              let size = length-drop at t in absurd (omega (arith, sum, size, matches.0))
        ];
        begins = (
          drop (stop - at) x ++ sample.0,
          (
            take (stop - at) (drop at t) ++ drop (stop - at) x,
            sample.0,
            (
              length-append (take (stop - at) (drop at t)) (drop (stop - at) x) ∙ (let size = length-drop (stop - at) x in omega (arith, part, size, full.0)),
              λ k lt. elim (cases_lt k (stop - at)) [
                | inl low ↦
                    let inner : k < length (take (stop - at) (drop at t)) = omega (arith, part) in
                    ap (λ c. test k c) (get_or-append (take (stop - at) (drop at t)) (drop (stop - at) x) 0 k inner
                    ∙ get_or-take (stop - at) (drop at t) k 0 low ∙ get_or-drop at t k 0) ∙ is.each k (omega arith)
                | inr high ↦
                    let outer : length (take (stop - at) (drop at t)) ≤ k = omega (arith, part) in
                    let sum : stop - at + (k - length (take (stop - at) (drop at t))) ≡ k = omega (arith, part) in
                    ap (λ c. test k c) (get_or-append_right (take (stop - at) (drop at t)) (drop (stop - at) x) k 0 outer
                    ∙ get_or-drop (stop - at) x (k - length (take (stop - at) (drop at t))) 0 ∙ ap (λ j. get_or x j 0) sum) ∙ full.1 k lt
              ],
            ),
            sample.1,
            sym (append_assoc (take (stop - at) (drop at t)) (drop (stop - at) x) sample.0),
          ),
        );
        longest = λ lt rest (y, v, matches, made, e).
            let before : stop < length t = (let size = length-drop at t in omega (arith, size, lt)) in
            let one : stop - at < stop - at + 1 = omega arith in
            let front = length-take-le (stop - at + 1) (drop at t) (omega arith) in
            let inner : stop - at < length (take (stop - at + 1) (drop at t)) = omega (arith, front) in
            let inner' : stop - at < length y = omega (arith, matches.0) in
            let same : get_or y (stop - at) 0 ≡ get_or t stop 0 =
            sym (get_or-append y v 0 (stop - at) inner') ∙ ap (λ z. get_or z (stop - at) 0) (sym e)
            ∙ get_or-append (take (stop - at + 1) (drop at t)) rest 0 (stop - at) inner
            ∙ get_or-take (stop - at + 1) (drop at t) (stop - at) 0 one
            ∙ get_or-drop at t (stop - at) 0 ∙ ap (λ k. get_or t k 0) place in
            false_true (test (stop - at) (get_or t stop 0)) (is.wrong before)
            (ap (λ c. test (stop - at) c) (sym same) ∙ matches.1 (stop - at) short);
      };
    }

-- no number begins with another byte
no_number : (t y v : List ℕ) (at : ℕ) → IsNumber y → get_or t 0 0 ≡ at → is_digit at ≡ false → t ≡ y ++ v → ⊥
no_number t y v at matches first wrong e =
    let same : get_or y 0 0 ≡ at = sym (get_or-append y v 0 0 matches.some) ∙ ap (λ z. get_or z 0 0) (sym e) ∙ first in
    false_true (is_digit at) wrong (ap (λ c. is_digit c) (sym same) ∙ matches.digits 0 matches.some)

nought : IsNumber (48 ∷ [])
nought = record {
  some = omega arith;
  most = omega arith;
  digits = λ k lt. (let e : k ≡ 0 = omega arith in ap (λ j. is_digit (get_or (48 ∷ []) j 0)) e);
  plain = λ _. refl;
}

pub stop_number : (ps : List Part) (t : List ℕ) (at stop : ℕ) → at ≤ length t → IsNoNumber t at stop → Sample ps
    → IsStopAt (Numeral ∷ ps) t at stop
stop_number ps t at stop inside is sample =
    let none : stop - at ≡ 0 = (let e = is.here in omega arith) in
    let first : get_or (drop at t) 0 0 ≡ get_or t at 0 =
    get_or-drop at t 0 0 ∙ ap (λ k. get_or t k 0) (let e : at + 0 ≡ at = omega arith in e) in
    let wrong : is_digit (get_or t at 0) ≡ false = elim (cases_lt at (length t)) [
      | inl lt ↦ is.wrong lt
      | inr ge ↦ ap (λ c. is_digit c) (get_or_past t at 0 ge)
    ] in
    record {
      from = (let e = is.here in omega arith);
      rest = rw none (record {
        within = omega arith;
        fails = λ (y, v, matches, made, e). no_number (drop at t) y v (get_or t at 0) matches first wrong e;
        begins = (48 ∷ sample.0, (48 ∷ [], sample.0, nought, sample.1, refl));
        longest = λ lt rest (y, v, matches, made, e).
            no_number (take 1 (drop at t) ++ rest) y v (get_or t at 0) matches (first_of_front 0 (drop at t) rest lt ∙ first) wrong e;
      });
    }

-- a text that goes on after its end
pub stop_end : (t : List ℕ) (at : ℕ) → at < length t → IsStopAt [] t at at
stop_end t at lt =
    let none : at - at ≡ 0 = omega arith in
    let size = length-drop at t in
    record {
      from = omega arith;
      rest = rw none (record {
        within = omega arith;
        fails = λ e. (let zero = ap (λ z. length z) e in absurd (omega (arith, size, zero)));
        begins = ([], refl);
        longest = λ more rest e.
            (let one = length-take-le 1 (drop at t) (omega arith) in
            let zero = sym (length-append (take 1 (drop at t)) rest) ∙ ap (λ z. length z) e in absurd (omega (arith, one, zero)));
      });
    }
