-- What is read of numbers, step by step.
use Rattle.std.proofs.Common.{◌≡◌, ◌⊎◌, inl, inr, ℕ, zero, suc, ◌^◌, ◌<◌, ◌≤◌, ◌==◌, nat_lt, nat_le, Bool, true, false, cond, not, ◌&&◌, Option, Some, None, List, [], ◌∷◌, length, decimal, Result, Ok, Err, refl, sym, ◌∙◌, ap, subst, arith}
use Rattle.std.specs.Prelude.{slice_index}
use Rattle.std.specs.List.{list_all}
use Rattle.std.specs.Str.{bytes_eq}
use Rattle.std.specs.Cmp.Lexicographic.{same_text}
use Rattle.std.proofs.lemmas.Bool.{and_parts, and_from, false≢true, leb-true, le-leb, ne_eqb, both_ways}
use Rattle.pp_terms.specs.format.DescriptorRead.{is_digit, IsNumber, number_of}
use Rattle.pp_tree.proofs.Readings.{decimal_of_number, number_of_decimal, decimal_is_number}
use Rattle.pp_world.specs.ScheduleFault.{ScheduleKind}
use Rattle.pp_world.specs.ScheduleFault as wrong
use Rattle.pp_world.specs.ScheduleRead.{◌>>=◌, where_true, wants, found, is_number, number_in, one_of}
use Rattle.pp_world.proofs.Lines.{Lacks}

-- ---- what was read

abbrev pub value_or : {A E : Type 0} → A → Result A E → A
value_or x (Ok z) = z
value_or x (Err e) = x

pub bind_ok : {A B E : Type 0} (m : Result A E) (f : A → Result B E) (y : B) → (m >>= f) ≡ Ok y → (x : A) × (m ≡ Ok x) × (f x ≡ Ok y)
bind_ok (Ok x) f y h = (x, refl, h)
bind_ok (Err e) f y h = absurd (let never : Err e ≡ Ok y = h in cc)

pub where_ok : {A E : Type 0} (b : Bool) (e : E) (x y : A) → where_true b e x ≡ Ok y → (b ≡ true) × (x ≡ y)
where_ok true e x y h = (refl, ap (value_or x) h)
where_ok false e x y h = absurd (let never : Err e ≡ Ok y = h in cc)

pub ok_where : {A E : Type 0} (b : Bool) (e : E) (x : A) → b ≡ true → where_true b e x ≡ Ok x
ok_where b e x is = ap (λ (c : Bool). where_true c e x) is

pub wants_ok : {E : Type 0} (b : Bool) (e : E) (u : Unit {0}) → wants b e ≡ Ok u → b ≡ true
wants_ok true e u h = refl
wants_ok false e u h = absurd (let never : Err e ≡ Ok u = h in cc)

pub ok_wants : {E : Type 0} (b : Bool) (e : E) → b ≡ true → wants b e ≡ Ok tt
ok_wants b e is = ap (λ (c : Bool). wants c e) is

pub found_ok : {A E : Type 0} (e : E) (o : Option A) (x : A) → found e o ≡ Ok x → o ≡ Some x
found_ok e None x h = absurd (let never : Err e ≡ Ok x = h in cc)
found_ok e (Some z) x h = ap (λ k. Some k) (ap (value_or z) h)

-- where a word is another's, what is read by it; or what is read else
pub if_ok : {A E : Type 0} (name word : List ℕ) (x y : Result A E) (s : A) → cond (bytes_eq name word) x y ≡ Ok s
    → ((name ≡ word) × (x ≡ Ok s)) ⊎ (y ≡ Ok s)
if_ok name word x y s = by (bytes_eq name word) refl
  where
    by : (b : Bool) → bytes_eq name word ≡ b → cond b x y ≡ Ok s → ((name ≡ word) × (x ≡ Ok s)) ⊎ (y ≡ Ok s)
    by true e h = inl (same_text name word (sym e), h)
    by false e h = inr h

-- ---- numbers

digit_at : (text : List ℕ) → list_all is_digit text ≡ true → (k : ℕ) → k < length text → is_digit (slice_index text k) ≡ true
digit_at [] all k lt = absurd (omega (arith, lt))
digit_at (c ∷ cs) all zero lt = (and_parts (is_digit c) (list_all is_digit cs) all).0
digit_at (c ∷ cs) all (suc k) lt = digit_at cs (and_parts (is_digit c) (list_all is_digit cs) all).1 k (omega (arith, lt))

at_digit : (text : List ℕ) → ((k : ℕ) → k < length text → is_digit (slice_index text k) ≡ true) → list_all is_digit text ≡ true
at_digit [] each = refl
at_digit (c ∷ cs) each = and_from (is_digit c) (list_all is_digit cs) (each 0 (omega arith)) (at_digit cs (λ k lt. each (suc k) (omega (arith, lt))))

number_is : (word : List ℕ) → is_number word ≡ true → IsNumber word
number_is [] e = absurd (false≢true e)
number_is (c ∷ []) e = record {
  some = omega arith;
  most = omega arith;
  digits = λ k lt. digit_at (c ∷ []) (and_from (is_digit c) true e refl) k lt;
  plain = λ nought. refl;
}
number_is (c ∷ d ∷ ds) e =
    let outer = and_parts (not (c == 48) && nat_le (length ds) 18) (list_all is_digit (c ∷ d ∷ ds)) e in
    let inner = and_parts (not (c == 48)) (nat_le (length ds) 18) outer.0 in
    let few = leb-true (length ds) 18 inner.1 in record {
      some = omega arith;
      most = omega (arith, few);
      digits = digit_at (c ∷ d ∷ ds) outer.1;
      plain = λ nought. absurd (false≢true (sym (ap (λ (x : ℕ). not (x == 48)) nought) ∙ inner.0));
    }

is_number_of : (word : List ℕ) → IsNumber word → is_number word ≡ true
is_number_of [] n = absurd (let some = n.some in omega (arith, some))
is_number_of (c ∷ []) n = n.digits 0 (omega arith)
is_number_of (c ∷ d ∷ ds) n =
    and_from (not (c == 48) && nat_le (length ds) 18) (list_all is_digit (c ∷ d ∷ ds))
    (and_from (not (c == 48)) (nat_le (length ds) 18)
    (ap not (ne_eqb c 48 (λ is. let one = n.plain is in omega (arith, one))))
    (le-leb (length ds) 18 (let most = n.most in omega (arith, most))))
    (at_digit (c ∷ d ∷ ds) n.digits)

pub number_read : (least most n : ℕ) (word : List ℕ) → most < 2 ^ 64 → number_in least most word ≡ Ok n
    → (word ≡ decimal n) × (least ≤ n) × (n ≤ most)
number_read least most n word low h =
    let it = where_ok (is_number word && nat_le least (number_of word) && nat_le (number_of word) most) wrong.Number (number_of word) n h in
    let outer = and_parts (is_number word && nat_le least (number_of word)) (nat_le (number_of word) most) it.0 in
    let inner = and_parts (is_number word) (nat_le least (number_of word)) outer.0 in
    let above = leb-true least (number_of word) inner.1 in
    let below = leb-true (number_of word) most outer.1 in (
      sym (decimal_of_number word (number_is word inner.0) (omega (arith, below, low))) ∙ ap decimal it.1,
      subst (λ (k : ℕ). least ≤ k) it.1 above,
      subst (λ (k : ℕ). k ≤ most) it.1 below,
    )

pub read_number : (least most n : ℕ) → most < 2 ^ 64 → least ≤ n → n ≤ most → number_in least most (decimal n) ≡ Ok n
read_number least most n low above below =
    let fits : n < 2 ^ 64 = omega (arith, below, low) in
    let is = number_of_decimal n fits in
    ok_where (is_number (decimal n) && nat_le least (number_of (decimal n)) && nat_le (number_of (decimal n)) most) wrong.Number
    (number_of (decimal n))
    (and_from (is_number (decimal n) && nat_le least (number_of (decimal n))) (nat_le (number_of (decimal n)) most)
    (and_from (is_number (decimal n)) (nat_le least (number_of (decimal n))) (is_number_of (decimal n) (decimal_is_number n fits))
    (le-leb least (number_of (decimal n)) (subst (λ (k : ℕ). least ≤ k) (sym is) above)))
    (le-leb (number_of (decimal n)) most (subst (λ (k : ℕ). k ≤ most) (sym is) below)))
    ∙ ap (λ (k : ℕ). Ok k) is

pub one_read : (peers p n : ℕ) → one_of peers p ≡ Ok n → (p ≡ n) × (n < peers)
one_read peers p n h =
    let it = where_ok (nat_lt p peers) wrong.Peer p n h in
    let low = leb-true (suc p) peers it.0 in (it.1, subst (λ (k : ℕ). k < peers) it.1 (omega (arith, low)))

pub read_one : (peers p : ℕ) → p < peers → one_of peers p ≡ Ok p
read_one peers p lt = ok_where (nat_lt p peers) wrong.Peer p (le-leb (suc p) peers (omega (arith, lt)))

-- no digit is another byte
lacks_digits : (x : ℕ) (text : List ℕ) → is_digit x ≡ false → list_all is_digit text ≡ true → Lacks x text
lacks_digits x [] none all = tt
lacks_digits x (c ∷ cs) none all =
    let both = and_parts (is_digit c) (list_all is_digit cs) all in (
      ne_eqb c x (λ is. both_ways (is_digit x) none (sym (ap is_digit is) ∙ both.0)),
      lacks_digits x cs none both.1,
    )

pub decimal_lacks : (x n : ℕ) → is_digit x ≡ false → n < 2 ^ 64 → Lacks x (decimal n)
decimal_lacks x n none low = lacks_digits x (decimal n) none (at_digit (decimal n) (decimal_is_number n low).digits)
