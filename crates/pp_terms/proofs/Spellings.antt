-- The options that are read are those that are spelled.
use Rattle.std.proofs.Common.{◌≡◌, ℕ, zero, suc, ◌+◌, ◌^◌, ◌≤◌, ◌<◌, ◌⊎◌, Bool, true, false, cond, not, eqb, ltb, ◌&&◌, List, [], ◌∷◌, ◌++◌, length, get_or, take, drop, Option, Some, None, Result, Ok, refl, sym, ap, subst, ◌∙◌, append_assoc, arith, inl, inr}
use Rattle.std.specs.Int.{w16, w32, from_be_bytes, to_be_bytes}
use Rattle.std.specs.Prelude.{IfSome, is_some}
use Rattle.std.specs.List.{flat_map, AllByRecursion}
use Rattle.std.proofs.lemmas.Bool.{cases_lt, ltb-false, le-ltb, eqb-true}
use Rattle.std.proofs.lemmas.Bool.Decides.{nat_tests}
use Rattle.std.proofs.lemmas.List.{take_at, drop_at, drop-drop, take-append-drop, length-append, length-take, length-drop, get_or-drop, get_or-take, get_or_past}
use Rattle.std.proofs.lemmas.List.Concat.{flat_map-cons}
use Rattle.std.proofs.lemmas.Nat.{be_bytes_2, be_bytes_4, from_be_bytes-to_be_bytes_2, from_be_bytes-to_be_bytes_4}
use Rattle.pp_terms.specs.format.OptionLaw.{ReadsSpellings, WrittenIsRead}
use Rattle.pp_terms.specs.format.Options.{Options, none, OneOption, Version, Minimum, Swarm, Integrity, Hash, Addressing, Messages, Chunk, code_of, value_bytes, spelled, FitsOption, with_option, is_given, Adds, IsSpelling, FitOptions, spelled_if, spelling_of, OptionFault, is_known, value_length, option_of, fault_at, unless, read_from, read_options, IsBytes}

pub IsBytes-drop : (n : ℕ) (bytes : List ℕ) → IsBytes bytes → IsBytes (drop n bytes)
IsBytes-drop n bytes h i = rw get_or-drop (h (n + i))

IsBytes-take : (n : ℕ) (bytes : List ℕ) → IsBytes bytes → IsBytes (take n bytes)
IsBytes-take n bytes h i =
    elim (cases_lt i n) [
      | inl lt ↦ rw (get_or-take n bytes i 0 lt) (h i)
      | inr le ↦ rw (get_or_past (take n bytes) i 0 (omega (arith, length-take n bytes))) (omega arith)
    ]

IsBytes-rest : (b : ℕ) (bytes : List ℕ) → IsBytes (b ∷ bytes) → IsBytes bytes
IsBytes-rest b bytes h i = h (suc i)

-- The rest begins with the value of this option, whose code that is.
pub record BeginsWith (code : ℕ) (rest : List ℕ) (x : OneOption) : Type 0 where
  pub code_is : code_of x ≡ code
  pub fits : FitsOption x
  pub parts : rest ≡ value_bytes x ++ drop (value_length code rest) rest
  pub len : length (value_bytes x) ≡ value_length code rest

front_byte : (rest : List ℕ) → 1 ≤ length rest → rest ≡ get_or rest 0 0 ∷ drop 1 rest
front_byte [] le = absurd (omega arith)
front_byte (b ∷ bytes) le = refl

-- a number in front, and as many bytes as it says
counted : (rest : List ℕ) (k n : ℕ) → k + n ≤ length rest → rest ≡ (take k rest ++ take n (drop k rest)) ++ drop (k + n) rest
counted rest k n le =
    let second : take n (drop k rest) ++ drop (k + n) rest ≡ drop k rest =
    ap (λ (t : List ℕ). take n (drop k rest) ++ t) (sym (drop-drop n k rest)) ∙ take-append-drop n (drop k rest) in
    sym (append_assoc (take k rest) (take n (drop k rest)) (drop (k + n) rest) ∙ ap (λ (t : List ℕ). take k rest ++ t) second ∙ take-append-drop k rest)

below_16 : (bytes : List ℕ) (n : ℕ) → IsBytes bytes → n ≡ from_be_bytes w16 bytes → n < 2 ^ 16
below_16 bytes n h is = omega (arith, h 0, h 1)

below_32 : (bytes : List ℕ) (n : ℕ) → IsBytes bytes → n ≡ from_be_bytes w32 bytes → n < 2 ^ 32
below_32 bytes n h is = omega (arith, h 0, h 1, h 2, h 3)

one-add : (n : ℕ) → 1 + n ≡ suc n
one-add n = omega arith

begins_swarm : (rest : List ℕ) (n : ℕ) → IsBytes rest → n ≡ from_be_bytes w16 (take 2 rest) → 2 + n ≤ length rest
    → (length (take n (drop 2 rest)) < 2 ^ 16) × (rest ≡ (to_be_bytes w16 (length (take n (drop 2 rest))) ++ take n (drop 2 rest)) ++ drop (2 + n) rest)
    × (length (to_be_bytes w16 (length (take n (drop 2 rest))) ++ take n (drop 2 rest)) ≡ 2 + n)
begins_swarm rest n bytes is le =
    let size : length (take n (drop 2 rest)) ≡ n = omega (arith, length-take n (drop 2 rest), length-drop 2 rest) in
    let front : to_be_bytes w16 n ≡ take 2 rest =
    be_bytes_2 (take 2 rest) n (omega (arith, length-take 2 rest)) (IsBytes-take 2 rest bytes) is in
    let low : n < 2 ^ 16 = below_16 (take 2 rest) n (IsBytes-take 2 rest bytes) is in (
      rw size low,
      subst (λ (k : ℕ). rest ≡ (to_be_bytes w16 k ++ take n (drop 2 rest)) ++ drop (2 + n) rest) (sym size)
          (subst (λ (t : List ℕ). rest ≡ (t ++ take n (drop 2 rest)) ++ drop (2 + n) rest) (sym front) (counted rest 2 n le)),
      omega (arith, size),
    )

begins_bitmap : (rest : List ℕ) → IsBytes rest → 1 + get_or rest 0 0 ≤ length rest → get_or rest 0 0 ≤ 32
    → BeginsWith 8 rest (Messages (take (get_or rest 0 0) (drop 1 rest)))
begins_bitmap [] bytes le low = absurd (omega arith)
begins_bitmap (n ∷ rest) bytes le low =
    let size : length (take n rest) ≡ n = omega (arith, length-take n rest) in
    let split : rest ≡ take n rest ++ drop n rest = sym (take-append-drop n rest) in
    let past : drop (1 + n) (n ∷ rest) ≡ drop n rest = rw (one-add n) refl in
    record {
      code_is = refl;
      fits = omega (arith, size);
      parts = rw (past, size) (ap (λ (t : List ℕ). n ∷ t) split);
      len = omega (arith, size);
    }

begins_chunk : (rest : List ℕ) → IsBytes rest → 4 ≤ length rest → BeginsWith 9 rest (Chunk (from_be_bytes w32 (take 4 rest)))
begins_chunk rest bytes le =
    let front : to_be_bytes w32 (from_be_bytes w32 (take 4 rest)) ≡ take 4 rest =
    be_bytes_4 (take 4 rest) _ (omega (arith, length-take 4 rest)) (IsBytes-take 4 rest bytes) refl in
    record {
      code_is = refl;
      fits = below_32 (take 4 rest) _ (IsBytes-take 4 rest bytes) refl;
      parts = sym (ap (λ (t : List ℕ). t ++ drop 4 rest) front ∙ take-append-drop 4 rest);
      len = refl;
    }

known_is : (code : ℕ) → is_known code ≡ true
    → (code ≡ 0) ⊎ (code ≡ 1) ⊎ (code ≡ 2) ⊎ (code ≡ 3) ⊎ (code ≡ 4) ⊎ (code ≡ 6) ⊎ (code ≡ 8) ⊎ (code ≡ 9)
known_is code e = grind (arith, nat_tests)

none_of : (a b c d : Bool) (e f g h : OptionFault)
    → cond (not a) (Some e) (cond b (Some f) (cond c (Some g) (cond d (Some h) None))) ≡ None
    → (a ≡ true) × (b ≡ false) × (c ≡ false) × (d ≡ false)
none_of false b c d e f g h is = absurd cc
none_of true true c d e f g h is = absurd cc
none_of true false true d e f g h is = absurd cc
none_of true false false true e f g h is = absurd cc
none_of true false false false e f g h is = (refl, refl, refl, refl)

-- What is known where there is no fault.
pub record HasNoFault (seen : Options) (code : ℕ) (rest : List ℕ) : Type 0 where
  pub known : is_known code ≡ true
  pub is_new : is_given seen code ≡ false
  pub bitmap : (eqb code 8 && ltb 32 (get_or rest 0 0)) ≡ false
  pub whole : value_length code rest ≤ length rest

-- what is known where no fault was found
pub no_fault : (seen : Options) (at code : ℕ) (rest : List ℕ) → fault_at seen at code rest ≡ None → HasNoFault seen code rest
unfolding fault_at
no_fault seen at code rest e =
    let h = none_of (is_known code) (is_given seen code) (eqb code 8 && ltb 32 (get_or rest 0 0)) (ltb (length rest) (value_length code rest)) _ _ _ _ e in
    record { known = h.0; is_new = h.1; bitmap = h.2; whole = ltb-false _ _ h.3 }

at_0 : (seen : Options) (rest : List ℕ) → IsBytes rest → HasNoFault seen 0 rest → BeginsWith 0 rest (option_of 0 rest)
at_0 seen rest bytes h = record { code_is = refl; fits = bytes 0; parts = front_byte rest h.whole; len = refl }

at_1 : (seen : Options) (rest : List ℕ) → IsBytes rest → HasNoFault seen 1 rest → BeginsWith 1 rest (option_of 1 rest)
at_1 seen rest bytes h = record { code_is = refl; fits = bytes 0; parts = front_byte rest h.whole; len = refl }

at_2 : (seen : Options) (rest : List ℕ) → IsBytes rest → HasNoFault seen 2 rest → BeginsWith 2 rest (option_of 2 rest)
at_2 seen rest bytes h =
    let all = begins_swarm rest (from_be_bytes w16 (take 2 rest)) bytes refl h.whole in
    record { code_is = refl; fits = all.0; parts = all.1; len = all.2 }

at_3 : (seen : Options) (rest : List ℕ) → IsBytes rest → HasNoFault seen 3 rest → BeginsWith 3 rest (option_of 3 rest)
at_3 seen rest bytes h = record { code_is = refl; fits = bytes 0; parts = front_byte rest h.whole; len = refl }

at_4 : (seen : Options) (rest : List ℕ) → IsBytes rest → HasNoFault seen 4 rest → BeginsWith 4 rest (option_of 4 rest)
at_4 seen rest bytes h = record { code_is = refl; fits = bytes 0; parts = front_byte rest h.whole; len = refl }

at_6 : (seen : Options) (rest : List ℕ) → IsBytes rest → HasNoFault seen 6 rest → BeginsWith 6 rest (option_of 6 rest)
at_6 seen rest bytes h = record { code_is = refl; fits = bytes 0; parts = front_byte rest h.whole; len = refl }

at_8 : (seen : Options) (rest : List ℕ) → IsBytes rest → HasNoFault seen 8 rest → BeginsWith 8 rest (option_of 8 rest)
at_8 seen rest bytes h = begins_bitmap rest bytes h.whole (ltb-false _ _ h.bitmap)

at_9 : (seen : Options) (rest : List ℕ) → IsBytes rest → HasNoFault seen 9 rest → BeginsWith 9 rest (option_of 9 rest)
at_9 seen rest bytes h = begins_chunk rest bytes h.whole

begins : (seen : Options) (code : ℕ) (rest : List ℕ) → IsBytes rest → HasNoFault seen code rest → BeginsWith code rest (option_of code rest)
begins seen code rest bytes h =
    let P : ℕ → Type 0 = λ k. HasNoFault seen k rest in
    let Q : ℕ → Type 0 = λ k. BeginsWith k rest (option_of k rest) in
    let to = λ (k : ℕ) (e : code ≡ k) (f : P k → Q k). subst Q (sym e) (f (subst P e h)) in
    elim (known_is code h.known) [
      | inl e ↦ to 0 e (at_0 seen rest bytes)
      | inr e ↦ elim e [
        | inl e ↦ to 1 e (at_1 seen rest bytes)
        | inr e ↦ elim e [
          | inl e ↦ to 2 e (at_2 seen rest bytes)
          | inr e ↦ elim e [
            | inl e ↦ to 3 e (at_3 seen rest bytes)
            | inr e ↦ elim e [
              | inl e ↦ to 4 e (at_4 seen rest bytes)
              | inr e ↦ elim e [
                | inl e ↦ to 6 e (at_6 seen rest bytes)
                | inr e ↦ elim e [
                  | inl e ↦ to 8 e (at_8 seen rest bytes)
                  | inr e ↦ to 9 e (at_9 seen rest bytes)
                ]
              ]
            ]
          ]
        ]
      ]
    ]

-- ---- what is spelled is read

-- Bytes that begin with an option not given before have no fault there, and are read as it.
pub record IsReadAgain (seen : Options) (at : ℕ) (x : OneOption) (more : List ℕ) : Type 0 where
  pub clean : fault_at seen at (code_of x) (value_bytes x ++ more) ≡ None
  pub same : option_of (code_of x) (value_bytes x ++ more) ≡ x
  pub len : value_length (code_of x) (value_bytes x ++ more) ≡ length (value_bytes x)
  pub rest : drop (value_length (code_of x) (value_bytes x ++ more)) (value_bytes x ++ more) ≡ more

none_when : {a b c d : Bool} (e f g h : OptionFault) → a ≡ true → b ≡ false → c ≡ false → d ≡ false
    → cond (not a) (Some e) (cond b (Some f) (cond c (Some g) (cond d (Some h) None))) ≡ None
none_when e f g h ha hb hc hd = rw (ha, hb, hc, hd) refl

clean : (seen : Options) (at code : ℕ) (rest : List ℕ) → HasNoFault seen code rest → fault_at seen at code rest ≡ None
unfolding fault_at
clean seen at code rest h = none_when _ _ _ _ h.known h.is_new h.bitmap (le-ltb _ _ h.whole)

again_swarm : (seen : Options) (at : ℕ) (bytes more : List ℕ) → length bytes < 2 ^ 16 → is_given seen 2 ≡ false → IsReadAgain seen at (Swarm bytes) more
again_swarm seen at bytes more fits free =
    let rest : List ℕ = to_be_bytes w16 (length bytes) ++ (bytes ++ more) in
    let size : from_be_bytes w16 (take 2 rest) ≡ length bytes = from_be_bytes-to_be_bytes_2 (length bytes) fits in
    let len : length rest ≡ 2 + (length bytes + length more) = omega (arith, length-append bytes more) in
    let back : drop (2 + length bytes) rest ≡ more =
    sym (drop-drop (length bytes) 2 rest) ∙ drop_at bytes more (length bytes) refl in
    record {
      clean = clean seen at 2 rest (record { known = refl; is_new = free; bitmap = refl; whole = omega (arith, size, len) });
      same = ap (λ (k : ℕ). Swarm (take k (bytes ++ more))) size ∙ ap (λ (t : List ℕ). Swarm t) (take_at bytes more (length bytes) refl);
      len = omega (arith, size);
      rest = ap (λ (k : ℕ). drop (2 + k) rest) size ∙ back;
    }

again_bitmap : (seen : Options) (at : ℕ) (bitmap more : List ℕ) → length bitmap ≤ 32 → is_given seen 8 ≡ false → IsReadAgain seen at (Messages bitmap) more
again_bitmap seen at bitmap more fits free =
    let rest : List ℕ = length bitmap ∷ (bitmap ++ more) in
    let len : length rest ≡ 1 + (length bitmap + length more) = omega (arith, length-append bitmap more) in
    record {
      clean = clean seen at 8 rest (record { known = refl; is_new = free; bitmap = le-ltb _ _ fits; whole = omega (arith, len) });
      same = ap (λ (t : List ℕ). Messages t) (take_at bitmap more (length bitmap) refl);
      len = omega arith;
      rest = rw (one-add (length bitmap)) (drop_at bitmap more (length bitmap) refl);
    }

again_chunk : (seen : Options) (at n : ℕ) (more : List ℕ) → n < 2 ^ 32 → is_given seen 9 ≡ false → IsReadAgain seen at (Chunk n) more
again_chunk seen at n more fits free =
    let size : from_be_bytes w32 (to_be_bytes w32 n) ≡ n = from_be_bytes-to_be_bytes_4 n fits in
    record {
      clean = clean seen at 9 (to_be_bytes w32 n ++ more) (record { known = refl; is_new = free; bitmap = refl; whole = omega arith });
      same = ap (λ (k : ℕ). Chunk k) size;
      len = refl;
      rest = refl;
    }

again : (seen : Options) (at : ℕ) (x : OneOption) (more : List ℕ) → FitsOption x → is_given seen (code_of x) ≡ false → IsReadAgain seen at x more
again seen at (Swarm bytes) more fits free = again_swarm seen at bytes more fits free
again seen at (Messages bitmap) more fits free = again_bitmap seen at bitmap more fits free
again seen at (Chunk n) more fits free = again_chunk seen at n more fits free
again seen at (Version n) more fits free =
    record {
      clean = clean seen at 0 (n ∷ more) (record { known = refl; is_new = free; bitmap = refl; whole = omega arith });
      same = refl;
      len = refl;
      rest = refl;
    }
again seen at (Minimum n) more fits free =
    record {
      clean = clean seen at 1 (n ∷ more) (record { known = refl; is_new = free; bitmap = refl; whole = omega arith });
      same = refl;
      len = refl;
      rest = refl;
    }
again seen at (Integrity n) more fits free =
    record {
      clean = clean seen at 3 (n ∷ more) (record { known = refl; is_new = free; bitmap = refl; whole = omega arith });
      same = refl;
      len = refl;
      rest = refl;
    }
again seen at (Hash n) more fits free =
    record {
      clean = clean seen at 4 (n ∷ more) (record { known = refl; is_new = free; bitmap = refl; whole = omega arith });
      same = refl;
      len = refl;
      rest = refl;
    }
again seen at (Addressing n) more fits free =
    record {
      clean = clean seen at 6 (n ∷ more) (record { known = refl; is_new = free; bitmap = refl; whole = omega arith });
      same = refl;
      len = refl;
      rest = refl;
    }

-- ---- many options

-- the options and the end, behind what was seen
pub record TakesOptions (seen : Options) (at : ℕ) (bytes : List ℕ) (o : Options) (end : ℕ) : Type 0 where
  pub order : List OneOption
  pub fits : AllByRecursion FitsOption order
  pub adds : Adds seen order o
  pub rest : List ℕ
  pub parts : bytes ≡ (flat_map spelled order ++ 255 ∷ []) ++ rest
  pub ends : end ≡ at + length (flat_map spelled order ++ 255 ∷ [])

unless_ok : {A : Type 0} (f : Option OptionFault) (r : Result A OptionFault) (y : A) → unless f r ≡ Ok y → (f ≡ None) × (r ≡ Ok y)
unless_ok None r y e = (refl, e)
unless_ok (Some f) r y e = absurd cc

chosen : {A : Type 0} (b : Bool) (x y z : A) → cond b x y ≡ z → ((b ≡ true) × (x ≡ z)) ⊎ ((b ≡ false) × (y ≡ z))
chosen true x y z e = inl (refl, e)
chosen false x y z e = inr (refl, e)

abbrev done : {A : Type 0} → A → Result A OptionFault
done x = Ok x

done_is : {A : Type 0} (x y : A) → done x ≡ done y → x ≡ y
done_is x y e = cc

regroup : (a b c d : List ℕ) → ((a ++ b) ++ c) ++ d ≡ a ++ ((b ++ c) ++ d)
regroup a b c d = simp append_assoc

one_more : (seen : Options) (at code len end : ℕ) (rest after : List ℕ) (x : OneOption) (o : Options) → code_of x ≡ code
    → FitsOption x → rest ≡ value_bytes x ++ after → length (value_bytes x) ≡ len → is_given seen code ≡ false
    → TakesOptions (with_option x seen) (at + (1 + len)) after o end → TakesOptions seen at (code ∷ rest) o end
one_more seen at code len end rest after x o code_is fits parts len_is free next =
    let more : List ℕ = flat_map spelled next.order in
    let cons : flat_map spelled (x ∷ next.order) ≡ spelled x ++ more = flat_map-cons spelled x next.order in
    let size : length (flat_map spelled (x ∷ next.order) ++ 255 ∷ []) ≡ 1 + (len + (length more + 1)) =
    ap (λ (t : List ℕ). length (t ++ 255 ∷ [])) cons
    ∙ omega (arith, len_is, length-append (spelled x ++ more) (255 ∷ []), length-append (spelled x) more) in
    let ends : end ≡ (at + (1 + len)) + (length more + 1) = next.ends ∙ omega (arith, length-append more (255 ∷ [])) in
    record {
      order = x ∷ next.order;
      fits = (fits, next.fits);
      adds = (ap (λ (k : ℕ). is_given seen k) code_is ∙ free, next.adds);
      rest = next.rest;
      parts = ap (λ (k : ℕ). k ∷ rest) (sym code_is) ∙ ap (λ (t : List ℕ). code_of x ∷ t) parts
          ∙ ap (λ (t : List ℕ). spelled x ++ t) next.parts
          ∙ sym (ap (λ (t : List ℕ). (t ++ 255 ∷ []) ++ next.rest) cons ∙ regroup (spelled x) more (255 ∷ []) next.rest);
      ends = omega (arith, ends, size);
    }

takes : (n : ℕ) (seen : Options) (at : ℕ) (bytes : List ℕ) (o : Options) (end : ℕ) → IsBytes bytes
    → read_from n seen at bytes ≡ Ok (o, end) → TakesOptions seen at bytes o end
unfolding read_from
takes zero seen at bytes o end is e = absurd cc
takes (suc n) seen at [] o end is e = absurd cc
takes (suc n) seen at (code ∷ rest) o end is e =
    elim (chosen (eqb code 255) (done (seen, at + 1)) _ (done (o, end)) e) [
      | inl p ↦
          let same = done_is (seen, at + 1) (o, end) p.1 in
          let code_is : code ≡ 255 = eqb-true code 255 p.0 in
          record {
            order = [];
            fits = tt;
            adds = ap (λ (x : Options × ℕ). x.0) same;
            rest = rest;
            parts = ap (λ (k : ℕ). k ∷ rest) code_is;
            ends = sym (ap (λ (x : Options × ℕ). x.1) same);
          }
      | inr p ↦
          let u = unless_ok (fault_at seen at code rest) _ (o, end) p.1 in
          let h = no_fault seen at code rest u.0 in
          let within = IsBytes-rest code rest is in
          let b = begins seen code rest within h in
          let next = takes n (with_option (option_of code rest) seen) (at + (1 + value_length code rest))
          (drop (value_length code rest) rest) o end (IsBytes-drop (value_length code rest) rest within) u.1 in
          one_more seen at code (value_length code rest) end rest (drop (value_length code rest) rest) (option_of code rest) o
          b.code_is b.fits b.parts b.len h.is_new next
    ]

pub pass : {A : Type 0} {b : Bool} (x y : A) → b ≡ false → cond b x y ≡ y
pass x y e = rw e refl

pub unless_none : {A : Type 0} {f : Option OptionFault} (r : Result A OptionFault) → f ≡ None → unless f r ≡ r
unless_none r e = rw e refl

step_again : (n : ℕ) (seen : Options) (at code : ℕ) (rest after : List ℕ) (x : OneOption) (len : ℕ) (result : Result (Options × ℕ) OptionFault)
    → eqb code 255 ≡ false → fault_at seen at code rest ≡ None → option_of code rest ≡ x → value_length code rest ≡ len
    → drop (value_length code rest) rest ≡ after → read_from n (with_option x seen) (at + (1 + len)) after ≡ result
    → read_from (suc n) seen at (code ∷ rest) ≡ result
unfolding read_from
step_again n seen at code rest after x len result more clean x-is len-is after-is e =
    pass _ _ more ∙ unless_none _ clean
    ∙ ap (λ (y : OneOption). read_from n (with_option y seen) (at + (1 + value_length code rest)) (drop (value_length code rest) rest)) x-is
    ∙ ap (λ (k : ℕ). read_from n (with_option x seen) (at + (1 + k)) (drop (value_length code rest) rest)) len-is
    ∙ ap (λ (t : List ℕ). read_from n (with_option x seen) (at + (1 + len)) t) after-is
    ∙ e

not_end : (x : OneOption) → eqb (code_of x) 255 ≡ false
not_end (Version n) = refl
not_end (Minimum n) = refl
not_end (Swarm bytes) = refl
not_end (Integrity n) = refl
not_end (Hash n) = refl
not_end (Addressing n) = refl
not_end (Messages bitmap) = refl
not_end (Chunk n) = refl

reads : (order : List OneOption) (n : ℕ) (seen : Options) (at : ℕ) (more : List ℕ) (o : Options) → AllByRecursion FitsOption order
    → Adds seen order o → length (flat_map spelled order) < n
    → read_from n seen at (flat_map spelled order ++ 255 ∷ more) ≡ Ok (o, at + (length (flat_map spelled order) + 1))
unfolding read_from
reads order zero seen at more o fits adds low = absurd (omega arith)
reads [] (suc n) seen at more o fits adds low = ap (λ (s : Options). done (s, at + 1)) adds
reads (x ∷ xs) (suc n) seen at more o fits adds low =
    let after : List ℕ = flat_map spelled xs ++ 255 ∷ more in
    let cons : flat_map spelled (x ∷ xs) ≡ spelled x ++ flat_map spelled xs = flat_map-cons spelled x xs in
    let size : length (flat_map spelled (x ∷ xs)) ≡ 1 + (length (value_bytes x) + length (flat_map spelled xs)) =
    ap (λ (t : List ℕ). length t) cons ∙ omega (arith, length-append (spelled x) (flat_map spelled xs)) in
    let a = again seen at x after fits.0 adds.0 in
    let next = reads xs n (with_option x seen) (at + (1 + length (value_bytes x))) more o fits.1 adds.1 (omega (arith, low, size)) in
    let e = step_again n seen at (code_of x) (value_bytes x ++ after) after x (length (value_bytes x)) _ (not_end x) a.clean a.same a.len a.rest next in
    let bytes : flat_map spelled (x ∷ xs) ++ 255 ∷ more ≡ code_of x ∷ (value_bytes x ++ after) =
    ap (λ (t : List ℕ). t ++ 255 ∷ more) cons ∙ append_assoc (spelled x) (flat_map spelled xs) (255 ∷ more) in
    let place : (at + (1 + length (value_bytes x))) + (length (flat_map spelled xs) + 1) ≡ at + (length (flat_map spelled (x ∷ xs)) + 1) = omega (arith, size) in
    ap (λ (t : List ℕ). read_from (suc n) seen at t) bytes ∙ e ∙ ap (λ (k : ℕ). done (o, k)) place

-- ---- the laws

whole_text : (bytes : List ℕ) (o : Options) (end : ℕ) → TakesOptions none 0 bytes o end → (end ≤ length bytes) × IsSpelling o (take end bytes)
whole_text bytes o end t =
    let text : List ℕ = flat_map spelled t.order ++ 255 ∷ [] in
    let size : length bytes ≡ length text + length t.rest = ap (λ (b : List ℕ). length b) t.parts ∙ length-append text t.rest in
    let front : take end bytes ≡ text = ap (λ (b : List ℕ). take end b) t.parts ∙ take_at text t.rest end (omega (arith, t.ends)) in
    (omega (arith, t.ends, size), record { order = t.order; fits = t.fits; adds = t.adds; are = front })

-- what is read is spelled so
pub read_is_spelled : (bytes : List ℕ) (o : Options) (end : ℕ) → IsBytes bytes → read_options bytes ≡ Ok (o, end)
    → (end ≤ length bytes) × IsSpelling o (take end bytes)
unfolding read_options
read_is_spelled bytes o end is e = whole_text bytes o end (takes (length bytes) none 0 bytes o end is e)

-- what is spelled so is read, whatever follows
pub spelled_is_read : (o : Options) (text rest : List ℕ) → IsSpelling o text → read_options (text ++ rest) ≡ Ok (o, length text)
unfolding read_options
spelled_is_read o text rest is =
    let front : List ℕ = flat_map spelled is.order in
    let size : length text ≡ length front + 1 = ap (λ (t : List ℕ). length t) is.are ∙ length-append front (255 ∷ []) in
    let bytes : text ++ rest ≡ front ++ 255 ∷ rest = ap (λ (t : List ℕ). t ++ rest) is.are ∙ append_assoc front (255 ∷ []) rest in
    let low : length front < length (text ++ rest) = omega (arith, size, length-append text rest) in
    let e = reads is.order (length (text ++ rest)) none 0 rest o is.fits is.adds low in
    let place : 0 + (length front + 1) ≡ length text = omega (arith, size) in
    ap (λ (t : List ℕ). read_from (length (text ++ rest)) none 0 t) bytes ∙ e ∙ ap (λ (k : ℕ). done (o, k)) place

-- no spelling begins another one's, and each is of one value
pub one_reading : (o other : Options) (a b x y : List ℕ) → IsSpelling o a → IsSpelling other b → a ++ x ≡ b ++ y → (a ≡ b) × (o ≡ other)
one_reading o other a b x y is also e =
    let both = sym (spelled_is_read o a x is) ∙ ap (λ (t : List ℕ). read_options t) e ∙ spelled_is_read other b y also in
    let same = done_is (o, length a) (other, length b) both in
    let len : length a ≡ length b = ap (λ (p : Options × ℕ). p.1) same in
    (sym (take_at a x (length a) refl) ∙ ap (λ (t : List ℕ). take (length a) t) e ∙ take_at b y (length a) (sym len), ap (λ (p : Options × ℕ). p.0) same)

-- ---- the writer's spelling

-- These options, behind those that are seen, and the end are the text.
pub record Ends (seen o : Options) (text : List ℕ) : Type 0 where
  pub order : List OneOption
  pub fits : AllByRecursion FitsOption order
  pub adds : Adds seen order o
  pub are : text ≡ flat_map spelled order ++ 255 ∷ []

one_before : (seen o : Options) (x : OneOption) (text : List ℕ) → FitsOption x → is_given seen (code_of x) ≡ false
    → Ends (with_option x seen) o text → Ends seen o (spelled x ++ text)
one_before seen o x text fits free e = record {
  order = x ∷ e.order;
  fits = (fits, e.fits);
  adds = (free, e.adds);
  are = ap (λ (t : List ℕ). spelled x ++ t) e.are ∙ sym (append_assoc (spelled x) (flat_map spelled e.order) (255 ∷ []))
      ∙ ap (λ (t : List ℕ). t ++ 255 ∷ []) (sym (flat_map-cons spelled x e.order));
}

is_free : {A : Type 0} {o : Option A} → o ≡ None → is_some o ≡ false
is_free e = rw e refl

version_before : (seen o : Options) (v : Option ℕ) (text : List ℕ) → seen.version ≡ None → IfSome v (λ n. n < 256)
    → Ends (record seen { version = v }) o text → Ends seen o (spelled_if Version v ++ text)
version_before seen o None text free fits e = subst (λ (v : Option ℕ). Ends (record seen { version = v }) o text) (sym free) e
version_before seen o (Some n) text free fits e = one_before seen o (Version n) text fits (is_free free) e

minimum_before : (seen o : Options) (v : Option ℕ) (text : List ℕ) → seen.minimum ≡ None → IfSome v (λ n. n < 256)
    → Ends (record seen { minimum = v }) o text → Ends seen o (spelled_if Minimum v ++ text)
minimum_before seen o None text free fits e = subst (λ (v : Option ℕ). Ends (record seen { minimum = v }) o text) (sym free) e
minimum_before seen o (Some n) text free fits e = one_before seen o (Minimum n) text fits (is_free free) e

swarm_before : (seen o : Options) (v : Option (List ℕ)) (text : List ℕ) → seen.swarm ≡ None → IfSome v (λ bytes. length bytes < 2 ^ 16)
    → Ends (record seen { swarm = v }) o text → Ends seen o (spelled_if Swarm v ++ text)
swarm_before seen o None text free fits e = subst (λ (v : Option (List ℕ)). Ends (record seen { swarm = v }) o text) (sym free) e
swarm_before seen o (Some n) text free fits e = one_before seen o (Swarm n) text fits (is_free free) e

integrity_before : (seen o : Options) (v : Option ℕ) (text : List ℕ) → seen.integrity ≡ None → IfSome v (λ n. n < 256)
    → Ends (record seen { integrity = v }) o text → Ends seen o (spelled_if Integrity v ++ text)
integrity_before seen o None text free fits e = subst (λ (v : Option ℕ). Ends (record seen { integrity = v }) o text) (sym free) e
integrity_before seen o (Some n) text free fits e = one_before seen o (Integrity n) text fits (is_free free) e

hash_before : (seen o : Options) (v : Option ℕ) (text : List ℕ) → seen.hash ≡ None → IfSome v (λ n. n < 256)
    → Ends (record seen { hash = v }) o text → Ends seen o (spelled_if Hash v ++ text)
hash_before seen o None text free fits e = subst (λ (v : Option ℕ). Ends (record seen { hash = v }) o text) (sym free) e
hash_before seen o (Some n) text free fits e = one_before seen o (Hash n) text fits (is_free free) e

addressing_before : (seen o : Options) (v : Option ℕ) (text : List ℕ) → seen.addressing ≡ None → IfSome v (λ n. n < 256)
    → Ends (record seen { addressing = v }) o text → Ends seen o (spelled_if Addressing v ++ text)
addressing_before seen o None text free fits e = subst (λ (v : Option ℕ). Ends (record seen { addressing = v }) o text) (sym free) e
addressing_before seen o (Some n) text free fits e = one_before seen o (Addressing n) text fits (is_free free) e

messages_before : (seen o : Options) (v : Option (List ℕ)) (text : List ℕ) → seen.messages ≡ None → IfSome v (λ bitmap. length bitmap ≤ 32)
    → Ends (record seen { messages = v }) o text → Ends seen o (spelled_if Messages v ++ text)
messages_before seen o None text free fits e = subst (λ (v : Option (List ℕ)). Ends (record seen { messages = v }) o text) (sym free) e
messages_before seen o (Some n) text free fits e = one_before seen o (Messages n) text fits (is_free free) e

chunk_before : (seen o : Options) (v : Option ℕ) (text : List ℕ) → seen.chunk ≡ None → IfSome v (λ n. n < 2 ^ 32)
    → Ends (record seen { chunk = v }) o text → Ends seen o (spelled_if Chunk v ++ text)
chunk_before seen o None text free fits e = subst (λ (v : Option ℕ). Ends (record seen { chunk = v }) o text) (sym free) e
chunk_before seen o (Some n) text free fits e = one_before seen o (Chunk n) text fits (is_free free) e

regroup_spelling : (a b c d e f g h i : List ℕ) → ((((((((a ++ b) ++ c) ++ d) ++ e) ++ f) ++ g) ++ h) ++ i)
    ≡ a ++ (b ++ (c ++ (d ++ (e ++ (f ++ (g ++ (h ++ i)))))))
regroup_spelling a b c d e f g h i = simp append_assoc

all_before : (o : Options) → FitOptions o
    → Ends none o (spelled_if Version o.version ++ (spelled_if Minimum o.minimum ++ (spelled_if Swarm o.swarm
    ++ (spelled_if Integrity o.integrity ++ (spelled_if Hash o.hash ++ (spelled_if Addressing o.addressing
    ++ (spelled_if Messages o.messages ++ (spelled_if Chunk o.chunk ++ 255 ∷ []))))))))
all_before o fits =
    version_before _ o o.version _ refl fits.version
    (minimum_before _ o o.minimum _ refl fits.minimum
    (swarm_before _ o o.swarm _ refl fits.swarm
    (integrity_before _ o o.integrity _ refl fits.integrity
    (hash_before _ o o.hash _ refl fits.hash
    (addressing_before _ o o.addressing _ refl fits.addressing
    (messages_before _ o o.messages _ refl fits.messages
    (chunk_before _ o o.chunk _ refl fits.chunk
    (record { order = []; fits = tt; adds = refl; are = refl }))))))))

-- what the writer gives is a spelling
pub writer_spells : (o : Options) → FitOptions o → IsSpelling o (spelling_of o)
unfolding spelling_of
writer_spells o fits =
    let e = all_before o fits in
    record {
      order = e.order;
      fits = e.fits;
      adds = e.adds;
      are = regroup_spelling (spelled_if Version o.version) (spelled_if Minimum o.minimum) (spelled_if Swarm o.swarm)
          (spelled_if Integrity o.integrity) (spelled_if Hash o.hash) (spelled_if Addressing o.addressing)
          (spelled_if Messages o.messages) (spelled_if Chunk o.chunk) (255 ∷ []) ∙ e.are;
    }

-- and so it is read again, whatever follows
pub written_is_read : (o : Options) (rest : List ℕ) → FitOptions o → read_options (spelling_of o ++ rest) ≡ Ok (o, length (spelling_of o))
written_is_read o rest fits = spelled_is_read o (spelling_of o) rest (writer_spells o fits)

pub reads_spellings : ReadsSpellings
reads_spellings bytes o count is = (
  read_is_spelled bytes o count is,
  λ h.
      let len : length (take count bytes) ≡ count = omega (arith, length-take count bytes) in
      ap (λ (t : List ℕ). read_options t) (sym (take-append-drop count bytes))
      ∙ spelled_is_read o (take count bytes) (drop count bytes) h.1
      ∙ ap (λ (k : ℕ). done (o, k)) len,
)

pub written_again : WrittenIsRead
written_again o rest fits = (writer_spells o fits, written_is_read o rest fits)
