-- The pieces of a window's bytes, byte by byte.
use Rattle.std.proofs.Common.{◌≡◌, ◌⊎◌, inl, inr, ℕ, zero, suc, ◌+◌, ◌-◌, ◌<◌, ◌≤◌, Bool, true, false, ◌&&◌, ◌||◌, Option, Some, None, List, [], ◌∷◌, ◌++◌, length, get_or, take, drop, cond, refl, sym, ◌∙◌, ap, arith}
use Rattle.std.specs.Prelude.{if◌then◌else◌, nat_le, slice_index, slice_range, IsSome}
use Rattle.std.proofs.lemmas.Bool.{cases_lt, cases_Bool, cond-true, cond-false, lt-leb}
use Rattle.std.proofs.lemmas.Bool.Decides.{nat_tests}
use Rattle.std.proofs.lemmas.List.{get_or-take, get_or-drop, length-take-le, length-drop, append_assoc, append-nil, take-map, map_more}
use Rattle.pp_terms.specs.disk.Store.{IsWithin}
use Rattle.pp_terms.specs.disk.Disk.{Write}
use Rattle.pp_adapt.specs.declared.extents.Extent.{Extent}
use Rattle.pp_adapt.specs.declared.extents.TheConstants.{WINDOW}
use Rattle.pp_adapt.specs.Extents.{AreApart, is_in, is_covered}
use Rattle.pp_adapt.specs.Gathered.{is_within, byte_at, IsFree, IsGatheredOver, piece_of, pieces_of, with_taken}

-- an extent among sorted ones
pub apart_at : (low : ℕ) (es : List Extent) (i : ℕ) (d : Extent) → AreApart low es → i < length es → ((get_or es i d).start < (get_or es i d).end) × ((get_or es i d).end ≤ WINDOW)
apart_at low [] i d apart within = absurd (omega arith)
apart_at low (e ∷ es) zero d apart within = (apart.1, apart.2)
apart_at low (e ∷ es) (suc i) d apart within = apart_at (suc e.end) es i d apart.3 (omega arith)

-- the byte of a window at a place of the file, where an extent has it
abbrev window_byte : ℕ → List ℕ → List Extent → ℕ → Option ℕ
window_byte base bytes es k = if nat_le base k && is_covered es (k - base) then Some (slice_index bytes (k - base)) else None

piece_byte : (base : ℕ) (bytes : List ℕ) (e : Extent) (k : ℕ) → e.end ≤ length bytes → base + e.start ≤ k → k - base < e.end
    → slice_index (slice_range bytes e.start e.end) (k - (base + e.start)) ≡ slice_index bytes (k - base)
piece_byte base bytes e k long from below =
    get_or-take (e.end - e.start) (drop e.start bytes) (k - (base + e.start)) 0 (omega arith)
    ∙ get_or-drop e.start bytes (k - (base + e.start)) 0
    ∙ ap (λ (i : ℕ). slice_index bytes i) (omega arith)

length-piece : (bytes : List ℕ) (e : Extent) → e.end ≤ length bytes → length (slice_range bytes e.start e.end) ≡ e.end - e.start
length-piece bytes e long = length-take-le (e.end - e.start) (drop e.start bytes) (omega (arith, length-drop e.start bytes))

pub byte_at-pieces_of : (base low : ℕ) (bytes : List ℕ) (es : List Extent) (k : ℕ) → AreApart low es → WINDOW ≤ length bytes
    → byte_at (pieces_of base bytes es) k ≡ window_byte base bytes es k
byte_at-pieces_of base low bytes [] k apart long = grind (arith, nat_tests)
byte_at-pieces_of base low bytes (e ∷ es) k apart long =
    let rest = byte_at-pieces_of base (suc e.end) bytes es k apart.3 long in
    let size = length-piece bytes e (omega (arith, apart.2)) in
    elim (cases_Bool (is_within (base + e.start) (e.end - e.start) k)) [
      | inl inside ↦
          let from : base + e.start ≤ k = grind (arith, nat_tests) in
          let below : k - base < e.end = grind (arith, nat_tests) in
          let both : (nat_le base k && (is_in e (k - base) || is_covered es (k - base))) ≡ true = grind (arith, nat_tests) in
          cond-true _ _ _ (ap (λ (n : ℕ). is_within (base + e.start) n k) size ∙ inside)
          ∙ ap (λ (b : ℕ). Some b) (piece_byte base bytes e k (omega (arith, apart.2)) from below)
          ∙ sym (cond-true _ _ _ both)
      | inr outside ↦
          let same : (nat_le base k && is_covered es (k - base)) ≡ (nat_le base k && (is_in e (k - base) || is_covered es (k - base))) = grind (arith, nat_tests) in
          cond-false _ _ _ (ap (λ (n : ℕ). is_within (base + e.start) n k) size ∙ outside)
          ∙ rest
          ∙ ap (λ (b : Bool). cond b (Some (slice_index bytes (k - base))) None) same
    ]

before_window : (base : ℕ) (bytes : List ℕ) (es : List Extent) (k : ℕ) → k < base → window_byte base bytes es k ≡ None
before_window base bytes es k lt = rw (lt-leb base k lt) refl

not_covered : (base : ℕ) (bytes : List ℕ) (es : List Extent) (k : ℕ) → is_covered es (k - base) ≡ false → window_byte base bytes es k ≡ None
not_covered base bytes es k free =
    let none : (nat_le base k && is_covered es (k - base)) ≡ false = grind (arith, nat_tests) in
    cond-false _ _ _ none

window_over : (base place start : ℕ) (old new bytes : List ℕ) (before after : List Extent) (k : ℕ) → base + start ≡ place
    → ((i : ℕ) → is_covered after i ≡ (is_in (record { start = start; end = start + length bytes }) i || is_covered before i))
    → ((i : ℕ) → i < length bytes → slice_index new (start + i) ≡ slice_index bytes i)
    → ((i : ℕ) → (i < start) ⊎ (start + length bytes ≤ i) → slice_index new i ≡ slice_index old i)
    → window_byte base new after k ≡ (if is_within place (length bytes) k then Some (slice_index bytes (k - place)) else window_byte base old before k)
window_over base place start old new bytes before after k at covered inside outside =
    let here = covered (k - base) in
    elim (cases_Bool (is_within place (length bytes) k)) [
      | inl within ↦
          let from : place ≤ k = grind (arith, nat_tests) in
          let below : k < place + length bytes = grind (arith, nat_tests) in
          let both : (nat_le base k && is_covered after (k - base)) ≡ true = grind (arith, nat_tests) in
          let moved : start + (k - place) ≡ k - base = omega arith in
          cond-true _ _ _ both
          ∙ ap (λ (b : ℕ). Some b) (ap (λ (i : ℕ). slice_index new i) (sym moved) ∙ inside (k - place) (omega arith))
          ∙ sym (cond-true _ _ _ within)
      | inr without ↦ elim (cases_lt k base) [
        | inl lt ↦ before_window base new after k lt ∙ sym (before_window base old before k lt) ∙ sym (cond-false _ _ _ without)
        | inr ge ↦
            let out : (k - base < start) ⊎ (start + length bytes ≤ k - base) = grind (arith, nat_tests) in
            let same : is_covered after (k - base) ≡ is_covered before (k - base) = grind (arith, nat_tests) in
            ap (λ (b : Bool). cond (nat_le base k && b) (Some (slice_index new (k - base))) None) same
            ∙ ap (λ (b : ℕ). cond (nat_le base k && is_covered before (k - base)) (Some b) None) (outside (k - base) out)
            ∙ sym (cond-false _ _ _ without)
      ]
    ]

-- bytes written over a window's, and their extent added
pub gathered_over : (base place start : ℕ) (old new bytes : List ℕ) (before after : List Extent) → base + start ≡ place
    → AreApart 0 before → AreApart 0 after → WINDOW ≤ length old → WINDOW ≤ length new
    → ((i : ℕ) → is_covered after i ≡ (is_in (record { start = start; end = start + length bytes }) i || is_covered before i))
    → ((i : ℕ) → i < length bytes → slice_index new (start + i) ≡ slice_index bytes i)
    → ((i : ℕ) → (i < start) ⊎ (start + length bytes ≤ i) → slice_index new i ≡ slice_index old i)
    → IsGatheredOver (pieces_of base old before) place bytes (pieces_of base new after)
gathered_over base place start old new bytes before after at apart apart' long long' covered inside outside = λ k.
    byte_at-pieces_of base 0 new after k apart' long'
    ∙ window_over base place start old new bytes before after k at covered inside outside
    ∙ ap (λ (o : Option ℕ). cond (is_within place (length bytes) k) (Some (slice_index bytes (k - place))) o) (sym (byte_at-pieces_of base 0 old before k apart long))

-- where no offset of a range is covered, and where one is
pub free_in : (base : ℕ) (bytes : List ℕ) (es : List Extent) (place size : ℕ) → AreApart 0 es → WINDOW ≤ length bytes
    → ((i : ℕ) → place - base ≤ i → i < (place + size) - base → is_covered es i ≡ false) → IsFree (pieces_of base bytes es) place size
free_in base bytes es place size apart long free = λ k within.
    byte_at-pieces_of base 0 bytes es k apart long
    ∙ elim (cases_lt k base) [
      | inl lt ↦ before_window base bytes es k lt
      | inr ge ↦ not_covered base bytes es k (free (k - base) (omega (arith, within.0)) (omega (arith, within.1)))
    ]

pub met_in : (base : ℕ) (bytes : List ℕ) (es : List Extent) (place size i : ℕ) → AreApart 0 es → WINDOW ≤ length bytes
    → place - base ≤ i → i < (place + size) - base → is_covered es i ≡ true
    → (k : ℕ) × IsWithin place size k × IsSome (byte_at (pieces_of base bytes es) k)
met_in base bytes es place size i apart long from below met =
    let same : (base + i) - base ≡ i = omega arith in
    let both : (nat_le base (base + i) && is_covered es ((base + i) - base)) ≡ true = rw same (grind (arith, nat_tests)) in
    (base + i, (omega arith, omega arith), rw (byte_at-pieces_of base 0 bytes es (base + i) apart long) (rw both refl))

pub free_before : (base : ℕ) (bytes : List ℕ) (es : List Extent) (place size : ℕ) → AreApart 0 es → WINDOW ≤ length bytes → place + size ≤ base → IsFree (pieces_of base bytes es) place size
free_before base bytes es place size apart long passed = λ k within.
    byte_at-pieces_of base 0 bytes es k apart long ∙ before_window base bytes es k (omega (arith, within.1))

with_taken-more : (before : Option (List Write)) (some more : List Write) → with_taken (with_taken before some) more ≡ with_taken before (some ++ more)
with_taken-more None some more = refl
with_taken-more (Some taken) some more = ap (λ (l : List Write). Some l) (append_assoc taken some more)

pub with_taken-nothing : (before : Option (List Write)) → with_taken before [] ≡ before
with_taken-nothing None = refl
with_taken-nothing (Some taken) = ap (λ (l : List Write). Some l) (append-nil taken)

-- one piece more went out
pub taken_more : (base : ℕ) (bytes : List ℕ) (es : List Extent) (i : ℕ) (d : Extent) (pieces : List Write) (first before after : Option (List Write)) → i < length es
    → pieces_of base bytes es ≡ pieces → before ≡ with_taken first (take i pieces)
    → after ≡ with_taken before (piece_of base bytes (get_or es i d) ∷ []) → after ≡ with_taken first (take (i + 1) pieces)
taken_more base bytes es i d pieces first before after within are begun is =
    let one : take (i + 1) pieces ≡ take i pieces ++ piece_of base bytes (get_or es i d) ∷ [] =
    ap (λ (l : List Write). take (i + 1) l) (sym are)
    ∙ take-map (piece_of base bytes) (i + 1) es
    ∙ map_more (piece_of base bytes) es i d within
    ∙ ap (λ (l : List Write). l ++ piece_of base bytes (get_or es i d) ∷ []) (sym (take-map (piece_of base bytes) i es) ∙ ap (λ (l : List Write). take i l) are) in
    is
    ∙ ap (λ (o : Option (List Write)). with_taken o (piece_of base bytes (get_or es i d) ∷ [])) begun
    ∙ with_taken-more first (take i pieces) (piece_of base bytes (get_or es i d) ∷ [])
    ∙ ap (with_taken first) (sym one)
