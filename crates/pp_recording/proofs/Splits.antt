-- Texts that are split at the first such byte, and lines.
use Rattle.std.proofs.Common.{◌≡◌, ◌≢◌, ℕ, zero, suc, ◌<◌, ◌≤◌, List, [], ◌∷◌, ◌++◌, length, get_or, codes, All, refl, sym, ◌∙◌, ap, subst, arith, append_assoc}
use Rattle.std.proofs.lemmas.List.{length-append}
use Rattle.std.proofs.lemmas.List.Elements.{All-head, All-tail, All-from_get_or}
use Rattle.pp_recording.specs.Recording.{AreLines}

-- no such byte
abbrev pub Lacks : ℕ → List ℕ → Type 0
Lacks byte text = All (λ b. b ≢ byte) text

pub lacks_not : (byte : ℕ) (a b : List ℕ) → Lacks byte (a ++ byte ∷ b) → ⊥
lacks_not byte [] b none = All-head (λ c. c ≢ byte) byte b none refl
lacks_not byte (x ∷ a) b none = lacks_not byte a b (All-tail (λ c. c ≢ byte) x (a ++ byte ∷ b) none)

pub lacks_none : (byte : ℕ) (text a b : List ℕ) → Lacks byte text → text ≡ a ++ byte ∷ b → ⊥
lacks_none byte text a b none e = lacks_not byte a b (subst (λ t. Lacks byte t) e none)

-- what stands before the first such byte and behind it
pub split_same : (byte : ℕ) (a b x y : List ℕ) → Lacks byte a → Lacks byte x → a ++ byte ∷ b ≡ x ++ byte ∷ y → (a ≡ x) × (b ≡ y)
split_same byte [] b [] y p q e = (refl, cc)
split_same byte [] b (c ∷ x) y p q e = let head : c ≡ byte = cc in absurd (All-head (λ d. d ≢ byte) c x q head)
split_same byte (c ∷ a) b [] y p q e = let head : c ≡ byte = cc in absurd (All-head (λ d. d ≢ byte) c a p head)
split_same byte (c ∷ a) b (d ∷ x) y p q e =
    let head : c ≡ d = cc in
    let rest : a ++ byte ∷ b ≡ x ++ byte ∷ y = cc in
    let (front, back) = split_same byte a b x y (All-tail (λ z. z ≢ byte) c a p) (All-tail (λ z. z ≢ byte) d x q) rest in
    (ap (λ t. c ∷ t) front ∙ ap (λ n. n ∷ x) head, back)

-- ---- lines

line_regroup : (front row rest : List ℕ) → (front ++ row ++ 10 ∷ []) ++ rest ≡ front ++ (row ++ 10 ∷ rest)
line_regroup front row rest = simp append_assoc

pub lines_same : (n : ℕ) (a x b y : List ℕ) → AreLines n a → AreLines n b → a ++ x ≡ b ++ y → (a ≡ b) × (x ≡ y)
lines_same zero a x b y p q e =
    let one : a ++ x ≡ x = ap (λ t. t ++ x) p in
    let two : b ++ y ≡ y = ap (λ t. t ++ y) q in
    (p ∙ sym q, sym one ∙ e ∙ two)
lines_same (suc n) a x b y (front, row, is, clean, lines) (front2, row2, is2, clean2, lines2) e =
    let whole : front ++ (row ++ 10 ∷ x) ≡ front2 ++ (row2 ++ 10 ∷ y) =
    sym (line_regroup front row x) ∙ sym (ap (λ t. t ++ x) is) ∙ e ∙ ap (λ t. t ++ y) is2 ∙ line_regroup front2 row2 y in
    let (fronts, behind) = lines_same n front (row ++ 10 ∷ x) front2 (row2 ++ 10 ∷ y) lines lines2 whole in
    let (rows, rests) = split_same 10 row x row2 y clean clean2 behind in
    (is ∙ ap (λ t. t ++ row ++ 10 ∷ []) fronts ∙ ap (λ t. front2 ++ t ++ 10 ∷ []) rows ∙ sym is2, rests)

-- the line behind n lines
pub next_line : (n : ℕ) (front rest more left : List ℕ) → AreLines n front → AreLines (suc n) more → front ++ rest ≡ more ++ left
    → (row : List ℕ) × Lacks 10 row × (rest ≡ row ++ 10 ∷ left) × (more ≡ front ++ row ++ 10 ∷ [])
next_line n front rest more left lines (before, row, is, clean, lines2) e =
    let whole : front ++ rest ≡ before ++ (row ++ 10 ∷ left) = e ∙ ap (λ t. t ++ left) is ∙ line_regroup before row left in
    let (fronts, behind) = lines_same n front rest before (row ++ 10 ∷ left) lines lines2 whole in
    (row, clean, behind, is ∙ ap (λ t. t ++ row ++ 10 ∷ []) (sym fronts))

pub lines_more : (n : ℕ) (front row : List ℕ) → AreLines n front → Lacks 10 row → AreLines (suc n) (front ++ row ++ 10 ∷ [])
lines_more n front row lines clean = (front, row, refl, clean, lines)

pub lines_long : (n : ℕ) (front : List ℕ) → AreLines n front → n ≤ length front
lines_long zero front is = omega arith
lines_long (suc n) front (before, row, is, clean, lines) =
    let low = lines_long n before lines in
    let size = ap (λ t. length t) is in
    let one = length-append (before ++ row) (10 ∷ []) in
    let two = length-append before row in
    omega arith

pub lacks_end : Lacks 10 (codes "end")
lacks_end = All-from_get_or (λ b. b ≢ 10) (codes "end") 0 each
  where
    each : (i : ℕ) → i < 3 → get_or (codes "end") i 0 ≢ 10
    each zero lt same = omega (arith, same)
    each (suc zero) lt same = omega (arith, same)
    each (suc (suc zero)) lt same = omega (arith, same)
    each (suc (suc (suc i))) lt same = omega (arith, lt)
