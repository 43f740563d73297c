-- Texts as lines, and lines as words: each is taken apart in one way, and put together again.
use Rattle.std.proofs.Common.{◌≡◌, ℕ, ◌==◌, Bool, true, false, cond, List, [], ◌∷◌, ◌++◌, refl, sym, ◌∙◌, ap, append_assoc, codes}
use Rattle.std.specs.List.{AllByRecursion}
use Rattle.std.proofs.lemmas.Bool.{eqb-true, cond-false}
use Rattle.pp_world.specs.Schedule.{words}
use Rattle.pp_world.specs.ScheduleRead.{Row, rows_of, row_with, rows_with, words_of, word_with, words_with}

-- A byte stands nowhere in a text.
abbrev pub Lacks : ℕ → List ℕ → Type 0
Lacks x text = AllByRecursion (λ c. (c == x) ≡ false) text

-- ---- lines

-- a line that a line feed ends
abbrev pub ended : List ℕ → Row
ended text = record { text = text; is_ended = true }

-- the text of lines
abbrev pub unrow : List Row → List ℕ
unrow [] = []
unrow (row ∷ rows) = row.text ++ cond row.is_ended (10 ∷ unrow rows) (unrow rows)

row_back : (c : ℕ) (rows : List Row) → unrow (row_with c rows) ≡ c ∷ unrow rows
row_back c [] = refl
row_back c (row ∷ rows) = refl

rows_back : (c : ℕ) (rows : List Row) → unrow (rows_with c rows) ≡ c ∷ unrow rows
rows_back c rows = by (c == 10) refl
  where
    by : (is : Bool) → (c == 10) ≡ is → unrow (cond is (ended [] ∷ rows) (row_with c rows)) ≡ c ∷ unrow rows
    by true e = ap (λ (x : ℕ). x ∷ unrow rows) (sym (eqb-true c 10 e))
    by false e = row_back c rows

pub unrow_rows : (text : List ℕ) → unrow (rows_of text) ≡ text
unrow_rows [] = refl
unrow_rows (c ∷ cs) = rows_back c (rows_of cs) ∙ ap (λ (x : List ℕ). c ∷ x) (unrow_rows cs)

pub line_rows : (text rest : List ℕ) → Lacks 10 text → rows_of (text ++ 10 ∷ rest) ≡ ended text ∷ rows_of rest
line_rows [] rest all = refl
line_rows (c ∷ cs) rest all = ap (rows_with c) (line_rows cs rest all.1)
    ∙ cond-false (c == 10) (ended [] ∷ ended cs ∷ rows_of rest) (row_with c (ended cs ∷ rows_of rest)) all.0

-- ---- words

-- a space stands between two words
pub spaced : (w v : List ℕ) (vs : List (List ℕ)) → words (w ∷ v ∷ vs) ≡ w ++ 32 ∷ words (v ∷ vs)
spaced w v vs = append_assoc w (codes " ") (words (v ∷ vs))

word_back : (c : ℕ) (w : List ℕ) (ws : List (List ℕ)) → words (word_with c (w ∷ ws)) ≡ c ∷ words (w ∷ ws)
word_back c w [] = refl
word_back c w (v ∷ vs) = refl

-- some word stands on each line
pub some_word : (text : List ℕ) → (w : List ℕ) × (ws : List (List ℕ)) × (words_of text ≡ w ∷ ws)
some_word [] = ([], [], refl)
some_word (c ∷ cs) = by (some_word cs) (c == 32)
  where
    by : (w : List ℕ) × (ws : List (List ℕ)) × (words_of cs ≡ w ∷ ws) → (is : Bool)
        → (w : List ℕ) × (ws : List (List ℕ)) × (cond is ([] ∷ words_of cs) (word_with c (words_of cs)) ≡ w ∷ ws)
    by before true = ([], words_of cs, refl)
    by before false = (c ∷ before.0, before.1, ap (word_with c) before.2)

pub words_back : (text : List ℕ) → words (words_of text) ≡ text
words_back [] = refl
words_back (c ∷ cs) = by (words_back cs) (c == 32) refl
  where
    before : (w : List ℕ) × (ws : List (List ℕ)) × (words_of cs ≡ w ∷ ws)
    before = some_word cs

    by : words (words_of cs) ≡ cs → (is : Bool) → (c == 32) ≡ is → words (cond is ([] ∷ words_of cs) (word_with c (words_of cs))) ≡ c ∷ cs
    by back true e = ap (λ (x : List (List ℕ)). words ([] ∷ x)) before.2 ∙ spaced [] before.0 before.1
        ∙ ap (λ (x : ℕ). x ∷ words (before.0 ∷ before.1)) (sym (eqb-true c 32 e))
        ∙ ap (λ (x : List (List ℕ)). c ∷ words x) (sym before.2) ∙ ap (λ (x : List ℕ). c ∷ x) back
    by back false e = ap (λ (x : List (List ℕ)). words (word_with c x)) before.2 ∙ word_back c before.0 before.1
        ∙ ap (λ (x : List (List ℕ)). c ∷ words x) (sym before.2) ∙ ap (λ (x : List ℕ). c ∷ x) back

pub word_last : (w : List ℕ) → Lacks 32 w → words_of w ≡ w ∷ []
word_last [] all = refl
word_last (c ∷ cs) all = ap (words_with c) (word_last cs all.1) ∙ cond-false (c == 32) ([] ∷ cs ∷ []) (word_with c (cs ∷ [])) all.0

pub word_front : (w rest : List ℕ) → Lacks 32 w → words_of (w ++ 32 ∷ rest) ≡ w ∷ words_of rest
word_front [] rest all = refl
word_front (c ∷ cs) rest all = ap (words_with c) (word_front cs rest all.1)
    ∙ cond-false (c == 32) ([] ∷ cs ∷ words_of rest) (word_with c (cs ∷ words_of rest)) all.0

pub words_forth : (w : List ℕ) (ws : List (List ℕ)) → AllByRecursion (Lacks 32) (w ∷ ws) → words_of (words (w ∷ ws)) ≡ w ∷ ws
words_forth w [] all = word_last w all.0
words_forth w (v ∷ vs) all = ap words_of (spaced w v vs) ∙ word_front w (words (v ∷ vs)) all.0 ∙ ap (λ (x : List (List ℕ)). w ∷ x) (words_forth v vs all.1)
