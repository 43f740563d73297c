-- How a text begins with a line, and a line with a word.
use Rattle.std.proofs.Common.{◌≡◌, ◌≢◌, ℕ, suc, ◌+◌, ◌<◌, ◌==◌, Bool, true, false, cond, nat_lt, nat_le, List, [], ◌∷◌, ◌++◌, length, sym, ◌∙◌, ap, arith, length-append}
use Rattle.std.specs.Prelude.{All, count_by}
use Rattle.std.proofs.lemmas.Bool.{ne_eqb, cond-false}
use Rattle.std.proofs.lemmas.List.Elements.{All-head, All-tail}
use Rattle.std.proofs.lemmas.List.Sums.{sum_by-cons}
use Rattle.pp_world.specs.ScheduleRead.{Row, rows_of, row_with, rows_with, words_of, word_with}
use Rattle.pp_world.proofs.Lines.{Lacks, ended, line_rows, some_word, word_last, word_front}

pub lacks_all : (x : ℕ) (text : List ℕ) → All (λ b. b ≢ x) text → Lacks x text
lacks_all x [] all = tt
lacks_all x (c ∷ cs) all = (ne_eqb c x (All-head (λ b. b ≢ x) c cs all), lacks_all x cs (All-tail (λ b. b ≢ x) c cs all))

-- ---- lines

pub rows_split : (text line behind : List ℕ) → text ≡ line ++ 10 ∷ behind → All (λ b. b ≢ 10) line
    → (rows_of text ≡ ended line ∷ rows_of behind) × (length behind < length text)
rows_split text line behind is all = (
  ap rows_of is ∙ line_rows line behind (lacks_all 10 line all),
  omega (arith, ap length is, length-append line (10 ∷ behind)),
)

-- a line that the text's end ends
abbrev pub unended : List ℕ → Row
unended text = record { text = text; is_ended = false }

row_alone : (c : ℕ) (cs : List ℕ) → Lacks 10 (c ∷ cs) → rows_of (c ∷ cs) ≡ unended (c ∷ cs) ∷ []
row_alone c [] all = cond-false (c == 10) (ended [] ∷ []) (row_with c []) all.0
row_alone c (d ∷ ds) all = ap (rows_with c) (row_alone d ds all.1)
    ∙ cond-false (c == 10) (ended [] ∷ unended (d ∷ ds) ∷ []) (row_with c (unended (d ∷ ds) ∷ [])) all.0

pub rows_alone : (text behind : List ℕ) → 0 < length text → All (λ b. b ≢ 10) text → length behind ≡ 0
    → (rows_of text ≡ unended text ∷ rows_of behind) × (length behind < length text)
rows_alone [] behind some all none = absurd (omega (arith, some))
rows_alone (c ∷ cs) [] some all none = (row_alone c cs (lacks_all 10 (c ∷ cs) all), omega arith)
rows_alone (c ∷ cs) (b ∷ bs) some all none = absurd (omega (arith, none))

-- ---- words

pub words_split : (line word behind : List ℕ) → line ≡ word ++ 32 ∷ behind → All (λ b. b ≢ 32) word
    → words_of line ≡ word ∷ words_of behind
words_split line word behind is all = ap words_of is ∙ word_front word behind (lacks_all 32 word all)

pub word_alone : (line : List ℕ) → All (λ b. b ≢ 32) line → words_of line ≡ line ∷ []
word_alone line all = word_last line (lacks_all 32 line all)

abbrev is_space : ℕ → Bool
is_space c = c == 32

-- there is a word more than spaces
pub length-words_of : (line : List ℕ) → length (words_of line) ≡ count_by (λ b. b == 32) line + 1
length-words_of [] = omega arith
length-words_of (c ∷ cs) =
    by (some_word cs) (length-words_of cs) (c == 32) ∙ ap (λ (n : ℕ). n + 1) (sym (sum_by-cons (λ b. cond (b == 32) 1 0) c cs))
  where
    by : (w : List ℕ) × (ws : List (List ℕ)) × (words_of cs ≡ w ∷ ws) → length (words_of cs) ≡ count_by is_space cs + 1 → (is : Bool)
        → length (cond is ([] ∷ words_of cs) (word_with c (words_of cs))) ≡ cond is 1 0 + count_by is_space cs + 1
    by some before true = omega (arith, before)
    by some before false = omega (arith, before, ap length some.2, ap (λ (ws : List (List ℕ)). length (word_with c ws)) some.2)

pub are_few_words : (line : List ℕ) → nat_lt (count_by is_space line) 15 ≡ nat_le (length (words_of line)) 15
are_few_words line =
    let one_more : suc (count_by is_space line) ≡ length (words_of line) = omega (arith, length-words_of line) in
    ap (λ (n : ℕ). nat_le n 15) one_more
