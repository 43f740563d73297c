-- The lines of a rehearsal, word by word.
use Rattle.std.proofs.Common.{◌≡◌, ℕ, suc, ◌+◌, ◌-◌, ◌%◌, ◌<◌, ◌≤◌, List, [], ◌∷◌, ◌++◌, refl, sym, ap, ◌∙◌, append_assoc, arith}
use Rattle.std.specs.Fmt.{digits}
use Rattle.rand_core.specs.Steps as steps
use Rattle.rand_chacha.specs.ChaCha.{ChaCha, next_word, of_seed}
use Rattle.pp_terms.specs.command.Report.{line}
use Rattle.pp_world.specs.Schedule.{Step, words, step_words, step_lines}
use Rattle.pp_world.specs.Rehearsal.{first_words, rehearsal_steps, rehearsal_text, trouble}
use Rattle.pp_replay.specs.DrawnLines.{beginning, rounds, drawn_lines}

step_lines-append : (a b : List Step) → step_lines (a ++ b) ≡ step_lines a ++ step_lines b
step_lines-append [] b = refl
step_lines-append (step ∷ a) b =
    ap (λ rest. line (words (step_words step)) ++ rest) (step_lines-append a b)
    ∙ sym (append_assoc (line (words (step_words step))) (step_lines a) (step_lines b))

step_lines-rehearsal_steps : (w : ℕ) (ws : List ℕ) → step_lines (rehearsal_steps (w ∷ ws))
    ≡ step_lines (trouble w) ++ (rounds 1 ++ step_lines (rehearsal_steps ws))
step_lines-rehearsal_steps w ws = step_lines-append (trouble w) _

drawn_lines-suc : (count : ℕ) (rng : ChaCha) → drawn_lines (suc count) rng
    ≡ step_lines (trouble (next_word 4 rng).0) ++ (rounds 1 ++ drawn_lines count (next_word 4 rng).1)
unfolding steps.first_words
drawn_lines-suc count rng =
    step_lines-rehearsal_steps (next_word 4 rng).0 (steps.first_words (next_word 4) count (next_word 4 rng).1)

-- where no word is left
pub drawn_lines-none : (i count : ℕ) (rng : ChaCha) → count ≤ i → drawn_lines (count - i) rng ≡ rounds 4000
unfolding steps.first_words digits
drawn_lines-none i count rng le =
    let none : count - i ≡ 0 = omega arith in
    rw none refl

-- a text with a word's lines, and then those of the words that are left, is the text with those of one word more
pub drawn_lines-more : (before after : List ℕ) (i count w : ℕ) (rng next : ChaCha) → i < count → (w, next) ≡ next_word 4 rng
    → after ≡ before ++ step_lines (trouble w) ++ rounds 1
    → after ++ drawn_lines (count - (i + 1)) next ≡ before ++ drawn_lines (count - i) rng
drawn_lines-more before after i count w rng next lt drawn added =
    let more : count - i ≡ suc (count - (i + 1)) = omega arith in
    let left : drawn_lines (count - i) rng ≡ step_lines (trouble w) ++ (rounds 1 ++ drawn_lines (count - (i + 1)) next) =
    ap (λ n. drawn_lines n rng) more ∙ drawn_lines-suc (count - (i + 1)) rng
    ∙ ap (λ (p : ℕ × ChaCha). step_lines (trouble p.0) ++ (rounds 1 ++ drawn_lines (count - (i + 1)) p.1)) (sym drawn) in
    rw (added, left) (simp append_assoc)

rehearsal_text-first_words : (count : ℕ) (rng : ChaCha)
    → let first = next_word 4 rng in
    let second = next_word 4 first.1 in
    rehearsal_text (steps.first_words (next_word 4) (suc (suc count)) rng)
    ≡ beginning (131072 + first.0 % 131072) (second.0 % 256) ++ drawn_lines count second.1
unfolding rehearsal_text steps.first_words
rehearsal_text-first_words count rng = refl

-- the text of the first so many words with a key, by two draws and what is drawn behind them
pub rehearsal_text-drawn : (key : List ℕ) (count a b : ℕ) (seeded first second : ChaCha)
    → seeded ≡ of_seed key → (a, first) ≡ next_word 4 seeded → (b, second) ≡ next_word 4 first
    → beginning (131072 + a % 131072) (b % 256) ++ drawn_lines count second ≡ rehearsal_text (first_words (suc (suc count)) key)
rehearsal_text-drawn key count a b seeded first second is one two =
    ap (λ (p : ℕ × ChaCha). beginning (131072 + a % 131072) (p.0 % 256) ++ drawn_lines count p.1) two
    ∙ ap (λ (p : ℕ × ChaCha). beginning (131072 + p.0 % 131072) ((next_word 4 p.1).0 % 256) ++ drawn_lines count (next_word 4 p.1).1) one
    ∙ sym (rehearsal_text-first_words count seeded)
    ∙ ap (λ g. rehearsal_text (steps.first_words (next_word 4) (suc (suc count)) g)) is
