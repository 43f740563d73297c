-- The text of a rehearsal is the text of a schedule.
use Rattle.std.proofs.Common.{◌≡◌, ℕ, ◌+◌, ◌*◌, ◌/◌, ◌%◌, ◌^◌, ◌==◌, ◌&&◌, ◌<◌, ◌≤◌, Bool, true, false, if◌then◌else◌, List, [], ◌∷◌, ◌++◌, length, codes, decimal, Ok, refl, arith, rules}
use Rattle.std.specs.List.{AllByRecursion}
use Rattle.std.specs.Fmt.{digits}
use Rattle.std.specs.Prelude.{slice_index, drop}
use Rattle.std.proofs.lemmas.Fmt.{length-decimal-le}
use Rattle.std.proofs.lemmas.List.{length-append, length-drop}
use Rattle.pp_terms.specs.command.Report.{line}
use Rattle.pp_world.specs.Rehearsal.{rehearsal_steps, rehearsal_of, rehearsal_text, rehearsal_roles, RehearsalsRead}
use Rattle.pp_world.specs.Schedule.{Lose, Repeat, Later, Crash, Start, Step, Once, Run, IsSchedule, IsStep, words, step_words, role_lines, step_lines, header, schedule_text}
use Rattle.pp_world.specs.ScheduleRead.{read_schedule}
use Rattle.pp_world.proofs.Texts.{read_text}

abbrev step_line : Step → List ℕ
step_line step = line (words (step_words step))

-- So many steps at most, each of at most 20 bytes, in a schedule of four peers.
record Fit (most : ℕ) (steps : List Step) : Type 0 where
  are : AllByRecursion (IsStep 4) steps
  few : length steps ≤ most
  short : length (step_lines steps) ≤ 20 * most

-- ---- single steps

small : (p : ℕ) → p < 4 → length (decimal p) ≤ 1
small p lt = length-decimal-le 1 p (omega arith) (omega (arith, lt)) (omega (arith, lt))

one_line : (text : List ℕ) → length (line text) ≡ length text + 1
one_line text = length-append text (10 ∷ [])

behind : (w v : List ℕ) (vs : List (List ℕ)) → length (words (w ∷ v ∷ vs)) ≡ length w + 1 + length (words (v ∷ vs))
behind w v vs =
    let a = length-append (w ++ codes " ") (words (v ∷ vs)) in
    let b = length-append w (codes " ") in
    omega (arith, a, b)

two_words : (w v : List ℕ) → length (line (words (w ∷ v ∷ []))) ≡ length w + length v + 2
two_words w v = omega (arith, one_line (words (w ∷ v ∷ [])), behind w v [])

three_words : (w v u : List ℕ) → length (line (words (w ∷ v ∷ u ∷ []))) ≡ length w + length v + length u + 3
three_words w v u = omega (arith, one_line (words (w ∷ v ∷ u ∷ [])), behind w v (u ∷ []), behind v u [])

before : (most : ℕ) (step : Step) (steps : List Step) → IsStep 4 step → length (step_line step) ≤ 20 → Fit most steps → Fit (most + 1) (step ∷ steps)
before most step steps is short fit = record {
  are = (is, fit.are);
  few = let few = fit.few in omega (arith, few);
  short = let rest = fit.short in let sum = length-append (step_line step) (step_lines steps) in omega (arith, rest, sum, short);
}

looser : (most more : ℕ) (steps : List Step) → most ≤ more → Fit most steps → Fit more steps
looser most more steps le fit = record {
  are = fit.are;
  few = let few = fit.few in omega (arith, few, le);
  short = let rest = fit.short in omega (arith, rest, le);
}

module _ (p pick : ℕ) (lt : p < 4) (pick_lt : pick < 16) (most : ℕ) (steps : List Step) (fit : Fit most steps) where
  lose : Fit (most + 1) (Once (Lose p) ∷ steps)
  lose = before most (Once (Lose p)) steps lt (let n = small p lt in let e = two_words (codes "lose") (decimal p) in omega (arith, n, e)) fit

  again : Fit (most + 1) (Once (Repeat p) ∷ steps)
  again = before most (Once (Repeat p)) steps lt (let n = small p lt in let e = two_words (codes "repeat") (decimal p) in omega (arith, n, e)) fit

  later : Fit (most + 1) (Once (Later p) ∷ steps)
  later = before most (Once (Later p)) steps lt (let n = small p lt in let e = two_words (codes "later") (decimal p) in omega (arith, n, e)) fit

  start : Fit (most + 1) (Once (Start p) ∷ steps)
  start = before most (Once (Start p)) steps lt (let n = small p lt in let e = two_words (codes "start") (decimal p) in omega (arith, n, e)) fit

  pick_short : length (decimal pick) ≤ 2
  pick_short = length-decimal-le 2 pick (omega arith) (omega (arith, pick_lt)) (omega (arith, pick_lt))

  crash : Fit (most + 1 + 1) (Once (Crash p pick) ∷ Once (Start p) ∷ steps)
  crash = before (most + 1) (Once (Crash p pick)) (Once (Start p) ∷ steps) (lt, omega (arith, pick_lt))
      (let n = small p lt in let m = pick_short in let e = three_words (codes "crash") (decimal p) (decimal pick) in omega (arith, n, m, e)) start

  -- whatever a word does
  troubled : (a b c d : Bool) → Fit (most + 1 + 1)
      ((if a then Once (Lose p) ∷ []
      else (if b then Once (Repeat p) ∷ []
      else (if c then Once (Later p) ∷ []
      else (if d then Once (Crash p pick) ∷ Once (Start p) ∷ []
      else [])))) ++ steps)
  troubled true b c d = looser (most + 1) (most + 1 + 1) (Once (Lose p) ∷ steps) (omega arith) lose
  troubled false true c d = looser (most + 1) (most + 1 + 1) (Once (Repeat p) ∷ steps) (omega arith) again
  troubled false false true d = looser (most + 1) (most + 1 + 1) (Once (Later p) ∷ steps) (omega arith) later
  troubled false false false true = crash
  troubled false false false false = looser most (most + 1 + 1) steps (omega arith) fit

-- ---- all steps

runs : (rounds most : ℕ) (steps : List Step) → 1 ≤ rounds → rounds < 10000 → Fit most steps → Fit (most + 1) (Run rounds 20000 ∷ steps)
runs rounds most steps some lt fit = before most (Run rounds 20000) steps (some, omega (arith, lt), omega arith)
    (let n = length-decimal-le 4 rounds (omega arith) (omega (arith, lt)) (omega (arith, lt)) in
    let m = length-decimal-le 5 20000 (omega arith) (omega arith) (omega arith) in
    let e = three_words (codes "run") (decimal rounds) (decimal 20000) in omega (arith, n, m, e)) fit

none : Fit 0 []
none = record { are = tt; few = omega arith; short = omega arith }

steps_fit : (ws : List ℕ) → Fit (3 * length ws + 1) (rehearsal_steps ws)
steps_fit [] = runs 4000 0 [] (omega arith) (omega arith) none
steps_fit (w ∷ ws) = looser (3 * length ws + 1 + 1 + 1 + 1) (3 * length (w ∷ ws) + 1) (rehearsal_steps (w ∷ ws)) (omega arith)
    (troubled (1 + (w / 256) % 3) ((w / 65536) % 16) (omega arith) (omega arith)
    (3 * length ws + 1 + 1) (Run 1 20000 ∷ rehearsal_steps ws) (runs 1 (3 * length ws + 1) (rehearsal_steps ws) (omega arith) (omega arith) (steps_fit ws))
    (w % 16 == 0) (w % 16 == 1) (w % 16 == 2) (w % 16 == 3 && (w / 16) % 8 == 0))

-- ---- the schedule

roles_short : length (role_lines 0 rehearsal_roles) ≤ 100
unfolding digits
roles_short = omega arith

module _ (ws : List ℕ) (few : length ws ≤ 2002) where
  abbrev size : ℕ
  size = 131072 + slice_index ws 0 % 131072

  abbrev shift : ℕ
  shift = slice_index ws 1 % 256

  size_lt : size < 262144
  size_lt = omega arith

  shift_lt : shift < 256
  shift_lt = omega arith

  rest_few : length (drop 2 ws) ≤ 2002
  rest_few = omega (arith, few, length-drop 2 ws)

  steps : Fit (3 * length (drop 2 ws) + 1) (rehearsal_steps (drop 2 ws))
  steps = steps_fit (drop 2 ws)

  abbrev content_words : List ℕ
  content_words = words (codes "content" ∷ decimal 1024 ∷ decimal size ∷ decimal shift ∷ [])

  content_short : length (line content_words) ≤ 30
  content_short =
      let e : length (line content_words) ≡ length content_words + 1 = one_line content_words in
      let f : length content_words ≡ 8 + length (words (decimal 1024 ∷ decimal size ∷ decimal shift ∷ [])) = behind (codes "content") (decimal 1024) (decimal size ∷ decimal shift ∷ []) in
      let g = behind (decimal 1024) (decimal size) (decimal shift ∷ []) in
      let h = behind (decimal size) (decimal shift) [] in
      let a = length-decimal-le 6 size (omega arith) (omega (arith, size_lt)) (omega (arith, size_lt)) in
      let b = length-decimal-le 3 shift (omega arith) (omega (arith, shift_lt)) (omega (arith, shift_lt)) in
      let c = length-decimal-le 4 1024 (omega arith) (omega arith) (omega arith) in
      omega (arith, a, b, c, e, f, g, h)

  abbrev head : List ℕ
  head = line header ++ line content_words

  abbrev last : List ℕ
  last = step_lines (rehearsal_steps (drop 2 ws))

  text_short : length (schedule_text (rehearsal_of ws)) ≤ 2 ^ 20
  text_short =
      let whole : length (schedule_text (rehearsal_of ws)) ≡ length (head ++ role_lines 0 rehearsal_roles) + length last
      = length-append (head ++ role_lines 0 rehearsal_roles) last in
      let both : length (head ++ role_lines 0 rehearsal_roles) ≡ length head + length (role_lines 0 rehearsal_roles)
      = length-append head (role_lines 0 rehearsal_roles) in
      let top : length head ≡ 17 + length (line content_words) = length-append (line header) (line content_words) in
      let steps_short : length last ≤ 20 * (3 * length (drop 2 ws) + 1) = steps.short in
      omega (arith, whole, both, top, steps_short, content_short, roles_short, rest_few)

  is_schedule : IsSchedule (rehearsal_of ws)
  is_schedule = record {
    chunk_size = record { exponent = 10; least = omega arith; greatest = omega arith; power = refl };
    some = omega arith;
    most = omega (arith, size_lt);
    byte = omega (arith, shift_lt);
    peers = omega arith;
    few = omega arith;
    roles_are = search rules;
    steps_are = steps.are;
    text_fits = text_short;
    lines_fit = let a = steps.few in omega (arith, a, rest_few);
  }

  is_read : read_schedule (rehearsal_text ws) ≡ Ok (rehearsal_of ws)
  unfolding rehearsal_text
  is_read = read_text (rehearsal_of ws) is_schedule

pub rehearsals_read : RehearsalsRead
rehearsals_read = record { are = is_schedule; read = is_read }
