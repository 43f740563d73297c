-- Lines of steps, read one by one.
use Rattle.std.proofs.Common.{◌≡◌, ℕ, ◌+◌, ◌≤◌, ◌<◌, ◌^◌, nat_le, Bool, List, [], ◌∷◌, length, Result, Ok, Err, refl, sym, ◌∙◌, ap, subst, arith}
use Rattle.std.specs.Prelude.{IsOk, IfOk}
use Rattle.std.specs.Result.{result_unwrap_or}
use Rattle.std.proofs.lemmas.Bool.{false≢true, leb-true, le-leb, lt-leb}
use Rattle.pp_world.specs.Schedule.{Schedule, IsSchedule, Role, Step, most_lines, most_text}
use Rattle.pp_world.specs.ScheduleFault as wrong
use Rattle.pp_world.specs.ScheduleFault.{ScheduleFault, ScheduleKind, fault}
use Rattle.pp_world.specs.ScheduleRead.{◌>>=◌, wants, Row, Declared, rows_of, words_of, step_in, step_at, steps_in, on_line, peers_declared, all_declared, peers_end, read_rest, read_first, read_schedule}
use Rattle.pp_world.proofs.Numbers.{bind_ok, wants_ok, value_or}
use Rattle.pp_world.proofs.Texts.{on_line_ok, text_read}
use Rattle.pp_replay.specs.declared.fault.ScheduleFault as seen
use Rattle.pp_replay.specs.Views.{viewed, same, as_fault}
use Rattle.pp_replay.specs.Left.{IsReadable, steps_left}
use Rattle.pp_replay.specs.Roles.{declared}

-- What is found of the lines that are left, from this one on, is found of all.
pub record AreSteps (peers line : ℕ) (text left : List ℕ) : Type 0 where
  pub ok : IsOk (steps_in peers line (rows_of left)) → IsOk (steps_in peers (peers + 3) (rows_of text))
  pub err : (f : ScheduleFault) → steps_in peers line (rows_of left) ≡ Err f → steps_in peers (peers + 3) (rows_of text) ≡ Err f
  pub low : line ≤ 65537

-- ---- lines that are read are read under lower numbers too

abbrev step_if : ℕ → Row → Bool → Result Step ScheduleKind
step_if peers row few = wants few wrong.Long >>= λ so. wants row.is_ended wrong.Line >>= λ ended. step_in peers (words_of row.text)

step_earlier : (peers n m : ℕ) (row : Row) (step : Step) → m ≤ n → step_at peers n row ≡ Ok step → step_at peers m row ≡ Ok step
step_earlier peers n m row step before read =
    let (u, is, rest) = bind_ok (wants (nat_le n most_lines) wrong.Long) _ step read in
    let few = leb-true n most_lines (wants_ok (nat_le n most_lines) wrong.Long u is) in
    ap (step_if peers row) (le-leb m most_lines (omega (arith, few, before))) ∙ rest

steps_with : (peers n : ℕ) (row : Row) (rows : List Row) (step : Step) (steps : List Step) → step_at peers n row ≡ Ok step
    → steps_in peers (n + 1) rows ≡ Ok steps → steps_in peers n (row ∷ rows) ≡ Ok (step ∷ steps)
steps_with peers n row rows step steps first rest =
    ap (λ (r : Result Step ScheduleKind). on_line n r >>= λ s. steps_in peers (n + 1) rows >>= λ more. Ok (s ∷ more)) first
    ∙ ap (λ (r : Result (List Step) ScheduleFault). r >>= λ more. Ok (step ∷ more)) rest

-- the first step, and the others
steps_apart : (peers n : ℕ) (row : Row) (rows : List Row) (all : List Step) → steps_in peers n (row ∷ rows) ≡ Ok all
    → (step : Step) × (steps : List Step) × (step_at peers n row ≡ Ok step) × (steps_in peers (n + 1) rows ≡ Ok steps) × (step ∷ steps ≡ all)
steps_apart peers n row rows all read =
    let (step, first, read2) = bind_ok (on_line n (step_at peers n row)) _ all read in
    let (steps, rest, read3) = bind_ok (steps_in peers (n + 1) rows) _ all read2 in
    (step, steps, on_line_ok n (step_at peers n row) step first, rest, ap (value_or all) read3)

steps_earlier : (peers n m : ℕ) (rows : List Row) (steps : List Step) → m ≤ n → steps_in peers n rows ≡ Ok steps → steps_in peers m rows ≡ Ok steps
steps_earlier peers n m [] steps before read = read
steps_earlier peers n m (row ∷ rows) steps before read =
    let (step, more, first, rest, is) = steps_apart peers n row rows steps read in
    steps_with peers m row rows step more (step_earlier peers n m row step before first)
    (steps_earlier peers (n + 1) (m + 1) rows more (omega (arith, before)) rest)
    ∙ ap (λ (xs : List Step). Ok xs) is

-- ---- what is left

ok_of : (r : Result (List Step) ScheduleFault) → IsOk r → r ≡ Ok (result_unwrap_or r [])
ok_of (Ok steps) is = refl
ok_of (Err f) is = absurd (false≢true is)

left_is : (peers : ℕ) (text : List ℕ) (steps : List Step) → steps_in peers 0 (rows_of text) ≡ Ok steps → steps_left peers text ≡ steps
left_is peers text steps read = ap (λ (r : Result (List Step) ScheduleFault). result_unwrap_or r []) read

is_ok_of : (r : Result (List Step) ScheduleFault) (steps : List Step) → r ≡ Ok steps → IsOk r
is_ok_of r steps is = subst IsOk (sym is) refl

-- the steps that are read from some line on
pub read_from : (peers n : ℕ) (text : List ℕ) → IsOk (steps_in peers n (rows_of text))
    → (steps_in peers n (rows_of text) ≡ Ok (steps_left peers text)) × IsOk (steps_in peers 0 (rows_of text))
read_from peers n text is =
    let steps = result_unwrap_or (steps_in peers n (rows_of text)) [] in
    let read = ok_of (steps_in peers n (rows_of text)) is in
    let first = steps_earlier peers n 0 (rows_of text) steps (omega arith) read in (
      read ∙ ap (λ (xs : List Step). Ok xs) (sym (left_is peers text steps first)),
      is_ok_of (steps_in peers 0 (rows_of text)) steps first,
    )

-- the first step is taken off
pub next_left : (peers : ℕ) (text behind : List ℕ) (row : Row) (step : Step) → rows_of text ≡ row ∷ rows_of behind
    → Ok step ≡ step_at peers 0 row → IsReadable peers text
    → IsReadable peers behind × (steps_left peers text ≡ step ∷ steps_left peers behind)
next_left peers text behind row step is found readable =
    let all = steps_left peers text in
    let read = sym (ap (steps_in peers 0) is) ∙ ok_of (steps_in peers 0 (rows_of text)) readable.steps in
    let (first, more, first_is, rest, whole) = steps_apart peers 0 row (rows_of behind) all read in
    let same = ap (value_or step) (found ∙ first_is) in
    let later = steps_earlier peers (0 + 1) 0 (rows_of behind) more (omega arith) rest in (
      record { few = readable.few; steps = is_ok_of (steps_in peers 0 (rows_of behind)) more later },
      sym whole ∙ ap (λ (s : Step). s ∷ more) (sym same) ∙ ap (λ (xs : List Step). step ∷ xs) (sym (left_is peers behind more later)),
    )

-- ---- the whole text

abbrev rest_with : Schedule → Declared → Result Schedule ScheduleFault
rest_with begun lines = all_declared (length lines.roles) 3 lines.roles >>= λ right. peers_end (length lines.roles) lines.behind
    >>= λ ended. steps_in (length lines.roles) (length lines.roles + 3) lines.behind
    >>= λ steps. Ok (record begun { roles = lines.roles; steps = steps })

pub rest_is : (begun : Schedule) (rows : List Row) (left : List ℕ) (roles : List Role) (peers : ℕ)
    → peers_declared 0 rows ≡ declared roles (rows_of left) → peers ≡ length roles
    → Ok tt ≡ all_declared peers 3 roles → Ok tt ≡ peers_end peers (rows_of left)
    → IsOk (steps_in peers (peers + 3) (rows_of left))
    → Ok (record begun { roles = roles; steps = steps_left peers left }) ≡ read_rest begun rows
rest_is begun rows left roles peers lines size all end steps =
    sym (ap (rest_with begun) lines
    ∙ ap (λ (n : ℕ). all_declared n 3 roles >>= λ right. peers_end n (rows_of left) >>= λ ended. steps_in n (n + 3) (rows_of left)
    >>= λ found. Ok (record begun { roles = roles; steps = found })) (sym size)
    ∙ ap (λ (r : Result (Unit {0}) ScheduleFault). r >>= λ right. peers_end peers (rows_of left)
    >>= λ ended. steps_in peers (peers + 3) (rows_of left) >>= λ found. Ok (record begun { roles = roles; steps = found })) (sym all)
    ∙ ap (λ (r : Result (Unit {0}) ScheduleFault). r
    >>= λ ended. steps_in peers (peers + 3) (rows_of left) >>= λ found. Ok (record begun { roles = roles; steps = found })) (sym end)
    ∙ ap (λ (r : Result (List Step) ScheduleFault). r >>= λ found. Ok (record begun { roles = roles; steps = found }))
    (read_from peers (peers + 3) left steps).0)

pub too_long : (text : List ℕ) → 2 ^ 20 < length text → read_schedule text ≡ Err (fault 0 wrong.Long)
unfolding read_schedule
too_long text long =
    ap (λ (b : Bool). wants b (fault 0 wrong.Long) >>= λ fits. read_first (rows_of text)) (lt-leb (length text) most_text long)

pub begins : (text : List ℕ) → length text ≤ 2 ^ 20 → read_schedule text ≡ read_first (rows_of text)
unfolding read_schedule
begins text fits =
    ap (λ (b : Bool). wants b (fault 0 wrong.Long) >>= λ so. read_first (rows_of text)) (le-leb (length text) most_text fits)

-- A result that is what the definition reads is a schedule that keeps the limits, or a fault.
pub is_schedule : (text : List ℕ) (r : Result Schedule seen.ScheduleFault) → viewed same as_fault r ≡ read_schedule text → IfOk r IsSchedule
is_schedule text (Ok s) is = (text_read text s (sym is)).1
is_schedule text (Err f) is = tt
