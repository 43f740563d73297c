-- A schedule has few moves.
use Rattle.std.proofs.Common.{◌≡◌, ℕ, zero, suc, ◌+◌, ◌*◌, ◌^◌, ◌<◌, ◌≤◌, List, [], ◌∷◌, ◌++◌, length, refl, ap, arith}
use Rattle.std.specs.List.{AllByRecursion}
use Rattle.std.proofs.lemmas.List.{length-append}
use Rattle.pp_world.specs.Move.{Wait, for_each, rounds_of, moves_of_step, moves_of_steps, moves_of}
use Rattle.pp_world.specs.Schedule.{Act, IsSchedule, IsStep, Once, Run, Schedule, Start, Step, Turn}

length-for_each : (act : ℕ → Act) (from count : ℕ) → length (for_each act from count) ≡ count
length-for_each act from zero = refl
length-for_each act from (suc n) = ap (λ (k : ℕ). suc k) (length-for_each act (from + 1) n)

length-rounds : (peers gain rounds : ℕ) → peers ≤ 16 → length (rounds_of peers gain rounds) ≤ 17 * rounds
length-rounds peers gain zero few = omega arith
length-rounds peers gain (suc n) few =
    let one : length (for_each Turn 0 peers) ≡ peers = length-for_each Turn 0 peers in
    let both : length ((Wait gain ∷ for_each Turn 0 peers) ++ rounds_of peers gain n) ≡ suc (length (for_each Turn 0 peers)) + length (rounds_of peers gain n) =
    length-append (Wait gain ∷ for_each Turn 0 peers) (rounds_of peers gain n) in
    let others = length-rounds peers gain n few in omega (arith, one, both, others, few)

length-step : (peers : ℕ) (step : Step) → peers ≤ 16 → IsStep peers step → length (moves_of_step peers step) ≤ 170000
length-step peers (Once act) few is = omega arith
length-step peers (Run rounds gain) few is = (let all = length-rounds peers gain rounds few in let most = is.1 in omega (arith, all, most))

length-steps : (peers : ℕ) (steps : List Step) → peers ≤ 16 → AllByRecursion (IsStep peers) steps → length (moves_of_steps peers steps) ≤ 170000 * length steps
length-steps peers [] few are = omega arith
length-steps peers (step ∷ steps) few are =
    let one = length-step peers step few are.0 in
    let others = length-steps peers steps few are.1 in
    let both : length (moves_of_step peers step ++ moves_of_steps peers steps) ≡ length (moves_of_step peers step) + length (moves_of_steps peers steps) =
    length-append (moves_of_step peers step) (moves_of_steps peers steps) in omega (arith, one, others, both)

-- so a count of what they refused fits 64 bits
pub few_moves : (s : Schedule) → IsSchedule s → 4 * length (moves_of s) < 2 ^ 64
few_moves s is =
    let few = is.few in
    let lines = is.lines_fit in
    let started : length (for_each Start 0 (length s.roles)) ≡ length s.roles = length-for_each Start 0 (length s.roles) in
    let steps = length-steps (length s.roles) s.steps few is.steps_are in
    let both : length (moves_of s) ≡ length (for_each Start 0 (length s.roles)) + length (moves_of_steps (length s.roles) s.steps) =
    length-append (for_each Start 0 (length s.roles)) (moves_of_steps (length s.roles) s.steps) in omega (arith, few, lines, started, steps, both)
