-- The words of steps, by their number.
use Rattle.std.proofs.Common.{◌≡◌, ℕ, ◌^◌, ◌-◌, Bool, true, false, cond, Option, Some, None, Result, Ok, Err, List, [], ◌∷◌, codes, is_some, not, refl, sym, ◌∙◌, ap}
use Rattle.std.specs.Str.{bytes_eq}
use Rattle.std.proofs.lemmas.Bool.{false≢true}
use denote.Ref.{Bor}
use Rattle.pp_world.specs.Schedule.{Act, Step, Once, Run, Forge, Fail, Crash}
use Rattle.pp_world.specs.ScheduleFault as wrong
use Rattle.pp_world.specs.ScheduleFault.{ScheduleKind}
use Rattle.pp_world.specs.ScheduleRead.{◌>>=◌, found, number_in, peer_in, one_of, datagram_in, device_of, one_peer, run_in, forge_in, fail_in, crash_in, step_of}
use Rattle.pp_world.proofs.Lines.{some_word}
use Rattle.pp_replay.specs.declared.names.StepName.{StepName}
use Rattle.pp_replay.specs.declared.names.StepName.TheVariants as name
use Rattle.pp_replay.specs.StepNames.{step_named, step_for}
use Rattle.pp_replay.specs.Lines.{words_in}
use Rattle.pp_replay.specs.Arity.{are_none, only_two, only_three, only_peer}

-- no word is left exactly where no text is
pub none_left : (rest : Option (Bor (List ℕ))) (r : Bool) → is_some rest ≡ not r → r ≡ are_none (words_in rest)
none_left None true e = refl
none_left None false e = absurd (false≢true e)
none_left (Some line) r e = flipped r e ∙ sym (let some = some_word line.now in ap are_none some.2)
  where
    flipped : (b : Bool) → true ≡ not b → b ≡ false
    flipped true h = absurd (false≢true (sym h))
    flipped false h = refl

-- ---- words in their number

one_peer_is : (peers : ℕ) (act : ℕ → Act) (ws : List (List ℕ)) → one_peer peers act ws ≡ (only_peer peers ws >>= λ who. Ok (Once (act who)))
one_peer_is peers act [] = refl
one_peer_is peers act (p ∷ []) = nested (peer_in p) (one_of peers) (λ who. Ok (Once (act who)))
  where
    nested : {A B C E : Type 0} (m : Result A E) (f : A → Result B E) (g : B → Result C E)
        → (m >>= λ x. f x >>= g) ≡ ((m >>= f) >>= g)
    nested (Ok x) f g = refl
    nested (Err e) f g = refl
one_peer_is peers act (p ∷ q ∷ more) = refl

pub peer_acts : (peers : ℕ) (act : ℕ → Act) (ws : List (List ℕ)) (r : Result ℕ ScheduleKind) → r ≡ only_peer peers ws
    → (r >>= λ who. Ok (Once (act who))) ≡ one_peer peers act ws
peer_acts peers act ws r is = ap (λ (m : Result ℕ ScheduleKind). m >>= λ who. Ok (Once (act who))) is ∙ sym (one_peer_is peers act ws)

pub run_in_is : (ws : List (List ℕ)) → run_in ws
    ≡ (only_two ws >>= λ p. number_in 1 10000 p.0 >>= λ rounds. number_in 0 600000000 p.1 >>= λ gain. Ok (Run rounds gain))
run_in_is [] = refl
run_in_is (r ∷ []) = refl
run_in_is (r ∷ s ∷ []) = refl
run_in_is (r ∷ s ∷ t ∷ more) = refl

pub forge_in_is : (peers : ℕ) (ws : List (List ℕ)) → forge_in peers ws
    ≡ (only_three ws >>= λ p. peer_in p.0 >>= λ n. peer_in p.1 >>= λ m. one_of peers n >>= λ who. one_of peers m
    >>= λ sender. datagram_in p.2 >>= λ bytes. Ok (Once (Forge who sender bytes)))
forge_in_is peers [] = refl
forge_in_is peers (p ∷ []) = refl
forge_in_is peers (p ∷ q ∷ []) = refl
forge_in_is peers (p ∷ q ∷ hex ∷ []) = refl
forge_in_is peers (p ∷ q ∷ hex ∷ x ∷ more) = refl

pub fail_in_is : (peers : ℕ) (ws : List (List ℕ)) → fail_in peers ws
    ≡ (only_two ws >>= λ p. found wrong.Line (device_of p.1) >>= λ call. peer_in p.0 >>= λ n. one_of peers n
    >>= λ who. Ok (Once (Fail who call)))
fail_in_is peers [] = refl
fail_in_is peers (p ∷ []) = refl
fail_in_is peers (p ∷ kind ∷ []) = refl
fail_in_is peers (p ∷ kind ∷ x ∷ more) = refl

pub crash_in_is : (peers : ℕ) (ws : List (List ℕ)) → crash_in peers ws
    ≡ (only_two ws >>= λ p. peer_in p.0 >>= λ n. number_in 0 (2 ^ 64 - 1) p.1 >>= λ pick. one_of peers n
    >>= λ who. Ok (Once (Crash who pick)))
crash_in_is peers [] = refl
crash_in_is peers (p ∷ []) = refl
crash_in_is peers (p ∷ k ∷ []) = refl
crash_in_is peers (p ∷ k ∷ x ∷ more) = refl

-- ---- names

choose : (b : Bool) (n : StepName) (o : Option StepName) (f : StepName → Result Step ScheduleKind) (y : Result Step ScheduleKind)
    → y ≡ (found wrong.Line o >>= f) → cond b (f n) y ≡ (found wrong.Line (cond b (Some n) o) >>= f)
choose true n o f y e = refl
choose false n o f y e = e

pub step_of_is : (peers : ℕ) (word : List ℕ) (rest : List (List ℕ))
    → step_of peers word rest ≡ (found wrong.Line (step_named word) >>= λ n. step_for n peers rest)
step_of_is peers word rest =
    let f : StepName → Result Step ScheduleKind = λ n. step_for n peers rest in
    choose (bytes_eq word (codes "turn")) name.Turn _ f _
    (choose (bytes_eq word (codes "run")) name.Run _ f _
    (choose (bytes_eq word (codes "lose")) name.Lose _ f _
    (choose (bytes_eq word (codes "repeat")) name.Repeat _ f _
    (choose (bytes_eq word (codes "later")) name.Later _ f _
    (choose (bytes_eq word (codes "forge")) name.Forge _ f _
    (choose (bytes_eq word (codes "fail")) name.Fail _ f _
    (choose (bytes_eq word (codes "crash")) name.Crash _ f _
    (choose (bytes_eq word (codes "stop")) name.Stop _ f _
    (choose (bytes_eq word (codes "start")) name.Start None f (Err wrong.Line) refl)))))))))
