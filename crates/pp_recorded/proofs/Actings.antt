-- The acts of a channel, by its entries, and its story.
use Rattle.std.proofs.Common.{◌≡◌, ℕ, ◌+◌, ◌<◌, ◌≤◌, max, leb, eqb, Bool, false, List, [], ◌∷◌, ◌++◌, length, take, drop, map, reverse, refl, sym, ◌∙◌, ap, arith, add-one}
use Rattle.std.proofs.Common.{⊎_elim}
use Rattle.std.proofs.lemmas.Bool.{le-leb, lt-leb, cases_lt}
use Rattle.std.proofs.lemmas.List.{append_assoc, map-append, reverse-append, take-append-drop, drop_all}
use Rattle.pp_terms.specs.format.Traffic.{Record, Received, Quiet, Sent}
use Rattle.pp_terms.specs.format.Descriptor.{Descriptor}
use Rattle.pp_terms.specs.format.Messages.{Message, Data, Ack}
use Rattle.pp_traffic.specs.Past.{now}
use Rattle.pp_traffic.specs.Life.{Life}
use Rattle.pp_traffic.specs.Story.{Line, Heard, Said, hear, say, heard_in, said_in, told, story}
use Rattle.pp_traffic.specs.Meter.{Meter, new_meter, ended, meter}
use Rattle.pp_recorded.specs.declared.entry.Entry.{Entry}
use Rattle.pp_recorded.specs.declared.acts.Act.{Act}
use Rattle.pp_recorded.specs.declared.acts.Act.TheVariants.{Waits, Other}
use Rattle.pp_recorded.specs.Entries.{record_of, past}
use Rattle.pp_recorded.specs.Acts.{heard_act, said_act, acts_of, messages_in, now_after, acts_since, acts_of_life, taken, run}
use Rattle.pp_recorded.proofs.Pasts.{first, length_first, length_past}

-- ---- acts one after the other, and the story

run_append : (m : Meter) (xs ys : List Act) → run m (xs ++ ys) ≡ run (run m xs) ys
run_append m [] ys = refl
run_append m (x ∷ xs) ys = run_append (taken x m) xs ys

heard_taken : (chunk now : ℕ) (m : Message) (lines : List Line) → taken (heard_act now m) (meter chunk lines) ≡ meter chunk (Heard now m ∷ lines)
heard_taken chunk now (Ack span delay) lines = refl
heard_taken chunk now _ lines = refl

said_taken : (chunk now : ℕ) (m : Message) (lines : List Line) → taken (said_act now m) (meter chunk lines) ≡ meter chunk (Said now m ∷ lines)
said_taken chunk now (Data i sent_at bytes) lines = refl
said_taken chunk now _ lines = refl

heard_run : (chunk now : ℕ) (ms : List Message) (lines : List Line) → run (meter chunk lines) (map (heard_act now) ms) ≡ meter chunk (hear now ms lines)
heard_run chunk now [] lines = refl
heard_run chunk now (m ∷ ms) lines =
    ap (λ (x : Meter). run x (map (heard_act now) ms)) (heard_taken chunk now m lines) ∙ heard_run chunk now ms (Heard now m ∷ lines)

said_run : (chunk now : ℕ) (ms : List Message) (lines : List Line) → run (meter chunk lines) (map (said_act now) ms) ≡ meter chunk (say now ms lines)
said_run chunk now [] lines = refl
said_run chunk now (m ∷ ms) lines =
    ap (λ (x : Meter). run x (map (said_act now) ms)) (said_taken chunk now m lines) ∙ said_run chunk now ms (Said now m ∷ lines)

record_run : (chunk : ℕ) (d : Descriptor) (life : Life) (is_opening : Bool) (now : ℕ) (r : Record) (lines : List Line)
    → run (meter chunk lines) (acts_of r now (messages_in d life is_opening r)) ≡ meter chunk (told d life is_opening now r lines)
record_run chunk d life is_opening now (Received at sender bytes) lines =
    let ms = heard_in d life is_opening (Received at sender bytes) in
    run_append (meter chunk lines) (map (heard_act now) ms) (Waits now ∷ []) ∙ ap (λ (m : Meter). ended now m) (heard_run chunk now ms lines)
record_run chunk d life is_opening now (Quiet at) lines = refl
record_run chunk d life is_opening now (Sent moment receiver bytes) lines =
    let ms = said_in d life (Sent moment receiver bytes) in
    run_append (meter chunk lines) (map (said_act now) ms) (Other ∷ []) ∙ said_run chunk now ms lines

now_is : (before : List Record) (r : Record) → now_after (now before) r ≡ now (r ∷ before)
now_is before (Received at sender bytes) = refl
now_is before (Quiet at) = refl
now_is before (Sent moment receiver bytes) = refl

-- one record more of a story
more_run : (chunk : ℕ) (d : Descriptor) (life : Life) (r : Record) (before : List Record) → life.opening ≤ length before
    → run (meter chunk (story d life before)) (acts_of r (now_after (now before) r) (messages_in d life (eqb life.opening (length before)) r))
    ≡ meter chunk (story d life (r ∷ before))
more_run chunk d life r before le =
    record_run chunk d life (eqb life.opening (length before)) (now_after (now before) r) r (story d life before)
    ∙ ap (λ (n : ℕ). meter chunk (told d life (eqb life.opening (length before)) n r (story d life before))) (now_is before r)
    ∙ (rw (le-leb life.opening (length before) le) refl)

turned : (r : Record) (rs before : List Record) → reverse (r ∷ rs) ++ before ≡ reverse rs ++ r ∷ before
turned r rs before = ap (λ (ys : List Record). ys ++ before) (reverse-append (r ∷ []) rs) ∙ append_assoc (reverse rs) (r ∷ []) before

all_run : (chunk : ℕ) (d : Descriptor) (life : Life) (xs : List Entry) (before : List Record) → life.opening ≤ length before
    → run (meter chunk (story d life before)) (acts_since d life (length before) (now before) xs)
    ≡ meter chunk (story d life (reverse (map record_of xs) ++ before))
all_run chunk d life [] before le = refl
all_run chunk d life (x ∷ xs) before le =
    let r = record_of x in
    let later = acts_since d life (length before + 1) (now_after (now before) r) xs in
    run_append (meter chunk (story d life before)) (acts_of r (now_after (now before) r) (messages_in d life (eqb life.opening (length before)) r)) later
    ∙ ap (λ (m : Meter). run m later) (more_run chunk d life r before le)
    ∙ ap (λ (n : ℕ). run (meter chunk (story d life (r ∷ before))) (acts_since d life n (now_after (now before) r) xs)) (add-one (length before))
    ∙ ap (λ (n : ℕ). run (meter chunk (story d life (r ∷ before))) (acts_since d life (length (r ∷ before)) n xs)) (now_is before r)
    ∙ all_run chunk d life xs (r ∷ before) (omega (arith, le))
    ∙ sym (ap (λ (rs : List Record). meter chunk (story d life rs)) (turned r (map record_of xs) before))

unopened : (d : Descriptor) (life : Life) (rs : List Record) → length rs ≤ life.opening → story d life rs ≡ []
unopened d life [] le = refl
unopened d life (r ∷ rs) le = let early : leb life.opening (length rs) ≡ false = lt-leb life.opening (length rs) (omega arith) in rw early refl

joined : (n : ℕ) (xs : List Entry) → reverse (map record_of (drop n xs)) ++ first n xs ≡ past xs
joined n xs =
    sym (reverse-append (map record_of (take n xs)) (map record_of (drop n xs)))
    ∙ ap (λ (rs : List Record). reverse rs) (sym (map-append record_of (take n xs) (drop n xs)))
    ∙ ap (λ (ys : List Entry). past ys) (take-append-drop n xs)

-- the meter of a channel's story is what its acts make of a new one
pub life_run : (chunk : ℕ) (d : Descriptor) (life : Life) (xs : List Entry) → run (new_meter chunk) (acts_of_life d life xs) ≡ meter chunk (story d life (past xs))
life_run chunk d life xs = ⊎_elim late early (cases_lt (length xs) life.opening)
  where
    n : ℕ
    n = life.opening

    late : length xs < n → run (new_meter chunk) (acts_of_life d life xs) ≡ meter chunk (story d life (past xs))
    late lt =
        ap (λ (ys : List Entry). run (new_meter chunk) (acts_since d life n (now (first n xs)) ys)) (drop_all n xs (omega arith))
        ∙ sym (ap (λ (lines : List Line). meter chunk lines) (unopened d life (past xs) (let l = length_past xs in omega (arith, l))))

    early : n ≤ length xs → run (new_meter chunk) (acts_of_life d life xs) ≡ meter chunk (story d life (past xs))
    early le =
        let long : length (first n xs) ≡ n = length_first xs n le in
        sym (ap (λ (lines : List Line). run (meter chunk lines) (acts_of_life d life xs)) (unopened d life (first n xs) (omega arith)))
        ∙ sym (ap (λ (k : ℕ). run (meter chunk (story d life (first n xs))) (acts_since d life k (now (first n xs)) (drop n xs))) long)
        ∙ all_run chunk d life (drop n xs) (first n xs) (omega arith)
        ∙ ap (λ (rs : List Record). meter chunk (story d life rs)) (joined n xs)

-- ---- the moment now, one record later

pub at_least : (n : ℕ) → max n 0 ≡ n
at_least n = omega arith

pub now_more : (before : ℕ) (r : Record) → now (r ∷ Quiet before ∷ []) ≡ now_after before r
now_more before (Received at sender bytes) = ap (λ (n : ℕ). max at n) (at_least before)
now_more before (Quiet at) = ap (λ (n : ℕ). max at n) (at_least before)
now_more before (Sent moment receiver bytes) = at_least before
