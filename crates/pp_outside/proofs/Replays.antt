-- One call more of a log.
use Rattle.std.proofs.Common.{◌≡◌, ℕ, ◌+◌, ◌^◌, ◌≤◌, List, [], ◌∷◌, ◌++◌, length, take, drop, map, refl, sym, ◌∙◌, ap, subst, arith, length-append}
use Rattle.std.specs.Prelude.{reverse, All}
use Rattle.std.proofs.lemmas.List.{reverse-append, map-append, drop-append-le, take-append-le, drop_all}
use Rattle.std.proofs.lemmas.List.Elements.{All-push}
use Rattle.pp_terms.specs.disk.Disk.{History, Write, fresh, after_write, pends, settled, written}
use Rattle.pp_terms.specs.disk.Calls.{Did, Calls, Wrote, Refused, Synced, Crashed, after_call, replay, attached, history_of}
use Rattle.pp_outside.specs.Steps.{did_of, writes_of, IsPlaced}
use Rattle.pp_outside.specs.Log.{IsLog}
use Rattle.pp_outside.specs.declared.log.Step.{Step}

pub replay-push : (h : History) (done : List Did) (call : Did) → replay h (done ++ call ∷ []) ≡ after_call (replay h done) call
replay-push h [] call = refl
replay-push h (first ∷ done) call = replay-push (after_call h first) done call

pub writes_of-append : (done more : List Did) → writes_of (done ++ more) ≡ writes_of done ++ writes_of more
writes_of-append [] more = refl
writes_of-append (Wrote place bytes ∷ done) more =
    ap (λ (l : List Write). record { place = place; bytes = bytes } ∷ l) (writes_of-append done more)
writes_of-append (Refused place bytes ∷ done) more =
    ap (λ (l : List Write). record { place = place; bytes = bytes } ∷ l) (writes_of-append done more)
writes_of-append (Synced ∷ done) more = writes_of-append done more
writes_of-append (Crashed image ∷ done) more = writes_of-append done more

-- what was before the last attachment stays
pub history_push : (image : List ℕ) (done : List Did) (call : Did) (at : ℕ) → at ≤ length done
    → history_of (record { image = image; done = done ++ call ∷ []; attached_at = at })
    ≡ attached (replay (fresh image) (take at done)) (after_call (replay (fresh image) done) call)
history_push image done call at within =
    (λ i. attached (replay (fresh image) (take-append-le at done (call ∷ []) within i)) (replay-push (fresh image) done call i))

module _ (now : History) (done : List Did) (reads begun : List ℕ) (settled_at ended attached_at : ℕ) (log : IsLog now done reads begun settled_at ended attached_at) where
  more : (call : Did) → length (done ++ call ∷ []) ≡ length done + 1
  more call = length-append done (call ∷ [])

  placed_more : (call : Did) → IsPlaced call → All IsPlaced (done ++ call ∷ [])
  placed_more call here = All-push IsPlaced done call log.placed here

  pending_more : (call : Did) (w : Write) → writes_of (call ∷ []) ≡ w ∷ []
      → reverse (w ∷ now.epoch.pending) ≡ writes_of (drop settled_at (done ++ call ∷ []))
  pending_more call w is =
      reverse-append (w ∷ []) now.epoch.pending
      ∙ ap (λ (l : List Write). l ++ w ∷ []) log.pending
      ∙ ap (λ (l : List Write). writes_of (drop settled_at done) ++ l) (sym is)
      ∙ sym (writes_of-append (drop settled_at done) (call ∷ []))
      ∙ sym (ap writes_of (drop-append-le settled_at done (call ∷ []) log.settled_within))

  pub logs_write : (place : ℕ) (bytes : List ℕ) → place + length bytes ≤ 2 ^ 40
      → IsLog (after_write now place bytes) (done ++ Wrote place bytes ∷ []) (written reads place bytes) begun settled_at ended attached_at
  logs_write place bytes within =
      let call = Wrote place bytes in
      let longer = more call in
      record {
        reads_are = ap (λ (l : List ℕ). written l place bytes) log.reads_are;
        begun_with = log.begun_with;
        pending = pending_more call (record { place = place; bytes = bytes }) refl;
        moment = log.moment;
        moment_within = omega (arith, log.moment_within);
        settled_within = omega (arith, log.settled_within);
        attached_within = omega (arith, log.attached_within);
        placed = placed_more call within;
      }

  pub logs_refused : (place : ℕ) (bytes : List ℕ) → place + length bytes ≤ 2 ^ 40
      → IsLog (record now { epoch = pends now.epoch place bytes }) (done ++ Refused place bytes ∷ []) reads begun settled_at ended attached_at
  logs_refused place bytes within =
      let call = Refused place bytes in
      let longer = more call in
      record {
        reads_are = log.reads_are;
        begun_with = log.begun_with;
        pending = pending_more call (record { place = place; bytes = bytes }) refl;
        moment = log.moment;
        moment_within = omega (arith, log.moment_within);
        settled_within = omega (arith, log.settled_within);
        attached_within = omega (arith, log.attached_within);
        placed = placed_more call within;
      }

  pub logs_settled : (call : Did) (bytes : List ℕ) → IsPlaced call
      → IsLog (settled now bytes) (done ++ call ∷ []) bytes bytes (length done + 1) (ended + 1) attached_at
  logs_settled call bytes here =
      let longer = more call in
      record {
        reads_are = refl;
        begun_with = refl;
        pending = sym (ap writes_of (drop_all (length done + 1) (done ++ call ∷ []) (omega arith)));
        moment = let past = length-append now.past (now.epoch ∷ []) in omega (arith, log.moment);
        moment_within = omega (arith, log.moment_within);
        settled_within = omega (arith);
        attached_within = omega (arith, log.attached_within);
        placed = placed_more call here;
      }

-- after a refused write
abbrev pended : History → ℕ → List ℕ → History
pended h place bytes = record h { epoch = pends h.epoch place bytes }

-- The same of the steps that a log stores, with the bytes that it copied.
pub did_push : (steps longer : List Step) (step : Step) → longer ≡ steps ++ step ∷ [] → map did_of longer ≡ map did_of steps ++ did_of step ∷ []
did_push steps longer step is = ap (map did_of) is ∙ map-append did_of steps (step ∷ [])

module _ (image : List ℕ) (done longer : List Did) (reads begun : List ℕ) (settled_at ended attached_at : ℕ) (log : IsLog (replay (fresh image) done) done reads begun settled_at ended attached_at) where
  abbrev calls_at : List Did → Calls
  calls_at l = record { image = image; done = l; attached_at = attached_at }

  pushed : (call : Did) → longer ≡ done ++ call ∷ [] → (now : History) → now ≡ after_call (replay (fresh image) done) call → now ≡ replay (fresh image) longer
  pushed call is now made = made ∙ sym (replay-push (fresh image) done call) ∙ ap (replay (fresh image)) (sym is)

  pub keeps_write : (place : ℕ) (stored bytes after : List ℕ) → longer ≡ done ++ Wrote place stored ∷ [] → stored ≡ bytes → after ≡ written reads place bytes → place + length bytes ≤ 2 ^ 40
      → IsLog (replay (fresh image) longer) longer after begun settled_at ended attached_at
  keeps_write place stored bytes after is copied made within =
      let call = Wrote place bytes in
      let grown : longer ≡ done ++ call ∷ [] = is ∙ ap (λ (l : List ℕ). done ++ Wrote place l ∷ []) copied in
      subst (λ (h : History). IsLog h longer after begun settled_at ended attached_at) (pushed call grown _ refl)
      (subst (λ (l : List Did). IsLog (after_write (replay (fresh image) done) place bytes) l after begun settled_at ended attached_at) (sym grown)
      (subst (λ (l : List ℕ). IsLog (after_write (replay (fresh image) done) place bytes) (done ++ call ∷ []) l begun settled_at ended attached_at) (sym made)
      (logs_write _ done reads begun settled_at ended attached_at log place bytes within)))

  pub keeps_refused : (place : ℕ) (stored bytes : List ℕ) → longer ≡ done ++ Refused place stored ∷ [] → stored ≡ bytes → place + length bytes ≤ 2 ^ 40
      → IsLog (replay (fresh image) longer) longer reads begun settled_at ended attached_at
  keeps_refused place stored bytes is copied within =
      let call = Refused place bytes in
      let grown : longer ≡ done ++ call ∷ [] = is ∙ ap (λ (l : List ℕ). done ++ Refused place l ∷ []) copied in
      subst (λ (h : History). IsLog h longer reads begun settled_at ended attached_at) (pushed call grown _ refl)
      (subst (λ (l : List Did). IsLog (after_call (replay (fresh image) done) call) l reads begun settled_at ended attached_at) (sym grown)
      (logs_refused _ done reads begun settled_at ended attached_at log place bytes within))

  pub keeps_settled : (call : Did) (bytes after durable : List ℕ) (at : ℕ) → longer ≡ done ++ call ∷ [] → after_call (replay (fresh image) done) call ≡ settled (replay (fresh image) done) bytes → IsPlaced call
      → after ≡ bytes → durable ≡ bytes → at ≡ length longer
      → IsLog (replay (fresh image) longer) longer after durable at (ended + 1) attached_at
  keeps_settled call bytes after durable at is settles here read kept end =
      let long : length longer ≡ length done + 1 = ap length is ∙ length-append done (call ∷ []) in
      subst (λ (h : History). IsLog h longer after durable at (ended + 1) attached_at) (pushed call is _ (sym settles))
      (subst (λ (l : List Did). IsLog (settled (replay (fresh image) done) bytes) l after durable at (ended + 1) attached_at) (sym is)
      (subst (λ (k : ℕ). IsLog (settled (replay (fresh image) done) bytes) (done ++ call ∷ []) after durable k (ended + 1) attached_at) (sym (end ∙ long))
      (subst (λ (l : List ℕ). IsLog (settled (replay (fresh image) done) bytes) (done ++ call ∷ []) l durable (length done + 1) (ended + 1) attached_at) (sym read)
      (subst (λ (l : List ℕ). IsLog (settled (replay (fresh image) done) bytes) (done ++ call ∷ []) bytes l (length done + 1) (ended + 1) attached_at) (sym kept)
      (logs_settled _ done reads begun settled_at ended attached_at log call bytes here)))))

  history_grown : (call : Did) → longer ≡ done ++ call ∷ [] → history_of (calls_at longer) ≡ attached (replay (fresh image) (take attached_at done)) (after_call (replay (fresh image) done) call)
  history_grown call is = ap (λ (l : List Did). history_of (calls_at l)) is ∙ history_push image done call attached_at log.attached_within

  pub history_write : (calls : Calls) → calls_at done ≡ calls → (place : ℕ) (stored bytes : List ℕ) → longer ≡ done ++ Wrote place stored ∷ [] → stored ≡ bytes
      → history_of (calls_at longer) ≡ after_write (history_of calls) place bytes
  history_write calls viewed place stored bytes is copied =
      history_grown (Wrote place stored) is
      ∙ ap (λ (l : List ℕ). after_write (history_of (calls_at done)) place l) copied
      ∙ ap (λ (c : Calls). after_write (history_of c) place bytes) viewed

  pub history_refused : (calls : Calls) → calls_at done ≡ calls → (place : ℕ) (stored bytes : List ℕ) → longer ≡ done ++ Refused place stored ∷ [] → stored ≡ bytes
      → history_of (calls_at longer) ≡ record (history_of calls) { epoch = pends (history_of calls).epoch place bytes }
  history_refused calls viewed place stored bytes is copied =
      history_grown (Refused place stored) is
      ∙ ap (λ (l : List ℕ). pended (history_of (calls_at done)) place l) copied
      ∙ ap (λ (c : Calls). pended (history_of c) place bytes) viewed

  pub history_synced : (calls : Calls) → calls_at done ≡ calls → longer ≡ done ++ Synced ∷ []
      → history_of (calls_at longer) ≡ settled (history_of calls) (history_of calls).reads
  history_synced calls viewed is =
      history_grown Synced is ∙ ap (λ (c : Calls). settled (history_of c) (history_of c).reads) viewed

  pub history_crashed : (calls : Calls) → calls_at done ≡ calls → (bytes : List ℕ) → longer ≡ done ++ Crashed bytes ∷ []
      → history_of (calls_at longer) ≡ settled (history_of calls) bytes
  history_crashed calls viewed bytes is =
      history_grown (Crashed bytes) is ∙ ap (λ (c : Calls). settled (history_of c) bytes) viewed

pub did_push_reserved : (steps reserved longer : List Step) (step : Step) → reserved ≡ steps → longer ≡ reserved ++ step ∷ [] → map did_of longer ≡ map did_of steps ++ did_of step ∷ []
did_push_reserved steps reserved longer step same is = did_push steps longer step (is ∙ ap (λ (l : List Step). l ++ step ∷ []) same)
