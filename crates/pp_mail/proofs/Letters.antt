-- Queues of keys: what a change of one queue, and of one letter, leaves of them and of the mail.
use Rattle.std.proofs.Common.{◌≡◌, ◌≢◌, ℕ, ◌+◌, ◌<◌, ◌==◌, cond, Bool, true, false, Option, Some, None, List, [], ◌∷◌, ◌++◌, length, take, drop, map, refl, sym, ◌∙◌, ap, arith, get_or, set}
use Rattle.std.specs.Prelude.{is_some, IsSome}
use Rattle.std.proofs.lemmas.List.Sums.{sum_by-set, sum_by-cons, sum_by_push}
use Rattle.std.proofs.lemmas.List.{map-set, map-append}
use Rattle.std.proofs.Math.ListN.{get_or-map}
use borrow.Author.Tests.{eqb-true, eq-eqb}
use Rattle.slab.specs.Slab.{Slab as Slots, get, Updates}
use Rattle.pp_world.specs.World.{Queued}
use Rattle.pp_mail.specs.declared.queues.Letter.{Letter}
use Rattle.pp_mail.specs.Letters.{queued, seen, letter_at, mail_of, times_in, times, StandOnce}
use Rattle.pp_mail.specs.Mail.{queue_of, with_queue}

-- ---- how often a key stands

abbrev pub tally : Bool → ℕ
tally b = cond b 1 0

pub times-set : (key : ℕ) (queues : List (List ℕ)) (p : ℕ) (queue : List ℕ) → p < length queues
    → times key (set queues p queue) + times_in key (get_or queues p []) ≡ times key queues + times_in key queue
times-set key queues p queue within = sum_by-set (times_in key) queues p queue [] within

pub times_in-cons : (key k : ℕ) (queue : List ℕ) → times_in key (k ∷ queue) ≡ tally (k == key) + times_in key queue
times_in-cons key k queue = sum_by-cons (λ j. cond (j == key) 1 0) k queue

pub times_in-push : (key : ℕ) (queue : List ℕ) (k : ℕ) → times_in key (queue ++ k ∷ []) ≡ times_in key queue + tally (k == key)
times_in-push key queue k = sum_by_push (λ j. cond (j == key) 1 0) queue k

times-cons : (key : ℕ) (queue : List ℕ) (queues : List (List ℕ)) → times key (queue ∷ queues) ≡ times_in key queue + times key queues
times-cons key queue queues = sum_by-cons (times_in key) queue queues

-- a queue whose first key goes behind all others
pub times_in-delayed : (key : ℕ) (queue : List ℕ) → times_in key (drop 1 queue ++ take 1 queue) ≡ times_in key queue
times_in-delayed key [] = refl
times_in-delayed key (k ∷ queue) = omega (arith, times_in-push key queue k, times_in-cons key k queue)

same_key : (key : ℕ) → tally (key == key) ≡ 1
same_key key = ap tally (eq-eqb key key refl)

other_key : (k key : ℕ) (b : Bool) → b ≡ (k == key) → tally b ≡ 0 → k ≢ key
other_key k key true e zero q = omega arith
other_key k key false e zero q = let t : false ≡ true = e ∙ eq-eqb k key q in cc

-- ---- the keys stand once

-- how many letters a slot has
abbrev count : Option Letter → ℕ
count slot = tally (is_some slot)

abbrev nowhere : Bool → ℕ
nowhere b = cond b 0 0

neither : (b : Bool) → nowhere b ≡ 0
neither true = refl
neither false = refl

held_from : (b : Bool) (n : ℕ) → n ≡ tally b → 0 < n → b ≡ true
held_from true n e h = refl
held_from false n e h = absurd (omega arith)

once_at : (letters letters' : Slots Letter) (key : ℕ) (slot : Option Letter) → Updates letters letters' key slot
    → (k new old : ℕ) (b : Bool) → b ≡ (key == k) → old ≡ count (get letters k)
    → new + cond b (count (get letters key)) 0 ≡ old + cond b (count slot) 0 → new ≡ count (get letters' k)
once_at letters letters' key slot u k new old true e was changes =
    let same : key ≡ k = eqb-true key k (sym e) in
    let here : count (get letters' k) ≡ count slot = ap (λ j. count (get letters' j)) (sym same) ∙ ap count u.changed in
    let there : count (get letters k) ≡ count (get letters key) = ap (λ j. count (get letters j)) (sym same) in
    omega arith
once_at letters letters' key slot u k new old false e was changes =
    let other : k ≢ key = λ q. let t : false ≡ true = e ∙ eq-eqb key k (sym q) in cc in
    let there : count (get letters' k) ≡ count (get letters k) = ap count (u.others k other) in
    omega arith

module _ (letters : Slots Letter) (queues : List (List ℕ)) (stand : StandOnce letters queues) where
  -- one queue has the same keys as before, maybe in another order
  pub once-changed : (p : ℕ) (queue : List ℕ) → p < length queues
      → ((key : ℕ) → times_in key queue ≡ times_in key (get_or queues p [])) → StandOnce letters (set queues p queue)
  once-changed p queue within same =
      record { once = λ key. omega (arith, times-set key queues p queue within, same key, stand.once key) }

  -- the first key of a queue has a letter
  pub first_held : (p key : ℕ) (rest : List ℕ) → p < length queues → get_or queues p [] ≡ key ∷ rest → IsSome (get letters key)
  first_held p key rest within e =
      held_from (is_some (get letters key)) (times key queues) (stand.once key)
      (omega (arith, times-set key queues p [] within, ap (times_in key) e, times_in-cons key key rest, same_key key))

  module _ (letters' : Slots Letter) (key : ℕ) (p : ℕ) (within : p < length queues) where
    -- a letter was stored, and its key stands behind all others of a queue
    pub once-put : (letter : Letter) → get letters key ≡ None → Updates letters letters' key (Some letter)
        → StandOnce letters' (set queues p (get_or queues p [] ++ key ∷ []))
    once-put letter vacant u = record {
      once = λ k. once_at letters letters' key (Some letter) u k
          (times k (set queues p (get_or queues p [] ++ key ∷ []))) (times k queues) (key == k) refl (stand.once k)
          (let none : count (get letters key) ≡ 0 = ap count vacant in
          let nothing : cond (key == k) (count (get letters key)) 0 ≡ 0 = ap (λ n. cond (key == k) n 0) none ∙ neither (key == k) in
          omega (arith, times-set k queues p (get_or queues p [] ++ key ∷ []) within, times_in-push k (get_or queues p []) key));
    }

    -- the first letter of a queue was taken out, and its key too
    pub once-lost : (rest : List ℕ) → get_or queues p [] ≡ key ∷ rest → Updates letters letters' key None → StandOnce letters' (set queues p rest)
    once-lost rest e u = record {
      once = λ k. once_at letters letters' key None u k
          (times k (set queues p rest)) (times k queues) (key == k) refl (stand.once k)
          (let one : count (get letters key) ≡ 1 = ap tally (first_held p key rest within e) in
          let here : cond (key == k) (count (get letters key)) 0 ≡ tally (key == k) = ap (λ n. cond (key == k) n 0) one in
          let nothing : nowhere (key == k) ≡ 0 = neither (key == k) in
          omega (arith, times-set k queues p rest within, ap (times_in k) e, times_in-cons k key rest));
    }

-- ---- the mail

-- a letter's change is not seen in a queue where its key doesn't stand
queue-updated : (letters letters' : Slots Letter) (key : ℕ) (slot : Option Letter) → Updates letters letters' key slot
    → (queue : List ℕ) → times_in key queue ≡ 0 → map (letter_at letters') queue ≡ map (letter_at letters) queue
queue-updated letters letters' key slot u [] none = refl
queue-updated letters letters' key slot u (k ∷ queue) none =
    let other : k ≢ key = other_key k key (k == key) refl (omega (arith, times_in-cons key k queue)) in
    let head : letter_at letters' k ≡ letter_at letters k = ap seen (u.others k other) in
    let tail : map (letter_at letters') queue ≡ map (letter_at letters) queue
    = queue-updated letters letters' key slot u queue (omega (arith, times_in-cons key k queue)) in
    cc

pub mail-updated : (letters letters' : Slots Letter) (key : ℕ) (slot : Option Letter) → Updates letters letters' key slot
    → (queues : List (List ℕ)) → times key queues ≡ 0 → mail_of letters' queues ≡ mail_of letters queues
mail-updated letters letters' key slot u [] none = refl
mail-updated letters letters' key slot u (queue ∷ queues) none =
    let head : map (letter_at letters') queue ≡ map (letter_at letters) queue
    = queue-updated letters letters' key slot u queue (omega (arith, times-cons key queue queues)) in
    let tail : mail_of letters' queues ≡ mail_of letters queues
    = mail-updated letters letters' key slot u queues (omega (arith, times-cons key queue queues)) in
    cc

pub queue_of-mail : (letters : Slots Letter) (queues : List (List ℕ)) (p : ℕ)
    → queue_of p (mail_of letters queues) ≡ map (letter_at letters) (get_or queues p [])
queue_of-mail letters queues p = get_or-map (map (letter_at letters)) queues p []

-- one queue changed
pub mail-changed : (letters : Slots Letter) (queues : List (List ℕ)) (p : ℕ) (change : List Queued → List Queued) (queue : List ℕ)
    → map (letter_at letters) queue ≡ change (map (letter_at letters) (get_or queues p []))
    → mail_of letters (set queues p queue) ≡ with_queue p change (mail_of letters queues)
mail-changed letters queues p change queue e =
    map-set (map (letter_at letters)) queues p queue
    ∙ ap (set (mail_of letters queues) p) (e ∙ ap change (sym (queue_of-mail letters queues p)))

pub map-delayed : {A B : Type 0} (f : A → B) (xs : List A) → map f (drop 1 xs ++ take 1 xs) ≡ drop 1 (map f xs) ++ take 1 (map f xs)
map-delayed f [] = refl
map-delayed f (x ∷ xs) = map-append f xs (x ∷ [])

module _ (letters letters' : Slots Letter) (queues : List (List ℕ)) (stand : StandOnce letters queues) (key p : ℕ) (within : p < length queues) where
  pub mail-put : (letter : Letter) → get letters key ≡ None → Updates letters letters' key (Some letter)
      → mail_of letters' (set queues p (get_or queues p [] ++ key ∷ []))
      ≡ with_queue p (λ queue. queue ++ queued letter ∷ []) (mail_of letters queues)
  mail-put letter vacant u =
      let none : count (get letters key) ≡ 0 = ap count vacant in
      let here : letter_at letters' key ≡ queued letter = ap seen u.changed in
      mail-changed letters' queues p (λ queue. queue ++ queued letter ∷ []) (get_or queues p [] ++ key ∷ [])
      (map-append (letter_at letters') (get_or queues p []) (key ∷ []) ∙ ap (λ x. map (letter_at letters') (get_or queues p []) ++ x ∷ []) here)
      ∙ ap (with_queue p (λ queue. queue ++ queued letter ∷ []))
      (mail-updated letters letters' key (Some letter) u queues (stand.once key ∙ none))

  pub mail-lost : (rest : List ℕ) → get_or queues p [] ≡ key ∷ rest → Updates letters letters' key None
      → mail_of letters' (set queues p rest) ≡ with_queue p (drop 1) (mail_of letters queues)
  mail-lost rest e u =
      let gone : count (get letters' key) ≡ 0 = ap count u.changed in
      mail-updated letters letters' key None u (set queues p rest) ((once-lost letters queues stand letters' key p within rest e u).once key ∙ gone)
      ∙ mail-changed letters queues p (drop 1) rest (ap (λ keys. drop 1 (map (letter_at letters) keys)) (sym e))
