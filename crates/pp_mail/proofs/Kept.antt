-- The kept queues as lists of keys, and one of them as what waits for its peer.
use Rattle.std.proofs.Common.{◌≡◌, ℕ, ◌<◌, cond, List, [], ◌∷◌, length, drop, map, refl, sym, ◌∙◌, ap, subst, arith, get_or, set, Global}
use Rattle.std.specs.Prelude.{is_some, slice_index_or, Option, None, Result, Ok, Err, OnErr}
use Rattle.std.specs.declared.collections.VecDeque.{VecDeque}
use Rattle.std.proofs.lemmas.List.{map-set, get_or-map, length-map, set-get_or}
use Rattle.slab.specs.Slab.{Slab as Slots}
use Rattle.pp_world.specs.World.{Queued}
use Rattle.pp_mail.specs.declared.queues.Letter.{Letter}
use Rattle.pp_mail.specs.declared.queues.Mail.TheInside.{Inside}
use Rattle.pp_mail.specs.Letters.{seen, letter_at, mail_of, times_in, StandOnce, keys_of}
use Rattle.pp_mail.specs.Mail.{queue_of, with_queue}
use Rattle.pp_mail.proofs.Letters.{queue_of-mail, mail-changed, once-changed}

abbrev pub Deque : Type 0
Deque = VecDeque ℕ Global

abbrev pub items_of : Deque → List ℕ
items_of queue = queue.items

pub first_of : (xs : List ℕ) (x n : ℕ) → n ≡ length xs → 0 < n → x ≡ get_or xs 0 x → xs ≡ x ∷ drop 1 xs
first_of [] x n e h f = absurd (omega arith)
first_of (y ∷ ys) x n e h f = ap (λ z. z ∷ ys) (sym f)

pub none_of : {A : Type 0} (xs : List A) (n : ℕ) → n ≡ length xs → (0 < n → ⊥) → xs ≡ []
none_of [] n e h = refl
none_of (x ∷ xs) n e h = absurd (h (omega arith))

-- ---- room in the slab changes nothing

pub once-kept : (letters letters' : Slots Letter) (queues : List (List ℕ)) → letters'.slots ≡ letters.slots
    → StandOnce letters queues → StandOnce letters' queues
once-kept letters letters' queues e stand = record {
  once = λ key. stand.once key ∙ ap (λ (s : List (Option Letter)). cond (is_some (slice_index_or s key None)) 1 0) (sym e);
}

pub mail-kept : (letters letters' : Slots Letter) (queues : List (List ℕ)) → letters'.slots ≡ letters.slots
    → mail_of letters' queues ≡ mail_of letters queues
mail-kept letters letters' queues e = ap (λ (s : List (Option Letter)). map (map (λ key. seen (slice_index_or s key None))) queues) e

-- ---- one queue

-- how many queues are kept
pub length-kept : (a : Inside) (mail : List (List Queued)) → mail_of a.letters (keys_of a) ≡ mail → length a.queues.items ≡ length mail
length-kept a mail view = sym (length-map a.queues.items items_of) ∙ sym (length-map (keys_of a) (map (letter_at a.letters))) ∙ ap length view

-- a change that leaves the queue as it is
pub unchanged : (p : ℕ) (change : List Queued → List Queued) (mail : List (List Queued)) → change (queue_of p mail) ≡ queue_of p mail
    → mail ≡ with_queue p change mail
unchanged p change mail e = sym (ap (set mail p) e ∙ set-get_or mail p [])

module _ (a : Inside) (mail : List (List Queued)) (view : mail_of a.letters (keys_of a) ≡ mail) (p : ℕ) (within : p < length mail) where
  pub in_queues : p < length a.queues.items
  in_queues = subst (λ n. p < n) (sym (length-kept a mail view)) within

  pub in_keys : p < length (keys_of a)
  in_keys = subst (λ n. p < n) (sym (length-map a.queues.items items_of)) in_queues

  module _ (i : ℕ) (e : i ≡ p) where
    -- another queue in the place of one
    pub keys-set : (queue : Deque) → map items_of (set a.queues.items i queue) ≡ set (keys_of a) p queue.items
    keys-set queue = map-set items_of a.queues.items i queue ∙ ap (λ j. set (keys_of a) j queue.items) e

    module _ (queue : Deque) (at : queue ≡ get_or a.queues.items i queue) where
      pub keys_at : get_or (keys_of a) p [] ≡ queue.items
      keys_at =
          get_or-map items_of a.queues.items p queue [] in_queues
          ∙ ap items_of (ap (λ j. get_or a.queues.items j queue) (sym e) ∙ sym at)

      -- what waits for the peer, and how much
      pub waiting : queue_of p mail ≡ map (letter_at a.letters) queue.items
      waiting = ap (queue_of p) (sym view) ∙ queue_of-mail a.letters (keys_of a) p ∙ ap (map (letter_at a.letters)) keys_at

      pub length-waiting : length (queue_of p mail) ≡ queue.len
      length-waiting = ap length waiting ∙ length-map queue.items (letter_at a.letters) ∙ sym queue.ok.0

      pub none_waits : (0 < queue.len → ⊥) → queue_of p mail ≡ []
      none_waits none = waiting ∙ ap (map (letter_at a.letters)) (none_of queue.items queue.len queue.ok.0 none)

      -- other letters wait in it
      pub mail-set : (queue' : Deque) (change : List Queued → List Queued)
          → map (letter_at a.letters) queue'.items ≡ change (map (letter_at a.letters) queue.items)
          → mail_of a.letters (map items_of (set a.queues.items i queue')) ≡ with_queue p change mail
      mail-set queue' change new =
          ap (mail_of a.letters) (keys-set queue')
          ∙ mail-changed a.letters (keys_of a) p change queue'.items (new ∙ ap (λ keys. change (map (letter_at a.letters) keys)) (sym keys_at))
          ∙ ap (with_queue p change) view

      -- the same keys, maybe in another order
      pub once-set : (queue' : Deque) → ((key : ℕ) → times_in key queue'.items ≡ times_in key queue.items) → StandOnce a.letters (keys_of a)
          → StandOnce a.letters (map items_of (set a.queues.items i queue'))
      once-set queue' same stand =
          subst (StandOnce a.letters) (sym (keys-set queue'))
          (once-changed a.letters (keys_of a) stand p queue'.items in_keys (λ key. same key ∙ ap (times_in key) (sym keys_at)))

pub on_err : {T E : Type 0} {P : Type 0} (result : Result T E) → P → OnErr result P
on_err (Ok x) p = tt
on_err (Err e) p = p
