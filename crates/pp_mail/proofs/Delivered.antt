-- What is sent to an address, as a change of the queue of the one peer that has it.
use Rattle.std.proofs.Common.{◌≡◌, ◌≢◌, ℕ, zero, suc, ◌+◌, ◌<◌, ◌≤◌, ◌&&◌, nat_lt, Bool, true, false, if◌then◌else◌, List, [], ◌∷◌, ◌++◌, length, refl, sym, ◌∙◌, ap, subst, arith, get_or, set, add-zero}
use Rattle.std.specs.Prelude.{nat_eq}
use Rattle.std.specs.Cmp.Lexicographic.{pointwise, same_text}
use Rattle.std.proofs.lemmas.Bool.{and_parts}
use borrow.Author.Tests.{lt-ltb, le-ltb}
use Rattle.pp_terms.specs.format.Traffic.{Address, V4, V6, same_address, Sent}
use Rattle.pp_world.specs.World.{Queued, address_of}
use Rattle.pp_world.specs.Queue.{queue_with}
use Rattle.pp_mail.specs.Mail.{queue_of, with_queue, delivered_from, delivered}
use Rattle.pp_mail.proofs.Kept.{unchanged}

-- ---- at most one peer has an address

last_byte : Address → ℕ
last_byte (V4 bytes port) = get_or bytes 3 0
last_byte (V6 bytes port) = 0

number-from_address : (receiver : Address) (p : ℕ) → same_address receiver (address_of p) ≡ true → last_byte receiver ≡ p
unfolding last_byte
number-from_address (V4 bytes port) p e =
    ap (λ (xs : List ℕ). get_or xs 3 0) (same_text bytes (10 ∷ 0 ∷ 0 ∷ p ∷ []) (sym (and_parts (pointwise nat_eq bytes (10 ∷ 0 ∷ 0 ∷ p ∷ [])) _ e).0))
number-from_address (V6 bytes port) p e = let t : false ≡ true = e in cc

other_address : (receiver : Address) (p q : ℕ) (b : Bool) → same_address receiver (address_of p) ≡ true
    → p ≢ q → same_address receiver (address_of q) ≡ b → b ≡ false
other_address receiver p q true e h f = absurd (h (sym (number-from_address receiver p e) ∙ number-from_address receiver q f))
other_address receiver p q false e h f = refl

-- ---- one queue

module _ (sender : Address) (own receiver : Address) (moment : ℕ) (bytes : List ℕ) (queue : List Queued) where
  queue_with-elsewhere : same_address receiver own ≡ false → queue_with sender own (Sent moment receiver bytes) queue ≡ queue
  queue_with-elsewhere e =
      ap (λ b. if b && nat_lt (length queue) 1024 then queue ++ record { sender = sender; bytes = bytes } ∷ [] else queue) e

  pub queue_with-there : same_address receiver own ≡ true → length queue < 1024
      → queue_with sender own (Sent moment receiver bytes) queue ≡ queue ++ record { sender = sender; bytes = bytes } ∷ []
  queue_with-there e few =
      ap (λ b. if b && nat_lt (length queue) 1024 then queue ++ record { sender = sender; bytes = bytes } ∷ [] else queue) e
      ∙ ap (λ b. if b then queue ++ record { sender = sender; bytes = bytes } ∷ [] else queue) (lt-ltb (length queue) 1024 few)

  pub queue_with-full : same_address receiver own ≡ true → 1024 ≤ length queue → queue_with sender own (Sent moment receiver bytes) queue ≡ queue
  queue_with-full e many =
      ap (λ b. if b && nat_lt (length queue) 1024 then queue ++ record { sender = sender; bytes = bytes } ∷ [] else queue) e
      ∙ ap (λ b. if b then queue ++ record { sender = sender; bytes = bytes } ∷ [] else queue) (le-ltb (length queue) 1024 many)

-- ---- all queues

module _ (sender receiver : Address) (bytes : List ℕ) where
  delivered_from-elsewhere : (first : ℕ) (mail : List (List Queued))
      → ((p : ℕ) → p < length mail → same_address receiver (address_of (first + p)) ≡ false) → delivered_from first sender receiver bytes mail ≡ mail
  delivered_from-elsewhere first [] other = refl
  delivered_from-elsewhere first (queue ∷ queues) other =
      let head : queue_with sender (address_of first) (Sent 0 receiver bytes) queue ≡ queue =
      queue_with-elsewhere sender (address_of first) receiver 0 bytes queue
      (subst (λ n. same_address receiver (address_of n) ≡ false) (add-zero first) (other 0 (omega arith))) in
      let tail : delivered_from (first + 1) sender receiver bytes queues ≡ queues =
      delivered_from-elsewhere (first + 1) queues
      (λ p h. let e : first + suc p ≡ first + 1 + p = omega arith in
      subst (λ n. same_address receiver (address_of n) ≡ false) e (other (suc p) (omega arith))) in
      cc

  -- peer number `first + p` has the address
  delivered_from-there : (first p : ℕ) (mail : List (List Queued)) → p < length mail → same_address receiver (address_of (first + p)) ≡ true
      → delivered_from first sender receiver bytes mail ≡ with_queue p (queue_with sender (address_of (first + p)) (Sent 0 receiver bytes)) mail
  delivered_from-there first p [] h e = absurd (omega arith)
  delivered_from-there first zero (queue ∷ queues) h e =
      let tail : delivered_from (first + 1) sender receiver bytes queues ≡ queues =
      delivered_from-elsewhere (first + 1) queues
      (λ p h. other_address receiver (first + 0) (first + 1 + p) _ e (λ same. omega arith) refl) in
      let head : queue_with sender (address_of first) (Sent 0 receiver bytes) queue
      ≡ queue_with sender (address_of (first + 0)) (Sent 0 receiver bytes) queue
      = ap (λ n. queue_with sender (address_of n) (Sent 0 receiver bytes) queue) (sym (add-zero first)) in
      cc
  delivered_from-there first (suc p) (queue ∷ queues) h e =
      let n : first + suc p ≡ first + 1 + p = omega arith in
      let head : queue_with sender (address_of first) (Sent 0 receiver bytes) queue ≡ queue =
      queue_with-elsewhere sender (address_of first) receiver 0 bytes queue
      (other_address receiver (first + suc p) first _ e (λ same. omega arith) refl) in
      let tail : delivered_from (first + 1) sender receiver bytes queues
      ≡ with_queue p (queue_with sender (address_of (first + suc p)) (Sent 0 receiver bytes)) queues =
      delivered_from-there (first + 1) p queues (omega arith) (subst (λ k. same_address receiver (address_of k) ≡ true) n e)
      ∙ ap (λ k. with_queue p (queue_with sender (address_of k) (Sent 0 receiver bytes)) queues) (sym n) in
      ap (λ q. q ∷ delivered_from (first + 1) sender receiver bytes queues) head ∙ ap (λ qs. queue ∷ qs) tail

  length-delivered_from : (first : ℕ) (mail : List (List Queued)) → length (delivered_from first sender receiver bytes mail) ≡ length mail
  length-delivered_from first [] = refl
  length-delivered_from first (queue ∷ queues) = ap suc (length-delivered_from (first + 1) queues)

module _ (sender : ℕ) (receiver : Address) (bytes : List ℕ) (mail : List (List Queued)) where
  -- there are as many queues as before
  pub length-delivered : length (delivered sender receiver bytes mail) ≡ length mail
  length-delivered = length-delivered_from (address_of sender) receiver bytes 0 mail

  pub delivered-elsewhere : ((p : ℕ) → p < length mail → same_address receiver (address_of p) ≡ false) → mail ≡ delivered sender receiver bytes mail
  delivered-elsewhere other =
      sym (delivered_from-elsewhere (address_of sender) receiver bytes 0 mail
      (λ p h. let e : p ≡ 0 + p = omega arith in subst (λ n. same_address receiver (address_of n) ≡ false) e (other p h)))

  module _ (p : ℕ) (within : p < length mail) (same : same_address receiver (address_of p) ≡ true) where
    delivered-at : delivered sender receiver bytes mail ≡ with_queue p (queue_with (address_of sender) (address_of p) (Sent 0 receiver bytes)) mail
    delivered-at =
        let e : p ≡ 0 + p = omega arith in
        delivered_from-there (address_of sender) receiver bytes 0 p mail within (subst (λ n. same_address receiver (address_of n) ≡ true) e same)
        ∙ ap (λ n. with_queue p (queue_with (address_of sender) (address_of n) (Sent 0 receiver bytes)) mail) (sym e)

    pub delivered-full : 1024 ≤ length (queue_of p mail) → mail ≡ delivered sender receiver bytes mail
    delivered-full many =
        unchanged p (queue_with (address_of sender) (address_of p) (Sent 0 receiver bytes)) mail
        (queue_with-full (address_of sender) (address_of p) receiver 0 bytes (queue_of p mail) same many)
        ∙ sym delivered-at

    pub delivered-there : length (queue_of p mail) < 1024
        → with_queue p (λ queue. queue ++ record { sender = address_of sender; bytes = bytes } ∷ []) mail ≡ delivered sender receiver bytes mail
    delivered-there few =
        ap (set mail p) (sym (queue_with-there (address_of sender) (address_of p) receiver 0 bytes (queue_of p mail) same few))
        ∙ sym delivered-at
