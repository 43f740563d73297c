-- What a peer sent, on its way to the others.
use Rattle.std.proofs.Common.{◌≡◌, ℕ, zero, suc, ◌+◌, ◌-◌, ◌≤◌, Some, List, [], ◌∷◌, ◌++◌, length, refl, sym, ◌∙◌, ap, arith}
use Rattle.std.proofs.Math.Seq.{drop-append_seam}
use Rattle.std.proofs.lemmas.List.{length-drop, take_all, reverse-append, reverse-reverse, length-reverse}
use Rattle.std.proofs.lemmas.Option.{slice_get-map}
use Rattle.std.specs.Prelude.{drop, map, option_map, reverse, slice_get, take}
use Rattle.pp_outside.specs.Records.{bytes_of}
use Rattle.pp_mail.specs.Mail.{delivered, delivered_from}
use Rattle.pp_terms.specs.format.Traffic.{Address, Record, Received, Quiet, Sent}
use Rattle.pp_world.specs.Queue.{peers_after}
use Rattle.pp_world.specs.World.{Queued, PeerState, address_of}
use Rattle.pp_mail.proofs.Peers.{mail_at, mail_at-peers_after, peers_after-cons, peers_after_from-none, peers_after_from-received, peers_after_from-quiet}
use Rattle.pp_play.specs.Stage.{mail_with, mail_after}

-- one record of a peer's link
mail_at-one : (sender : ℕ) (r : Record) (peers : List PeerState) → mail_at (peers_after sender (r ∷ []) peers) ≡ mail_with sender r (mail_at peers)
mail_at-one sender (Received at from bytes) peers = ap mail_at (peers_after_from-received 0 (address_of sender) at from bytes peers)
mail_at-one sender (Quiet at) peers = ap mail_at (peers_after_from-quiet 0 (address_of sender) at peers)
mail_at-one sender (Sent moment receiver bytes) peers = mail_at-peers_after sender receiver moment bytes peers

-- all that the link gained
pub mail_at-sent : (sender : ℕ) (added : List Record) (peers : List PeerState) → mail_at (peers_after sender added peers) ≡ mail_after sender added (mail_at peers)
mail_at-sent sender [] peers = ap mail_at (peers_after_from-none 0 (address_of sender) peers)
mail_at-sent sender (r ∷ before) peers =
    ap mail_at (peers_after-cons sender r before peers) ∙ mail_at-one sender r (peers_after sender before peers)
    ∙ ap (mail_with sender r) (mail_at-sent sender before peers)

-- what a link has since it had so many records, where it gained these
pub newest : (all added old : List Record) (n : ℕ) → reverse all ≡ added ++ old → n ≡ length old → reverse (drop n all) ≡ added
newest all added old n is size =
    let whole : all ≡ reverse old ++ reverse added = sym (reverse-reverse all) ∙ ap reverse is ∙ reverse-append added old in
    let count : n ≡ length (reverse old) = size ∙ sym (length-reverse old) in
    ap (λ (l : List Record). reverse (drop n l)) whole ∙ ap (λ (k : ℕ). reverse (drop k (reverse old ++ reverse added))) count
    ∙ ap reverse (drop-append_seam (reverse old) (reverse added)) ∙ reverse-reverse added

-- ---- one record after another

slice_get_drop : (all : List Record) (n k : ℕ) → slice_get (drop n all) k ≡ slice_get all (n + k)
slice_get_drop [] zero k = refl
slice_get_drop [] (suc n) k = refl
slice_get_drop (r ∷ all) zero k = (let sum : k ≡ zero + k = omega arith in ap (slice_get (r ∷ all)) sum)
slice_get_drop (r ∷ all) (suc n) k = (let sum : suc (n + k) ≡ suc n + k = omega arith in slice_get_drop all n k ∙ ap (slice_get (r ∷ all)) sum)

take_one_more : (all : List Record) (k : ℕ) (r : Record) → slice_get all k ≡ Some r → take (suc k) all ≡ take k all ++ r ∷ []
take_one_more [] k r at = cc
take_one_more (q ∷ all) zero r at = (let same : q ≡ r = cc in ap (λ (x : Record). x ∷ []) same)
take_one_more (q ∷ all) (suc k) r at = ap (λ (rs : List Record). q ∷ rs) (take_one_more all k r at)

-- what was delivered, with the next record of the link
pub next_delivered : (sender from n : ℕ) (all : List Record) (r : Record) (old mail : List (List Queued)) → from ≤ n → slice_get all n ≡ Some r
    → mail ≡ mail_after sender (reverse (take (n - from) (drop from all))) old
    → mail_with sender r mail ≡ mail_after sender (reverse (take (n + 1 - from) (drop from all))) old
next_delivered sender from n all r old mail later at is =
    let place : from + (n - from) ≡ n = omega (arith, later) in
    let count : n + 1 - from ≡ suc (n - from) = omega (arith, later) in
    let here : slice_get (drop from all) (n - from) ≡ Some r = slice_get_drop all from (n - from) ∙ ap (slice_get all) place ∙ at in
    let more : take (n + 1 - from) (drop from all) ≡ take (n - from) (drop from all) ++ r ∷ [] =
    ap (λ (k : ℕ). take k (drop from all)) count ∙ take_one_more (drop from all) (n - from) r here in
    ap (mail_with sender r) is
    ∙ sym (ap (λ (rs : List Record). mail_after sender (reverse rs) old) more
    ∙ ap (λ (rs : List Record). mail_after sender rs old) (reverse-append (take (n - from) (drop from all)) (r ∷ [])))

-- the bytes of a record
pub bytes_there : (all : List Record) (n : ℕ) (r : Record) (bytes : List ℕ) → slice_get all n ≡ Some r → slice_get (map bytes_of all) n ≡ Some bytes → bytes ≡ bytes_of r
bytes_there all n r bytes at there =
    let same : Some bytes ≡ Some (bytes_of r) = sym there ∙ slice_get-map bytes_of all n ∙ ap (option_map bytes_of) at in cc

-- all that a link has from a place on
pub all_taken : (all : List Record) (from n : ℕ) → length all ≤ n → take (n - from) (drop from all) ≡ drop from all
all_taken all from n within = take_all (n - from) (drop from all) (let size = length-drop from all in omega (arith, size, within))

-- ---- as many queues

length-delivered_from : (first : ℕ) (sender receiver : Address) (bytes : List ℕ) (mail : List (List Queued))
    → length (delivered_from first sender receiver bytes mail) ≡ length mail
length-delivered_from first sender receiver bytes [] = refl
length-delivered_from first sender receiver bytes (q ∷ mail) = ap (λ (n : ℕ). suc n) (length-delivered_from (first + 1) sender receiver bytes mail)

pub length-delivered : (sender : ℕ) (receiver : Address) (bytes : List ℕ) (mail : List (List Queued)) → length (delivered sender receiver bytes mail) ≡ length mail
length-delivered sender receiver bytes mail = length-delivered_from 0 (address_of sender) receiver bytes mail
