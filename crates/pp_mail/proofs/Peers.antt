-- The queues of a world's peers as mail: what records of a link, and a change of one peer, make of it.
use Rattle.std.proofs.Common.{◌≡◌, ℕ, zero, suc, ◌+◌, Some, List, [], ◌∷◌, map, refl, sym, ◌∙◌, ap}
use Rattle.std.specs.Prelude.{slice_get}
use Rattle.pp_terms.specs.format.Traffic.{Address, Record, Received, Quiet, Sent}
use Rattle.pp_world.specs.World.{Queued, PeerState, address_of}
use Rattle.pp_world.specs.Queue.{queue_with, queue_after, peers_after_from, peers_after}
use Rattle.pp_world.specs.Change.{with_peer}
use Rattle.pp_mail.specs.Mail.{with_queue, delivered_from, delivered}

-- the queues of some peers
abbrev pub mail_at : List PeerState → List (List Queued)
mail_at peers = map (λ x. x.queue) peers

-- ---- records of a link

pub mail_at-peers_after_from : (first : ℕ) (sender receiver : Address) (moment : ℕ) (bytes : List ℕ) (peers : List PeerState)
    → mail_at (peers_after_from first sender (Sent moment receiver bytes ∷ []) peers) ≡ delivered_from first sender receiver bytes (mail_at peers)
mail_at-peers_after_from first sender receiver moment bytes [] = refl
mail_at-peers_after_from first sender receiver moment bytes (x ∷ xs) =
    ap (λ queues. queue_with sender (address_of first) (Sent moment receiver bytes) x.queue ∷ queues)
    (mail_at-peers_after_from (first + 1) sender receiver moment bytes xs)

-- a peer sent one datagram
pub mail_at-peers_after : (sender : ℕ) (receiver : Address) (moment : ℕ) (bytes : List ℕ) (peers : List PeerState)
    → mail_at (peers_after sender (Sent moment receiver bytes ∷ []) peers) ≡ delivered sender receiver bytes (mail_at peers)
mail_at-peers_after sender receiver moment bytes peers = mail_at-peers_after_from 0 (address_of sender) receiver moment bytes peers

-- records come one after another, the oldest first
pub peers_after_from-cons : (first : ℕ) (sender : Address) (r : Record) (before : List Record) (peers : List PeerState)
    → peers_after_from first sender (r ∷ before) peers ≡ peers_after_from first sender (r ∷ []) (peers_after_from first sender before peers)
peers_after_from-cons first sender r before [] = refl
peers_after_from-cons first sender r before (x ∷ xs) =
    ap (λ peers. record x { queue = queue_after sender (address_of first) (r ∷ before) x.queue } ∷ peers)
    (peers_after_from-cons (first + 1) sender r before xs)

pub peers_after-cons : (sender : ℕ) (r : Record) (before : List Record) (peers : List PeerState)
    → peers_after sender (r ∷ before) peers ≡ peers_after sender (r ∷ []) (peers_after sender before peers)
peers_after-cons sender r before peers = peers_after_from-cons 0 (address_of sender) r before peers

-- ---- where nothing is sent, the peers stay

pub peers_after_from-none : (first : ℕ) (sender : Address) (peers : List PeerState) → peers_after_from first sender [] peers ≡ peers
peers_after_from-none first sender [] = refl
peers_after_from-none first sender (x ∷ xs) = ap (λ peers. x ∷ peers) (peers_after_from-none (first + 1) sender xs)

pub peers_after_from-received : (first : ℕ) (sender : Address) (at : ℕ) (from : Address) (bytes : List ℕ) (peers : List PeerState)
    → peers_after_from first sender (Received at from bytes ∷ []) peers ≡ peers
peers_after_from-received first sender at from bytes [] = refl
peers_after_from-received first sender at from bytes (x ∷ xs) =
    ap (λ peers. x ∷ peers) (peers_after_from-received (first + 1) sender at from bytes xs)

pub peers_after_from-quiet : (first : ℕ) (sender : Address) (at : ℕ) (peers : List PeerState)
    → peers_after_from first sender (Quiet at ∷ []) peers ≡ peers
peers_after_from-quiet first sender at [] = refl
peers_after_from-quiet first sender at (x ∷ xs) = ap (λ peers. x ∷ peers) (peers_after_from-quiet (first + 1) sender at xs)

-- ---- one peer changes

-- a change of a peer that changes its queue so
pub mail_at-with_peer : (change : PeerState → PeerState) (changed : List Queued → List Queued) (p : ℕ) (peers : List PeerState) (x : PeerState)
    → slice_get peers p ≡ Some x → (change x).queue ≡ changed x.queue → mail_at (with_peer p change peers) ≡ with_queue p changed (mail_at peers)
mail_at-with_peer change changed p [] x there e = refl
mail_at-with_peer change changed zero (y ∷ ys) x there e =
    let same : y ≡ x = cc in
    ap (λ queue. queue ∷ mail_at ys) (ap (λ (z : PeerState). (change z).queue) same ∙ e ∙ ap (λ (z : PeerState). changed z.queue) (sym same))
mail_at-with_peer change changed (suc p) (y ∷ ys) x there e = ap (λ queues. y.queue ∷ queues) (mail_at-with_peer change changed p ys x there e)
