-- What a story's messages tell is all peaks or nothing.
use Rattle.std.proofs.Common.{◌≡◌, inl, inr, ⊎_elim, ℕ, Bool, true, nat_le, nat_lt, ◌&&◌, ◌||◌, List, [], ◌∷◌, refl}
use Rattle.std.proofs.lemmas.Bool.{cases_Bool, and_parts, and_from, or_right, or_left, or_from, and_left}
use Rattle.std.specs.List.{list_any, list_all}
use Rattle.pp_terms.specs.tree.Tree.{Node, height, peaks, same_node, is_peak}
use Rattle.pp_terms.specs.tree.Bins.{parent_of}
use Rattle.pp_terms.specs.format.Messages.{Message, Handshake, Data, Ack, Have, Integrity, Pex4, PexReq, Request, Cancel, Choke, Unchoke, Pex6}
use Rattle.pp_terms.specs.tree.Range.{Span}
use Rattle.pp_terms.proofs.Peaks.{same_is}
use Rattle.pp_traffic.specs.Story.{Heard, Said, Taken}
use Rattle.pp_traffic.specs.Hashes.{meets, tells, told_by, is_told}
use Rattle.pp_plan.specs.Law.{IsTold, StoriesTell}

-- each of the first nodes is among all
all_among : (xs ys : List Node) → ((n : Node) → list_any (same_node n) xs ≡ true → list_any (same_node n) ys ≡ true) → list_all (λ n. list_any (same_node n) ys) xs ≡ true
all_among [] ys within = refl
all_among (x ∷ xs) ys within = and_from (list_any (same_node x) ys) (list_all (λ n. list_any (same_node n) ys) xs)
    (within x (or_left (same_node x x) (list_any (same_node x) xs) (same_is x)))
    (all_among xs ys (λ n e. within n (or_right (same_node n x) (list_any (same_node n) xs) e)))

pub peaks_are : (chunks : ℕ) → list_all (is_peak chunks) (peaks chunks) ≡ true
peaks_are chunks = all_among (peaks chunks) (peaks chunks) (λ n e. e)

pub all_wider : (p q : Node → Bool) → ((n : Node) → p n ≡ true → q n ≡ true) → (xs : List Node) → list_all p xs ≡ true → list_all q xs ≡ true
all_wider p q within [] e = refl
all_wider p q within (x ∷ xs) e = let parts = and_parts (p x) (list_all p xs) e in
    and_from (q x) (list_all q xs) (within x parts.0) (all_wider p q within xs parts.1)

-- what one span tells
pub tells_together : (chunks : ℕ) (span : Span) → IsTold chunks (tells chunks span)
tells_together chunks span = ⊎_elim
    (λ some. inl (all_wider (is_peak chunks) (tells chunks span)
    (λ n e. and_from (nat_lt span.first chunks && nat_le span.first span.last) (is_peak chunks n || (nat_lt n.layer (height chunks) && meets chunks span (parent_of n))) some
    (or_left (is_peak chunks n) (nat_lt n.layer (height chunks) && meets chunks span (parent_of n)) e)) (peaks chunks) (peaks_are chunks)))
    (λ none. inr (λ n. and_left (nat_lt span.first chunks && nat_le span.first span.last) (is_peak chunks n || (nat_lt n.layer (height chunks) && meets chunks span (parent_of n))) none))
    (cases_Bool (nat_lt span.first chunks && nat_le span.first span.last))

pub either_told : (chunks : ℕ) (one other : Node → Bool) → IsTold chunks one → IsTold chunks other → IsTold chunks (λ n. one n || other n)
either_told chunks one other a b = ⊎_elim
    (λ all. inl (all_wider one (λ n. one n || other n) (λ n e. or_left (one n) (other n) e) (peaks chunks) all))
    (λ none. ⊎_elim
    (λ all. inl (all_wider other (λ n. one n || other n) (λ n e. or_right (one n) (other n) e) (peaks chunks) all))
    (λ and_left. inr (λ n. or_from (one n) (other n) (none n) (and_left n)))
    b)
    a

message_tells : (chunks : ℕ) (m : Message) → IsTold chunks (λ n. told_by chunks n m)
message_tells chunks (Ack span delay) = tells_together chunks span
message_tells chunks (Have span) = tells_together chunks span
message_tells chunks (Handshake c o) = inr (λ n. refl)
message_tells chunks (Data i at bytes) = inr (λ n. refl)
message_tells chunks (Integrity span digest) = inr (λ n. refl)
message_tells chunks (Pex4 a p) = inr (λ n. refl)
message_tells chunks PexReq = inr (λ n. refl)
message_tells chunks (Request span) = inr (λ n. refl)
message_tells chunks (Cancel span) = inr (λ n. refl)
message_tells chunks Choke = inr (λ n. refl)
message_tells chunks Unchoke = inr (λ n. refl)
message_tells chunks (Pex6 a p) = inr (λ n. refl)

pub stories_tell : StoriesTell
stories_tell chunks [] = inr (λ n. refl)
stories_tell chunks (Heard now m ∷ before) = either_told chunks (λ n. told_by chunks n m) (is_told chunks before) (message_tells chunks m) (stories_tell chunks before)
stories_tell chunks (Said now m ∷ before) = stories_tell chunks before
stories_tell chunks (Taken now ∷ before) = stories_tell chunks before
