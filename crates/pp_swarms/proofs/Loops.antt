-- Loops over the swarms: those below a number are done, and the others are as they were.
use Rattle.std.proofs.Common.{◌≡◌, ⊎_elim, ℕ, ◌+◌, ◌<◌, ◌≤◌, List, [], ◌∷◌, ◌++◌, length, Option, Some, None, refl, sym, ◌∙◌, ap, subst, arith}
use Rattle.std.specs.Prelude.{◌≢◌, slice_get, slice_set}
use Rattle.std.proofs.lemmas.List.{length-set, length-append, append-nil, append_assoc}
use Rattle.std.proofs.lemmas.Bool.{cases_eq}
use Rattle.std.proofs.lemmas.Option.{same_Some, slice_get_within}
use Rattle.pp_terms.specs.disk.Disk.{DiskState}
use Rattle.pp_terms.specs.format.Traffic.{LinkState, Record, GainsRecords}
use Rattle.pp_terms.proofs.Risings.{gains_twice, gains_nothing}
use Rattle.pp_core.specs.Peers.{PeerState}
use Rattle.pp_swarms.specs.Sharing.{Fleet, fleet, Swarm, swarm, IsAt, KeepsOrder, joined, GainsParts}
use Rattle.pp_swarms.proofs.Lists.{get_set_there, get_set_other, get_last, get_before}

-- ---- one swarm after the other

-- those from a number on are as they were
abbrev pub SameFrom : ℕ → Fleet → Fleet → Type 0
SameFrom i old new = (s : ℕ) → i ≤ s → (slice_get new.peers s ≡ slice_get old.peers s) × (slice_get new.disks s ≡ slice_get old.disks s)

pub record UpTo (R : ℕ → Swarm → Swarm → Type 0) (i : ℕ) (old new : Fleet) : Type 0 where
  pub within : i ≤ length old.peers
  pub peers : length new.peers ≡ length old.peers
  pub disks : length new.disks ≡ length old.disks
  pub done : (s : ℕ) (x y : Swarm) → s < i → IsAt old s x → IsAt new s y → R s x y
  pub rest : SameFrom i old new

-- one of them is another now
abbrev pub with_swarm : ℕ → Swarm → Fleet → Fleet
with_swarm i y f = fleet (slice_set f.peers i y.peer) (slice_set f.disks i y.disk)

module _ (i : ℕ) (f : Fleet) (x y : Swarm) (there : IsAt f i x) where
  pub at_there : IsAt (with_swarm i y f) i y
  at_there = (get_set_there f.peers i y.peer x.peer there.0, get_set_there f.disks i y.disk x.disk there.1)

  pub at_only : (z : Swarm) → IsAt (with_swarm i y f) i z → y ≡ z
  at_only z is =
      ap (λ (p : PeerState). swarm p y.disk) (same_Some y.peer z.peer (sym at_there.0 ∙ is.0))
      ∙ ap (λ (d : DiskState). swarm z.peer d) (same_Some y.disk z.disk (sym at_there.1 ∙ is.1))

  pub at_other : (j : ℕ) (z : Swarm) → j ≢ i → IsAt (with_swarm i y f) j z → IsAt f j z
  at_other j z other is = (sym (get_set_other f.peers i j y.peer other) ∙ is.0, sym (get_set_other f.disks i j y.disk other) ∙ is.1)

pub same_at : (f : Fleet) (i : ℕ) (x z : Swarm) → IsAt f i x → IsAt f i z → x ≡ z
same_at f i x z one two =
    ap (λ (p : PeerState). swarm p x.disk) (same_Some x.peer z.peer (sym one.0 ∙ two.0))
    ∙ ap (λ (d : DiskState). swarm z.peer d) (same_Some x.disk z.disk (sym one.1 ∙ two.1))

pub same_then : (i : ℕ) (old mid : Fleet) (y : Swarm) → SameFrom i old mid → SameFrom (i + 1) old (with_swarm i y mid)
same_then i old mid y same s le = (
  get_set_other mid.peers i s y.peer (λ e. omega (arith, le, e)) ∙ (same s (omega (arith, le))).0,
  get_set_other mid.disks i s y.disk (λ e. omega (arith, le, e)) ∙ (same s (omega (arith, le))).1,
)

-- the swarm at the number is the old one
pub at_before : (i : ℕ) (old mid : Fleet) (x : Swarm) → SameFrom i old mid → IsAt old i x → IsAt mid i x
at_before i old mid x same is = ((same i (omega arith)).0 ∙ is.0, (same i (omega arith)).1 ∙ is.1)

module _ (R : ℕ → Swarm → Swarm → Type 0) where
  pub up_to_none : (old : Fleet) → UpTo R 0 old old
  up_to_none old = record {
    within = omega arith;
    peers = refl;
    disks = refl;
    done = λ s x y lt. absurd (omega (arith, lt));
    rest = λ s le. (refl, refl);
  }

  pub up_to_more : (i : ℕ) (old mid : Fleet) (x y : Swarm) → IsAt mid i x → R i x y → UpTo R i old mid → UpTo R (i + 1) old (with_swarm i y mid)
  up_to_more i old mid x y there does u = record {
    within = (let lt = slice_get_within mid.peers i x.peer there.0 in let same = u.peers in omega (arith, lt, same));
    peers = length-set mid.peers i y.peer ∙ u.peers;
    disks = length-set mid.disks i y.disk ∙ u.disks;
    done = λ s a b lt was is. ⊎_elim
        (λ (e : s ≡ i).
        let was' : IsAt old i a = subst (λ (n : ℕ). IsAt old n a) e was in
        let is' : IsAt (with_swarm i y mid) i b = subst (λ (n : ℕ). IsAt (with_swarm i y mid) n b) e is in
        let a_is : x ≡ a = same_at mid i x a there (at_before i old mid a u.rest was') in
        let b_is : y ≡ b = at_only i mid x y there b is' in
        subst (λ (n : ℕ). R n a b) (sym e) (subst (λ (z : Swarm). R i z b) a_is (subst (λ (z : Swarm). R i x z) b_is does)))
        (λ ne. u.done s a b (let other : s ≢ i = ne in omega (arith, lt, other)) was (at_other i mid x y there s b ne is))
        (cases_eq s i);
    rest = same_then i old mid y u.rest;
  }

  -- when all are done
  pub up_to_all : (i : ℕ) (old new : Fleet) → length old.peers ≤ i → UpTo R i old new
      → KeepsOrder old new × ((s : ℕ) (x y : Swarm) → IsAt old s x → IsAt new s y → R s x y)
  up_to_all i old new all u = (
    record {
      peers = u.peers;
      disks = u.disks;
      others = λ s le. (u.rest s (let within = u.within in omega (arith, le, within))).1;
    },
    λ s x y was is. u.done s x y (let within = slice_get_within old.peers s x.peer was.0 in omega (arith, within, all)) was is,
  )

-- ---- the peers alone

-- the peers below a number are done, and the others are as they were
pub record EachUpTo (R : PeerState → PeerState → Type 0) (i : ℕ) (old new : List PeerState) : Type 0 where
  pub within : i ≤ length old
  pub many : length new ≡ length old
  pub done : (s : ℕ) (p q : PeerState) → s < i → slice_get old s ≡ Some p → slice_get new s ≡ Some q → R p q
  pub rest : (s : ℕ) → i ≤ s → slice_get new s ≡ slice_get old s

module _ (R : PeerState → PeerState → Type 0) where
  pub each_none : (old : List PeerState) → EachUpTo R 0 old old
  each_none old = record { within = omega arith; many = refl; done = λ s p q lt. absurd (omega (arith, lt)); rest = λ s le. refl }

  pub each_more : (i : ℕ) (old mid : List PeerState) (p q : PeerState) → slice_get mid i ≡ Some p → R p q → EachUpTo R i old mid
      → EachUpTo R (i + 1) old (slice_set mid i q)
  each_more i old mid p q there does u = record {
    within = (let lt = slice_get_within mid i p there in let same = u.many in omega (arith, lt, same));
    many = length-set mid i q ∙ u.many;
    done = λ s a b lt was is. ⊎_elim
        (λ (e : s ≡ i).
        let a_is : p ≡ a = same_Some p a (sym there ∙ u.rest i (omega arith) ∙ ap (λ (n : ℕ). slice_get old n) (sym e) ∙ was) in
        let b_is : q ≡ b = same_Some q b (sym (get_set_there mid i q p there) ∙ ap (λ (n : ℕ). slice_get (slice_set mid i q) n) (sym e) ∙ is) in
        subst (λ (z : PeerState). R a z) b_is (subst (λ (z : PeerState). R z q) a_is does))
        (λ ne.
        let other : s ≢ i = ne in
        u.done s a b (omega (arith, lt, other)) was (sym (get_set_other mid i s q ne) ∙ is))
        (cases_eq s i);
    rest = λ s le. get_set_other mid i s q (λ e. omega (arith, le, e)) ∙ u.rest s (omega (arith, le));
  }

  pub each_all : (i : ℕ) (old new : List PeerState) → length old ≤ i → EachUpTo R i old new → (s : ℕ) (p q : PeerState)
      → slice_get old s ≡ Some p → slice_get new s ≡ Some q → R p q
  each_all i old new all u s p q was is =
      u.done s p q (let within = slice_get_within old s p was in omega (arith, within, all)) was is

-- ---- and what each of them sent

-- Between two states of a link there were others.
pub record Within (link link' before after : LinkState) : Type 0 where
  pub first : before.faults ≤ link.faults
  pub tells : (all : List Record) → before.traffic ≡ Some all → (more : List Record) × (link.traffic ≡ Some more)
  pub last : link'.faults ≤ after.faults

-- where a link told its traffic it goes on telling it
pub tells_on : (a b : Option (List Record)) (x all : List Record) → GainsRecords a x b → a ≡ Some all → (more : List Record) × (b ≡ Some more)
tells_on None b x all gained is = absurd cc
tells_on (Some xs) b x all gained is = (x ++ xs, gained)

pub joined_more : (parts : List (List Record)) (part : List Record) → joined (parts ++ part ∷ []) ≡ part ++ joined parts
joined_more [] part = sym (append-nil part)
joined_more (p ∷ parts) part = ap (λ (xs : List Record). xs ++ p) (joined_more parts part) ∙ append_assoc part (joined parts) p

pub gains_more : (parts : List (List Record)) (part : List Record) (link mid link' : LinkState) → GainsParts parts link mid
    → GainsParts (part ∷ []) mid link' → GainsParts (parts ++ part ∷ []) link link'
gains_more parts part link mid link' p q = record {
  gained = subst (λ (xs : List Record). GainsRecords link.traffic xs link'.traffic) (sym (joined_more parts part))
      (gains_twice link.traffic mid.traffic link'.traffic (joined parts) part p.gained q.gained);
  nexts = q.nexts ∙ p.nexts;
  bound = q.bound ∙ p.bound;
  later = let a = p.later in let b = q.later in omega (arith, a, b);
}

module _ (R : List Record → Swarm → Swarm → LinkState → LinkState → Type 0)
    (grows : (part : List Record) (x y : Swarm) (link link' before after : LinkState) → Within link link' before after → R part x y link link'
    → R part x y before after) where
  -- the swarms below a number sent their parts
  pub record PartsUpTo (i : ℕ) (old new : Fleet) (link link' : LinkState) : Type 0 where
    pub within : i ≤ length old.peers
    pub peers : length new.peers ≡ length old.peers
    pub disks : length new.disks ≡ length old.disks
    pub parts : List (List Record)
    pub many : length parts ≡ i
    pub gains : GainsParts parts link link'
    pub done : (s : ℕ) (x y : Swarm) (part : List Record) → IsAt old s x → IsAt new s y → slice_get parts s ≡ Some part → R part x y link link'
    pub rest : SameFrom i old new

  pub parts_none : (old : Fleet) (link : LinkState) → PartsUpTo 0 old old link link
  parts_none old link = record {
    within = omega arith;
    peers = refl;
    disks = refl;
    parts = [];
    many = refl;
    gains = record { gained = gains_nothing link.traffic link.traffic refl; nexts = refl; bound = refl; later = omega arith };
    done = λ s x y part was is none. absurd (let nothing : List (List Record) = [] in let lt = slice_get_within nothing s part none in omega (arith, lt));
    rest = λ s le. (refl, refl);
  }

  pub parts_more : (i : ℕ) (old mid : Fleet) (x y : Swarm) (part : List Record) (link l l' : LinkState) → IsAt mid i x
      → GainsParts (part ∷ []) l l' → R part x y l l' → PartsUpTo i old mid link l → PartsUpTo (i + 1) old (with_swarm i y mid) link l'
  parts_more i old mid x y part link l l' there gains does u = record {
    within = (let lt = slice_get_within mid.peers i x.peer there.0 in let same = u.peers in omega (arith, lt, same));
    peers = length-set mid.peers i y.peer ∙ u.peers;
    disks = length-set mid.disks i y.disk ∙ u.disks;
    parts = u.parts ++ part ∷ [];
    many = (let sum = length-append u.parts (part ∷ []) in let many = u.many in omega (arith, sum, many));
    gains = gains_more u.parts part link l l' u.gains gains;
    done = λ s a b p was is has. ⊎_elim
        (λ (e : s ≡ i).
        let was' : IsAt old i a = subst (λ (n : ℕ). IsAt old n a) e was in
        let is' : IsAt (with_swarm i y mid) i b = subst (λ (n : ℕ). IsAt (with_swarm i y mid) n b) e is in
        let a_is : x ≡ a = same_at mid i x a there (at_before i old mid a u.rest was') in
        let b_is : y ≡ b = at_only i mid x y there b is' in
        let p_is : part ≡ p = same_Some part p
        (sym (get_last u.parts part) ∙ ap (λ (n : ℕ). slice_get (u.parts ++ part ∷ []) n) (u.many ∙ sym e) ∙ has) in
        subst (λ (q : List Record). R q a b link l') p_is (subst (λ (z : Swarm). R part z b link l') a_is
        (subst (λ (z : Swarm). R part x z link l') b_is (grows part x y l l' link l' first does))))
        (λ ne.
        let other : s ≢ i = ne in
        let lt = slice_get_within (u.parts ++ part ∷ []) s p has in
        let sum = length-append u.parts (part ∷ []) in
        let many = u.many in
        let low : s < length u.parts = omega (arith, lt, sum, many, other) in
        grows p a b link l link l' last (u.done s a b p was (at_other i mid x y there s b ne is) (sym (get_before u.parts part s low) ∙ has)))
        (cases_eq s i);
    rest = same_then i old mid y u.rest;
  }
    where
      first : Within l l' link l'
      first = record {
        first = u.gains.later;
        tells = λ all is. tells_on link.traffic l.traffic (joined u.parts) all u.gains.gained is;
        last = omega arith;
      }

      last : Within link l link l'
      last = record { first = omega arith; tells = λ all is. (all, is); last = gains.later }

  -- when all sent theirs
  pub parts_order : (i : ℕ) (old new : Fleet) (link link' : LinkState) → length old.peers ≤ i → PartsUpTo i old new link link' → KeepsOrder old new
  parts_order i old new link link' all u = record {
    peers = u.peers;
    disks = u.disks;
    others = λ s le. (u.rest s (let within = u.within in omega (arith, le, within))).1;
  }

  pub parts_many : (i : ℕ) (old new : Fleet) (link link' : LinkState) → length old.peers ≤ i → (u : PartsUpTo i old new link link')
      → length u.parts ≡ length old.peers
  parts_many i old new link link' all u = let within = u.within in let many = u.many in omega (arith, all, within, many)
