-- A peer that commits as it should commits in time.
use Rattle.std.proofs.Common.{◌≡◌, ⊎_elim, ℕ, suc, ◌<◌, ◌≤◌, leb, eqb, Bool, true, false, cond, ◌||◌, List, [], ◌∷◌, length, refl, sym, ◌∙◌, ap, subst, arith}
use Rattle.std.specs.Prelude.{slice_index_or}
use Rattle.std.specs.List.{list_all}
use Rattle.std.proofs.Math.Bool.{or-false, or_assoc, or_comm}
use Rattle.std.proofs.lemmas.Bool.{leb-true, leb-false, eq-eqb, and_from, or_cases, or_left, or_right}
use Rattle.std.proofs.lemmas.List.FromFn.{length-map-range_with_len, get_or-map-range_with_len}
use Rattle.pp_promises.specs.Batches.{Pending, Batch, is_same, is_among, is_pending, is_in, is_full, committed_with, after_commit, after_put, after_puts, is_due, after_read, after_event, with_puts, with_all_pending, CommitsInTime}

few_of : (n : ℕ) → leb 64 n ≡ false → n < 64
few_of n e = let lt = leb-false 64 n e in omega (arith, lt)

not_full : (n : ℕ) → n < 64 → leb 64 n ≡ false
not_full n lt = pick (leb 64 n) refl
  where
    pick : (x : Bool) → leb 64 n ≡ x → x ≡ false
    pick true e = let le = leb-true 64 n e in absurd (omega (arith, le, lt))
    pick false e = refl

-- fewer than 64 wait after each put
put_few : (i now : ℕ) (b : Batch) → length (after_put i now b).pending < 64
put_few i now b = pick (leb 64 (suc (length b.pending))) refl
  where
    more : Batch
    more = record { committed = b.committed; pending = record { chunk = i; put_at = now } ∷ b.pending }

    pick : (x : Bool) → leb 64 (suc (length b.pending)) ≡ x → length (cond x (after_commit more) more).pending < 64
    pick true e = omega arith
    pick false e = few_of (suc (length b.pending)) e

puts_few : (stored : List ℕ) (now : ℕ) (b : Batch) → length b.pending < 64 → length (after_puts stored now b).pending < 64
puts_few [] now b few = few
puts_few (i ∷ more) now b few = puts_few more now (after_put i now b) (put_few i now b)

settle_few : (quiet : Bool) (now : ℕ) (b : Batch) → length b.pending < 64 → length (after_read quiet now b).pending < 64
settle_few quiet now b few = pick (is_due quiet now b)
  where
    pick : (x : Bool) → length (cond x (after_commit b) b).pending < 64
    pick true = omega arith
    pick false = few

-- where the chunks with those that wait are fewer than 64, none is committed
with_grows : (stored : List ℕ) (now : ℕ) (waiting : List Pending) → length waiting ≤ length (with_puts stored now waiting)
with_grows [] now waiting = omega arith
with_grows (i ∷ more) now waiting = let le = with_grows more now (record { chunk = i; put_at = now } ∷ waiting) in omega (arith, le)

puts_wait : (stored : List ℕ) (now : ℕ) (b : Batch) → length (with_puts stored now b.pending) < 64 → after_puts stored now b ≡ with_all_pending stored now b
puts_wait [] now b few = refl
puts_wait (i ∷ more) now b few =
    let one : after_put i now b ≡ record { committed = b.committed; pending = record { chunk = i; put_at = now } ∷ b.pending } = pick (leb 64 (suc (length b.pending))) (not_full (suc (length b.pending)) here) in
    subst (λ (x : Batch). after_puts more now x ≡ with_all_pending (i ∷ more) now b) (sym one)
    (puts_wait more now (record { committed = b.committed; pending = record { chunk = i; put_at = now } ∷ b.pending }) few)
  where
    here : suc (length b.pending) < 64
    here = let le = with_grows more now (record { chunk = i; put_at = now } ∷ b.pending) in omega (arith, le, few)

    grown : Batch
    grown = record { committed = b.committed; pending = record { chunk = i; put_at = now } ∷ b.pending }

    pick : (x : Bool) → x ≡ false → cond x (after_commit grown) grown ≡ record { committed = b.committed; pending = record { chunk = i; put_at = now } ∷ b.pending }
    pick true e = absurd cc
    pick false e = refl

settle_waits : (quiet : Bool) (now : ℕ) (b : Batch) → is_due quiet now b ≡ false → after_read quiet now b ≡ b
settle_waits quiet now b e = pick (is_due quiet now b) e
  where
    pick : (x : Bool) → x ≡ false → cond x (after_commit b) b ≡ b
    pick true e = absurd cc
    pick false e = refl

settled_none : (quiet : Bool) (now : ℕ) (b : Batch) → is_due quiet now (after_read quiet now b) ≡ true → (after_read quiet now b).pending ≡ []
settled_none quiet now b e = pick (is_due quiet now b) refl
  where
    pick : (x : Bool) → is_due quiet now b ≡ x → (after_read quiet now b).pending ≡ []
    pick true y = let same : after_read quiet now b ≡ after_commit b = ap (λ (x : Bool). cond x (after_commit b) b) y in ap (λ (x : Batch). x.pending) same
    pick false y = let same : after_read quiet now b ≡ b = settle_waits quiet now b y in
        let e' : is_due quiet now b ≡ true = subst (λ (x : Batch). is_due quiet now x ≡ true) same e in absurd cc

-- ---- nothing is lost, and nothing else comes in

committed_at : (b : Batch) (i : ℕ) → i < length b.committed → slice_index_or (committed_with b) i false ≡ is_in b i
committed_at b i lt = get_or-map-range_with_len (is_in b) 0 (length b.committed) i i false lt (omega arith)

commit_keeps : (b : Batch) (i : ℕ) → i < length b.committed → is_in (after_commit b) i ≡ is_in b i
commit_keeps b i lt = or-false (slice_index_or (committed_with b) i false) ∙ committed_at b i lt

-- with one more that is pending
with_put : ℕ → ℕ → Batch → Batch
with_put k now b = record { committed = b.committed; pending = record { chunk = k; put_at = now } ∷ b.pending }

put_keeps : (k now : ℕ) (b : Batch) (i : ℕ) → i < length b.committed → is_in (after_put k now b) i ≡ is_in (with_put k now b) i
unfolding with_put
put_keeps k now b i lt = pick (is_full (with_put k now b))
  where
    pick : (x : Bool) → is_in (cond x (after_commit (with_put k now b)) (with_put k now b)) i ≡ is_in (with_put k now b) i
    pick true = commit_keeps (with_put k now b) i lt
    pick false = refl

-- the same chunks are in where the same were in before
or_moved : (c x p : Bool) → (c || x || p) ≡ (x || (c || p))
or_moved c x p = ap (λ (b : Bool). b || p) (or_comm c x) ∙ or_assoc x c p

put_same : (k now : ℕ) (b b' : Batch) (i : ℕ) → is_in b i ≡ is_in b' i → is_in (with_put k now b) i ≡ is_in (with_put k now b') i
unfolding with_put
put_same k now b b' i same =
    sym (or_assoc (slice_index_or b.committed i false) (eqb k i) (is_pending b i)) ∙ or_moved (slice_index_or b.committed i false) (eqb k i) (is_pending b i)
    ∙ ap (λ (x : Bool). eqb k i || x) same
    ∙ sym (or_moved (slice_index_or b'.committed i false) (eqb k i) (is_pending b' i))
    ∙ or_assoc (slice_index_or b'.committed i false) (eqb k i) (is_pending b' i)

all_same : (stored : List ℕ) (now : ℕ) (b b' : Batch) (i : ℕ) → is_in b i ≡ is_in b' i
    → is_in (with_all_pending stored now b) i ≡ is_in (with_all_pending stored now b') i
unfolding with_put
all_same [] now b b' i same = same
all_same (k ∷ more) now b b' i same = all_same more now (with_put k now b) (with_put k now b') i (put_same k now b b' i same)

length-committed_with : (b : Batch) → length (committed_with b) ≡ length b.committed
length-committed_with b = length-map-range_with_len (is_in b) 0 (length b.committed)

length-after_put : (k now : ℕ) (b : Batch) → length (after_put k now b).committed ≡ length b.committed
unfolding with_put
length-after_put k now b = pick (is_full (with_put k now b))
  where
    pick : (x : Bool) → length (cond x (after_commit (with_put k now b)) (with_put k now b)).committed ≡ length b.committed
    pick true = length-committed_with (with_put k now b)
    pick false = refl

length-after_puts : (stored : List ℕ) (now : ℕ) (b : Batch) → length (after_puts stored now b).committed ≡ length b.committed
length-after_puts [] now b = refl
length-after_puts (k ∷ more) now b = length-after_puts more now (after_put k now b) ∙ length-after_put k now b

length-after_read : (quiet : Bool) (now : ℕ) (b : Batch) → length (after_read quiet now b).committed ≡ length b.committed
length-after_read quiet now b = pick (is_due quiet now b)
  where
    pick : (x : Bool) → length (cond x (after_commit b) b).committed ≡ length b.committed
    pick true = length-committed_with b
    pick false = refl

puts_keep : (stored : List ℕ) (now : ℕ) (b : Batch) (i : ℕ) → i < length b.committed
    → is_in (after_puts stored now b) i ≡ is_in (with_all_pending stored now b) i
unfolding with_put
puts_keep [] now b i lt = refl
puts_keep (k ∷ more) now b i lt =
    puts_keep more now (after_put k now b) i (rw (length-after_put k now b) lt)
    ∙ all_same more now (after_put k now b) (with_put k now b) i (put_keeps k now b i lt)

read_keeps : (quiet : Bool) (now : ℕ) (b : Batch) (i : ℕ) → i < length b.committed → is_in (after_read quiet now b) i ≡ is_in b i
read_keeps quiet now b i lt = pick (is_due quiet now b)
  where
    pick : (x : Bool) → is_in (cond x (after_commit b) b) i ≡ is_in b i
    pick true = commit_keeps b i lt
    pick false = refl

-- ---- what was committed stays committed

IsCommitted : ℕ → Batch → Type 0
IsCommitted i b = slice_index_or b.committed i false ≡ true

commit_stays : (b : Batch) (i : ℕ) → i < length b.committed → IsCommitted i b → IsCommitted i (after_commit b)
unfolding IsCommitted
commit_stays b i lt e = committed_at b i lt ∙ ap (λ (x : Bool). x || is_pending b i) e

put_stays : (k now : ℕ) (b : Batch) (i : ℕ) → i < length b.committed → IsCommitted i b → IsCommitted i (after_put k now b)
unfolding with_put IsCommitted
put_stays k now b i lt e = pick (is_full (with_put k now b))
  where
    pick : (x : Bool) → slice_index_or (cond x (after_commit (with_put k now b)) (with_put k now b)).committed i false ≡ true
    pick true = commit_stays (with_put k now b) i lt e
    pick false = e

puts_stay : (stored : List ℕ) (now : ℕ) (b : Batch) (i : ℕ) → i < length b.committed → IsCommitted i b → IsCommitted i (after_puts stored now b)
puts_stay [] now b i lt e = e
puts_stay (k ∷ more) now b i lt e =
    puts_stay more now (after_put k now b) i (rw (length-after_put k now b) lt) (put_stays k now b i lt e)

read_stays : (quiet : Bool) (now : ℕ) (b : Batch) (i : ℕ) → i < length b.committed → IsCommitted i b → IsCommitted i (after_read quiet now b)
unfolding IsCommitted
read_stays quiet now b i lt e = pick (is_due quiet now b)
  where
    pick : (x : Bool) → slice_index_or (cond x (after_commit b) b).committed i false ≡ true
    pick true = commit_stays b i lt e
    pick false = e

-- ---- a pending chunk keeps its moment

-- each entry of one list stands in another
Within : (some all : List Pending) → Type 0
Within some all = (p : Pending) → is_among p some ≡ true → is_among p all ≡ true

is_same_itself : (p : Pending) → is_same p p ≡ true
is_same_itself p = and_from (eqb p.chunk p.chunk) (eqb p.put_at p.put_at) (eq-eqb p.chunk p.chunk refl) (eq-eqb p.put_at p.put_at refl)

all_among : (some all : List Pending) → Within some all → list_all (λ p. is_among p all) some ≡ true
unfolding Within
all_among [] all within = refl
all_among (p ∷ some) all within =
    and_from (is_among p all) (list_all (λ q. is_among q all) some)
    (within p (or_left (is_same p p) (is_among p some) (is_same_itself p)))
    (all_among some all (λ q e. within q (or_right (is_same q p) (is_among q some) e)))

one_more_within : (p : Pending) (some all : List Pending) → Within some all → Within (p ∷ some) (p ∷ all)
unfolding Within
one_more_within p some all within q e = ⊎_elim
    (λ here. or_left (is_same q p) (is_among q all) here)
    (λ later. or_right (is_same q p) (is_among q all) (within q later))
    (or_cases (is_same q p) (is_among q some) e)

with_puts_within : (stored : List ℕ) (now : ℕ) (some all : List Pending) → Within some all → Within (with_puts stored now some) (with_puts stored now all)
with_puts_within [] now some all within = within
with_puts_within (i ∷ more) now some all within =
    let put : Pending = record { chunk = i; put_at = now } in
    with_puts_within more now (put ∷ some) (put ∷ all) (one_more_within put some all within)

-- what is pending behind a commit, or where there was none, was pending in front of it
commit_within : (b : Batch) (x : Bool) → Within (cond x (after_commit b) b).pending b.pending
unfolding Within
commit_within b true p e = absurd cc
commit_within b false p e = e

puts_within : (stored : List ℕ) (now : ℕ) (b : Batch) → Within (after_puts stored now b).pending (with_puts stored now b.pending)
unfolding with_put Within
puts_within [] now b p e = e
puts_within (i ∷ more) now b p e =
    with_puts_within more now (after_put i now b).pending (record { chunk = i; put_at = now } ∷ b.pending)
    (commit_within (with_put i now b) (is_full (with_put i now b))) p (puts_within more now (after_put i now b) p e)

event_within : (quiet : Bool) (stored : List ℕ) (now : ℕ) (b : Batch)
    → Within (after_event quiet stored now b).pending (with_puts stored now b.pending)
unfolding Within
event_within quiet stored now b p e =
    let after : Batch = after_puts stored now b in
    puts_within stored now b p (commit_within after (is_due quiet now after) p e)

pub batches_are_in_time : (quiet : Bool) (stored : List ℕ) (now : ℕ) (b : Batch) → is_full b ≡ false → CommitsInTime quiet stored now b (after_event quiet stored now b)
unfolding IsCommitted
batches_are_in_time quiet stored now b e = record {
  few = settle_few quiet now (after_puts stored now b) (puts_few stored now b (few_of (length b.pending) e));
  waits = λ none few.
      let same : after_puts stored now b ≡ with_all_pending stored now b = puts_wait stored now b (few_of (length (with_puts stored now b.pending)) few) in
      let calm : after_read quiet now (with_all_pending stored now b) ≡ with_all_pending stored now b = settle_waits quiet now (with_all_pending stored now b) none in
      subst (λ (x : Batch). (after_read quiet now x).committed ≡ b.committed) (sym same) (ap (λ (x : Batch). x.committed) calm);
  settled = settled_none quiet now (after_puts stored now b);
  as_many = length-after_read quiet now (after_puts stored now b) ∙ length-after_puts stored now b;
  stays = λ i lt was.
      read_stays quiet now (after_puts stored now b) i (rw (length-after_puts stored now b) lt) (puts_stay stored now b i lt was);
  keeps = λ i lt.
      read_keeps quiet now (after_puts stored now b) i (rw (length-after_puts stored now b) lt) ∙ puts_keep stored now b i lt;
  since = all_among (after_event quiet stored now b).pending (with_puts stored now b.pending) (event_within quiet stored now b);
}
