-- The numbers of a peer at its end.
use Rattle.std.proofs.Common.{◌≡◌, ℕ, suc, ◌+◌, ◌<◌, Bool, false, cond, Some, List, [], ◌∷◌, length, map, reverse, get_or, refl, sym, ap, ◌∙◌}
use Rattle.std.specs.Prelude.{count_by, ◌||◌}
use Rattle.std.specs.List.{list_any, range_with_len}
use Rattle.std.proofs.lemmas.List.{length-reverse}
use Rattle.std.proofs.lemmas.List.FromFn.{fill_by_all}
use Rattle.std.proofs.lemmas.List.Sorted.{list_any-IsPermutation, IsPermutation-reverse}
use Rattle.std.proofs.lemmas.List.Sums.{sum_by-cons}
use Rattle.pp_terms.specs.disk.Disk.{History}
use Rattle.pp_terms.specs.format.Descriptor.{Descriptor, chunks_of}
use Rattle.pp_terms.specs.format.Traffic.{Record}
use Rattle.pp_outside.specs.MemoryDisk as disks
use Rattle.pp_outside.specs.MemoryLink.{in_order}
use Rattle.pp_world.specs.Outcome.{is_announced_in, is_held}
use Rattle.pp_world.specs.Session.{Session}
use Rattle.pp_world.specs.World.{PeerState, reads_of}
use Rattle.pp_actor.specs.Actor.{ShowsRemains, ShowsLife, ShowLives}
use Rattle.pp_actor.specs.declared.life.Life.{Life}
use Rattle.pp_actor.specs.declared.life.Remains.{Remains}
use Rattle.pp_outcome.specs.Announced.{AreAnnounced, is_announced_in_life}
use Rattle.pp_outcome.specs.Held.{IsSetOf}
use Rattle.pp_outcome.specs.Outcome.{EndsAs}
use Rattle.pp_outcome.specs.declared.outcome.PeerEnd.{PeerEnd}

count_mapped : (test : ℕ → Bool) (xs : List ℕ) → count_by (λ (b : Bool). b) (map test xs) ≡ count_by test xs
count_mapped test [] = refl
count_mapped test (x ∷ xs) =
    sum_by-cons (λ (b : Bool). cond b 1 0) (test x) (map test xs)
    ∙ ap (λ (n : ℕ). cond (test x) 1 0 + n) (count_mapped test xs)
    ∙ sym (sum_by-cons (λ (i : ℕ). cond (test i) 1 0) x xs)

-- the count of a set is that of the numbers that pass its test
counted : (test : ℕ → Bool) (n : ℕ) (set : List Bool) → length set ≡ n → ((i : ℕ) → i < n → get_or set i false ≡ test i)
    → count_by (λ (b : Bool). b) set ≡ count_by test (range_with_len 0 n)
counted test n set size each =
    ap (count_by (λ (b : Bool). b)) (fill_by_all test set n false size each) ∙ count_mapped test (range_with_len 0 n)

-- ---- lives as sessions

pub shown_count : (lives : List Life) (ss : List Session) → ShowLives lives ss → length lives ≡ length ss
shown_count [] [] shows = refl
shown_count [] (s ∷ ss) shows = absurd shows
shown_count (life ∷ lives) [] shows = absurd shows
shown_count (life ∷ lives) (s ∷ ss) shows = ap (λ (n : ℕ). suc n) (shown_count lives ss shows.1)

same_records : (life : Life) (s : Session) → ShowsLife life s → reverse (in_order life.link) ≡ s.traffic
same_records life s shows =
    let told : Some (reverse (in_order life.link)) ≡ Some s.traffic = shows.traffic in cc

shown_any : (d : Descriptor) (i : ℕ) (lives : List Life) (ss : List Session) → ShowLives lives ss
    → list_any (is_announced_in_life d i) lives ≡ list_any (λ s. is_announced_in d i s.traffic) ss
shown_any d i [] [] shows = refl
shown_any d i [] (s ∷ ss) shows = absurd shows
shown_any d i (life ∷ lives) [] shows = absurd shows
shown_any d i (life ∷ lives) (s ∷ ss) shows =
    ap (λ (rs : List Record). is_announced_in d i rs || list_any (is_announced_in_life d i) lives) (same_records life s shows.0)
    ∙ ap (λ (b : Bool). is_announced_in d i s.traffic || b) (shown_any d i lives ss shows.1)

shown_reads : (r : Remains) (x : PeerState) → ShowsRemains r x → (disks.state_of r.disk).history.reads ≡ reads_of x
shown_reads r x shows = ap (λ (h : History). h.reads) shows.history

-- ---- the end

pub ends : (d : Descriptor) (remains : Remains) (end : PeerEnd) (set : List Bool) → end.remains ≡ remains
    → AreAnnounced d remains.lives.items set → end.announced ≡ count_by (λ (b : Bool). b) set
    → IsSetOf (chunks_of d) (is_held d (disks.state_of remains.disk).history.reads) end.held → EndsAs d remains end
ends d remains end set kept announced count held = record {
  kept = kept;
  numbers = λ x shows. record {
    lives = ap (λ (r : Remains). length r.lives.items) kept ∙ sym (length-reverse remains.lives.items)
        ∙ shown_count (reverse remains.lives.items) x.sessions shows.over;
    announced = count ∙ counted (λ i. list_any (λ s. is_announced_in d i s.traffic) x.sessions) (chunks_of d) set announced.size
        (λ i lt. announced.each i lt
        ∙ list_any-IsPermutation (is_announced_in_life d i) remains.lives.items (reverse remains.lives.items) (IsPermutation-reverse remains.lives.items)
        ∙ shown_any d i (reverse remains.lives.items) x.sessions shows.over);
    size = held.size;
    held = λ i lt. held.each i lt ∙ ap (λ (reads : List ℕ). is_held d reads i) (shown_reads remains x shows);
  };
}
