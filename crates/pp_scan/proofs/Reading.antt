-- Calls that only read, one after the other, and what they read.
use Rattle.std.proofs.Common.{◌≡◌, ℕ, ◌+◌, ◌<◌, ◌≤◌, List, [], ◌∷◌, length, get_or, take, drop, Result, Ok, Err, refl, sym, ◌∙◌, ap, arith}
use Rattle.std.proofs.lemmas.Grind.{same_number_lists}
use Rattle.std.proofs.lemmas.List.{places, length-take, length-drop}
use Rattle.pp_terms.specs.disk.Disk.{DiskState, IsKnown, IsRead, DoesRead, DoesLen}
use Rattle.pp_terms.specs.disk.Image.{slice}
use Rattle.pp_terms.proofs.Knowing.{known_on}
use Rattle.pp_scan.specs.Look.{KeepsAll, OnlyReads}

pub keeps_same : (state : DiskState) → KeepsAll state state
keeps_same state = record { tells = refl; honest = refl; same = refl; faults = omega arith; hard = omega arith }

pub keeps_more : (old mid new : DiskState) → KeepsAll old mid → KeepsAll mid new → KeepsAll old new
keeps_more old mid new one two = record {
  tells = two.tells ∙ one.tells;
  honest = two.honest ∙ one.honest;
  same = two.same ∙ one.same;
  faults = omega (arith, one.faults, two.faults);
  hard = omega (arith, one.hard, two.hard);
}

pub reads_done : {T E : Type 0} (old new : DiskState) (x : T) → KeepsAll old new → OnlyReads {E = E} old (Ok x) new
reads_done old new x keeps = record { keeps = keeps; cause = record { later = keeps.faults; risen = λ err. absurd cc } }

pub reads_later : {T E : Type 0} (old mid new : DiskState) (result : Result T E) → KeepsAll old mid → OnlyReads mid result new → OnlyReads old result new
reads_later old mid new result one two = record {
  keeps = keeps_more old mid new one two.keeps;
  cause = record {
    later = omega (arith, one.faults, two.cause.later);
    risen = λ err below. let r : mid.faults < new.faults = two.cause.risen err below in omega (arith, one.faults, r);
  };
}

pub reads_fault : {T U E F : Type 0} (old new : DiskState) (x : E) (y : F) → OnlyReads {T = T} old (Err x) new → OnlyReads {T = U} old (Err y) new
reads_fault old new x y one = record { keeps = one.keeps; cause = record { later = one.cause.later; risen = λ err. one.cause.risen refl } }

-- one reading
pub read_keeps : {E : Type 0} (old new : DiskState) (place : ℕ) (into : List ℕ) (result : Result (Unit {0}) E) → DoesRead old place into result new → KeepsAll old new
read_keeps old new place into result does = record {
  tells = does.call.tells;
  honest = does.call.honest;
  same = does.same;
  faults = does.call.cause.later;
  hard = omega (arith, does.hard_same);
}

pub read_only : {E : Type 0} (old new : DiskState) (place : ℕ) (into : List ℕ) (result : Result (Unit {0}) E) → DoesRead old place into result new → OnlyReads old result new
read_only old new place into result does = record { keeps = read_keeps old new place into result does; cause = does.call.cause }

pub len_keeps : {E : Type 0} (old new : DiskState) (result : Result ℕ E) → DoesLen old result new → KeepsAll old new
len_keeps old new result does = record {
  tells = does.call.tells;
  honest = does.call.honest;
  same = does.same;
  faults = does.call.cause.later;
  hard = does.hard_cause.later;
}

pub no_bytes : (bytes : List ℕ) → length bytes ≡ 0 → bytes ≡ []
no_bytes [] none = refl
no_bytes (b ∷ bytes) none = absurd (omega arith)

pub known_after : (old new : DiskState) → KeepsAll old new → IsKnown old → IsKnown new
known_after old new keeps known = known_on old new keeps.tells keeps.honest known

-- what was read inside the file are its bytes
pub read_slice : (reads : List ℕ) (place : ℕ) (into : List ℕ) → IsRead reads place into → place + length into ≤ length reads → into ≡ slice reads place (length into)
read_slice reads place into is inside =
    let size : length (slice reads place (length into)) ≡ length into = length-take (length into) (drop place reads) ∙ omega (arith, length-drop place reads) in
    same_number_lists into (slice reads place (length into)) (omega (arith, size)) (λ k lt. is k lt ∙ sym (at k lt))
  where
    at : (k : ℕ) → k < length into → get_or (take (length into) (drop place reads)) k 0 ≡ get_or reads (place + k) 0
    at k lt = grind (arith, places)

-- the front of what was read, where it lies inside the file
pub read_prefix : (reads : List ℕ) (place n : ℕ) (into : List ℕ) → IsRead reads place into → n ≤ length into → place + n ≤ length reads
    → take n into ≡ slice reads place n
read_prefix reads place n into is le inside =
    let long : length (take n into) ≡ n = length-take n into ∙ omega (arith, le) in
    let is' : IsRead reads place (take n into) = λ k lt. front k (omega (arith, long, lt)) ∙ is k (omega (arith, le, long, lt)) in
    read_slice reads place (take n into) is' (omega (arith, inside, long)) ∙ ap (λ (m : ℕ). slice reads place m) long
  where
    front : (k : ℕ) → k < n → get_or (take n into) k 0 ≡ get_or into k 0
    front k lt = grind (arith, places)
