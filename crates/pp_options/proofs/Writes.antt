-- The spelling that is written, field by field.
use Rattle.std.proofs.Common.{◌≡◌, ℕ, ◌+◌, ◌≤◌, List, [], ◌∷◌, ◌++◌, length, take, drop, Option, Some, None, refl, sym, ap, ◌∙◌, arith}
use Rattle.std.proofs.lemmas.List.{append-nil, take-append-drop, length-append}
use Rattle.pp_terms.specs.Place.{placed}
use Rattle.pp_terms.specs.format.Options.{Options, Version, Minimum, Swarm, Integrity, Hash, Addressing, Messages, Chunk, spelled_if, spelling_of}
use Rattle.pp_terms.proofs.Placing.{placed-twice}
use Rattle.pp_options.specs.Views.{number_field, HasWritten}

pub placed-nil : (old : List ℕ) (at : ℕ) → placed old at [] ≡ old
placed-nil old at =
    let e : at + 0 ≡ at = omega arith in
    ap (λ (t : List ℕ). t ++ drop (at + 0) old) (append-nil (take at old)) ∙ ap (λ (k : ℕ). take at old ++ drop k old) e
    ∙ take-append-drop at old

version_field : (v : Option ℕ) → number_field 0 v ≡ spelled_if Version v
version_field None = refl
version_field (Some n) = refl

minimum_field : (v : Option ℕ) → number_field 1 v ≡ spelled_if Minimum v
minimum_field None = refl
minimum_field (Some n) = refl

integrity_field : (v : Option ℕ) → number_field 3 v ≡ spelled_if Integrity v
integrity_field None = refl
integrity_field (Some n) = refl

hash_field : (v : Option ℕ) → number_field 4 v ≡ spelled_if Hash v
hash_field None = refl
hash_field (Some n) = refl

addressing_field : (v : Option ℕ) → number_field 6 v ≡ spelled_if Addressing v
addressing_field None = refl
addressing_field (Some n) = refl

-- the fields one after the other are the spelling
pub fields : (o : Options) → number_field 0 o.version ++ number_field 1 o.minimum ++ spelled_if Swarm o.swarm
    ++ number_field 3 o.integrity ++ number_field 4 o.hash ++ number_field 6 o.addressing
    ++ spelled_if Messages o.messages ++ spelled_if Chunk o.chunk ++ 255 ∷ [] ≡ spelling_of o
unfolding spelling_of
fields o = rw (version_field o.version, minimum_field o.minimum, integrity_field o.integrity, hash_field o.hash, addressing_field o.addressing) refl

-- bytes put behind others
pub put_more : (old : List ℕ) (at : ℕ) (a mid : List ℕ) (place : ℕ) (b new : List ℕ) (end : ℕ) → place ≤ length old
    → HasWritten old at a mid place → new ≡ placed mid place b → end ≡ place + length b → HasWritten old at (a ++ b) new end
put_more old at a mid place b new end le p after ends =
    record {
      after = after ∙ ap (λ (t : List ℕ). placed t place b) p.after ∙ ap (λ (k : ℕ). placed (placed old at a) k b) p.ends
          ∙ placed-twice old at a b (omega (arith, p.ends));
      ends = omega (arith, p.ends, ends, length-append a b);
    }

-- lemmas for the fields
pub ruleset by_name = (placed-nil, placed-twice)

length_of_nine : (a b c d e f g h : List ℕ) → length (a ++ b ++ c ++ d ++ e ++ f ++ g ++ h ++ 255 ∷ [])
    ≡ length a + length b + length c + length d + length e + length f + length g + length h + 1
length_of_nine a b c d e f g h = simp length-append (omega arith)

-- the length of the spelling, field by field
pub length_by_field : (o : Options) → length (spelling_of o)
    ≡ length (number_field 0 o.version) + length (number_field 1 o.minimum) + length (spelled_if Swarm o.swarm)
    + length (number_field 3 o.integrity) + length (number_field 4 o.hash) + length (number_field 6 o.addressing)
    + length (spelled_if Messages o.messages) + length (spelled_if Chunk o.chunk) + 1
length_by_field o =
    sym (ap (λ (t : List ℕ). length t) (fields o))
    ∙ length_of_nine (number_field 0 o.version) (number_field 1 o.minimum) (spelled_if Swarm o.swarm) (number_field 3 o.integrity)
    (number_field 4 o.hash) (number_field 6 o.addressing) (spelled_if Messages o.messages) (spelled_if Chunk o.chunk)

same_length : (a b : ℕ) (v : Option ℕ) → length (number_field a v) ≡ length (number_field b v)
same_length a b None = refl
same_length a b (Some n) = refl

-- the same, whatever the codes are
pub length_of_fields : (o : Options) → length (spelling_of o)
    ≡ (length (number_field 0 o.version) + length (number_field 0 o.minimum) + length (number_field 0 o.integrity)
    + length (number_field 0 o.hash) + length (number_field 0 o.addressing))
    + length (spelled_if Swarm o.swarm) + length (spelled_if Messages o.messages) + length (spelled_if Chunk o.chunk) + 1
length_of_fields o =
    omega (arith, length_by_field o, same_length 1 0 o.minimum, same_length 3 0 o.integrity, same_length 4 0 o.hash, same_length 6 0 o.addressing)
