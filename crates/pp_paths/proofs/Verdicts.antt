-- What a verdict says, and what a book has of a chunk that was adopted.
use Rattle.std.proofs.Common.{◌≡◌, ℕ, ◌-◌, ◌<◌, ◌==◌, Bool, true, false, cond, Option, Some, None, List, refl, sym, ◌∙◌, ap, subst, inl, inr, arith, length}
use Rattle.std.proofs.lemmas.Bool.{cases_Bool}
use Rattle.std.proofs.lemmas.Bool.Decides.{nat_tests}
use Rattle.sha2.specs.Sha256.{sha256}
use Rattle.pp_terms.specs.tree.Content.{chunk_length}
use Rattle.pp_terms.specs.tree.Book.{LookUp, IsRooted, IsBacked}
use Rattle.pp_terms.specs.format.Descriptor.{Descriptor, chunks_of, height_of}
use Rattle.pp_terms.specs.tree.Proves.{first_absent}
use Rattle.pp_paths.specs.declared.judging.Verdict.TheVariants.{Fits, Wrong, Length}
use Rattle.pp_paths.specs.declared.climbing.Climb.{Climb}
use Rattle.pp_paths.specs.declared.climbing.Climb.TheVariants.{Reached, Lacks}
use Rattle.pp_tree.specs.declared.node.Node.{Node}
use Rattle.pp_terms.specs.tree.Tree as tree
use Rattle.std.proofs.lemmas.Slice.Eq.{bytes_eq-Decides}
use Rattle.pp_paths.specs.Climb.{climb, or_else, path, IsFit, AddsPath}
use Rattle.pp_paths.specs.Judge.{judged, same, missing_or, verdict_of, FitsAs}
use Rattle.pp_paths.proofs.Growth.{fit_is_there}

pub same_bytes : (xs ys : List ℕ) → same xs ys ≡ true → xs ≡ ys
same_bytes xs ys test = (bytes_eq-Decides xs ys).0 test

pub other_bytes : (xs ys : List ℕ) → same xs ys ≡ false → xs ≡ ys → ⊥
other_bytes xs ys test e = let t = (bytes_eq-Decides xs ys).1 e in cc

pub same_as_itself : (xs : List ℕ) → same xs xs ≡ true
same_as_itself xs = (bytes_eq-Decides xs xs).1 refl

-- only a climb that reaches its own digest fits
fits_reaches : (end : Climb) → verdict_of end ≡ Fits → (at : Node) × (digest : List ℕ) × (end ≡ Reached at digest digest)
fits_reaches (Lacks at) e = cc
fits_reaches (Reached at found kept) e = elim (cases_Bool (same found kept)) [
  | inl t ↦ (at, found, ap (λ (x : List ℕ). Reached at found x) (sym (same_bytes found kept t)))
  | inr f ↦ let wrong : verdict_of (Reached at found kept) ≡ Wrong at found kept = rw f refl in cc
]

fits_parts : (whole : Bool) (absent : Option tree.Node) (end : Climb) (found want : ℕ)
    → cond whole (missing_or absent (verdict_of end)) (Length found want) ≡ Fits
    → (whole ≡ true) × (absent ≡ None) × (verdict_of end ≡ Fits)
fits_parts true None end found want e = (refl, refl, e)
fits_parts true (Some at) end found want e = cc
fits_parts false absent end found want e = cc

pub fits_as : (d : Descriptor) (book claims : LookUp) (i : ℕ) (bytes : List ℕ) → judged d book claims i bytes ≡ Fits
    → FitsAs d book claims i bytes
fits_as d book claims i bytes fits =
    let (whole, all, ends) =
    fits_parts (length bytes == chunk_length d.size d.chunk i) (first_absent book (chunks_of d))
    (climb book claims (height_of d) 0 i (sha256 bytes)) (length bytes) (chunk_length d.size d.chunk i) fits in
    let (at, digest, reaches) = fits_reaches (climb book claims (height_of d) 0 i (sha256 bytes)) ends in
    record { whole = grind (arith, nat_tests); peaks_known = all; at = at; digest = digest; reaches = reaches }

pub as_fits : (d : Descriptor) (book claims : LookUp) (i : ℕ) (bytes : List ℕ) → FitsAs d book claims i bytes
    → judged d book claims i bytes ≡ Fits
as_fits d book claims i bytes parts =
    let test : (length bytes == chunk_length d.size d.chunk i) ≡ true = (let e = parts.whole in grind (arith, nat_tests)) in
    ap (λ b. cond b (missing_or (first_absent book (chunks_of d)) (verdict_of (climb book claims (height_of d) 0 i (sha256 bytes))))
    (Length (length bytes) (chunk_length d.size d.chunk i))) test
    ∙ ap (λ o. missing_or o (verdict_of (climb book claims (height_of d) 0 i (sha256 bytes)))) parts.peaks_known
    ∙ ap (λ c. verdict_of c) parts.reaches
    ∙ ap (λ b. cond b Fits (Wrong parts.at parts.digest parts.digest)) (same_as_itself parts.digest)

-- by that verdict the climb fits
pub fit_by_verdict : (d : Descriptor) (book claims : LookUp) (i top : ℕ) (bytes digest : List ℕ) (end : Climb)
    → judged d book claims i bytes ≡ Fits → top ≡ height_of d → digest ≡ sha256 bytes
    → end ≡ climb book claims (top - 0) 0 i digest → IsFit end
fit_by_verdict d book claims i top bytes digest end fits top_is digest_is end_is =
    let parts = fits_as d book claims i bytes fits in
    let high : top - 0 ≡ height_of d = omega arith in
    let same : end ≡ climb book claims (height_of d) 0 i (sha256 bytes) =
    end_is ∙ ap (λ (n : ℕ). climb book claims n 0 i digest) high ∙ ap (λ (x : List ℕ). climb book claims (height_of d) 0 i x) digest_is in
    subst (λ (c : Climb). IsFit c) (sym (same ∙ parts.reaches)) refl

-- what was adopted is backed
pub backed_by_path : (d : Descriptor) (old new claims : LookUp) (i top : ℕ) (bytes digest : List ℕ) → i < chunks_of d → IsRooted d old
    → judged d old claims i bytes ≡ Fits → top ≡ height_of d → digest ≡ sha256 bytes
    → AddsPath (path claims (top - 0) 0 i digest) old new → IsRooted d new → IsBacked d new i bytes
backed_by_path d old new claims i top bytes digest within rooted fits top_is digest_is added rooted' =
    let parts = fits_as d old claims i bytes fits in
    let fit : IsFit (climb old claims (height_of d) 0 i (sha256 bytes)) = subst (λ c. IsFit c) (sym parts.reaches) refl in
    let high : top - 0 ≡ height_of d = omega arith in
    let there : new 0 i ≡ or_else old (path claims (height_of d) 0 i (sha256 bytes)) 0 i =
    added 0 i ∙ ap (λ n. or_else old (path claims n 0 i digest) 0 i) high
    ∙ ap (λ x. or_else old (path claims (height_of d) 0 i x) 0 i) digest_is in
    record {
      rooted = rooted';
      within = within;
      whole = parts.whole;
      leaf = there ∙ fit_is_there d old claims (height_of d) 0 i (sha256 bytes) rooted (omega arith) fit;
    }
