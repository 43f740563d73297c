-- What is answered to a chunk, where its peaks are settled.
use Rattle.std.proofs.Common.{◌≡◌, ℕ, ◌==◌, Bool, true, cond, None, List, length, sym, ◌∙◌, ap, arith}
use Rattle.std.proofs.lemmas.Bool.Decides.{nat_tests}
use Rattle.sha2.specs.Sha256.{sha256}
use Rattle.pp_terms.specs.tree.Content.{chunk_length}
use Rattle.pp_terms.specs.tree.Book.{LookUp}
use Rattle.pp_terms.specs.format.Descriptor.{Descriptor, chunks_of, height_of}
use Rattle.pp_terms.specs.tree.Proves.{first_absent}
use Rattle.pp_paths.specs.declared.settling.Settled.{Settled}
use Rattle.pp_paths.specs.declared.settling.Settled.TheVariants.{Known}
use Rattle.pp_paths.specs.Climb.{or_else, path, AddsPath}
use Rattle.pp_paths.specs.Ends.{end_of}
use Rattle.pp_paths.specs.Judge.{judged, KeepsEntries}
use Rattle.pp_paths.specs.Settle.{settled, climb_of_peaks, path_of_peaks}
use Rattle.pp_paths.proofs.PeakNodes.{peak_known, peaks_known}
use Rattle.pp_store.specs.declared.admitting.Put.TheVariants.{Length}
use Rattle.pp_store.specs.Answer.{peaked, by_verdict, by_peaks, admitted, with_path, with_peaks, learned}

-- a book that grew has all peaks still
pub peaks_kept : (old new : LookUp) (n : ℕ) → KeepsEntries old new → first_absent old n ≡ None → first_absent new n ≡ None
peaks_kept old new n keeps all =
    peaks_known new n (λ k low odd. let (x, at) = peak_known old n k all low odd in (x, keeps k _ x at))

module _ (d : Descriptor) (book mid claims : LookUp) (i n : ℕ) (bytes : List ℕ) (n_is : n ≡ chunks_of d)
    (whole : length bytes ≡ chunk_length d.size d.chunk i) (known : settled n book claims ≡ Known) (adds : AddsPath (path_of_peaks n book claims) book mid) where
  test : (length bytes == chunk_length d.size d.chunk i) ≡ true
  test = grind (arith, nat_tests)

  known' : settled (chunks_of d) book claims ≡ Known
  known' = ap (λ (m : ℕ). settled m book claims) (sym n_is) ∙ known

  mid_is : mid ≡ peaked d book claims
  mid_is = (λ t k j. adds k j t) ∙ ap (λ (m : ℕ). or_else book (path_of_peaks m book claims)) n_is

  pub admitted_known : by_verdict (judged d mid claims i bytes) ≡ admitted d book claims i bytes
  admitted_known =
      ap (λ (b : LookUp). by_verdict (judged d b claims i bytes)) mid_is
      ∙ sym (ap (λ (b : Bool). cond b
      (by_peaks (settled (chunks_of d) book claims) (end_of (climb_of_peaks (chunks_of d) book claims)) (by_verdict (judged d (peaked d book claims) claims i bytes)))
      (Length (length bytes) (chunk_length d.size d.chunk i))) test
      ∙ ap (λ (s : Settled). by_peaks s (end_of (climb_of_peaks (chunks_of d) book claims)) (by_verdict (judged d (peaked d book claims) claims i bytes))) known')

  pub learned_known : (k j : ℕ) → with_path (judged d mid claims i bytes) mid (path claims (height_of d) 0 i (sha256 bytes)) k j ≡ learned d book claims i bytes k j
  learned_known k j =
      ap (λ (b : LookUp). with_path (judged d b claims i bytes) b (path claims (height_of d) 0 i (sha256 bytes)) k j) mid_is
      ∙ sym (ap (λ (b : Bool). cond b
      (with_peaks (settled (chunks_of d) book claims) book
      (with_path (judged d (peaked d book claims) claims i bytes) (peaked d book claims) (path claims (height_of d) 0 i (sha256 bytes)))) book k j) test
      ∙ ap (λ (s : Settled). with_peaks s book
      (with_path (judged d (peaked d book claims) claims i bytes) (peaked d book claims) (path claims (height_of d) 0 i (sha256 bytes))) k j) known')
