-- Worked examples of claims.
use Rattle.std.proofs.Common.{◌≡◌, eqb, true, length, replicate, codes, refl}
use Rattle.std.specs.List.{list_all}
use lib.Count.{count_trailing_zeros}
use Rattle.sha2.specs.Sha256.{first_words, schedule, rounds, compress, hash_after, digest_bytes, sha256}
use Rattle.pp_terms.specs.tree.Tree.{empty_hash, node, height}
use Rattle.pp_terms.specs.tree.Proves.{first_absent, last_layer, Proves}
use Rattle.pp_terms.specs.tree.Claims.{latest, met, Contradicts}
use Rattle.pp_terms.proofs.Claims.{latest_digests}
use Rattle.pp_terms.specs.tree.ClaimExample.{three, digest_at, enough, another, ClaimExamples}

enough_long : list_all (λ c. eqb (length c.digest) 32) enough ≡ true
unfolding first_words schedule rounds compress hash_after digest_bytes sha256 empty_hash node
enough_long = refl

proven : Proves three (latest enough) 0 (codes "a")
unfolding first_words schedule rounds compress hash_after digest_bytes sha256 empty_hash node height first_absent last_layer count_trailing_zeros
proven = record {
  whole = refl;
  digests = latest_digests enough enough_long;
  peaks_known = refl;
  top = 1;
  has_peak = refl;
  below_it = refl;
  to_peak = refl;
  to_root = refl;
}

contradicted : Contradicts another (met three (latest enough) 0 (codes "a"))
unfolding first_words schedule rounds compress hash_after digest_bytes sha256 empty_hash node height last_layer count_trailing_zeros
contradicted = record { layer = 1; offset = 0; digest = digest_at 1 0; kept = replicate 32 7; is_met = refl; here = refl; other = λ e. cc }

pub claim_examples : ClaimExamples
unfolding first_words schedule rounds compress hash_after digest_bytes sha256 empty_hash node height last_layer count_trailing_zeros
claim_examples = record {
  newest = refl;
  unclaimed = refl;
  leaf = refl;
  peak = refl;
  other_peak = refl;
  above_peaks = refl;
  root = refl;
  sibling = refl;
  proves = proven;
  contradicts = contradicted;
  too_long = λ i bytes proof. let long : 68 ≡ 32 = proof.digests 0 1 (replicate 68 7) refl in cc;
}
