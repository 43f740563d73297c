-- A book contradicts what is met exactly where it does at one of three nodes of a layer.
use Rattle.std.proofs.Common.{◌≡◌, ◌⊎◌, inl, inr, ⊎_elim, ℕ, ◌-◌, ◌^◌, ◌<◌, ◌≤◌, eqb, leb, Bool, true, false, cond, ◌&&◌, ◌||◌, Option, Some, None, List, refl, sym, ◌∙◌, ap, arith}
use Rattle.std.specs.Prelude.{nat_eq}
use Rattle.std.specs.Cmp.Lexicographic.{pointwise}
use Rattle.std.proofs.lemmas.Bool.{and_parts, or_cases, or_left, or_right, cases_Bool, both_ways, not-true, not_from_false, eqb-true, leb-true}
use Rattle.std.proofs.lemmas.Slice.Eq.{bytes_eq-Decides}
use Rattle.sha2.specs.Sha256.{sha256}
use Rattle.pp_terms.specs.format.Descriptor.{Descriptor, chunks_of, height_of}
use Rattle.pp_terms.specs.tree.Book.{LookUp}
use Rattle.pp_terms.specs.tree.Claims.{or_else, met_at_peaks, met_above, met, Contradicts}
use Rattle.pp_terms.specs.tree.Proves.{climbed, last_layer, peak_offset}
use Rattle.pp_terms.specs.tree.Tree.{is_full, is_peak}
use Rattle.pp_terms.proofs.Peaks.{peak_found, above_is}
use Rattle.pp_traffic.proofs.PlansInBooks.{full_low}
use Rattle.pp_recorded.specs.Provings.{climbed_last}
use Rattle.pp_recorded.specs.Contradictions.{way_offset, full_offset, root_offset, met_on_way, met_at_peak, met_to_root, met_by, differs, contradicts_at, contradicts_in, contradicts, ContradictsIsTested}
use Rattle.pp_recorded.proofs.Searches.{below_found, found_below}

-- ---- what is met

met_is : (d : Descriptor) (known : LookUp) (i : ℕ) (bytes : List ℕ) (k j : ℕ) → met d known i bytes k j ≡ met_by d known i (sha256 bytes) k j
met_is d known i bytes k j =
    ap (λ (a : ℕ). cond (is_full (chunks_of d) (record { layer = k; offset = j }))
    (or_else (cond (eqb a j) (climbed known k 0 i (sha256 bytes)) None) (met_at_peaks (chunks_of d) known k j))
    (cond (leb k (height_of d)) (met_above (chunks_of d) known k j) None)) (above_is k i)
    ∙ ap (λ (a : ℕ). cond (is_full (chunks_of d) (record { layer = k; offset = j }))
    (or_else (met_on_way known i (sha256 bytes) k j) (met_at_peak (chunks_of d) known k j))
    (cond (leb k (height_of d)) (cond (leb (last_layer (chunks_of d)) k && eqb a j) (climbed_last (chunks_of d) known (k - last_layer (chunks_of d))) None) None))
    (above_is (k - last_layer (chunks_of d)) (peak_offset (last_layer (chunks_of d)) (chunks_of d)))

-- a digest stands behind a test
behind : (b : Bool) (o : Option (List ℕ)) (x : List ℕ) → cond b o None ≡ Some x → b ≡ true
behind true o x e = refl
behind false o x e = absurd cc

-- ---- the nodes at which something is met

-- one of the three of a low layer
abbrev IsMet : ℕ → ℕ → ℕ → ℕ → Type 0
IsMet n i k j = (k < 21) × ((j ≡ way_offset i k) ⊎ ((j ≡ full_offset n k) ⊎ (j ≡ root_offset n k)))

met_full : (n i k j : ℕ) (here o : Option (List ℕ)) (x : List ℕ) → k < 21 → or_else (cond (eqb (way_offset i k) j) here None) (cond (is_peak n (record { layer = k; offset = j })) o None) ≡ Some x → IsMet n i k j
met_full n i k j here o x low e = ⊎_elim
    (λ same. (low, inl (sym (eqb-true (way_offset i k) j same))))
    (λ other.
    let peak = behind (is_peak n (record { layer = k; offset = j })) o x
    (sym (ap (λ (b : Bool). or_else (cond b here None) (cond (is_peak n (record { layer = k; offset = j })) o None)) other) ∙ e) in
    let found = peak_found n (record { layer = k; offset = j }) peak in
    (low, inr (inl (let is = above_is k n in let last = found.2 in omega (arith, is, last)))))
    (cases_Bool (eqb (way_offset i k) j))

met_node : (d : Descriptor) (known : LookUp) (i : ℕ) (digest : List ℕ) (k j : ℕ) (x : List ℕ) → chunks_of d ≤ 2 ^ 20 → height_of d ≤ 20
    → met_by d known i digest k j ≡ Some x → IsMet (chunks_of d) i k j
met_node d known i digest k j x few low e = ⊎_elim
    (λ full.
    let within = full_low (chunks_of d) (record { layer = k; offset = j }) few full in
    met_full (chunks_of d) i k j (climbed known k 0 i digest) (known k j) x (omega (arith, within))
    (sym (ap (λ (b : Bool). cond b (or_else (met_on_way known i digest k j) (met_at_peak (chunks_of d) known k j)) (cond (leb k (height_of d)) (met_to_root (chunks_of d) known k j) None)) full) ∙ e))
    (λ open_.
    let inside : cond (leb k (height_of d)) (met_to_root (chunks_of d) known k j) None ≡ Some x =
    sym (ap (λ (b : Bool). cond b (or_else (met_on_way known i digest k j) (met_at_peak (chunks_of d) known k j)) (cond (leb k (height_of d)) (met_to_root (chunks_of d) known k j) None)) open_) ∙ e in
    let high = behind (leb k (height_of d)) (met_to_root (chunks_of d) known k j) x inside in
    let there : met_to_root (chunks_of d) known k j ≡ Some x = sym (ap (λ (b : Bool). cond b (met_to_root (chunks_of d) known k j) None) high) ∙ inside in
    let both = behind (leb (last_layer (chunks_of d)) k && eqb (root_offset (chunks_of d) k) j) (climbed_last (chunks_of d) known (k - last_layer (chunks_of d))) x there in
    let parts = and_parts (leb (last_layer (chunks_of d)) k) (eqb (root_offset (chunks_of d) k) j) both in
    let bound = leb-true k (height_of d) high in
    (omega (arith, bound, low), inr (inr (sym (eqb-true (root_offset (chunks_of d) k) j parts.1)))))
    (cases_Bool (is_full (chunks_of d) (record { layer = k; offset = j })))

-- ---- other digests

-- two digests that differ
record AreOther (met kept : Option (List ℕ)) : Type 0 where
  digest : List ℕ
  found : List ℕ
  is_met : met ≡ Some digest
  here : kept ≡ Some found
  other : found ≡ digest → ⊥

others : (met kept : Option (List ℕ)) → differs met kept ≡ true → AreOther met kept
others None kept e = absurd cc
others (Some digest) None e = absurd cc
others (Some digest) (Some found) e = record {
  digest = digest;
  found = found;
  is_met = refl;
  here = refl;
  other = λ same. both_ways (pointwise nat_eq found digest) (not-true (pointwise nat_eq found digest) e) ((bytes_eq-Decides found digest).1 same);
}

differ : (met kept : Option (List ℕ)) (digest found : List ℕ) → met ≡ Some digest → kept ≡ Some found → (found ≡ digest → ⊥) → differs met kept ≡ true
differ met kept digest found is_met here other =
    ap (λ (o : Option (List ℕ)). differs o kept) is_met ∙ ap (λ (o : Option (List ℕ)). differs (Some digest) o) here
    ∙ ⊎_elim
    (λ same. absurd (other ((bytes_eq-Decides found digest).0 same)))
    (λ apart. not_from_false (pointwise nat_eq found digest) apart)
    (cases_Bool (pointwise nat_eq found digest))

-- ---- the search

contradicted : (d : Descriptor) (book known : LookUp) (i : ℕ) (bytes : List ℕ) (k j : ℕ) → contradicts_at d book known i (sha256 bytes) k j ≡ true → Contradicts book (met d known i bytes)
contradicted d book known i bytes k j e =
    let o = others (met_by d known i (sha256 bytes) k j) (book k j) e in
    record { layer = k; offset = j; digest = o.digest; kept = o.found; is_met = met_is d known i bytes k j ∙ o.is_met; here = o.here; other = o.other }

pub contradicts_is_tested : ContradictsIsTested
unfolding contradicts
contradicts_is_tested d book known i bytes few low = (
  λ e.
      let found = below_found (contradicts_in d book known i (sha256 bytes)) 21 e in
      let at = contradicts_at d book known i (sha256 bytes) found.0 in
      ⊎_elim
      (λ both. ⊎_elim
      (λ way. contradicted d book known i bytes found.0 (way_offset i found.0) way)
      (λ full. contradicted d book known i bytes found.0 (full_offset (chunks_of d) found.0) full)
      (or_cases (at (way_offset i found.0)) (at (full_offset (chunks_of d) found.0)) both))
      (λ root. contradicted d book known i bytes found.0 (root_offset (chunks_of d) found.0) root)
      (or_cases (at (way_offset i found.0) || at (full_offset (chunks_of d) found.0)) (at (root_offset (chunks_of d) found.0)) found.2),
  λ c.
      let is_met : met_by d known i (sha256 bytes) c.layer c.offset ≡ Some c.digest = sym (met_is d known i bytes c.layer c.offset) ∙ c.is_met in
      let node = met_node d known i (sha256 bytes) c.layer c.offset c.digest few low is_met in
      let at = contradicts_at d book known i (sha256 bytes) c.layer in
      let here : contradicts_at d book known i (sha256 bytes) c.layer c.offset ≡ true =
      differ (met_by d known i (sha256 bytes) c.layer c.offset) (book c.layer c.offset) c.digest c.kept is_met c.here c.other in
      let way = way_offset i c.layer in
      let full = full_offset (chunks_of d) c.layer in
      let root = root_offset (chunks_of d) c.layer in
      found_below (contradicts_in d book known i (sha256 bytes)) 21 c.layer node.0
      (⊎_elim
      (λ is. or_left (at way || at full) (at root) (or_left (at way) (at full) (ap (λ (j : ℕ). at j) (sym is) ∙ here)))
      (λ rest. ⊎_elim
      (λ is. or_left (at way || at full) (at root) (or_right (at way) (at full) (ap (λ (j : ℕ). at j) (sym is) ∙ here)))
      (λ is. or_right (at way || at full) (at root) (ap (λ (j : ℕ). at j) (sym is) ∙ here))
      rest)
      node.1),
)

-- ---- by the code

pub met_peak_from : (n few : ℕ) (known : LookUp) (k j : ℕ) (peak : Bool) (digest : Option (List ℕ)) → few ≡ n → peak ≡ is_peak few (record { layer = k; offset = j })
    → cond peak (known k j) None ≡ met_at_peak n known k j
met_peak_from n few known k j peak digest same is =
    ap (λ (b : Bool). cond b (known k j) None) (is ∙ ap (λ (m : ℕ). is_peak m (record { layer = k; offset = j })) same)

pub met_root_from : (n few : ℕ) (known : LookUp) (k j layers l : ℕ) (test : Bool) (reached : Option (List ℕ)) → few ≡ n → test ≡ (leb (last_layer few) k && eqb (root_offset few k) j)
    → test ≡ true → reached ≡ climbed_last n known layers → layers ≡ k - l → l ≡ last_layer few → reached ≡ met_to_root n known k j
met_root_from n few known k j layers l test reached same test_is is reached_is layers_is l_is =
    reached_is
    ∙ ap (λ (m : ℕ). climbed_last n known m) (layers_is ∙ ap (λ (m : ℕ). k - m) (l_is ∙ ap (λ (m : ℕ). last_layer m) same))
    ∙ ap (λ (b : Bool). cond b (climbed_last n known (k - last_layer n)) None)
    (sym (ap (λ (m : ℕ). leb (last_layer m) k && eqb (root_offset m k) j) (sym same) ∙ sym test_is ∙ is))
