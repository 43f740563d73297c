-- What `learn` answers, step by step, and that it says a size exactly where the claims prove the chunk.
use Rattle.std.proofs.Common.{◌≡◌, ℕ, suc, ◌+◌, ◌-◌, ◌*◌, ◌%◌, ◌^◌, ◌<◌, ◌≤◌, ◌==◌, Bool, true, false, not, Option, Some, None, List, length, refl, sym, ◌∙◌, ap, subst, inl, inr, arith}
use Rattle.std.specs.Prelude.{option_and_then, IsSome, if◌then◌else◌}
use Rattle.std.proofs.lemmas.Bool.{cases_eq, cases_Bool}
use Rattle.std.proofs.lemmas.Bool.Decides.{nat_tests}
use Rattle.sha2.specs.Sha256.{sha256}
use Rattle.pp_terms.specs.tree.Content.{chunk_count, chunk_length, IsChunkSize, IsContentSize}
use Rattle.pp_terms.specs.tree.Tree as tree
use Rattle.pp_terms.specs.tree.Tree.{above, height}
use Rattle.pp_terms.specs.tree.Book.{LookUp, AreDigests}
use Rattle.pp_terms.specs.tree.Proves.{climbed, filled, first_absent, last_layer, peak_offset}
use Rattle.pp_terms.specs.format.Descriptor.{Method, Descriptor, chunks_of, IsDescriptor}
use Rattle.pp_tree.specs.Node.{node_of}
use Rattle.pp_tree.specs.declared.node.Node.{Node}
use Rattle.pp_tree.proofs.Sizes.{chunk_size_range}
use Rattle.pp_paths.specs.Climb.{node_at}
use Rattle.pp_paths.specs.Judge.{same}
use Rattle.pp_paths.proofs.Growth.{option_cases}
use Rattle.pp_paths.proofs.PeakNodes.{peak_known}
use Rattle.pp_paths.proofs.ProvenChunks.{counted}
use Rattle.pp_paths.proofs.Verdicts.{same_bytes, same_as_itself}
use Rattle.pp_targets.specs.declared.learning.Learned.TheVariants.{Size, SixtyFour, Missing, Wrong}
use Rattle.pp_targets.specs.Target.{SwarmName}
use Rattle.pp_targets.specs.Learn.{IsLearned, ended, first_beside, wrong_or, root_by_peaks, learned}
use Rattle.pp_targets.specs.Law.{TellsSize}
use Rattle.pp_targets.proofs.LastSizes.{last_tells_size}
use Rattle.pp_targets.proofs.Parts.{count_with_part, last_part, size_ended}
use Rattle.pp_targets.proofs.LastPeaks.{top_is}
use Rattle.pp_targets.proofs.LearnedSizes.{ends_at, none_beside, climbs_on, climbed_low, beside_low, beside_high, learned_by}

-- Where all peaks are claimed: the bytes and the nodes from which the code climbs.
pub record IsWeighed (known : LookUp) (i : ℕ) (bytes : List ℕ) (last leaf : Node) (digest kept : List ℕ) : Type 0 where
  pub few : i < 2 ^ 20
  pub apart : length bytes ≡ 64 → ⊥
  pub all : first_absent known (i + 1) ≡ None
  pub last_is : last ≡ node_at (last_layer (i + 1)) (peak_offset (last_layer (i + 1)) (i + 1))
  pub leaf_is : leaf ≡ record { layer = 0; offset = i }
  pub digest_is : digest ≡ sha256 bytes
  pub kept_is : known last.layer last.offset ≡ Some kept

pub last_claimed : (known : LookUp) (i : ℕ) (last : Node) (found : Option (List ℕ)) → i < 2 ^ 20 → first_absent known (i + 1) ≡ None
    → last ≡ node_at (last_layer (i + 1)) (peak_offset (last_layer (i + 1)) (i + 1)) → found ≡ known last.layer last.offset → IsSome found
last_claimed known i last found few all last_is is =
    let ends = ends_at i few in
    let low = ends.low in
    let high = ends.high in
    let (x, at) = peak_known known (i + 1) (last_layer (i + 1)) all (omega arith) ends.last.odd in
    let some : found ≡ Some x = is ∙ ap (λ (n : Node). known n.layer n.offset) last_is ∙ at in
    subst (λ (o : Option (List ℕ)). IsSome o) (sym some) refl

module _ (name : SwarmName) (known : LookUp) (i : ℕ) (bytes : List ℕ) (last leaf : Node) (digest kept : List ℕ)
    (is : IsWeighed known i bytes last leaf digest kept) where
  pub last_low : last.layer ≤ height (i + 1)
  last_low = omega (arith, (ends_at i is.few).low, ap (λ (n : Node). n.layer) is.last_is)

  kept_here : known (last_layer (i + 1)) (peak_offset (last_layer (i + 1)) (i + 1)) ≡ Some kept
  kept_here = sym (ap (λ (n : Node). known n.layer n.offset) is.last_is) ∙ is.kept_is

  -- the climb from the chunk, as the code has it
  found_here : (found : List ℕ) → climbed (filled (i + 1) known) (last.layer - leaf.layer) leaf.layer leaf.offset digest ≡ Some found
      → climbed known (last_layer (i + 1)) 0 i (sha256 bytes) ≡ Some found
  found_here found at =
      sym (climbed_low known i (ends_at i is.few) (last_layer (i + 1)) 0 (sha256 bytes) (omega arith))
      ∙ ap (λ (n : ℕ). climbed (filled (i + 1) known) n 0 i (sha256 bytes)) (omega arith)
      ∙ sym (ap (λ (n : Node). climbed (filled (i + 1) known) (n.layer - 0) 0 i (sha256 bytes)) is.last_is
      ) ∙ sym (ap (λ (n : Node). climbed (filled (i + 1) known) (last.layer - n.layer) n.layer n.offset (sha256 bytes)) is.leaf_is)
      ∙ sym (ap (λ xs. climbed (filled (i + 1) known) (last.layer - leaf.layer) leaf.layer leaf.offset xs) is.digest_is) ∙ at

  beside_here : (o : Option tree.Node) → first_beside (filled (i + 1) known) (last.layer - leaf.layer) leaf.layer leaf.offset ≡ o
      → first_beside known (last_layer (i + 1)) 0 i ≡ o
  beside_here o at =
      sym (beside_low known i (ends_at i is.few) (last_layer (i + 1)) 0 (omega arith))
      ∙ ap (λ (n : ℕ). first_beside (filled (i + 1) known) n 0 i) (omega arith)
      ∙ sym (ap (λ (n : Node). first_beside (filled (i + 1) known) (n.layer - 0) 0 i) is.last_is
      ) ∙ sym (ap (λ (n : Node). first_beside (filled (i + 1) known) (last.layer - n.layer) n.layer n.offset) is.leaf_is) ∙ at

  root_here : (found : List ℕ) → climbed (filled (i + 1) known) (height (i + 1) - last.layer) last.layer last.offset kept ≡ Some found
      → root_by_peaks (i + 1) known ≡ Some found
  root_here found at =
      ap (λ o. option_and_then (climbed (filled (i + 1) known) (height (i + 1) - last_layer (i + 1)) (last_layer (i + 1)) (peak_offset (last_layer (i + 1)) (i + 1))) o) kept_here
      ∙ sym (ap (λ (n : Node). climbed (filled (i + 1) known) (height (i + 1) - n.layer) n.layer n.offset kept) is.last_is) ∙ at

  pub says_missing : (at : Node) → first_beside (filled (i + 1) known) (last.layer - leaf.layer) leaf.layer leaf.offset ≡ Some (node_of at)
      → Missing at ≡ learned name known i bytes
  says_missing at lacks =
      sym (learned_by name known i bytes None (Some (node_of at)) (climbed known (last_layer (i + 1)) 0 i (sha256 bytes))
      (known (last_layer (i + 1)) (peak_offset (last_layer (i + 1)) (i + 1))) (root_by_peaks (i + 1) known) is.apart is.all
      (beside_here (Some (node_of at)) lacks) refl refl refl)

  pub says_wrong : (found : List ℕ) → climbed (filled (i + 1) known) (last.layer - leaf.layer) leaf.layer leaf.offset digest ≡ Some found
      → same found kept ≡ false → Wrong found kept ≡ learned name known i bytes
  says_wrong found at differ =
      let here = found_here found at in
      sym (learned_by name known i bytes None None (Some found) (Some kept) (root_by_peaks (i + 1) known) is.apart is.all
      (none_beside known (last_layer (i + 1)) 0 i (sha256 bytes) found here) here kept_here refl
      ∙ ap (λ b. if b then wrong_or (root_by_peaks (i + 1) known) (Some name.root) (Size (ended name i (length bytes))) else Wrong found kept) differ)

  -- the chunk leads to the peak's digest: what is left to say
  pub peaks_say : (found root : List ℕ) → climbed (filled (i + 1) known) (last.layer - leaf.layer) leaf.layer leaf.offset digest ≡ Some found
      → same found kept ≡ true → climbed (filled (i + 1) known) (height (i + 1) - last.layer) last.layer last.offset kept ≡ Some root
      → learned name known i bytes ≡ (if same root name.root then Size (ended name i (length bytes)) else Wrong root name.root)
  peaks_say found root at equal top =
      let here = found_here found at in
      learned_by name known i bytes None None (Some found) (Some kept) (Some root) is.apart is.all
      (none_beside known (last_layer (i + 1)) 0 i (sha256 bytes) found here) here kept_here (root_here root top)
      ∙ ap (λ b. if b then wrong_or (Some root) (Some name.root) (Size (ended name i (length bytes))) else Wrong found kept) equal

  -- no sibling lacks on the way from the peaks
  pub never_missing : (at : Node) → first_beside (filled (i + 1) known) (height (i + 1) - last.layer) last.layer last.offset ≡ Some (node_of at) → ⊥
  never_missing at lacks =
      let ends = ends_at i is.few in
      let low = ends.low in
      let none = beside_high known i ends is.all (height (i + 1) - last_layer (i + 1)) (last_layer (i + 1)) (omega arith) (omega arith) in
      let there : first_beside (filled (i + 1) known) (height (i + 1) - last.layer) last.layer last.offset ≡ None =
      ap (λ (n : Node). first_beside (filled (i + 1) known) (height (i + 1) - n.layer) n.layer n.offset) is.last_is
      ∙ ap (λ (o : ℕ). first_beside (filled (i + 1) known) (height (i + 1) - last_layer (i + 1)) (last_layer (i + 1)) o) ends.peak ∙ none in
      cc

-- the test of the code and its opposite
pub same_unless : (found kept : List ℕ) (test : Bool) → test ≡ not (same found kept) → test ≡ false → same found kept ≡ true
same_unless found kept test is fails = from_not (same found kept) (sym is ∙ fails)
  where
    from_not : (b : Bool) → not b ≡ false → b ≡ true
    from_not true e = refl
    from_not false e = cc

pub differ_by : (found kept : List ℕ) (test : Bool) → test ≡ not (same found kept) → test ≡ true → same found kept ≡ false
differ_by found kept test is holds = from_not (same found kept) (sym is ∙ holds)
  where
    from_not : (b : Bool) → not b ≡ true → b ≡ false
    from_not true e = cc
    from_not false e = refl

-- ---- a size exactly where the claims prove the chunk

descriptor_same : (a b : Descriptor) → a.root ≡ b.root → a.chunk ≡ b.chunk → a.size ≡ b.size → a.method ≡ b.method → a ≡ b
descriptor_same a b p q r s =
    ap (λ (x : List ℕ). let d : Descriptor = record { root = x; chunk = a.chunk; size = a.size; method = a.method } in d) p
    ∙ ap (λ (x : ℕ). let d : Descriptor = record { root = b.root; chunk = x; size = a.size; method = a.method } in d) q
    ∙ ap (λ (x : ℕ). let d : Descriptor = record { root = b.root; chunk = b.chunk; size = x; method = a.method } in d) r
    ∙ ap (λ (x : Method). let d : Descriptor = record { root = b.root; chunk = b.chunk; size = b.size; method = x } in d) s

-- Bytes that can be a last chunk of the name.
pub record CanEnd (name : SwarmName) (i : ℕ) (bytes : List ℕ) : Type 0 where
  pub few : i < 2 ^ 20
  pub size : IsChunkSize name.chunk
  pub some : 0 < length bytes
  pub most : length bytes ≤ name.chunk

module _ (name : SwarmName) (known : LookUp) (i : ℕ) (bytes : List ℕ) (can : CanEnd name i bytes) where
  count_ended : chunk_count (i * name.chunk + length bytes) name.chunk ≡ i + 1
  count_ended = count_with_part (i * name.chunk + length bytes) name.chunk i (length bytes) refl can.some can.most ∙ omega arith

  length_ended : chunk_length (i * name.chunk + length bytes) name.chunk i ≡ length bytes
  length_ended = let most = can.most in omega arith

  -- the descriptor that the bytes end is proved, where the climbs lead to the peak's digest and to the root
  ended_learned : (y : List ℕ) → AreDigests known → (length bytes ≡ 64 → ⊥) → first_absent known (i + 1) ≡ None
      → climbed known (last_layer (i + 1)) 0 i (sha256 bytes) ≡ Some y
      → known (last_layer (i + 1)) (peak_offset (last_layer (i + 1)) (i + 1)) ≡ Some y → root_by_peaks (i + 1) known ≡ Some name.root
      → IsLearned name known i bytes (ended name i (length bytes))
  ended_learned y digests apart all found kept root =
      let ends = ends_at i can.few in
      let e : Descriptor = ended name i (length bytes) in
      let count : i + 1 ≡ chunks_of (ended name i (length bytes)) = sym count_ended in
      let final : chunk_count (i * name.chunk + length bytes) name.chunk - 1 ≡ i = (let c = count_ended in omega arith) in
      record {
        of = record {
          root = refl;
          chunk = refl;
          method = refl;
          last = λ long. apart (sym length_ended ∙ sym (ap (λ (l : ℕ). chunk_length (i * name.chunk + length bytes) name.chunk l) final) ∙ long);
        };
        last = count;
        proves = record {
          whole = sym length_ended;
          digests = digests;
          peaks_known = sym (ap (λ (n : ℕ). first_absent known n) count) ∙ all;
          top = last_layer (i + 1);
          has_peak = subst (λ (n : ℕ). above (last_layer (i + 1)) n % 2 ≡ 1) count ends.last.odd;
          below_it = sym ends.peak ∙ ap (λ (n : ℕ). peak_offset (last_layer (i + 1)) n) count;
          to_peak = found ∙ sym kept ∙ ap (λ (n : ℕ). known (last_layer (i + 1)) (peak_offset (last_layer (i + 1)) n)) count;
          to_root = sym (ap (λ (n : ℕ). root_by_peaks n known) count) ∙ root;
        };
      }

  by_parts : (e : Descriptor) (kept : List ℕ) → AreDigests known → (length bytes ≡ 64 → ⊥) → first_absent known (i + 1) ≡ None
      → known (last_layer (i + 1)) (peak_offset (last_layer (i + 1)) (i + 1)) ≡ Some kept
      → learned name known i bytes ≡ Size e → IsLearned name known i bytes e
  by_parts e kept digests apart all kept_is says = elim (option_cases (first_beside known (last_layer (i + 1)) 0 i)) [
    | inr (at, lacks) ↦
        let other = learned_by name known i bytes None (Some at) (climbed known (last_layer (i + 1)) 0 i (sha256 bytes))
        (Some kept) (root_by_peaks (i + 1) known) apart all lacks refl kept_is refl in
        cc
    | inl none ↦
        let (found, found_is) = climbs_on known (last_layer (i + 1)) 0 i (sha256 bytes) none in
        let ends = ends_at i can.few in
        let low = ends.low in
        let way = beside_high known i ends all (height (i + 1) - last_layer (i + 1)) (last_layer (i + 1)) (omega arith) (omega arith) in
        let way' : first_beside (filled (i + 1) known) (height (i + 1) - last_layer (i + 1)) (last_layer (i + 1)) (peak_offset (last_layer (i + 1)) (i + 1)) ≡ None =
        ap (λ (o : ℕ). first_beside (filled (i + 1) known) (height (i + 1) - last_layer (i + 1)) (last_layer (i + 1)) o) ends.peak ∙ way in
        let (root, top) = climbs_on (filled (i + 1) known) (height (i + 1) - last_layer (i + 1)) (last_layer (i + 1)) (peak_offset (last_layer (i + 1)) (i + 1)) kept way' in
        let root_is : root_by_peaks (i + 1) known ≡ Some root =
        ap (λ o. option_and_then (climbed (filled (i + 1) known) (height (i + 1) - last_layer (i + 1)) (last_layer (i + 1)) (peak_offset (last_layer (i + 1)) (i + 1))) o) kept_is ∙ top in
        let parts = learned_by name known i bytes None None (Some found) (Some kept) (Some root) apart all none found_is kept_is root_is in
        elim (cases_Bool (same found kept)) [
          | inr differ ↦
              let wrong : learned name known i bytes ≡ Wrong found kept = parts
              ∙ ap (λ b. if b then wrong_or (Some root) (Some name.root) (Size (ended name i (length bytes))) else Wrong found kept) differ in
              cc
          | inl equal ↦ elim (cases_Bool (same root name.root)) [
            | inr differ ↦
                let wrong : learned name known i bytes ≡ Wrong root name.root = parts
                ∙ ap (λ b. if b then wrong_or (Some root) (Some name.root) (Size (ended name i (length bytes))) else Wrong found kept) equal
                ∙ ap (λ b. if b then Size (ended name i (length bytes)) else Wrong root name.root) differ in
                cc
            | inl reaches ↦
                let right : learned name known i bytes ≡ Size (ended name i (length bytes)) = parts
                ∙ ap (λ b. if b then wrong_or (Some root) (Some name.root) (Size (ended name i (length bytes))) else Wrong found kept) equal
                ∙ ap (λ b. if b then Size (ended name i (length bytes)) else Wrong root name.root) reaches in
                let e_is : ended name i (length bytes) ≡ e = size_same (ended name i (length bytes)) e (sym right ∙ says) in
                let same_kept : found ≡ kept = same_bytes found kept equal in
                let same_root : root ≡ name.root = same_bytes root name.root reaches in
                subst (λ (d : Descriptor). IsLearned name known i bytes d) e_is
                (ended_learned kept digests apart all (found_is ∙ ap (λ xs. Some xs) same_kept) kept_is (root_is ∙ ap (λ xs. Some xs) same_root))
          ]
        ]
  ]
    where
      size_same : (a b : Descriptor) → Size a ≡ Size b → a ≡ b
      size_same a b e = cc

  pub proved_by_size : (e : Descriptor) → AreDigests known → learned name known i bytes ≡ Size e → IsLearned name known i bytes e
  proved_by_size e digests says = elim (cases_eq (length bytes) 64) [
    | inl long ↦
        let test : (length bytes == 64) ≡ true = grind (arith, nat_tests) in
        let other : learned name known i bytes ≡ SixtyFour = rw test refl in
        cc
    | inr apart ↦ elim (option_cases (first_absent known (i + 1))) [
      | inr (at, absent) ↦
          let other = learned_by name known i bytes (Some at) (first_beside known (last_layer (i + 1)) 0 i) (climbed known (last_layer (i + 1)) 0 i (sha256 bytes))
          (known (last_layer (i + 1)) (peak_offset (last_layer (i + 1)) (i + 1))) (root_by_peaks (i + 1) known) apart absent refl refl refl refl in
          cc
      | inl all ↦
          let ends = ends_at i can.few in
          let low = ends.low in
          let high = ends.high in
          let (kept, at) = peak_known known (i + 1) (last_layer (i + 1)) all (omega arith) ends.last.odd in
          by_parts e kept digests apart all at says
    ]
  ]

  -- its size is that of the chunks before it and its own
  size_learned : (e : Descriptor) → IsLearned name known i bytes e → e.size ≡ i * name.chunk + length bytes
  size_learned e is =
      let of = is.of in
      let range = chunk_size_range name.chunk can.size in
      last_part e.size e.chunk i (omega (arith, of.chunk, range.0)) (sym is.last ∙ omega arith)
      ∙ ap (λ (l : ℕ). i * e.chunk + l) (sym is.proves.whole) ∙ ap (λ (c : ℕ). i * c + length bytes) of.chunk

  pub valid_learned : (e : Descriptor) → length name.root ≡ 32 → IsLearned name known i bytes e → IsDescriptor e
  valid_learned e long is =
      let of = is.of in
      record {
        root_length = ap (λ xs. length xs) of.root ∙ long;
        chunk_size = subst (λ (c : ℕ). IsChunkSize c) (sym of.chunk) can.size;
        content_size = subst (λ (c : ℕ). IsContentSize c e.size) (sym of.chunk)
            (size_ended name.chunk i (length bytes) e.size can.few can.some can.most (size_learned e is));
      }

  -- what a size says of each content of the name
  pub size_tells : (e : Descriptor) → length name.root ≡ 32 → IsLearned name known i bytes e → TellsSize name e known i bytes
  size_tells e long is = last_tells_size name e known i bytes (valid_learned e long is) is.of is.last is.proves

  pub size_by_proof : (e : Descriptor) → length name.root ≡ 32 → IsLearned name known i bytes e → learned name known i bytes ≡ Size e
  size_by_proof e long is =
      let proof = is.proves in
      let of = is.of in
      let few = can.few in
      let part : length bytes ≡ chunk_length e.size e.chunk i = proof.whole in
      let sum = size_learned e is in
      let e_is = descriptor_same e (ended name i (length bytes)) of.root of.chunk sum of.method in
      let valid = valid_learned e long is in
      let end : suc i ≡ chunks_of e = omega (arith, is.last) in
      let top : proof.top ≡ last_layer (i + 1) = top_is e known i bytes (counted e valid) end proof ∙ ap (λ (n : ℕ). last_layer n) (sym is.last) in
      let all : first_absent known (i + 1) ≡ None = ap (λ (n : ℕ). first_absent known n) is.last ∙ proof.peaks_known in
      let ends = ends_at i can.few in
      let low = ends.low in
      let high = ends.high in
      let (y, at) = peak_known known (i + 1) (last_layer (i + 1)) all (omega arith) ends.last.odd in
      let found : climbed known (last_layer (i + 1)) 0 i (sha256 bytes) ≡ Some y =
      ap (λ (l : ℕ). climbed known l 0 i (sha256 bytes)) (sym top) ∙ proof.to_peak
      ∙ ap (λ (l : ℕ). known l (peak_offset l (chunks_of e))) top
      ∙ ap (λ (n : ℕ). known (last_layer (i + 1)) (peak_offset (last_layer (i + 1)) n)) (sym is.last) ∙ at in
      let root : root_by_peaks (i + 1) known ≡ Some name.root =
      ap (λ (n : ℕ). root_by_peaks n known) is.last ∙ proof.to_root ∙ ap (λ xs. Some xs) of.root in
      let final : chunk_count e.size e.chunk - 1 ≡ i = omega (arith, is.last) in
      let apart : length bytes ≡ 64 → ⊥ = λ at64. of.last (ap (λ (l : ℕ). chunk_length e.size e.chunk l) final ∙ sym part ∙ at64) in
      learned_by name known i bytes None None (Some y) (Some y) (Some name.root) apart all
      (none_beside known (last_layer (i + 1)) 0 i (sha256 bytes) y found) found at root
      ∙ ap (λ b. if b then wrong_or (Some name.root) (Some name.root) (Size (ended name i (length bytes))) else Wrong y y) (same_as_itself y)
      ∙ ap (λ b. if b then Size (ended name i (length bytes)) else Wrong name.root name.root) (same_as_itself name.root)
      ∙ ap (λ d. Size d) (sym e_is)
