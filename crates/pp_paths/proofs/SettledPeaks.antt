-- Settling the peaks: what the code finds is what the definition says.
use Rattle.std.proofs.Common.{◌≡◌, ◌⊎◌, ℕ, ◌+◌, ◌-◌, ◌^◌, ◌≤◌, ◌<◌, List, [], true, false, Option, Some, None, refl, sym, ◌∙◌, ap, subst, inl, inr, arith}
use Rattle.std.specs.Prelude.{IsSome, is_some, unwrap_or}
use Rattle.std.specs.Option.{option_map, option_or}
use Rattle.std.proofs.lemmas.Bool.{cases_lt}
use Rattle.pp_terms.specs.tree.Tree as tree
use Rattle.pp_terms.specs.tree.Tree.{above, height, IsHeight}
use Rattle.pp_terms.specs.tree.Book.{LookUp, IsRooted}
use Rattle.pp_terms.specs.format.Descriptor.{Descriptor, chunks_of, height_of}
use Rattle.pp_terms.specs.tree.Proves.{first_absent, last_layer, peak_offset, filled}
use Rattle.pp_terms.proofs.Heights.{height_is}
use Rattle.pp_tree.specs.Node.{node_of}
use Rattle.pp_tree.specs.declared.node.Node.{Node}
use Rattle.pp_paths.specs.declared.climbing.Climb.{Climb}
use Rattle.pp_paths.specs.declared.climbing.Climb.TheVariants.{Reached, Lacks}
use Rattle.pp_paths.specs.declared.settling.Settled.TheVariants.{Known, Missing, Wrong}
use Rattle.pp_paths.specs.Climb.{node_at, or_else, climb, path, IsFit, IsEndAt, AddsPath}
use Rattle.pp_paths.specs.Settle.{IsRootedFor, last_digest, climb_of_peaks, path_of_peaks, missing_or, settled_of, known_or, settled, IsWrong}
use Rattle.pp_paths.specs.Judge.{same}
use Rattle.pp_paths.proofs.Growth.{option_cases, path_adds_nothing, fit_is_there}
use Rattle.pp_paths.proofs.PeakNodes.{IsLast, last_is as last_peak_is, layer_within, peak_known, peaks_there}

-- A rooted book over n chunks, from 1 to 2 ^ 20, and the last peak as the code has it.
pub record HasLast (n : ℕ) (book : LookUp) (last : Node) : Type 0 where
  pub some : 0 < n
  pub most : n ≤ 2 ^ 20
  pub rooted : IsRootedFor n book
  pub last_is : last ≡ node_at (last_layer n) (peak_offset (last_layer n) n)

tall : (n : ℕ) (book : LookUp) (last : Node) → HasLast n book last → IsHeight n (height n)
tall n book last has = height_is n has.some has.most

is_last : (n : ℕ) (book : LookUp) (last : Node) → HasLast n book last → IsLast n (last_layer n)
is_last n book last has = let most = has.most in last_peak_is n has.some (omega arith)

height_here : (n : ℕ) (book : LookUp) (rooted : IsRootedFor n book) → height_of rooted.descriptor ≡ height n
height_here n book rooted = ap (λ m. height m) rooted.count

-- the last peak isn't above the root
pub last_low : (n top : ℕ) (book : LookUp) (last : Node) → HasLast n book last → top ≡ height n → last.layer ≤ top
last_low n top book last has top_is =
    let odd = (is_last n book last has).odd in
    let low = layer_within n (last_layer n) (height n) (tall n book last has).covers (omega arith) in
    omega (arith, ap (λ (at : Node). at.layer) has.last_is, low)

-- a rooted book over n chunks that has the last peak has all
all_there : (n : ℕ) (book new : LookUp) (last : Node) (x : List ℕ) → HasLast n book last → ((d : Descriptor) → IsRooted d book → IsRooted d new)
    → new last.layer last.offset ≡ Some x → first_absent new n ≡ None
all_there n book new last x has keeps at =
    let r = has.rooted in
    let count = r.count in
    let P : ℕ → Type 0 = λ m. first_absent new m ≡ None in
    let here : new (last_layer n) (peak_offset (last_layer n) n) ≡ Some x = sym (ap (λ (n : Node). new n.layer n.offset) has.last_is) ∙ at in
    let same : new (last_layer n) (peak_offset (last_layer n) (chunks_of r.descriptor)) ≡ Some x =
    ap (λ m. new (last_layer n) (peak_offset (last_layer n) m)) count ∙ here in
    subst P count (peaks_there r.descriptor new (last_layer n) x (keeps r.descriptor r.rooted) (let s = has.some in omega arith) (let m = has.most in omega arith)
    (subst (λ m. IsLast m (last_layer n)) (sym count) (is_last n book last has)) same)

pub known_all : (n : ℕ) (book : LookUp) (last : Node) (o : Option (List ℕ)) → HasLast n book last → o ≡ book last.layer last.offset
    → is_some o ≡ true → first_absent book n ≡ None
known_all n book last None has is test = cc
known_all n book last (Some x) has is test = all_there n book book last x has (λ d r. r) (sym is)

pub settled_known : (n : ℕ) (book claims : LookUp) → first_absent book n ≡ None → Known ≡ settled n book claims
settled_known n book claims none =
    sym (ap (λ o. known_or o (missing_or (first_absent (or_else book claims) n) (settled_of (climb_of_peaks n book claims)))) none)

-- nothing is added where the book has the last peak
pub adds_nothing : (n : ℕ) (book claims : LookUp) (last : Node) (o : Option (List ℕ)) → HasLast n book last
    → o ≡ book last.layer last.offset → is_some o ≡ true → AddsPath (path_of_peaks n book claims) book book
adds_nothing n book claims last None has is test k j = cc
adds_nothing n book claims last (Some x) has is test k j =
    let r = has.rooted in
    let low = last_low n (height n) book last has refl in
    let layer = ap (λ (at : Node). at.layer) has.last_is in
    let high = height_here n book r in
    let up : last_layer n + (height n - last_layer n) ≡ height_of r.descriptor = omega arith in
    let at : book (last_layer n) (peak_offset (last_layer n) n) ≡ Some x =
    sym (ap (λ (n : Node). book n.layer n.offset) has.last_is) ∙ sym is in
    sym (path_adds_nothing r.descriptor book (filled n claims) (height n - last_layer n) (last_layer n) (peak_offset (last_layer n) n)
    (last_digest n book claims) x k j r.rooted up at)

-- where no peak is absent the last one is there
last_known : (known book : LookUp) (n : ℕ) (last : Node) → HasLast n book last → first_absent known n ≡ None
    → (x : List ℕ) × (known (last_layer n) (peak_offset (last_layer n) n) ≡ Some x)
last_known known book n last has all =
    let high = tall n book last has in
    let most = has.most in
    let odd = (is_last n book last has).odd in
    let below = layer_within n (last_layer n) (height n) high.covers (omega arith) in
    let low : height n ≤ 20 = elim (cases_lt 20 (height n)) [
      | inl gt ↦ (let big : 2 ^ 20 < n = high.least 20 gt in absurd (omega arith))
      | inr le ↦ le
    ] in
    peak_known known n (last_layer n) all (omega arith) odd

-- The book lacks the last peak.
pub record LacksLast (n : ℕ) (book : LookUp) (last : Node) : Type 0 where
  pub has : HasLast n book last
  pub none : book (last_layer n) (peak_offset (last_layer n) n) ≡ None
  pub absent : tree.Node
  pub absent_is : first_absent book n ≡ Some absent

pub lacks_last : (n : ℕ) (book : LookUp) (last : Node) (o : Option (List ℕ)) → HasLast n book last
    → o ≡ book last.layer last.offset → is_some o ≡ false → LacksLast n book last
lacks_last n book last (Some x) has is test = cc
lacks_last n book last None has is test =
    let none : book (last_layer n) (peak_offset (last_layer n) n) ≡ None =
    sym (ap (λ (n : Node). book n.layer n.offset) has.last_is) ∙ sym is in
    elim (node_cases (first_absent book n)) [
      | inr (at, e) ↦ record { has = has; none = none; absent = at; absent_is = e }
      | inl all ↦
          let (x, there) = last_known book book n last has all in
          cc
    ]
  where
    node_cases : (o : Option tree.Node) → (o ≡ None) ⊎ ((x : tree.Node) × (o ≡ Some x))
    node_cases None = inl refl
    node_cases (Some x) = inr (x, refl)

-- the leftmost peak that is in neither comes next
pub settled_missing : (n : ℕ) (book claims : LookUp) (last at : Node) (o : Option Node) → LacksLast n book last → o ≡ Some at
    → option_map node_of o ≡ first_absent (or_else book claims) n → Missing at ≡ settled n book claims
settled_missing n book claims last at o lacks is found =
    let first : first_absent (or_else book claims) n ≡ Some (node_of at) = sym found ∙ ap (λ p. option_map node_of p) is in
    sym (ap (λ p. known_or p (missing_or (first_absent (or_else book claims) n) (settled_of (climb_of_peaks n book claims)))) lacks.absent_is
    ∙ ap (λ p. missing_or p (settled_of (climb_of_peaks n book claims))) first)

-- All peaks are in the book or claimed, the last one with that digest.
pub record ClaimsLast (n : ℕ) (book claims : LookUp) (last : Node) (digest : List ℕ) : Type 0 where
  pub lacks : LacksLast n book last
  pub all : first_absent (or_else book claims) n ≡ None
  pub digest_is : last_digest n book claims ≡ digest

-- the last peak is claimed
pub last_claimed : (n : ℕ) (book claims : LookUp) (last : Node) (o : Option Node) (found : Option (List ℕ)) → LacksLast n book last
    → option_map node_of o ≡ first_absent (or_else book claims) n → o ≡ None → found ≡ claims last.layer last.offset → IsSome found
last_claimed n book claims last o found lacks is none found_is =
    let all : first_absent (or_else book claims) n ≡ None = sym is ∙ ap (λ p. option_map node_of p) none in
    let (x, at) = last_known (or_else book claims) book n last lacks.has all in
    let claim : claims (last_layer n) (peak_offset (last_layer n) n) ≡ Some x =
    sym (ap (λ p. option_or p (claims (last_layer n) (peak_offset (last_layer n) n))) lacks.none) ∙ at in
    let e : found ≡ Some x = found_is ∙ ap (λ (n : Node). claims n.layer n.offset) lacks.has.last_is ∙ claim in
    subst (λ (p : Option (List ℕ)). IsSome p) (sym e) refl

pub claims_last : (n : ℕ) (book claims : LookUp) (last : Node) (digest : List ℕ) (o : Option Node) (found : Option (List ℕ))
    → LacksLast n book last → option_map node_of o ≡ first_absent (or_else book claims) n → o ≡ None
    → found ≡ claims last.layer last.offset → found ≡ Some digest → ClaimsLast n book claims last digest
claims_last n book claims last digest o found lacks is none found_is some = record {
  lacks = lacks;
  all = sym is ∙ ap (λ p. option_map node_of p) none;
  digest_is =
      let claim : claims (last_layer n) (peak_offset (last_layer n) n) ≡ Some digest =
      sym (ap (λ (n : Node). claims n.layer n.offset) lacks.has.last_is) ∙ sym found_is ∙ some in
      ap (λ p. unwrap_or (option_or p (claims (last_layer n) (peak_offset (last_layer n) n))) []) lacks.none
      ∙ ap (λ p. unwrap_or p []) claim;
}

-- the code's climb is that of the peaks
climb_same : (n top : ℕ) (book claims : LookUp) (last : Node) (digest : List ℕ) → ClaimsLast n book claims last digest → top ≡ height n
    → climb book (filled n claims) (top - last.layer) last.layer last.offset digest ≡ climb_of_peaks n book claims
climb_same n top book claims last digest has top_is =
    ap (λ (t : ℕ). climb book (filled n claims) (t - last.layer) last.layer last.offset digest) top_is
    ∙ ap (λ (at : Node). climb book (filled n claims) (height n - at.layer) at.layer at.offset digest) has.lacks.has.last_is
    ∙ ap (λ x. climb book (filled n claims) (height n - last_layer n) (last_layer n) (peak_offset (last_layer n) n) x) (sym has.digest_is)

pub settled_by : (n top : ℕ) (book claims : LookUp) (last : Node) (digest : List ℕ) (end : Climb) → ClaimsLast n book claims last digest
    → top ≡ height n → end ≡ climb book (filled n claims) (top - last.layer) last.layer last.offset digest
    → settled_of end ≡ settled n book claims
settled_by n top book claims last digest end has top_is end_is =
    ap (λ c. settled_of c) (end_is ∙ climb_same n top book claims last digest has top_is)
    ∙ sym (ap (λ p. known_or p (missing_or (first_absent (or_else book claims) n) (settled_of (climb_of_peaks n book claims)))) has.lacks.absent_is
    ∙ ap (λ p. missing_or p (settled_of (climb_of_peaks n book claims))) has.all)

-- the added pairs are those of the peaks
pub adds_peaks : (n top : ℕ) (book new claims : LookUp) (last : Node) (digest : List ℕ) → ClaimsLast n book claims last digest
    → top ≡ height n → AddsPath (path (filled n claims) (top - last.layer) last.layer last.offset digest) book new
    → AddsPath (path_of_peaks n book claims) book new
adds_peaks n top book new claims last digest has top_is added k j =
    added k j
    ∙ ap (λ (t : ℕ). or_else book (path (filled n claims) (t - last.layer) last.layer last.offset digest) k j) top_is
    ∙ ap (λ (at : Node). or_else book (path (filled n claims) (height n - at.layer) at.layer at.offset digest) k j) has.lacks.has.last_is
    ∙ ap (λ x. or_else book (path (filled n claims) (height n - last_layer n) (last_layer n) (peak_offset (last_layer n) n) x) k j)
    (sym has.digest_is)

-- and so the book has all peaks
pub all_added : (n top : ℕ) (book new claims : LookUp) (last : Node) (digest : List ℕ) → ClaimsLast n book claims last digest
    → top ≡ height n → IsFit (climb book (filled n claims) (top - last.layer) last.layer last.offset digest)
    → AddsPath (path (filled n claims) (top - last.layer) last.layer last.offset digest) book new
    → ((d : Descriptor) → IsRooted d book → IsRooted d new) → first_absent new n ≡ None
all_added n top book new claims last digest has top_is fit added keeps =
    let r = has.lacks.has.rooted in
    let low = last_low n top book last has.lacks.has top_is in
    let high = height_here n book r in
    let up : last.layer + (top - last.layer) ≡ height_of r.descriptor = omega arith in
    all_there n book new last digest has.lacks.has keeps
    (added last.layer last.offset
    ∙ fit_is_there r.descriptor book (filled n claims) (top - last.layer) last.layer last.offset digest r.rooted up fit)

pub fit_by : (end climb' : Climb) (at : Node) (found kept : List ℕ) → end ≡ climb' → end ≡ Reached at found kept → found ≡ kept
    → IsFit climb'
fit_by end climb' at found kept same is equal =
    subst (λ c. IsFit c) (sym is ∙ same) equal

pub settled_wrong : (at : Node) (found kept : List ℕ) → same found kept ≡ false
    → settled_of (Reached at found kept) ≡ Wrong found kept
settled_wrong at found kept differ = rw differ refl

-- What a wrong answer says: the book lacks the last peak, all are known, and the climb ended at a node of the book.
pub record IsSettledWrong (n : ℕ) (book claims : LookUp) (last : Node) : Type 0 where
  pub lacks : LacksLast n book last
  pub all : None ≡ first_absent (or_else book claims) n
  pub at : Node
  pub found : List ℕ
  pub kept : List ℕ
  pub ends : climb_of_peaks n book claims ≡ Reached at found kept

wrong_end : (end : Climb) → IsWrong (settled_of end) → (at : Node) × (found : List ℕ) × (kept : List ℕ) × (end ≡ Reached at found kept)
wrong_end (Lacks at) wrong = absurd wrong
wrong_end (Reached at found kept) wrong = (at, found, kept, refl)

wrong_parts : (o p : Option tree.Node) (end : Climb) → IsWrong (known_or o (missing_or p (settled_of end)))
    → (absent : tree.Node) × (o ≡ Some absent) × (None ≡ p) × IsWrong (settled_of end)
wrong_parts None p end wrong = absurd wrong
wrong_parts (Some absent) None end wrong = (absent, refl, refl, wrong)
wrong_parts (Some absent) (Some at) end wrong = absurd wrong

pub settled_wrongly : (n : ℕ) (book claims : LookUp) (last : Node) → HasLast n book last → IsWrong (settled n book claims)
    → IsSettledWrong n book claims last
settled_wrongly n book claims last has wrong =
    let (absent, lacking, all, ends) =
    wrong_parts (first_absent book n) (first_absent (or_else book claims) n) (climb_of_peaks n book claims) wrong in
    let (at, found, kept, end) = wrong_end (climb_of_peaks n book claims) ends in
    record {
      lacks = record {
        has = has;
        none = elim (option_cases (book (last_layer n) (peak_offset (last_layer n) n))) [
          | inl none ↦ none
          | inr (x, there) ↦
              let here : book last.layer last.offset ≡ Some x = ap (λ (m : Node). book m.layer m.offset) has.last_is ∙ there in
              let known = all_there n book book last x has (λ d r. r) here in
              cc
        ];
        absent = absent;
        absent_is = lacking;
      };
      all = all;
      at = at;
      found = found;
      kept = kept;
      ends = end;
    }

-- the node at which the code's climb ended
pub wrong_node_is : (n top : ℕ) (book claims : LookUp) (last node : Node) (digest found kept : List ℕ) (end : Climb)
    → ClaimsLast n book claims last digest → top ≡ height n
    → end ≡ climb book (filled n claims) (top - last.layer) last.layer last.offset digest → end ≡ Reached node found kept
    → IsEndAt node (climb_of_peaks n book claims)
wrong_node_is n top book claims last node digest found kept end has top_is end_is reached =
    subst (λ c. IsEndAt node c) (sym reached ∙ end_is ∙ climb_same n top book claims last digest has top_is) refl

-- it doesn't end before one
pub wrong_lacks_none : (n top : ℕ) (book claims : LookUp) (last node : Node) (digest : List ℕ) (end : Climb)
    → ClaimsLast n book claims last digest → top ≡ height n
    → end ≡ climb book (filled n claims) (top - last.layer) last.layer last.offset digest → end ≡ Lacks node
    → IsSettledWrong n book claims last → IsEndAt node (climb_of_peaks n book claims)
wrong_lacks_none n top book claims last node digest end has top_is end_is lacks wrong =
    let same = climb_same n top book claims last digest has top_is in
    let ends = wrong.ends in
    cc
