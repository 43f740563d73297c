-- The recording of a session: its traffic, record by record, its nodes, and its limits.
use Rattle.std.proofs.Common.{◌≡◌, ◌↔◌, inl, inr, ℕ, zero, suc, ◌+◌, ◌-◌, ◌*◌, ◌%◌, ◌^◌, ◌<◌, ◌≤◌, Bool, true, false, ◌&&◌, IsTrue, Some, List, [], ◌∷◌, ◌++◌, length, map, reverse, take, drop, slice_get, option_map, Vec, Global, refl, sym, ◌∙◌, ap, subst, arith}
use Rattle.std.proofs.Math.Pow.{pow-lt}
use Rattle.std.proofs.Math.Nat.{mod-eq_of_lt, pow-le-pow_right}
use Rattle.std.proofs.lemmas.Bool.{cases_lt}
use Rattle.std.proofs.lemmas.List.{take_all, drop_at, take_more, reverse-append, length-append, length-reverse, length-map}
use Rattle.std.proofs.lemmas.Option.{slice_get-map, same_Some, get_or_from_slice_get}
use Rattle.hex.specs.Hex.{IsBytes}
use Rattle.pp_terms.specs.tree.Book.{LookUp}
use Rattle.pp_terms.specs.format.Descriptor.{Descriptor, height_of, IsDescriptor}
use Rattle.pp_terms.specs.format.Traffic as terms
use Rattle.pp_terms.specs.format.Traffic.{Record}
use Rattle.pp_outside.specs.Outside.{address_of}
use Rattle.pp_outside.specs.Records.{marked, bytes_of}
use Rattle.pp_outside.specs.declared.records.Mark.{Mark}
use Rattle.pp_outside.specs.declared.records.Mark.TheVariants.{Received, Quiet, Sent}
use Rattle.pp_tree.specs.Book.{IsInTree}
use Rattle.pp_recording.specs.Spelling.{KnownNode}
use Rattle.pp_recording.specs.Recording.{nodes_of, first_nodes, lowest_nodes, recording_text, AreDigestsOf, AreKnownNodes, AreKeptRecords, IsKeptRecord, IsWithin}
use Rattle.pp_recording.specs.State.{record_of, records_of, Fill}
use Rattle.pp_recording.specs.Sessions.{session, entry_at, IsTraffic, IsCopied, IsFirst, IsLow, IsOversize, IsSmall}
use Rattle.pp_recording.specs.declared.recording.Entry.{Entry}
use Rattle.pp_recording.specs.declared.session.Size.{Size}
use Rattle.pp_recording.specs.declared.session.Traffic.{Traffic}
use Rattle.pp_recording.proofs.Fillings.{records_more, fill_more}
use Rattle.pp_recording.proofs.NodeOrder.{first_nodes-equal}
use Rattle.pp_recording.proofs.NodeTexts.{lowest_nodes-more}
use Rattle.pp_recording.proofs.Risings.{nodes_rise, nodes_known}

-- ---- one record more

same_bytes : (rs : List Record) (n : ℕ) (mark : Mark) (x bytes : List ℕ) → slice_get rs n ≡ Some (marked mark x)
    → slice_get (map bytes_of rs) n ≡ Some bytes → bytes_of (marked mark x) ≡ bytes
same_bytes rs n mark x bytes at bytes_at =
    same_Some (bytes_of (marked mark x)) bytes
    (sym (slice_get-map (λ r. bytes_of r) rs n ∙ ap (λ o. option_map (λ r. bytes_of r) o) at) ∙ bytes_at)

is_marked : (mark : Mark) (x bytes : List ℕ) → bytes_of (marked mark x) ≡ bytes → marked mark x ≡ marked mark bytes
is_marked (Received at sender) x bytes e = ap (λ (b : List ℕ). terms.Received at (address_of sender) b) e
is_marked (Quiet at) x bytes e = refl
is_marked (Sent moment receiver) x bytes e = ap (λ (b : List ℕ). terms.Sent moment (address_of receiver) b) e

no_bytes : (mark : Mark) (x bytes : List ℕ) → bytes_of (marked mark x) ≡ bytes → bytes_of (marked mark bytes) ≡ bytes
no_bytes mark x bytes e = ap (λ r. bytes_of r) (sym (is_marked mark x bytes e)) ∙ e

taken : (bytes more : List ℕ) → take (length more) (drop (length bytes) (bytes ++ more)) ≡ more
taken bytes more = ap (λ (t : List ℕ). take (length more) t) (drop_at bytes more (length bytes) refl) ∙ take_all (length more) more (omega arith)

entry_is : (mark : Mark) (bytes more : List ℕ) → record_of (bytes ++ more) (entry_at mark (length bytes) (length more)) ≡ marked mark more
entry_is (Received at sender) bytes more = ap (λ (b : List ℕ). terms.Received at (address_of sender) b) (taken bytes more)
entry_is (Quiet at) bytes more = refl
entry_is (Sent moment receiver) bytes more = ap (λ (b : List ℕ). terms.Sent moment (address_of receiver) b) (taken bytes more)

fills : (mark : Mark) (place : ℕ) (more : List ℕ) → bytes_of (marked mark more) ≡ more → Fill place (entry_at mark place (length more) ∷ []) (place + length more)
fills (Received at sender) place more e = (refl, refl)
fills (Quiet at) place more e = let none : 0 ≡ length more = ap (λ (b : List ℕ). length b) e in omega (arith, none)
fills (Sent moment receiver) place more e = (refl, refl)

both : (a b : Bool) → IsTrue (a && b) ↔ (IsTrue a × IsTrue b)
both true b = (λ told. (refl, told), λ are. are.1)
both false b = (λ told. absurd (no_way told), λ are. absurd (no_way are.0))
  where
    no_way : false ≡ true → ⊥
    no_way e = cc

newest : (rs : List Record) (n : ℕ) (r : Record) → n < length rs → slice_get rs n ≡ Some r → reverse (take (n + 1) rs) ≡ r ∷ reverse (take n rs)
newest rs n r lt at =
    ap (λ (qs : List Record). reverse qs) (take_more rs n r lt)
    ∙ ap (λ (q : Record). reverse (take n rs ++ q ∷ [])) (get_or_from_slice_get rs n r r at)
    ∙ reverse-append (take n rs) (r ∷ [])

pub record_added : (rs : List Record) (n : ℕ) (t : Traffic) (mark : Mark) (x bytes : List ℕ) (es : Vec Entry Global) (bs : Vec ℕ Global) (kept : Bool)
    → n < length rs → IsTraffic n rs t → slice_get rs n ≡ Some (marked mark x) → slice_get (map bytes_of rs) n ≡ Some bytes
    → es.items ≡ t.entries.items ++ entry_at mark (length t.bytes.items) (length bytes) ∷ [] → bs.items ≡ t.bytes.items ++ bytes
    → IsTrue kept ↔ IsKeptRecord (marked mark bytes)
    → IsTraffic (n + 1) rs (record { entries = es; bytes = bs; is_kept = kept && t.is_kept })
record_added rs n t mark x bytes es bs kept lt before at bytes_at es_are bs_are told =
    let e = entry_at mark (length t.bytes.items) (length bytes) in
    let same = same_bytes rs n mark x bytes at bytes_at in
    let found : slice_get rs n ≡ Some (marked mark bytes) = at ∙ ap (λ r. Some r) (is_marked mark x bytes same) in
    let later = newest rs n (marked mark bytes) lt found in
    let records : records_of bs.items es.items ≡ marked mark bytes ∷ records_of t.bytes.items t.entries.items =
    ap (λ (b : List ℕ). records_of b es.items) bs_are ∙ ap (λ (ds : List Entry). records_of (t.bytes.items ++ bytes) ds) es_are
    ∙ records_more t.bytes.items bytes t.entries.items e before.filled
    ∙ ap (λ (r : Record). r ∷ records_of t.bytes.items t.entries.items) (entry_is mark t.bytes.items bytes) in
    let filled = fill_more t.entries.items e 0 (length t.bytes.items) (length t.bytes.items + length bytes) before.filled
    (fills mark (length t.bytes.items) bytes (no_bytes mark x bytes same)) in
    let size : length t.bytes.items + length bytes ≡ length bs.items =
    sym (ap (λ (b : List ℕ). length b) bs_are ∙ length-append t.bytes.items bytes) in
    record {
      are = records ∙ ap (λ (qs : List Record). marked mark bytes ∷ qs) before.are ∙ sym later;
      filled = subst (λ (k : ℕ). Fill 0 es.items k) size
          (subst (λ (ds : List Entry). Fill 0 ds (length t.bytes.items + length bytes)) (sym es_are) filled);
      kept = (
        λ is. subst (λ (qs : List Record). AreKeptRecords qs) (sym later)
            (told.0 ((both kept t.is_kept).0 is).0, before.kept.0 ((both kept t.is_kept).0 is).1),
        λ are.
            let all : AreKeptRecords (marked mark bytes ∷ reverse (take n rs)) = subst (λ (qs : List Record). AreKeptRecords qs) later are in
            (both kept t.is_kept).1 (told.1 all.0, before.kept.1 all.1),
      );
    }

-- ---- the nodes

pub lowest_nodes-alike : (a b : LookUp) (h n : ℕ) → ((l i : ℕ) → l < n → i < 2 ^ (h - l) → a l i ≡ b l i) → lowest_nodes a h n ≡ lowest_nodes b h n
lowest_nodes-alike a b h zero same = refl
lowest_nodes-alike a b h (suc n) same =
    ap (λ (ns : List KnownNode). ns ++ first_nodes a n (2 ^ (h - n))) (lowest_nodes-alike a b h n (λ l i lt in_layer. same l i (omega arith) in_layer))
    ∙ ap (λ (ns : List KnownNode). lowest_nodes b h n ++ ns) (first_nodes-equal a b n (2 ^ (h - n)) (λ i lt. same n i (omega arith) lt))

pub nodes_copied : (d : Descriptor) (book old new : LookUp) → IsCopied (IsInTree d) book old new → nodes_of d new ≡ nodes_of d book
nodes_copied d book old new copied =
    lowest_nodes-alike new book (height_of d) (suc (height_of d))
    (λ l i lt in_layer. copied.within l i (record { layer = omega (arith, lt); offset = in_layer }))

-- ---- one layer more

whole_layer : (h g k count : ℕ) → g ≡ h → h ≤ 20 → count ≡ 1 * 2 ^ (g - k) % 4294967296 → count ≡ 2 ^ (h - k)
whole_layer h g k count same low is =
    let below : h - k < 32 = omega arith in
    let few : 2 ^ (h - k) < 2 ^ 32 = pow-lt below in
    let one : 1 * 2 ^ (h - k) ≡ 2 ^ (h - k) = omega arith in
    is ∙ ap (λ (m : ℕ). 1 * 2 ^ (m - k) % 4294967296) same ∙ ap (λ (n : ℕ). n % 4294967296) one ∙ mod-eq_of_lt few

pub layer_few : (h g k count nodes more : ℕ) → g ≡ h → h ≤ 20 → count ≡ 1 * 2 ^ (g - k) % 4294967296 → nodes ≤ k * 1048576 → more ≤ count
    → nodes + more ≤ (k + 1) * 1048576
layer_few h g k count nodes more same low is before few =
    let whole = whole_layer h g k count same low is in
    let less : h - k ≤ 20 = omega arith in
    let base : 1 ≤ 2 = omega arith in
    let most : 2 ^ (h - k) ≤ 2 ^ 20 = pow-le-pow_right base less in
    omega (arith, whole, most, before, few)

pub layer_fits : (h g k count : ℕ) → g ≡ h → h ≤ 20 → count ≡ 1 * 2 ^ (g - k) % 4294967296 → count ≤ 2 ^ (h - k)
layer_fits h g k count same low is = let whole = whole_layer h g k count same low is in omega (arith, whole)

pub layer_count : (book : LookUp) (h g k count nodes more : ℕ) → g ≡ h → h ≤ 20 → count ≡ 1 * 2 ^ (g - k) % 4294967296
    → nodes ≡ length (lowest_nodes book h k) → more ≡ length (first_nodes book k count) → nodes + more ≡ length (lowest_nodes book h (k + 1))
layer_count book h g k count nodes more same low is before here =
    let whole = whole_layer h g k count same low is in
    let here2 : more ≡ length (first_nodes book k (2 ^ (h - k))) = here ∙ ap (λ (n : ℕ). length (first_nodes book k n)) whole in
    let sum = length-append (lowest_nodes book h k) (first_nodes book k (2 ^ (h - k))) in
    let next : length (lowest_nodes book h (k + 1)) ≡ length (lowest_nodes book h k ++ first_nodes book k (2 ^ (h - k))) =
    ap (λ (ns : List KnownNode). length ns) (lowest_nodes-more book h k) in
    omega (arith, before, here2, sum, next)

pub layer_copied : (h g k count : ℕ) (book old mid new : LookUp) → g ≡ h → h ≤ 20 → count ≡ 1 * 2 ^ (g - k) % 4294967296
    → IsCopied (IsLow h k) book old mid → IsCopied (IsFirst k count) book mid new → IsCopied (IsLow h (k + 1)) book old new
layer_copied h g k count book old mid new e low is before here = record {
  within = λ l j at. elim (cases_lt l k) [
    | inl less ↦ here.others l j (λ first. let at = first.0 in omega (arith, less, at)) ∙ before.within l j (less, at.1)
    | inr not ↦ (let less = at.0 in let same : l ≡ k = omega (arith, not, less) in
        here.within l j (same, subst (λ (n : ℕ). j < n) (sym whole) (subst (λ (m : ℕ). j < 2 ^ (h - m)) same at.1)))
  ];
  others = λ l j not.
      here.others l j (λ first. not (first_low l j first)) ∙ before.others l j (λ in_low. let less = in_low.0 in not (omega (arith, less), in_low.1));
}
  where
    whole : count ≡ 2 ^ (h - k)
    whole = whole_layer h g k count e low is

    first_low : (l j : ℕ) → IsFirst k count l j → IsLow h (k + 1) l j
    first_low l j first = let at = first.0 in (omega (arith, at), subst (λ (m : ℕ). j < 2 ^ (h - m)) (sym first.0) (subst (λ (n : ℕ). j < n) whole first.1))

-- ---- the limits

-- What is known of a session that was copied: its traffic, its nodes, and the size of its text.
pub record IsCopy (d : Descriptor) (book copy : LookUp) (past : List Record) (kept : Bool) (size : Size) : Type 0 where
  pub valid : IsDescriptor d
  pub root : IsBytes d.root
  pub digests : AreDigestsOf copy
  pub nodes : nodes_of d copy ≡ nodes_of d book
  pub kept_is : IsTrue kept ↔ AreKeptRecords past
  pub records_are : size.records ≡ length past
  pub nodes_are : size.nodes ≡ length (nodes_of d book)
  pub bytes_are : size.bytes ≡ length (recording_text (session d book past))

pub within : (d : Descriptor) (book copy : LookUp) (past : List Record) (kept : Bool) (size : Size) → IsCopy d book copy past kept size
    → IsSmall kept size → IsWithin (session d book past)
within d book copy past kept size is small =
    let records = is.records_are in
    let nodes = is.nodes_are in
    let bytes = is.bytes_are in
    let few_records = small.records in
    let few_nodes = small.nodes in
    let few_bytes = small.bytes in
    record {
      kept = record {
        descriptor = is.valid;
        root = is.root;
        nodes = subst (λ (ns : List KnownNode). AreKnownNodes d ns) is.nodes (nodes_known d copy is.digests);
        rising = nodes_rise d book;
        few_nodes = omega (arith, nodes, few_nodes);
        records = is.kept_is.0 small.kept;
        few_records = omega (arith, records, few_records);
      };
      short = omega (arith, bytes, few_bytes);
    }

pub small : (d : Descriptor) (book copy : LookUp) (past : List Record) (kept : Bool) (size : Size) → IsCopy d book copy past kept size
    → IsWithin (session d book past) → IsSmall kept size
small d book copy past kept size is inside =
    let records = is.records_are in
    let nodes = is.nodes_are in
    let bytes = is.bytes_are in
    let few_records = inside.kept.few_records in
    let few_nodes = inside.kept.few_nodes in
    let few_bytes = inside.short in
    record {
      kept = is.kept_is.1 inside.kept.records;
      records = omega (arith, records, few_records);
      nodes = omega (arith, nodes, few_nodes);
      bytes = omega (arith, bytes, few_bytes);
    }

recorded_is : (d : Descriptor) (book known : LookUp) (rs : List Record) (t : Traffic) → nodes_of d known ≡ nodes_of d book → IsTraffic (length rs) rs t
    → (record { descriptor = d; nodes = nodes_of d known; records = records_of t.bytes.items t.entries.items }) ≡ session d book (reverse rs)
recorded_is d book known rs t nodes traffic =
    ap (λ (ns : List KnownNode). record { descriptor = d; nodes = ns; records = records_of t.bytes.items t.entries.items }) nodes
    ∙ ap (λ (qs : List Record). record { descriptor = d; nodes = nodes_of d book; records = qs })
    (traffic.are ∙ ap (λ (qs : List Record). reverse qs) (take_all (length rs) rs (omega arith)))

-- What was gathered and copied of a session.
pub record IsMade (d : Descriptor) (book known : LookUp) (rs : List Record) (t : Traffic) (size : Size) : Type 0 where
  pub same : (record { descriptor = d; nodes = nodes_of d known; records = records_of t.bytes.items t.entries.items }) ≡ session d book (reverse rs)
  pub copy : IsCopy d book known (reverse rs) t.is_kept size

pub made : (d : Descriptor) (book before known : LookUp) (rs : List Record) (t : Traffic) (size : Size) (text : List ℕ) → IsDescriptor d → IsBytes d.root
    → AreDigestsOf known → IsCopied (IsInTree d) book before known → IsTraffic (length rs) rs t → size.nodes ≡ length (nodes_of d book)
    → (es : List Entry) (bs : List ℕ) → es ≡ t.entries.items → bs ≡ t.bytes.items
    → text ≡ recording_text (record { descriptor = d; nodes = nodes_of d known; records = records_of bs es })
    → size.records ≡ length t.entries.items → size.bytes ≡ length text → IsMade d book known rs t size
made d book before known rs t size text valid root digests copied traffic count es bs es_are bs_are told records bytes =
    let same = nodes_copied d book before known copied in
    let is = recorded_is d book known rs t same traffic in
    let spelled : text ≡ recording_text (record { descriptor = d; nodes = nodes_of d known; records = records_of t.bytes.items t.entries.items }) =
    told ∙ ap (λ (xs : List ℕ). recording_text (record { descriptor = d; nodes = nodes_of d known; records = records_of xs es })) bs_are
    ∙ ap (λ (xs : List Entry). recording_text (record { descriptor = d; nodes = nodes_of d known; records = records_of t.bytes.items xs })) es_are in
    record {
      same = is;
      copy = record {
        valid = valid;
        root = root;
        digests = digests;
        nodes = same;
        kept_is = subst (λ (qs : List Record). IsTrue t.is_kept ↔ AreKeptRecords (reverse qs)) (take_all (length rs) rs (omega arith)) traffic.kept;
        records_are = records ∙ sym (length-reverse (map (record_of t.bytes.items) t.entries.items) ∙ length-map t.entries.items (record_of t.bytes.items))
            ∙ ap (λ (qs : List Record). length qs) (traffic.are ∙ ap (λ (qs : List Record). reverse qs) (take_all (length rs) rs (omega arith)));
        nodes_are = count;
        bytes_are = bytes ∙ ap (λ (x : List ℕ). length x) (spelled ∙ ap (λ r. recording_text r) is);
      };
    }

pub oversize : (d : Descriptor) (book known : LookUp) (rs : List Record) (t : Traffic) (size : Size) → IsMade d book known rs t size
    → (IsSmall t.is_kept size → ⊥) → IsOversize d book (reverse rs) size.records size.nodes size.bytes
oversize d book known rs t size is not = record {
  over = λ inside. not (small d book known (reverse rs) t.is_kept size is.copy inside);
  records_are = is.copy.records_are;
  nodes_are = is.copy.nodes_are;
  bytes_are = is.copy.bytes_are;
}
