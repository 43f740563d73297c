-- Where one recording's text goes on as another's begins, the other has the same parts so far.
use Rattle.std.proofs.Common.{◌≡◌, ◌⊎◌, ℕ, ◌-◌, ◌^◌, ◌<◌, ◌≤◌, List, [], ◌∷◌, ◌++◌, get_or, reverse, codes, decimal, refl, sym, ◌∙◌, ap, subst, inl, inr, arith, append_assoc}
use Rattle.std.proofs.Math.Nat.{pow-le-pow_right}
use Rattle.std.proofs.lemmas.List.{append_cancel_left, append-nil, reverse-append, reverse-reverse}
use Rattle.hex.specs.Hex.{IsBytes}
use Rattle.pp_terms.specs.format.Descriptor.{Descriptor, height_of, chunks_of, descriptor_text, IsDescriptor, method_number}
use Rattle.pp_terms.specs.format.Traffic.{Record}
use Rattle.pp_tree.proofs.Readings.{descriptor_same}
use Rattle.pp_tree.proofs.Digits.{method_below}
use Rattle.pp_tree.proofs.Sizes.{chunk_size_range, content_size_range, chunk_count_range}
use Rattle.pp_terms.proofs.Heights.{height_is}
use Rattle.pp_terms.proofs.Nodes.{height_bound}
use Rattle.pp_recording.specs.Spelling.{KnownNode, node_line, record_line}
use Rattle.pp_recording.specs.Recording.{Recorded, nodes_text, records_text, front_text, recording_text, IsKnownNode, AreKnownNodes, AreKeptRecords, IsRecording}
use Rattle.pp_recording.specs.Lines.{IsSomeNode}
use Rattle.pp_recording.proofs.Splits.{Lacks, split_same}
use Rattle.pp_recording.proofs.AddressWords.{IsClear, one_clear, none_clear, both_clear, number_clear}
use Rattle.pp_recording.proofs.LineTexts.{encoded_lacks, node_same, record_same, node_head, record_head, heads_same}

-- ---- the oldest record first

abbrev pub oldest_text : List Record → List ℕ
oldest_text [] = []
oldest_text (q ∷ qs) = record_line q ++ oldest_text qs

oldest_append : (qs ps : List Record) → oldest_text (qs ++ ps) ≡ oldest_text qs ++ oldest_text ps
oldest_append [] ps = refl
oldest_append (q ∷ qs) ps = ap (λ t. record_line q ++ t) (oldest_append qs ps) ∙ sym (append_assoc (record_line q) (oldest_text qs) (oldest_text ps))

pub oldest_first : (rs : List Record) → records_text rs ≡ oldest_text (reverse rs)
oldest_first [] = refl
oldest_first (r ∷ rs) =
    ap (λ t. t ++ record_line r) (oldest_first rs)
    ∙ ap (λ t. oldest_text (reverse rs) ++ t) (sym (append-nil (record_line r)))
    ∙ sym (oldest_append (reverse rs) (r ∷ []))
    ∙ ap (λ qs. oldest_text qs) (sym (reverse-append (r ∷ []) rs))

kept_append : (qs ps : List Record) → AreKeptRecords qs → AreKeptRecords ps → AreKeptRecords (qs ++ ps)
kept_append [] ps one two = two
kept_append (q ∷ qs) ps one two = (one.0, kept_append qs ps one.1 two)

pub kept_reverse : (rs : List Record) → AreKeptRecords rs → AreKeptRecords (reverse rs)
kept_reverse [] kept = tt
kept_reverse (r ∷ rs) kept =
    subst (λ qs. AreKeptRecords qs) (sym (reverse-append (r ∷ []) rs)) (kept_append (reverse rs) (r ∷ []) (kept_reverse rs kept.1) (kept.0, tt))

-- ---- what follows

pub record RecordsFollow (qs ps : List Record) (more : List ℕ) : Type 0 where
  pub records : List Record
  pub records_are : ps ≡ qs ++ records
  pub more_is : more ≡ oldest_text records ++ codes "end\n"

records_follow : (qs ps : List Record) (more : List ℕ) → AreKeptRecords qs → AreKeptRecords ps
    → oldest_text qs ++ more ≡ oldest_text ps ++ codes "end\n" → RecordsFollow qs ps more
records_follow [] ps more one two e = record { records = ps; records_are = refl; more_is = e }
records_follow (q ∷ qs) [] more one two e =
    let (head, rest, is, high) = record_head q (oldest_text qs ++ more) in
    let whole : head ∷ rest ≡ codes "end\n" = sym is ∙ sym (append_assoc (record_line q) (oldest_text qs) more) ∙ e in
    let first : head ≡ 101 = ap (λ t. get_or t 0 0) whole in absurd (omega arith)
records_follow (q ∷ qs) (p ∷ ps) more one two e =
    let whole = sym (append_assoc (record_line q) (oldest_text qs) more) ∙ e ∙ append_assoc (record_line p) (oldest_text ps) (codes "end\n") in
    let (same, behind) = record_same q p (oldest_text qs ++ more) (oldest_text ps ++ codes "end\n") one.0 two.0 whole in
    let rest = records_follow qs ps more one.1 two.1 behind in
    record {
      records = rest.records;
      records_are = ap (λ r. r ∷ ps) (sym same) ∙ ap (λ rs. q ∷ rs) rest.records_are;
      more_is = rest.more_is;
    }

abbrev pub AreSomeNodes : List KnownNode → Type 0
AreSomeNodes [] = Unit {0}
AreSomeNodes (n ∷ ns) = IsSomeNode n × AreSomeNodes ns

pub record PartsFollow (ns ms : List KnownNode) (qs ps : List Record) (more : List ℕ) : Type 0 where
  pub nodes : List KnownNode
  pub records : List Record
  pub nodes_are : ms ≡ ns ++ nodes
  pub records_are : ps ≡ qs ++ records
  pub more_is : more ≡ nodes_text nodes ++ (oldest_text records ++ codes "end\n")
  pub alone : (qs ≡ []) ⊎ (nodes ≡ [])

record_before_node : (q : Record) (n : KnownNode) (x y : List ℕ) → record_line q ++ x ≡ node_line n ++ y → ⊥
record_before_node q n x y e =
    let (head, rest, is, high) = record_head q x in
    let (rest2, is2) = node_head n y in
    let first : head ≡ 110 = ap (λ t. get_or t 0 0) (sym is ∙ e ∙ is2) in omega arith

parts_follow : (ns ms : List KnownNode) (qs ps : List Record) (more : List ℕ) → AreSomeNodes ns → AreSomeNodes ms → AreKeptRecords qs → AreKeptRecords ps
    → nodes_text ns ++ (oldest_text qs ++ more) ≡ nodes_text ms ++ (oldest_text ps ++ codes "end\n") → PartsFollow ns ms qs ps more
parts_follow [] ms [] ps more one two three four e =
    record { nodes = ms; records = ps; nodes_are = refl; records_are = refl; more_is = e; alone = inl refl }
parts_follow [] [] (q ∷ qs) ps more one two three four e =
    let rest = records_follow (q ∷ qs) ps more three four e in
    record { nodes = []; records = rest.records; nodes_are = refl; records_are = rest.records_are; more_is = rest.more_is; alone = inr refl }
parts_follow [] (m ∷ ms) (q ∷ qs) ps more one two three four e =
    absurd (record_before_node q m (oldest_text qs ++ more) (nodes_text ms ++ (oldest_text ps ++ codes "end\n"))
    (sym (append_assoc (record_line q) (oldest_text qs) more) ∙ e ∙ append_assoc (node_line m) (nodes_text ms) (oldest_text ps ++ codes "end\n")))
parts_follow (n ∷ ns) [] qs [] more one two three four e =
    let (rest, is) = node_head n (nodes_text ns ++ (oldest_text qs ++ more)) in
    let whole : 110 ∷ rest ≡ codes "end\n" = sym is ∙ sym (append_assoc (node_line n) (nodes_text ns) (oldest_text qs ++ more)) ∙ e in
    let first = heads_same 110 101 _ _ whole in absurd (omega (arith, first))
parts_follow (n ∷ ns) [] qs (p ∷ ps) more one two three four e =
    absurd (record_before_node p n (oldest_text ps ++ codes "end\n") (nodes_text ns ++ (oldest_text qs ++ more))
    (sym (append_assoc (record_line p) (oldest_text ps) (codes "end\n")) ∙ sym e ∙ append_assoc (node_line n) (nodes_text ns) (oldest_text qs ++ more)))
parts_follow (n ∷ ns) (m ∷ ms) qs ps more one two three four e =
    let whole = sym (append_assoc (node_line n) (nodes_text ns) (oldest_text qs ++ more)) ∙ e
    ∙ append_assoc (node_line m) (nodes_text ms) (oldest_text ps ++ codes "end\n") in
    let (same, behind) = node_same n m (nodes_text ns ++ (oldest_text qs ++ more)) (nodes_text ms ++ (oldest_text ps ++ codes "end\n")) one.0 two.0 whole in
    let rest = parts_follow ns ms qs ps more one.1 two.1 three four behind in
    record {
      nodes = rest.nodes;
      records = rest.records;
      nodes_are = ap (λ k. k ∷ ms) (sym same) ∙ ap (λ ks. n ∷ ks) rest.nodes_are;
      records_are = rest.records_are;
      more_is = rest.more_is;
      alone = rest.alone;
    }

-- ---- the nodes of a recording

pub height_low : (d : Descriptor) → IsDescriptor d → height_of d ≤ 20
height_low d is =
    let size = chunk_size_range d.chunk is.chunk_size in
    let range = chunk_count_range d.size d.chunk (omega arith) is.content_size in
    height_bound (chunks_of d) (height_is (chunks_of d) range.0 range.1) range.1

pub some_node : (d : Descriptor) (n : KnownNode) → IsDescriptor d → IsKnownNode d n → IsSomeNode n
some_node d n is known =
    let low = height_low d is in
    let layer = known.in_tree.layer in
    let offset = known.in_tree.offset in
    let less : height_of d - n.layer ≤ 20 = omega arith in
    let base : 1 ≤ 2 = omega arith in
    let most : 2 ^ (height_of d - n.layer) ≤ 2 ^ 20 = pow-le-pow_right base less in
    record { layer = omega arith; offset = omega arith; size = known.size; bytes = known.bytes }

pub some_nodes : (d : Descriptor) (ns : List KnownNode) → IsDescriptor d → AreKnownNodes d ns → AreSomeNodes ns
some_nodes d [] is known = tt
some_nodes d (n ∷ ns) is known = (some_node d n is known.0, some_nodes d ns is known.1)

-- ---- the descriptor's line

method_clear : (byte : ℕ) (d : Descriptor) → byte < 48 → IsClear byte (decimal (method_number d.method))
method_clear byte d low = let small = method_below d.method in number_clear byte (method_number d.method) low (omega arith)

letter_clear : (c : ℕ) (xs : List ℕ) → 10 < c → IsClear 10 xs → IsClear 10 (c ∷ xs)
letter_clear c xs high rest = one_clear 10 c xs (λ same. omega (arith, high, same)) rest

pub descriptor_lacks : (d : Descriptor) → IsDescriptor d → IsBytes d.root → Lacks 10 (descriptor_text d)
unfolding descriptor_text
descriptor_lacks d is all =
    let chunk = chunk_size_range d.chunk is.chunk_size in
    let size = content_size_range d.chunk d.size is.chunk_size is.content_size in
    let colon = letter_clear 58 [] (omega arith) (none_clear 10) in
    (both_clear 10 _ _ (both_clear 10 _ _ (both_clear 10 _ _ (both_clear 10 _ _ (both_clear 10 _ _ (both_clear 10 _ _ (both_clear 10 _ _ letters
    (record { all = encoded_lacks 10 d.root (omega arith) all })) colon) (number_clear 10 d.chunk (omega arith) (omega arith))) colon)
    (number_clear 10 d.size (omega arith) (omega arith))) colon) (method_clear 10 d (omega arith))).all
  where
    letters : IsClear 10 (codes "ppspp1:")
    letters = letter_clear 112 _ (omega arith) (letter_clear 112 _ (omega arith) (letter_clear 115 _ (omega arith) (letter_clear 112 _ (omega arith)
        (letter_clear 112 _ (omega arith) (letter_clear 49 _ (omega arith) (letter_clear 58 _ (omega arith) (none_clear 10)))))))

-- ---- one recording and another

front_flat : (r : Recorded) (more : List ℕ) → front_text r ++ more
    ≡ codes "ppspp-recording 1\n" ++ (descriptor_text r.descriptor ++ 10 ∷ (nodes_text r.nodes ++ (records_text r.records ++ more)))
unfolding front_text
front_flat r more = simp append_assoc

pub record Follows (r s : Recorded) (more : List ℕ) : Type 0 where
  pub descriptor : s.descriptor ≡ r.descriptor
  pub nodes : List KnownNode
  pub records : List Record
  pub nodes_are : s.nodes ≡ r.nodes ++ nodes
  pub records_are : s.records ≡ reverse records ++ r.records
  pub more_is : more ≡ nodes_text nodes ++ (oldest_text records ++ codes "end\n")
  pub alone : (r.records ≡ []) ⊎ (nodes ≡ [])
  pub some_nodes : AreSomeNodes nodes
  pub kept_records : AreKeptRecords records

none_reversed : (rs : List Record) (ns : List KnownNode) → (reverse rs ≡ []) ⊎ (ns ≡ []) → (rs ≡ []) ⊎ (ns ≡ [])
none_reversed rs ns (inl none) = inl (sym (reverse-reverse rs) ∙ ap (λ qs. reverse qs) none)
none_reversed rs ns (inr none) = inr none

later_nodes : (ns ms : List KnownNode) → AreSomeNodes (ns ++ ms) → AreSomeNodes ms
later_nodes [] ms all = all
later_nodes (n ∷ ns) ms all = later_nodes ns ms all.1

later_records : (qs ps : List Record) → AreKeptRecords (qs ++ ps) → AreKeptRecords ps
later_records [] ps all = all
later_records (q ∷ qs) ps all = later_records qs ps all.1

newest_first : (rs ss qs : List Record) → reverse ss ≡ reverse rs ++ qs → ss ≡ reverse qs ++ rs
newest_first rs ss qs e =
    sym (reverse-reverse ss) ∙ ap (λ ts. reverse ts) e ∙ reverse-append (reverse rs) qs ∙ ap (λ ts. reverse qs ++ ts) (reverse-reverse rs)

pub follows : (r s : Recorded) (more : List ℕ) → IsRecording r → IsRecording s → front_text r ++ more ≡ recording_text s → Follows r s more
unfolding recording_text
follows r s more one two e =
    let rest_r : List ℕ = nodes_text r.nodes ++ (records_text r.records ++ more) in
    let rest_s : List ℕ = nodes_text s.nodes ++ (records_text s.records ++ codes "end\n") in
    let whole = append_cancel_left (codes "ppspp-recording 1\n") (descriptor_text r.descriptor ++ 10 ∷ rest_r) (descriptor_text s.descriptor ++ 10 ∷ rest_s)
    (sym (front_flat r more) ∙ e ∙ front_flat s (codes "end\n")) in
    let (texts, behind) = split_same 10 (descriptor_text r.descriptor) rest_r (descriptor_text s.descriptor) rest_s
    (descriptor_lacks r.descriptor one.descriptor one.root) (descriptor_lacks s.descriptor two.descriptor two.root) whole in
    let same = descriptor_same s.descriptor r.descriptor (descriptor_text s.descriptor) two.descriptor one.descriptor two.root one.root refl (sym texts) in
    let parts = parts_follow r.nodes s.nodes (reverse r.records) (reverse s.records) more
    (some_nodes r.descriptor r.nodes one.descriptor one.nodes) (some_nodes s.descriptor s.nodes two.descriptor two.nodes)
    (kept_reverse r.records one.records) (kept_reverse s.records two.records)
    (ap (λ t. nodes_text r.nodes ++ (t ++ more)) (sym (oldest_first r.records)) ∙ behind
    ∙ ap (λ t. nodes_text s.nodes ++ (t ++ codes "end\n")) (oldest_first s.records)) in
    record {
      descriptor = same;
      nodes = parts.nodes;
      records = parts.records;
      nodes_are = parts.nodes_are;
      records_are = newest_first r.records s.records parts.records parts.records_are;
      more_is = parts.more_is;
      alone = none_reversed r.records parts.nodes parts.alone;
      some_nodes = later_nodes r.nodes parts.nodes (subst (λ ns. AreSomeNodes ns) parts.nodes_are (some_nodes s.descriptor s.nodes two.descriptor two.nodes));
      kept_records = later_records (reverse r.records) parts.records
          (subst (λ qs. AreKeptRecords qs) parts.records_are (kept_reverse s.records two.records));
    }

-- the text determines the recording
pub text_determines : (r s : Recorded) → IsRecording r → IsRecording s → recording_text r ≡ recording_text s → r ≡ s
unfolding recording_text
text_determines r s one two e =
    let f = follows r s (codes "end\n") one two e in
    go f.nodes f.records f.nodes_are f.records_are f.more_is
  where
    go : (ns : List KnownNode) (qs : List Record) → s.nodes ≡ r.nodes ++ ns → s.records ≡ reverse qs ++ r.records
        → codes "end\n" ≡ nodes_text ns ++ (oldest_text qs ++ codes "end\n") → r ≡ s
    go [] [] nodes records more =
        let f = follows r s (codes "end\n") one two e in
        ap (λ (d : Descriptor). record { descriptor = d; nodes = r.nodes; records = r.records }) (sym f.descriptor)
        ∙ ap (λ (ns : List KnownNode). record { descriptor = s.descriptor; nodes = ns; records = r.records }) (sym (nodes ∙ append-nil r.nodes))
        ∙ ap (λ (qs : List Record). record { descriptor = s.descriptor; nodes = s.nodes; records = qs }) (sym records)
    go [] (q ∷ qs) nodes records more =
        let (head, rest, is, high) = record_head q (oldest_text qs ++ codes "end\n") in
        let same = heads_same 101 head _ rest (more ∙ append_assoc (record_line q) (oldest_text qs) (codes "end\n") ∙ is) in absurd (omega (arith, high, same))
    go (n ∷ ns) qs nodes records more =
        let (rest, is) = node_head n (nodes_text ns ++ (oldest_text qs ++ codes "end\n")) in
        let same = heads_same 101 110 _ rest (more ∙ append_assoc (node_line n) (nodes_text ns) (oldest_text qs ++ codes "end\n") ∙ is) in absurd (omega (arith, same))
