-- What a line does to a draft.
use Rattle.std.proofs.Common.{◌≡◌, ◌⊎◌, ℕ, suc, ◌+◌, ◌^◌, ◌<◌, ◌≤◌, Bool, true, false, None, List, [], ◌∷◌, ◌++◌, length, take, drop, map, reverse, codes, Vec, Global, refl, sym, ◌∙◌, ap, subst, inl, inr, arith, append_assoc}
use Rattle.std.proofs.lemmas.Bool.{cases_lt}
use Rattle.std.proofs.lemmas.List.{append-nil, take_all, drop_at, length-append, length-reverse, length-map, reverse-append}
use Rattle.hex.specs.Hex.{IsBytes}
use Rattle.pp_terms.specs.format.Descriptor.{Descriptor, descriptor_text, height_of, IsDescriptor}
use Rattle.std.specs.Prelude.{Result, Ok, Err, IfOk}
use Rattle.pp_terms.specs.format.Traffic as terms
use Rattle.pp_terms.specs.format.Traffic.{Record}
use Rattle.pp_outside.specs.Outside.{address_of}
use Rattle.pp_outside.specs.declared.link.Address.{Address}
use Rattle.pp_recording.specs.declared.recording.Entry.TheVariants as entries
use Rattle.pp_tree.specs.Book.{BookState, entry, IsInTree, IsPreparedFor, IsEntered}
use Rattle.pp_tree.specs.declared.node.Node.{Node}
use Rattle.pp_recording.specs.Spelling.{hex_text, KnownNode, node_line, record_line}
use Rattle.pp_recording.specs.Recording.{Recorded, nodes_of, nodes_text, records_text, AreRising, IsBefore, IsKnownNode, AreKnownNodes, IsPeerAddress, IsKeptRecord, AreKeptRecords, most_bytes, IsRecording, front_text}
use Rattle.pp_recording.specs.State.{record_of, records_of, Fill}
use Rattle.pp_recording.specs.Lines.{IsHex, IsSomeNode, SaysNothing}
use Rattle.pp_recording.specs.Drafts.{AreAbsentFrom, drafted, IsFrom, IsDraft, MayCome, HasNode, HasRecord, GoesOn, IsTaken, TakesNode, TakesRecord, Takes}
use Rattle.pp_recording.specs.declared.draft.Draft.{Draft}
use Rattle.pp_recording.specs.declared.recording.Entry.{Entry}
use Rattle.pp_recording.proofs.Splits.{Lacks, split_same, lacks_end}
use Rattle.pp_recording.proofs.NodeTexts.{nodes_text-append}
use Rattle.pp_recording.proofs.NodeOrder.{lowest_nodes-same, nodes_entered}
use Rattle.pp_recording.proofs.Risings.{nodes_rise, known_append}
use Rattle.pp_recording.proofs.Fillings.{records_more, fill_more}
use Rattle.pp_recording.proofs.LineTexts.{hex_same, node_same, record_same, node_head, record_head, heads_same, node_is_line, record_is_line}
use Rattle.pp_recording.proofs.Partings.{Follows, follows, oldest_text, AreSomeNodes}

-- ---- a record is taken

front_more : (before rs : List ℕ) (q : Record) → before ++ (rs ++ record_line q) ≡ (before ++ rs) ++ record_line q
front_more before rs q = sym (append_assoc before rs (record_line q))

records_count : (bytes : List ℕ) (es : List Entry) → length (records_of bytes es) ≡ length es
records_count bytes es = length-reverse (map (record_of bytes) es) ∙ length-map es (record_of bytes)

record_front : (d : Descriptor) (ns : List KnownNode) (rs ss : List Record) (q : Record) → rs ≡ q ∷ ss
    → front_text (record { descriptor = d; nodes = ns; records = rs }) ≡ front_text (record { descriptor = d; nodes = ns; records = ss }) ++ record_line q
unfolding front_text
record_front d ns rs ss q is =
    ap (λ (qs : List Record). codes "ppspp-recording 1\n" ++ descriptor_text d ++ codes "\n" ++ nodes_text ns ++ records_text qs) is
    ∙ front_more (codes "ppspp-recording 1\n" ++ descriptor_text d ++ codes "\n" ++ nodes_text ns) (records_text ss) q

pub record_taken : (old : Draft) (entries : Vec Entry Global) (bytes : Vec ℕ Global) (e : Entry) (more : List ℕ) → IsDraft old
    → entries.items ≡ old.entries.items ++ e ∷ [] → bytes.items ≡ old.bytes.items ++ more
    → Fill (length old.bytes.items) (e ∷ []) (length old.bytes.items + length more) → IsKeptRecord (record_of (old.bytes.items ++ more) e)
    → length old.entries.items < 16384
    → IsTaken old (record_line (record_of (old.bytes.items ++ more) e))
    (record { descriptor = old.descriptor; book = old.book; nodes = old.nodes; layer = old.layer; offset = old.offset; entries = entries; bytes = bytes })
record_taken old entries bytes e more is entries_are bytes_are fills kept few =
    let q = record_of (old.bytes.items ++ more) e in
    let records : records_of bytes.items entries.items ≡ q ∷ records_of old.bytes.items old.entries.items =
    ap (λ (b : List ℕ). records_of b entries.items) bytes_are ∙ ap (λ (es : List Entry). records_of (old.bytes.items ++ more) es) entries_are
    ∙ records_more old.bytes.items more old.entries.items e is.filled in
    let size : length old.bytes.items + length more ≡ length bytes.items =
    sym (ap (λ (b : List ℕ). length b) bytes_are ∙ length-append old.bytes.items more) in
    let filled = fill_more old.entries.items e 0 (length old.bytes.items) (length old.bytes.items + length more) is.filled fills in
    let count = records_count old.bytes.items old.entries.items in
    let count2 : length (records_of bytes.items entries.items) ≡ suc (length (records_of old.bytes.items old.entries.items)) =
    ap (λ (qs : List Record). length qs) records in
    record {
      draft = record {
        book = is.book;
        absent = is.absent;
        filled = subst (λ (n : ℕ). Fill 0 entries.items n) size
            (subst (λ (es : List Entry). Fill 0 es (length old.bytes.items + length more)) (sym entries_are) filled);
        kept = record {
          descriptor = is.kept.descriptor;
          root = is.kept.root;
          nodes = is.kept.nodes;
          rising = is.kept.rising;
          few_nodes = is.kept.few_nodes;
          records = subst (λ (qs : List Record). AreKeptRecords qs) (sym records) (kept, is.kept.records);
          few_records = omega (arith, count, count2, few);
        };
        count = is.count;
        next = is.next;
      };
      text = record_front old.descriptor (nodes_of old.descriptor (entry old.book)) (records_of bytes.items entries.items)
          (records_of old.bytes.items old.entries.items) q records;
    }

pub record_refused : (old : Draft) (q : Record) → IsDraft old → 16384 ≤ length old.entries.items → HasRecord (drafted old) q → ⊥
record_refused old q is full has =
    let count = records_count old.bytes.items old.entries.items in
    let sizes : length has.recording.records ≡ length has.later + suc (length (records_of old.bytes.items old.entries.items)) =
    ap (λ (qs : List Record). length qs) has.records ∙ length-append has.later (q ∷ records_of old.bytes.items old.entries.items) in
    let most = has.kept.few_records in omega (arith, full, count, sizes, most)

-- ---- a node is taken

next_after : (ns ms : List KnownNode) (n m : KnownNode) → AreRising ((ns ++ n ∷ []) ++ m ∷ ms) → IsBefore n m
next_after [] ms n m rise = rise.0
next_after (a ∷ []) ms n m rise = next_after [] ms n m rise.1
next_after (a ∷ b ∷ ns) ms n m rise = next_after (b ∷ ns) ms n m rise.1

from_before : (n m : KnownNode) → IsBefore n m → IsFrom n.layer (n.offset + 1) m.layer m.offset
from_before n m (inl low) = inl low
from_before n m (inr both) = inr (both.0, omega (arith, both.1))

absent_at : (old : Draft) (k j : ℕ) → IsDraft old → IsFrom old.layer old.offset k j → AreAbsentFrom (entry old.book) k j
absent_at old k j is (inl low) = record {
  here = λ i le. is.absent.above k i low;
  above = λ l i lt. is.absent.above l i (omega (arith, low, lt));
}
absent_at old k j is (inr both) = record {
  here = λ i le. subst (λ (l : ℕ). entry old.book l i ≡ None) both.0 (is.absent.here i (omega (arith, both.1, le)));
  above = λ l i lt. is.absent.above l i (omega (arith, both.0, lt));
}

node_front : (d : Descriptor) (ns ms : List KnownNode) (rs : List Record) (n : KnownNode) → ns ≡ ms ++ n ∷ [] → rs ≡ []
    → front_text (record { descriptor = d; nodes = ns; records = rs }) ≡ front_text (record { descriptor = d; nodes = ms; records = rs }) ++ node_line n
unfolding front_text
node_front d ns ms rs n is none =
    let head : List ℕ = codes "ppspp-recording 1\n" ++ descriptor_text d ++ codes "\n" in
    ap (λ (qs : List Record). head ++ nodes_text ns ++ records_text qs) none
    ∙ append-nil (head ++ nodes_text ns)
    ∙ ap (λ (ks : List KnownNode). head ++ nodes_text ks) is
    ∙ ap (λ (t : List ℕ). head ++ t) (nodes_text-append ms (n ∷ []))
    ∙ ap (λ (t : List ℕ). head ++ (nodes_text ms ++ t)) (append-nil (node_line n))
    ∙ sym (append_assoc head (nodes_text ms) (node_line n))
    ∙ ap (λ (t : List ℕ). t ++ node_line n) (sym (append-nil (head ++ nodes_text ms)))
    ∙ ap (λ (qs : List Record). (head ++ nodes_text ms ++ records_text qs) ++ node_line n) (sym none)

pub node_taken : (old : Draft) (book : BookState) (node : Node) (digest : List ℕ) → IsDraft old → MayCome old node
    → IsEntered node.layer node.offset digest (entry old.book) (entry book) → IsPreparedFor old.descriptor book → length digest ≡ 32 → IsBytes digest
    → IsTaken old (node_line (record { layer = node.layer; offset = node.offset; digest = digest }))
    (record { descriptor = old.descriptor; book = book; nodes = old.nodes + 1; layer = node.layer; offset = node.offset + 1; entries = old.entries; bytes = old.bytes })
node_taken old book node digest is may entered prepared size bytes =
    let n : KnownNode = record { layer = node.layer; offset = node.offset; digest = digest } in
    let absent = absent_at old node.layer node.offset is may.behind in
    let nodes : nodes_of old.descriptor (entry book) ≡ nodes_of old.descriptor (entry old.book) ++ n ∷ [] =
    nodes_entered (entry old.book) (entry book) (height_of old.descriptor) node.layer node.offset digest may.in_tree.layer may.in_tree.offset absent
    entered.entry_is entered.others in
    let count : length (nodes_of old.descriptor (entry book)) ≡ length (nodes_of old.descriptor (entry old.book)) + 1 =
    ap (λ (ns : List KnownNode). length ns) nodes ∙ length-append (nodes_of old.descriptor (entry old.book)) (n ∷ []) in
    let few = may.few in
    let counted = is.count in
    let none : records_of old.bytes.items old.entries.items ≡ [] = ap (λ (es : List Entry). records_of old.bytes.items es) may.first in
    record {
      draft = record {
        book = prepared;
        absent = record {
          here = λ i le. entered.others node.layer i (λ both. absurd (omega (arith, le, both.1))) ∙ absent.here i (omega (arith, le));
          above = λ l i lt. entered.others l i (λ both. absurd (omega (arith, lt, both.0))) ∙ absent.above l i lt;
        };
        filled = is.filled;
        kept = record {
          descriptor = is.kept.descriptor;
          root = is.kept.root;
          nodes = subst (λ (ns : List KnownNode). AreKnownNodes old.descriptor ns) (sym nodes)
              (known_append old.descriptor (nodes_of old.descriptor (entry old.book)) (n ∷ []) is.kept.nodes
              (record { in_tree = may.in_tree; size = size; bytes = bytes }, tt));
          rising = nodes_rise old.descriptor (entry book);
          few_nodes = omega (arith, count, few, counted);
          records = is.kept.records;
          few_records = is.kept.few_records;
        };
        count = omega (arith, count, counted);
        next = λ m ms rise. from_before n m (next_after (nodes_of old.descriptor (entry old.book)) ms n m
            (subst (λ (ns : List KnownNode). AreRising (ns ++ m ∷ ms)) nodes rise));
      };
      text = node_front old.descriptor (nodes_of old.descriptor (entry book)) (nodes_of old.descriptor (entry old.book))
          (records_of old.bytes.items old.entries.items) n nodes none;
    }

known_at : (d : Descriptor) (ns ms : List KnownNode) (n : KnownNode) → AreKnownNodes d (ns ++ n ∷ ms) → IsKnownNode d n
known_at d [] ms n all = all.0
known_at d (a ∷ ns) ms n all = known_at d ns ms n all.1

no_items : (es : List Entry) → length es ≡ 0 → es ≡ []
no_items [] e = refl
no_items (x ∷ es) e = absurd (omega arith)

pub node_refused : (old : Draft) (node : Node) (digest : List ℕ) → IsDraft old → (MayCome old node → ⊥)
    → HasNode (drafted old) (record { layer = node.layer; offset = node.offset; digest = digest }) → ⊥
node_refused old node digest is never has =
    let n : KnownNode = record { layer = node.layer; offset = node.offset; digest = digest } in
    let nodes = nodes_of old.descriptor (entry old.book) in
    let counted = is.count in
    let count = records_count old.bytes.items old.entries.items in
    let none : length (records_of old.bytes.items old.entries.items) ≡ 0 = ap (λ (qs : List Record). length qs) has.first in
    let sizes : length has.recording.nodes ≡ length nodes + suc (length has.later) =
    ap (λ (ns : List KnownNode). length ns) has.nodes ∙ length-append nodes (n ∷ has.later) in
    let most = has.kept.few_nodes in
    let known = known_at has.recording.descriptor nodes has.later n
    (subst (λ (ns : List KnownNode). AreKnownNodes has.recording.descriptor ns) has.nodes has.kept.nodes) in
    never (record {
      first = no_items old.entries.items (omega (arith, count, none));
      few = omega (arith, counted, sizes, most);
      in_tree = subst (λ (d : Descriptor). IsInTree d node.layer node.offset) has.descriptor known.in_tree;
      behind = is.next n has.later (subst (λ (ns : List KnownNode). AreRising ns) has.nodes has.kept.rising);
    })

-- ---- the first draft

first_from : (k j : ℕ) → IsFrom 0 0 k j
first_from k j = elim (cases_lt 0 k) [ inl low ↦ inl low | inr none ↦ inr (omega (arith, none), omega arith) ]

first_front : (d : Descriptor) (ns : List KnownNode) (rs : List Record) → ns ≡ [] → rs ≡ []
    → front_text (record { descriptor = d; nodes = ns; records = rs }) ≡ codes "ppspp-recording 1\n" ++ descriptor_text d ++ codes "\n"
unfolding front_text
first_front d ns rs none none2 =
    let head : List ℕ = codes "ppspp-recording 1\n" ++ descriptor_text d ++ codes "\n" in
    ap (λ (qs : List Record). head ++ nodes_text ns ++ records_text qs) none2
    ∙ append-nil (head ++ nodes_text ns)
    ∙ ap (λ (ks : List KnownNode). head ++ nodes_text ks) none
    ∙ append-nil head

abbrev pub first_draft : Descriptor → BookState → Vec Entry Global → Vec ℕ Global → Draft
first_draft d book entries bytes = record { descriptor = d; book = book; nodes = 0; layer = 0; offset = 0; entries = entries; bytes = bytes }

none_known : (d : Descriptor) (book : BookState) → ((k j : ℕ) → entry book k j ≡ None) → nodes_of d (entry book) ≡ []
none_known d book absent = lowest_nodes-same (entry book) (height_of d) 0 (suc (height_of d)) (omega arith) (λ l i le. absent l i)

pub first_is_draft : (d : Descriptor) (book : BookState) (entries : Vec Entry Global) (bytes : Vec ℕ Global) → IsDescriptor d → IsBytes d.root
    → IsPreparedFor d book → ((k j : ℕ) → entry book k j ≡ None) → entries.items ≡ [] → bytes.items ≡ [] → IsDraft (first_draft d book entries bytes)
first_is_draft d book entries bytes is all prepared absent no_entries no_bytes =
    let nodes = none_known d book absent in
    let records : records_of bytes.items entries.items ≡ [] = ap (λ (es : List Entry). records_of bytes.items es) no_entries in
    let no_nodes : length (nodes_of d (entry book)) ≡ 0 = ap (λ (ns : List KnownNode). length ns) nodes in
    let no_records : length (records_of bytes.items entries.items) ≡ 0 = ap (λ (qs : List Record). length qs) records in
    let size : 0 ≡ length bytes.items = sym (ap (λ (b : List ℕ). length b) no_bytes) in
    record {
      book = prepared;
      absent = record { here = λ i le. absent 0 i; above = λ l i lt. absent l i };
      filled = subst (λ (es : List Entry). Fill 0 es (length bytes.items)) (sym no_entries) size;
      kept = record {
        descriptor = is;
        root = all;
        nodes = subst (λ (ns : List KnownNode). AreKnownNodes d ns) (sym nodes) tt;
        rising = nodes_rise d (entry book);
        few_nodes = omega (arith, no_nodes);
        records = subst (λ (qs : List Record). AreKeptRecords qs) (sym records) tt;
        few_records = omega (arith, no_records);
      };
      count = sym no_nodes;
      next = λ n ns rise. first_from n.layer n.offset;
    }

pub first_text : (d : Descriptor) (book : BookState) (entries : Vec Entry Global) (bytes : Vec ℕ Global) → ((k j : ℕ) → entry book k j ≡ None)
    → entries.items ≡ [] → front_text (drafted (first_draft d book entries bytes)) ≡ codes "ppspp-recording 1\n" ++ descriptor_text d ++ codes "\n"
first_text d book entries bytes absent no_entries =
    first_front d (nodes_of d (entry book)) (records_of bytes.items entries.items) (none_known d book absent)
    (ap (λ (es : List Entry). records_of bytes.items es) no_entries)

-- ---- lines that go on

abbrev behind_all : List KnownNode → List Record → List ℕ
behind_all ns qs = nodes_text ns ++ (oldest_text qs ++ codes "end\n")

node_first_of : (n : KnownNode) (ns : List KnownNode) (qs : List Record) → behind_all (n ∷ ns) qs ≡ node_line n ++ behind_all ns qs
node_first_of n ns qs = append_assoc (node_line n) (nodes_text ns) (oldest_text qs ++ codes "end\n")

record_first_of : (q : Record) (qs : List Record) → behind_all [] (q ∷ qs) ≡ record_line q ++ behind_all [] qs
record_first_of q qs = append_assoc (record_line q) (oldest_text qs) (codes "end\n")

goes_behind : (old : Draft) (line : List ℕ) → IsDraft old → (g : GoesOn (front_text (drafted old)) line) → Follows (drafted old) g.recording (line ++ g.rest)
goes_behind old line is g = follows (drafted old) g.recording (line ++ g.rest) is.kept g.kept (sym g.text)

no_node_head : (n : KnownNode) (x xs : List ℕ) (c : ℕ) → (110 ≡ c → ⊥) → node_line n ++ x ≡ c ∷ xs → ⊥
no_node_head n x xs c other e = let (rest, is) = node_head n x in other (heads_same 110 c rest xs (sym is ∙ e))

no_record_head : (q : Record) (x xs : List ℕ) (c : ℕ) → c ≤ 110 → record_line q ++ x ≡ c ∷ xs → ⊥
no_record_head q x xs c low e =
    let (head, rest, is, high) = record_head q x in
    let same = heads_same head c rest xs (sym is ∙ e) in omega (arith, low, high, same)

node_not_record : (n : KnownNode) (q : Record) (x y : List ℕ) → record_line q ++ x ≡ node_line n ++ y → ⊥
node_not_record n q x y e = let (rest, is) = node_head n y in no_record_head q x rest 110 (omega arith) (e ∙ is)

pub has_node : (r : Recorded) (g : Recorded) (n : KnownNode) (rest : List ℕ) → IsSomeNode n → IsRecording g → Follows r g (node_line n ++ rest) → HasNode r n
has_node r g n rest is kept f = go f.nodes f.records f.nodes_are f.more_is f.alone f.some_nodes
  where
    go : (ns : List KnownNode) (qs : List Record) → g.nodes ≡ r.nodes ++ ns → node_line n ++ rest ≡ behind_all ns qs → (r.records ≡ []) ⊎ (ns ≡ [])
        → AreSomeNodes ns → HasNode r n
    go [] [] are more alone some = absurd (no_node_head n rest _ 101 (λ same. omega (arith, same)) more)
    go [] (q ∷ qs) are more alone some = absurd (node_not_record n q (behind_all [] qs) rest (sym (record_first_of q qs) ∙ sym more))
    go (m ∷ ms) qs are more (inr none) some = absurd (let sizes : suc (length ms) ≡ 0 = ap (λ (ks : List KnownNode). length ks) none in omega (arith, sizes))
    go (m ∷ ms) qs are more (inl none) some =
        let (same, behind) = node_same n m rest (behind_all ms qs) is some.0 (more ∙ node_first_of m ms qs) in
        record {
          recording = g;
          later = ms;
          kept = kept;
          descriptor = f.descriptor;
          first = none;
          nodes = are ∙ ap (λ (k : KnownNode). r.nodes ++ k ∷ ms) (sym same);
        }

pub has_record : (r : Recorded) (g : Recorded) (q : Record) (rest : List ℕ) → IsKeptRecord q → IsRecording g → Follows r g (record_line q ++ rest) → HasRecord r q
has_record r g q rest is kept f = go f.nodes f.records f.records_are f.more_is f.kept_records
  where
    go : (ns : List KnownNode) (qs : List Record) → g.records ≡ reverse qs ++ r.records → record_line q ++ rest ≡ behind_all ns qs
        → AreKeptRecords qs → HasRecord r q
    go (m ∷ ms) qs are more all = absurd (node_not_record m q rest (behind_all ms qs) (more ∙ node_first_of m ms qs))
    go [] [] are more all = absurd (no_record_head q rest _ 101 (omega arith) more)
    go [] (p ∷ ps) are more all =
        let (same, behind) = record_same q p rest (behind_all [] ps) is all.0 (more ∙ record_first_of p ps) in
        record {
          recording = g;
          later = reverse ps;
          kept = kept;
          records = are ∙ ap (λ (rs : List Record). rs ++ r.records) (reverse-append (p ∷ []) ps)
              ∙ append_assoc (reverse ps) (p ∷ []) r.records ∙ ap (λ (k : Record). reverse ps ++ k ∷ r.records) (sym same);
        }

pub takes_node : (old new : Draft) (row : List ℕ) (n : KnownNode) (taken : Bool) → IsDraft old → row ++ codes "\n" ≡ node_line n → IsSomeNode n
    → TakesNode old n taken new → Takes old row taken new
takes_node old new row n true is says fine takes =
    record { draft = takes.draft; text = takes.text ∙ ap (λ (t : List ℕ). front_text (drafted old) ++ t) (sym says) }
takes_node old new row n false is says fine takes = λ g. takes (has_node (drafted old) g.recording n g.rest fine g.kept
    (subst (λ (t : List ℕ). Follows (drafted old) g.recording (t ++ g.rest)) says (goes_behind old (row ++ codes "\n") is g)))

pub takes_record : (old new : Draft) (row : List ℕ) (q : Record) (taken : Bool) → IsDraft old → row ++ codes "\n" ≡ record_line q → IsKeptRecord q
    → TakesRecord old q taken new → Takes old row taken new
takes_record old new row q true is says fine takes =
    record { draft = takes.draft; text = takes.text ∙ ap (λ (t : List ℕ). front_text (drafted old) ++ t) (sym says) }
takes_record old new row q false is says fine takes = λ g. takes (has_record (drafted old) g.recording q g.rest fine g.kept
    (subst (λ (t : List ℕ). Follows (drafted old) g.recording (t ++ g.rest)) says (goes_behind old (row ++ codes "\n") is g)))

row_regroup : (row rest : List ℕ) → (row ++ codes "\n") ++ rest ≡ row ++ 10 ∷ rest
row_regroup row rest = append_assoc row (codes "\n") rest

pub takes_nothing : (old : Draft) (row : List ℕ) → IsDraft old → Lacks 10 row → (row ≡ codes "end" → ⊥) → SaysNothing row
    → GoesOn (front_text (drafted old)) (row ++ codes "\n") → ⊥
takes_nothing old row is clean other says g =
    let f = goes_behind old (row ++ codes "\n") is g in
    go f.nodes f.records (sym (row_regroup row g.rest) ∙ f.more_is) f.some_nodes f.kept_records
  where
    go : (ns : List KnownNode) (qs : List Record) → row ++ 10 ∷ g.rest ≡ behind_all ns qs → AreSomeNodes ns
        → AreKeptRecords qs → ⊥
    go (m ∷ ms) qs more some all =
        let line = node_is_line m some.0 in
        let (same, behind) = split_same 10 row g.rest line.row (behind_all ms qs) clean line.clean
        (more ∙ node_first_of m ms qs ∙ ap (λ (t : List ℕ). t ++ behind_all ms qs) line.is ∙ row_regroup line.row (behind_all ms qs)) in
        says.node m some.0 (ap (λ (t : List ℕ). t ++ codes "\n") same ∙ sym line.is)
    go [] (p ∷ ps) more some all =
        let line = record_is_line p all.0 in
        let (same, behind) = split_same 10 row g.rest line.row (behind_all [] ps) clean line.clean
        (more ∙ record_first_of p ps ∙ ap (λ (t : List ℕ). t ++ behind_all [] ps) line.is ∙ row_regroup line.row (behind_all [] ps)) in
        says.record_of p all.0 (ap (λ (t : List ℕ). t ++ codes "\n") same ∙ sym line.is)
    go [] [] more some all = other (split_same 10 row g.rest (codes "end") [] clean lacks_end more).0

-- ---- the bytes of a datagram

pub own_bytes : (xs bytes : List ℕ) (start len : ℕ) → start ≡ length xs → len ≡ length bytes → take len (drop start (xs ++ bytes)) ≡ bytes
own_bytes xs bytes start len at size =
    ap (λ (t : List ℕ). take len t) (drop_at xs bytes start (sym at)) ∙ take_all len bytes (omega (arith, size))

pub kept_bytes : (digits bytes : List ℕ) → IsHex digits → IsBytes bytes → digits ≡ hex_text bytes → length bytes ≤ most_bytes
kept_bytes digits bytes is all e =
    let same = hex_same is.bytes bytes is.all all (sym is.text ∙ e) in
    let few = is.few in
    let size : length is.bytes ≡ length bytes = ap (λ (t : List ℕ). length t) same in omega (arith, few, size)

pub own_received : {F : Type 0} (old new : Draft) (at : ℕ) (sender : Address) (digits : List ℕ) (start len : ℕ) (r : Result Bool F) → start ≡ length old.bytes.items
    → ((bytes : List ℕ) → IsBytes bytes → digits ≡ hex_text bytes → len ≡ length bytes)
    → IfOk r (λ taken. (bytes : List ℕ) → IsBytes bytes → digits ≡ hex_text bytes
    → TakesRecord old (record_of (old.bytes.items ++ bytes) (entries.Received at sender start len)) taken new)
    → IfOk r (λ taken. (bytes : List ℕ) → IsBytes bytes → digits ≡ hex_text bytes → TakesRecord old (terms.Received at (address_of sender) bytes) taken new)
own_received old new at sender digits start len (Ok taken) place size all = λ bytes fine is.
    subst (λ (b : List ℕ). TakesRecord old (terms.Received at (address_of sender) b) taken new)
    (own_bytes old.bytes.items bytes start len place (size bytes fine is)) (all bytes fine is)
own_received old new at sender digits start len (Err e) place size all = tt

pub own_sent : {F : Type 0} (old new : Draft) (at : ℕ) (receiver : Address) (digits : List ℕ) (start len : ℕ) (r : Result Bool F) → start ≡ length old.bytes.items
    → ((bytes : List ℕ) → IsBytes bytes → digits ≡ hex_text bytes → len ≡ length bytes)
    → IfOk r (λ taken. (bytes : List ℕ) → IsBytes bytes → digits ≡ hex_text bytes
    → TakesRecord old (record_of (old.bytes.items ++ bytes) (entries.Sent at receiver start len)) taken new)
    → IfOk r (λ taken. (bytes : List ℕ) → IsBytes bytes → digits ≡ hex_text bytes → TakesRecord old (terms.Sent at (address_of receiver) bytes) taken new)
own_sent old new at receiver digits start len (Ok taken) place size all = λ bytes fine is.
    subst (λ (b : List ℕ). TakesRecord old (terms.Sent at (address_of receiver) b) taken new)
    (own_bytes old.bytes.items bytes start len place (size bytes fine is)) (all bytes fine is)
own_sent old new at receiver digits start len (Err e) place size all = tt

pub quiet_taken : {F : Type 0} (old new : Draft) (row : List ℕ) (q : Record) (r : Result Bool F) → IsDraft old → row ++ codes "\n" ≡ record_line q → IsKeptRecord q
    → IfOk r (λ taken. TakesRecord old q taken new) → IfOk r (λ taken. Takes old row taken new)
quiet_taken old new row q (Ok taken) is says fine all = takes_record old new row q taken is says fine all
quiet_taken old new row q (Err e) is says fine all = tt

pub received_taken : {F : Type 0} (old new : Draft) (row : List ℕ) (at : ℕ) (sender : terms.Address) (digits : List ℕ) (r : Result Bool F) → IsDraft old
    → ((bytes : List ℕ) → digits ≡ hex_text bytes → row ++ codes "\n" ≡ record_line (terms.Received at sender bytes)) → at < 2 ^ 64 → IsPeerAddress sender
    → IsHex digits
    → IfOk r (λ taken. (bytes : List ℕ) → IsBytes bytes → digits ≡ hex_text bytes → TakesRecord old (terms.Received at sender bytes) taken new)
    → IfOk r (λ taken. Takes old row taken new)
received_taken old new row at sender digits (Ok taken) is says low peer hexed all =
    takes_record old new row (terms.Received at sender hexed.bytes) taken is (says hexed.bytes hexed.text) (low, peer, hexed.few, hexed.all)
    (all hexed.bytes hexed.all hexed.text)
received_taken old new row at sender digits (Err e) is says low peer hexed all = tt

pub sent_taken : {F : Type 0} (old new : Draft) (row : List ℕ) (at : ℕ) (receiver : terms.Address) (digits : List ℕ) (r : Result Bool F) → IsDraft old
    → ((bytes : List ℕ) → digits ≡ hex_text bytes → row ++ codes "\n" ≡ record_line (terms.Sent at receiver bytes)) → at < 2 ^ 64 → IsPeerAddress receiver
    → IsHex digits
    → IfOk r (λ taken. (bytes : List ℕ) → IsBytes bytes → digits ≡ hex_text bytes → TakesRecord old (terms.Sent at receiver bytes) taken new)
    → IfOk r (λ taken. Takes old row taken new)
sent_taken old new row at receiver digits (Ok taken) is says low peer hexed all =
    takes_record old new row (terms.Sent at receiver hexed.bytes) taken is (says hexed.bytes hexed.text) (low, peer, hexed.few, hexed.all)
    (all hexed.bytes hexed.all hexed.text)
sent_taken old new row at receiver digits (Err e) is says low peer hexed all = tt
