-- What the sink is told.
use Rattle.std.proofs.Common.{◌≡◌, inl, inr, ℕ, ◌<◌, ◌≤◌, Bool, length, ap, ◌∙◌, arith, Option, List, [], ◌∷◌, ◌++◌, Result, Ok, Err, OnOk, refl, sym, subst, codes, decimal, append_assoc}
use Rattle.std.specs.Prelude.{count_by, IsErr}
use Rattle.pp_terms.specs.Count.{HasCause}
use Rattle.pp_terms.specs.command.Stream.{SinkState, Gains}
use Rattle.pp_terms.specs.format.Descriptor.{Descriptor, descriptor_text}
use Rattle.pp_words.specs.Usage.{Usage, kind_text, usage_line}
use Rattle.pp_terms.specs.command.Report.{descriptor_line, disk_fault_line, source_fault_line, not_empty_line, content_size_line, not_a_store_line, held_line, ranges_text, SaysHeld}
use Rattle.pp_store.specs.declared.importing.ImportFault.{ImportFault}
use Rattle.pp_node.specs.declared.status.Status.{Status}
use Rattle.pp_node.specs.Text.{Says}
use Rattle.pp_scan.specs.declared.scanning.ScanFault.{ScanFault}
use Rattle.pp_node.specs.Run.{Reports}
use Rattle.pp_node.specs.Held.{HasRanges}
use Rattle.pp_node.specs.Checking.{ReportsScan}
use Rattle.pp_stream.proofs.Written.{gains_more}

pub says : {T E : Type 0} (text said : List ℕ) (old new : SinkState) (result : Result T E) → said ≡ text → OnOk result (Gains old.taken said new.taken)
    → HasCause old.faults new.faults result → Says text old new
says text said old new (Ok x) is gained cause = inl (subst (λ (t : List ℕ). Gains old.taken t new.taken) is gained)
says text said old new (Err e) is gained cause = inr (cause.risen refl)

pub not_empty_is : (n : ℕ) → codes "not empty: " ++ decimal n ++ codes " bytes\n" ≡ not_empty_line n
unfolding not_empty_line
not_empty_is n = sym (append_assoc (codes "not empty: " ++ decimal n) (codes " bytes") (10 ∷ []))

pub content_size_is : (n : ℕ) → codes "content size: " ++ decimal n ++ codes " bytes\n" ≡ content_size_line n
unfolding content_size_line
content_size_is n = sym (append_assoc (codes "content size: " ++ decimal n) (codes " bytes") (10 ∷ []))

pub source_fault_is : codes "source fault\n" ≡ source_fault_line
unfolding source_fault_line
source_fault_is = refl

pub disk_fault_is : codes "disk fault\n" ≡ disk_fault_line
unfolding disk_fault_line
disk_fault_is = refl

pub descriptor_said : {T E : Type 0} (d : Descriptor) (old mid new : Option (List ℕ)) (text : List ℕ) (result : Result T E) → text ≡ descriptor_text d
    → Gains old text mid → OnOk result (Gains mid (10 ∷ []) new) → OnOk result (Gains old (descriptor_line d) new)
unfolding descriptor_line
descriptor_said d old mid new text (Ok x) is first second =
    subst (λ (t : List ℕ). Gains old (t ++ 10 ∷ []) new) is (gains_more old mid new text (10 ∷ []) first second)
descriptor_said d old mid new text (Err e) is first second = tt

-- a usage line in two pieces
pub usage_said : {T E : Type 0} (u : Usage) (old mid new : Option (List ℕ)) (result : Result T E) → Gains old (codes "usage: word " ++ decimal u.word ++ codes ": ") mid
    → OnOk result (Gains mid (kind_text u.kind ++ 10 ∷ []) new) → OnOk result (Gains old (usage_line u) new)
unfolding usage_line
usage_said u old mid new (Ok x) first second =
    let front : List ℕ = codes "usage: word " ++ decimal u.word ++ codes ": " in
    subst (λ (t : List ℕ). Gains old t new) (sym (append_assoc front (kind_text u.kind) (10 ∷ [])))
    (gains_more old mid new front (kind_text u.kind ++ 10 ∷ []) first second)
usage_said u old mid new (Err e) first second = tt

pub reports : (fault other : ImportFault) (status : Status) (old new : SinkState) → fault ≡ other → Reports other status old new → Reports fault status old new
reports fault other status old new is reported = subst (λ (f : ImportFault). Reports f status old new) (sym is) reported

-- a text said in two parts
pub said_more : {T E : Type 0} (old mid new : Option (List ℕ)) (a b : List ℕ) (result : Result T E) → Gains old a mid → OnOk result (Gains mid b new) → OnOk result (Gains old (a ++ b) new)
said_more old mid new a b (Ok x) first second = gains_more old mid new a b first second
said_more old mid new a b (Err e) first second = tt

pub reports_scan : (fault other : ScanFault) (status : Status) (old new : SinkState) → fault ≡ other → ReportsScan other status old new → ReportsScan fault status old new
reports_scan fault other status old new is reported = subst (λ (f : ScanFault). ReportsScan f status old new) (sym is) reported

-- a fault after calls that went well
pub cause_later : {S T E F : Type 0} (old mid new : ℕ) (first : Result S E) (result : Result T F) → old ≤ mid → HasCause mid new first → IsErr first → HasCause old new result
cause_later old mid new first result le cause is = record {
  later = let up = cause.later in omega (arith, le, up);
  risen = λ err below. let r : mid < new = cause.risen is below in omega (arith, le, r);
}

not_a_store_put : {T E : Type 0} (at found want : ℕ) (old a b new : Option (List ℕ)) (result : Result T E)
    → Gains old (codes "not a store: byte " ++ decimal at ++ codes " is ") a → Gains a (decimal found ++ codes ", wanted ") b
    → OnOk result (Gains b (decimal want ++ 10 ∷ []) new) → OnOk result (Gains old (not_a_store_line at found want) new)
unfolding not_a_store_line
not_a_store_put at found want old a b new (Ok x) one two three =
    let front : List ℕ = codes "not a store: byte " ++ decimal at ++ codes " is " in
    let middle : List ℕ = decimal found ++ codes ", wanted " in
    subst (λ (t : List ℕ). Gains old t new)
    (sym (append_assoc (front ++ middle) (decimal want) (10 ∷ [])) ∙ ap (λ (t : List ℕ). t ++ decimal want ++ 10 ∷ []) (sym (append_assoc front (decimal found) (codes ", wanted "))))
    (gains_more old b new (front ++ middle) (decimal want ++ 10 ∷ []) (gains_more old a b front middle one two) three)
not_a_store_put at found want old a b new (Err e) one two three = tt

pub not_a_store_said : {T E : Type 0} (at found want at' found' want' : ℕ) (old a b new : Option (List ℕ)) (result : Result T E)
    → at' ≡ at → found' ≡ found → want' ≡ want
    → Gains old (codes "not a store: byte " ++ decimal at' ++ codes " is ") a → Gains a (decimal found' ++ codes ", wanted ") b
    → OnOk result (Gains b (decimal want' ++ 10 ∷ []) new) → OnOk result (Gains old (not_a_store_line at found want) new)
not_a_store_said at found want at' found' want' old a b new result at_is found_is want_is one two three =
    let same : not_a_store_line at' found' want' ≡ not_a_store_line at found want =
    ap (λ (n : ℕ). not_a_store_line n found' want') at_is ∙ ap (λ (n : ℕ). not_a_store_line at n want') found_is ∙ ap (λ (n : ℕ). not_a_store_line at found n) want_is in
    subst (λ (t : List ℕ). OnOk result (Gains old t new)) same (not_a_store_put at' found' want' old a b new result one two three)

pub held_said : {T E : Type 0} (set : List Bool) (held chunks : ℕ) (old a b c new : SinkState) (result : Result T E)
    → held ≡ count_by (λ b. b) set → chunks ≡ length set
    → Gains old.taken (codes "held " ++ decimal held ++ codes " of ") a.taken → Gains a.taken (decimal chunks ++ codes " ") b.taken
    → HasRanges set b c → OnOk result (Gains c.taken (10 ∷ []) new.taken) → OnOk result (SaysHeld set old new)
unfolding held_line
held_said set held chunks old a b c new (Ok x) held_is chunks_is one two ranges end =
    let front : List ℕ = codes "held " ++ decimal held ++ codes " of " in
    let middle : List ℕ = decimal chunks ++ codes " " in
    let shown : List ℕ = ranges_text ranges.ranges in
    record {
      ranges = ranges.ranges;
      are = ranges.are;
      gained = subst (λ (t : List ℕ). Gains old.taken t new.taken)
          (ap (λ (t : List ℕ). t ++ shown ++ 10 ∷ []) (sym (append_assoc front (decimal chunks) (codes " ")))
          ∙ ap (λ (n : ℕ). codes "held " ++ decimal n ++ codes " of " ++ decimal chunks ++ codes " " ++ shown ++ 10 ∷ []) held_is
          ∙ ap (λ (n : ℕ). codes "held " ++ decimal (count_by (λ b. b) set) ++ codes " of " ++ decimal n ++ codes " " ++ shown ++ 10 ∷ []) chunks_is)
          (gains_more old.taken c.taken new.taken (front ++ middle ++ shown) (10 ∷ [])
          (gains_more old.taken b.taken c.taken (front ++ middle) shown (gains_more old.taken a.taken b.taken front middle one two) ranges.gained) end);
    }
held_said set held chunks old a b c new (Err e) held_is chunks_is one two ranges end = tt
