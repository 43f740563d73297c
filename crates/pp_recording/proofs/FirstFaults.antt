-- The first faulty line of a text.
use Rattle.std.proofs.Common.{◌≡◌, ◌≢◌, ◌⊎◌, ℕ, zero, suc, ◌+◌, ◌*◌, ◌^◌, ◌<◌, ◌≤◌, Bool, true, false, List, [], ◌∷◌, ◌++◌, length, replicate, codes, All, refl, sym, ◌∙◌, ap, subst, inl, inr, arith, append_assoc}
use Rattle.std.proofs.lemmas.Bool.{cases_lt}
use Rattle.std.proofs.lemmas.List.{append_cancel_left, length-append}
use Rattle.hex.specs.Hex.{IsBytes}
use Rattle.pp_terms.specs.format.Descriptor.{Descriptor, Bin32, descriptor_text, IsDescriptor}
use Rattle.pp_terms.specs.format.Traffic.{Record}
use Rattle.pp_recording.specs.Spelling.{KnownNode}
use Rattle.pp_recording.specs.Recording.{Recorded, nodes_text, records_text, front_text, recording_text, most_text, IsRecording, AreLines, BeginsRecording, IsFirstFault}
use Rattle.pp_recording.specs.Drafts.{drafted, IsDraft, GoesOn, IsTaken}
use Rattle.pp_recording.specs.Reading.{IsReading}
use Rattle.pp_recording.specs.declared.draft.Draft.{Draft}
use Rattle.pp_recording.proofs.Splits.{Lacks, lacks_none, split_same, next_line, lines_more, lines_long, lacks_end}
use Rattle.pp_recording.proofs.LineTexts.{node_head, record_head, heads_same}
use Rattle.pp_recording.proofs.Partings.{Follows, follows, oldest_text, descriptor_lacks}
use Rattle.pp_recording.proofs.AddressWords.{IsClear, one_clear, none_clear}

-- ---- lines that begin a recording

regroup : (front row rest : List ℕ) → (front ++ row ++ 10 ∷ []) ++ rest ≡ front ++ (row ++ 10 ∷ rest)
regroup front row rest = simp append_assoc

begins_less : (text front rest left : List ℕ) (n m : ℕ) (r : Recorded) → m ≤ n → text ≡ front ++ rest → AreLines n front → IsRecording r
    → recording_text r ≡ front ++ left → BeginsRecording text m
begins_less text front rest left zero m r low split lines kept spelled =
    let same : zero ≡ m = omega arith in
    record { recorded = r; front = front; rest = rest; more = left; kept = kept; split = split; lines = subst (λ (k : ℕ). AreLines k front) same lines; spelled = spelled }
begins_less text front rest left (suc n) m r low split (before, row, is, clean, lines) kept spelled = elim (cases_lt m (suc n)) [
  | inl less ↦ begins_less text before (row ++ 10 ∷ rest) (row ++ 10 ∷ left) n m r (omega (arith, less))
      (split ∙ ap (λ (t : List ℕ). t ++ rest) is ∙ regroup before row rest) lines kept
      (spelled ∙ ap (λ (t : List ℕ). t ++ left) is ∙ regroup before row left)
  | inr not ↦ (let same : suc n ≡ m = omega (arith, not, low) in
      record { recorded = r; front = front; rest = rest; more = left; kept = kept; split = split; lines = subst (λ (k : ℕ). AreLines k front) same (before, row, is, clean, lines); spelled = spelled })
]

-- no recording's text goes on with the next line of the rest
abbrev pub IsStuck : List ℕ → List ℕ → Type 0
IsStuck front rest = (s : Recorded) (row more left : List ℕ) → IsRecording s → Lacks 10 row → rest ≡ row ++ 10 ∷ more
    → recording_text s ≡ front ++ (row ++ 10 ∷ left) → ⊥

pub fault_behind : (text front rest left : List ℕ) (n : ℕ) (r : Recorded) → length text ≤ most_text → text ≡ front ++ rest → AreLines n front
    → IsRecording r → recording_text r ≡ front ++ left → IsStuck front rest
    → ((s : Recorded) → IsRecording s → front ++ rest ≡ recording_text s → ⊥) → IsFirstFault text (suc n)
fault_behind text front rest left n r low split lines kept spelled stuck never = record {
  none = λ s within e. never s within.kept (sym split ∙ e);
  long = λ high. absurd (omega (arith, high, low));
  early = λ short m less. begins_less text front rest left n m r (omega (arith, less)) split lines kept spelled;
  here = λ short b.
      let (row, clean, rest_is, more_is) = next_line n front rest b.front b.rest lines b.lines (sym split ∙ b.split) in
      stuck b.recorded row b.rest b.more b.kept clean rest_is
      (b.spelled ∙ ap (λ (t : List ℕ). t ++ b.more) more_is ∙ regroup front row b.more);
}

pub too_long : (text : List ℕ) → most_text < length text → IsFirstFault text 0
too_long text high = record {
  none = λ s within e. let short = within.short in let size : length text ≡ length (recording_text s) = ap (λ (t : List ℕ). length t) e in omega (arith, high, short, size);
  long = λ same. refl;
  early = λ short m less. absurd (omega (arith, less));
  here = λ short b. omega (arith, short, high);
}

-- ---- the first two lines

sample : Recorded
sample = record { descriptor = record { root = replicate 32 0; chunk = 1024; size = 1; method = Bin32 }; nodes = []; records = [] }

zeros : (n : ℕ) → IsBytes (replicate n 0)
zeros zero = λ i. omega arith
zeros (suc n) = λ i. elim i as (λ j. Rattle.std.proofs.Common.get_or (replicate (suc n) 0) j 0 < 256) [ zero ↦ omega arith | suc j ↦ zeros n j ]

sample_kept : IsRecording sample
unfolding sample
sample_kept = record {
  descriptor = record {
    root_length = refl;
    chunk_size = record { exponent = 10; least = omega arith; greatest = omega arith; power = refl };
    content_size = record { some = omega arith; within = omega arith };
  };
  root = zeros 32;
  nodes = tt;
  rising = tt;
  few_nodes = omega arith;
  records = tt;
  few_records = omega arith;
}

abbrev first_row : List ℕ
first_row = codes "ppspp-recording 1"

letter : (c : ℕ) (xs : List ℕ) → 10 < c → IsClear 10 xs → IsClear 10 (c ∷ xs)
letter c xs high rest = one_clear 10 c xs (λ same. omega (arith, high, same)) rest

first_lacks : Lacks 10 first_row
first_lacks = (letter 112 _ (omega arith) (letter 112 _ (omega arith) (letter 115 _ (omega arith) (letter 112 _ (omega arith) (letter 112 _ (omega arith)
    (letter 45 _ (omega arith) (letter 114 _ (omega arith) (letter 101 _ (omega arith) (letter 99 _ (omega arith) (letter 111 _ (omega arith)
    (letter 114 _ (omega arith) (letter 100 _ (omega arith) (letter 105 _ (omega arith) (letter 110 _ (omega arith) (letter 103 _ (omega arith)
    (letter 32 _ (omega arith) (letter 49 _ (omega arith) (none_clear 10)))))))))))))))))).all

first_rest : Recorded → List ℕ
first_rest s = descriptor_text s.descriptor ++ 10 ∷ (nodes_text s.nodes ++ (records_text s.records ++ codes "end\n"))

text_flat : (s : Recorded) → recording_text s ≡ codes "ppspp-recording 1\n" ++ first_rest s
unfolding recording_text front_text first_rest
text_flat s = simp append_assoc

text_first : (s : Recorded) → recording_text s ≡ first_row ++ 10 ∷ first_rest s
text_first s = text_flat s

pub first_fault : (text : List ℕ) → length text ≤ most_text
    → ((row more : List ℕ) → Lacks 10 row → text ≡ row ++ 10 ∷ more → row ≡ codes "ppspp-recording 1" → ⊥) → IsFirstFault text 1
first_fault text low other =
    fault_behind text [] text (recording_text sample) 0 sample low refl refl sample_kept refl
    (λ s row more left kept clean is e. other row more clean is (split_same 10 row left first_row (first_rest s) clean first_lacks (sym e ∙ text_first s)).0)
    (λ s kept e. other first_row (first_rest s) first_lacks (e ∙ text_first s) refl)

first_line : AreLines 1 (codes "ppspp-recording 1\n")
first_line = ([], first_row, refl, first_lacks, refl)

second_rest : Recorded → List ℕ
second_rest s = nodes_text s.nodes ++ (records_text s.records ++ codes "end\n")

rest_is : (s : Recorded) → first_rest s ≡ descriptor_text s.descriptor ++ 10 ∷ second_rest s
unfolding first_rest second_rest
rest_is s = refl

row_is : (s : Recorded) (row left : List ℕ) → IsRecording s → Lacks 10 row → row ++ 10 ∷ left ≡ first_rest s → row ≡ descriptor_text s.descriptor
row_is s row left kept clean e = (split_same 10 row left (descriptor_text s.descriptor) (second_rest s) clean
    (descriptor_lacks s.descriptor kept.descriptor kept.root) (e ∙ rest_is s)).0

pub second_fault : (text rest : List ℕ) → length text ≤ most_text → text ≡ codes "ppspp-recording 1\n" ++ rest
    → ((row more : List ℕ) → Lacks 10 row → rest ≡ row ++ 10 ∷ more → (d : Descriptor) → IsDescriptor d → IsBytes d.root → row ≡ descriptor_text d → ⊥)
    → IsFirstFault text 2
second_fault text rest low split other =
    fault_behind text (codes "ppspp-recording 1\n") rest (first_rest sample) 1 sample low split first_line sample_kept (text_flat sample)
    (λ s row more left kept clean is e.
    let whole = append_cancel_left (codes "ppspp-recording 1\n") (row ++ 10 ∷ left) (first_rest s) (sym e ∙ text_flat s) in
    other row more clean is s.descriptor kept.descriptor kept.root (row_is s row left kept clean whole))
    (λ s kept e.
    let whole = append_cancel_left (codes "ppspp-recording 1\n") rest (first_rest s) (e ∙ text_flat s) in
    other (descriptor_text s.descriptor) (second_rest s) (descriptor_lacks s.descriptor kept.descriptor kept.root) (whole ∙ rest_is s)
    s.descriptor kept.descriptor kept.root refl)

-- ---- the lines behind them

draft_text : (r : Recorded) → recording_text r ≡ front_text r ++ codes "end\n"
unfolding recording_text
draft_text r = refl

abbrev behind_all : List KnownNode → List Record → List ℕ
behind_all ns qs = nodes_text ns ++ (oldest_text qs ++ codes "end\n")

ends_so : (ns : List KnownNode) (qs : List Record) → behind_all ns qs ≡ (nodes_text ns ++ (oldest_text qs ++ codes "end")) ++ 10 ∷ []
ends_so ns qs = simp append_assoc

follows_text : (d : Draft) (s : Recorded) (more : List ℕ) → IsDraft d → IsRecording s → front_text (drafted d) ++ more ≡ recording_text s
    → Follows (drafted d) s more
follows_text d s more is kept e = follows (drafted d) s more is.kept kept e

pub no_line : (text rest : List ℕ) (d : Draft) (line : ℕ) → length text ≤ most_text → IsReading text d rest line → Lacks 10 rest → IsFirstFault text line
no_line text rest d line low is none = subst (λ (n : ℕ). IsFirstFault text n) (sym is.number)
    (fault_behind text (front_text (drafted d)) rest (codes "end\n") is.before (drafted d) low is.split is.lines is.draft.kept (draft_text (drafted d))
    (λ s row more left kept clean rest_is e. lacks_none 10 rest row more none rest_is)
    (λ s kept e. let f = follows_text d s rest is.draft kept e in
    lacks_none 10 rest (nodes_text f.nodes ++ (oldest_text f.records ++ codes "end")) [] none (f.more_is ∙ ends_so f.nodes f.records)))

row_regroup : (row rest : List ℕ) → row ++ 10 ∷ rest ≡ (row ++ codes "\n") ++ rest
row_regroup row rest = sym (append_assoc row (codes "\n") rest)

pub line_refused : (text rest row behind : List ℕ) (d : Draft) (line : ℕ) → length text ≤ most_text → IsReading text d rest line
    → rest ≡ row ++ 10 ∷ behind → Lacks 10 row → (GoesOn (front_text (drafted d)) (row ++ codes "\n") → ⊥) → IsFirstFault text line
line_refused text rest row behind d line low is split clean never = subst (λ (n : ℕ). IsFirstFault text n) (sym is.number)
    (fault_behind text (front_text (drafted d)) rest (codes "end\n") is.before (drafted d) low is.split is.lines is.draft.kept (draft_text (drafted d))
    (λ s row2 more left kept clean2 rest_is e.
    let same = (split_same 10 row2 more row behind clean2 clean (sym rest_is ∙ split)).0 in
    never (record {
      recording = s;
      rest = left;
      kept = kept;
      text = e ∙ ap (λ (t : List ℕ). front_text (drafted d) ++ (t ++ 10 ∷ left)) same ∙ ap (λ (t : List ℕ). front_text (drafted d) ++ t) (row_regroup row left);
    }))
    (λ s kept e. never (record {
      recording = s;
      rest = behind;
      kept = kept;
      text = sym e ∙ ap (λ (t : List ℕ). front_text (drafted d) ++ t) (split ∙ row_regroup row behind);
    })))

pub line_taken : (text rest row behind : List ℕ) (d e : Draft) (line : ℕ) → IsReading text d rest line → rest ≡ row ++ 10 ∷ behind → Lacks 10 row
    → IsTaken d (row ++ codes "\n") e → IsReading text e behind (line + 1)
line_taken text rest row behind d e line is split clean taken =
    let number = is.number in
    record {
      before = suc is.before;
      number = omega (arith, number);
      draft = taken.draft;
      split = is.split ∙ ap (λ (t : List ℕ). front_text (drafted d) ++ t) (split ∙ row_regroup row behind)
          ∙ sym (append_assoc (front_text (drafted d)) (row ++ codes "\n") behind) ∙ ap (λ (t : List ℕ). t ++ behind) (sym taken.text);
      lines = (front_text (drafted d), row, taken.text ∙ sym (append_assoc (front_text (drafted d)) row (codes "\n")), clean, is.lines);
    }

pub line_low : (text rest : List ℕ) (d : Draft) (line : ℕ) → length text ≤ most_text → IsReading text d rest line → line ≤ 16777217
line_low text rest d line low is =
    let long = lines_long is.before (front_text (drafted d)) is.lines in
    let size : length text ≡ length (front_text (drafted d)) + length rest =
    ap (λ (t : List ℕ). length t) is.split ∙ length-append (front_text (drafted d)) rest in
    let number = is.number in omega (arith, long, size, number, low)

-- ---- the last line

after_end : (ns : List KnownNode) (qs : List Record) (x : List ℕ) → codes "end\n" ++ x ≡ behind_all ns qs → x ≡ []
after_end [] [] x e = append_cancel_left (codes "end\n") x [] e
after_end [] (q ∷ qs) x e =
    let (head, rest, is, high) = record_head q (oldest_text qs ++ codes "end\n") in
    let same = heads_same 101 head _ rest (e ∙ append_assoc _ (oldest_text qs) (codes "end\n") ∙ is) in absurd (omega (arith, high, same))
after_end (n ∷ ns) qs x e =
    let (rest, is) = node_head n (behind_all ns qs) in
    let same = heads_same 101 110 _ rest (e ∙ append_assoc _ (nodes_text ns) (oldest_text qs ++ codes "end\n") ∙ is) in absurd (omega (arith, same))

nothing_behind : (d : Draft) (s : Recorded) (x : List ℕ) → IsDraft d → IsRecording s → front_text (drafted d) ++ (codes "end\n" ++ x) ≡ recording_text s → x ≡ []
nothing_behind d s x is kept e = let f = follows_text d s (codes "end\n" ++ x) is kept e in after_end f.nodes f.records x f.more_is

pub whole_text : (text rest row behind : List ℕ) (d : Draft) (line : ℕ) → IsReading text d rest line → rest ≡ row ++ 10 ∷ behind → row ≡ codes "end"
    → behind ≡ [] → text ≡ recording_text (drafted d)
whole_text text rest row behind d line is split word none =
    is.split ∙ ap (λ (t : List ℕ). front_text (drafted d) ++ t) (split ∙ ap (λ (t : List ℕ). t ++ 10 ∷ behind) word ∙ ap (λ (t : List ℕ). codes "end\n" ++ t) none)
    ∙ sym (draft_text (drafted d))

pub line_behind_end : (text rest row behind : List ℕ) (d : Draft) (line : ℕ) → length text ≤ most_text → IsReading text d rest line
    → rest ≡ row ++ 10 ∷ behind → row ≡ codes "end" → 0 < length behind → IsFirstFault text (line + 1)
line_behind_end text rest row behind d line low is split word some =
    let front : List ℕ = front_text (drafted d) ++ codes "end" ++ 10 ∷ [] in
    let whole : (x : List ℕ) → front ++ x ≡ front_text (drafted d) ++ (codes "end\n" ++ x) = regroup (front_text (drafted d)) (codes "end") in
    let split2 : text ≡ front ++ behind =
    is.split ∙ ap (λ (t : List ℕ). front_text (drafted d) ++ t) (split ∙ ap (λ (t : List ℕ). t ++ 10 ∷ behind) word) ∙ sym (whole behind) in
    let lines = lines_more is.before (front_text (drafted d)) (codes "end") is.lines lacks_end in
    let spelled : recording_text (drafted d) ≡ front ++ [] = draft_text (drafted d) ∙ sym (whole []) in
    let number = is.number in
    let next : suc (suc is.before) ≡ line + 1 = omega (arith, number) in
    subst (λ (n : ℕ). IsFirstFault text n) next
    (fault_behind text front behind [] (suc is.before) (drafted d) low split2 lines is.draft.kept spelled
    (λ s row2 more left kept clean2 rest_is e.
    let none = nothing_behind d s (row2 ++ 10 ∷ left) is.draft kept (sym (whole (row2 ++ 10 ∷ left)) ∙ sym e) in
    let size : length row2 + suc (length left) ≡ 0 = sym (length-append row2 (10 ∷ left)) ∙ ap (λ (t : List ℕ). length t) none in omega (arith, size))
    (λ s kept e.
    let none = nothing_behind d s behind is.draft kept (sym (whole behind) ∙ e) in
    let size : length behind ≡ 0 = ap (λ (t : List ℕ). length t) none in omega (arith, size, some)))

-- ---- the first draft

pub first_reading : (text rest row behind : List ℕ) (d : Draft) (descriptor : Descriptor) → text ≡ codes "ppspp-recording 1\n" ++ rest
    → rest ≡ row ++ 10 ∷ behind → row ≡ descriptor_text descriptor → IsDescriptor descriptor → IsBytes descriptor.root → IsDraft d
    → front_text (drafted d) ≡ codes "ppspp-recording 1\n" ++ descriptor_text descriptor ++ codes "\n" → IsReading text d behind 3
first_reading text rest row behind d descriptor first split word valid all is front = record {
  before = 2;
  number = refl;
  draft = is;
  split = first ∙ ap (λ (t : List ℕ). codes "ppspp-recording 1\n" ++ t) (split ∙ ap (λ (t : List ℕ). t ++ 10 ∷ behind) word)
      ∙ sym (regroup (codes "ppspp-recording 1\n") (descriptor_text descriptor) behind) ∙ ap (λ (t : List ℕ). t ++ behind) (sym front);
  lines = (codes "ppspp-recording 1\n", descriptor_text descriptor, front, descriptor_lacks descriptor valid all, first_line);
}
