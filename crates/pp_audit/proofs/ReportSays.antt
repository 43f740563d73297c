-- A text that was read to its end is what a sink was told.
use Rattle.std.proofs.Common.{◌≡◌, ◌↔◌, ℕ, Bool, Option, Some, List, [], ◌++◌, length, ◌∙◌, ap}
use Rattle.std.specs.Prelude.{count_by}
use Rattle.pp_terms.specs.tree.Range.{Span}
use Rattle.pp_terms.specs.command.Report.{held_line, SaysHeld, SaysReport}
use Rattle.pp_terms.specs.command.Tally.{Tally, tally_text}
use Rattle.pp_promises.specs.Missing.{incomplete_line, SaysIncomplete}
use Rattle.pp_audit.proofs.ReportRanges.{are_ranges, only_ranges}
use Rattle.pp_audit.proofs.ReportTexts.{read_whole}
use Rattle.pp_audit.specs.Reports.{took, Reads, ranges_of}

-- the line of a set with these ranges
abbrev line_of : List Bool → List Span → List ℕ
line_of set ranges = held_line (count_by (λ b. b) set) (length set) ranges

pub held_said : (set : List Bool) (text : List ℕ) (left : Option (List ℕ))
    → Reads (held_line (count_by (λ b. b) set) (length set) (ranges_of set)) (Some text) left → (left ≡ Some []) ↔ SaysHeld set (took []) (took text)
held_said set text left r =
    let whole = read_whole (line_of set (ranges_of set)) text left r in (
      λ e. record { ranges = ranges_of set; are = are_ranges set; gained = ap (λ (t : List ℕ). Some t) (whole.0 e) },
      λ s. let gained : Some text ≡ Some (line_of set s.ranges) = s.gained in
          let same : text ≡ line_of set s.ranges = cc in
          whole.1 (same ∙ ap (λ (spans : List Span). line_of set spans) (only_ranges set s.ranges s.are)),
    )

pub report_said : (set : List Bool) (tally : Tally) (text : List ℕ) (left : Option (List ℕ))
    → Reads (held_line (count_by (λ b. b) set) (length set) (ranges_of set) ++ tally_text tally) (Some text) left
    → (left ≡ Some []) ↔ SaysReport set tally (took []) (took text)
report_said set tally text left r =
    let whole = read_whole (line_of set (ranges_of set) ++ tally_text tally) text left r in (
      λ e. record { ranges = ranges_of set; are = are_ranges set; gained = ap (λ (t : List ℕ). Some t) (whole.0 e) },
      λ s. let gained : Some text ≡ Some (line_of set s.ranges ++ tally_text tally) = s.gained in
          let same : text ≡ line_of set s.ranges ++ tally_text tally = cc in
          whole.1 (same ∙ ap (λ (spans : List Span). line_of set spans ++ tally_text tally) (only_ranges set s.ranges s.are)),
    )

pub incomplete_said : (set : List Bool) (tally : Tally) (chunk : ℕ) (text : List ℕ) (left : Option (List ℕ))
    → Reads (held_line (count_by (λ b. b) set) (length set) (ranges_of set) ++ tally_text tally ++ incomplete_line chunk) (Some text) left
    → (left ≡ Some []) ↔ SaysIncomplete set tally chunk (took []) (took text)
incomplete_said set tally chunk text left r =
    let whole = read_whole (line_of set (ranges_of set) ++ tally_text tally ++ incomplete_line chunk) text left r in (
      λ e. record { ranges = ranges_of set; are = are_ranges set; gained = ap (λ (t : List ℕ). Some t) (whole.0 e) },
      λ s. let gained : Some text ≡ Some (line_of set s.ranges ++ tally_text tally ++ incomplete_line chunk) = s.gained in
          let same : text ≡ line_of set s.ranges ++ tally_text tally ++ incomplete_line chunk = cc in
          whole.1 (same ∙ ap (λ (spans : List Span). line_of set spans ++ tally_text tally ++ incomplete_line chunk)
          (only_ranges set s.ranges s.are)),
    )
