-- The lines of the peers at a replay's end, and what a text that was read says.
use Rattle.std.proofs.Common.{◌≡◌, ◌⊎◌, inl, inr, Some, ℕ, zero, suc, ◌+◌, ◌<◌, ◌≤◌, Bool, Option, List, [], ◌∷◌, ◌++◌, length, map, codes, decimal, refl, sym, ◌∙◌, ap, subst, arith}
use Rattle.std.proofs.Math.ListN.{get_or}
use Rattle.std.proofs.lemmas.Bool.{cases_lt, lt-leb}
use Rattle.std.proofs.lemmas.List.{append-nil, append_assoc, length-take-le, map-append, take_all}
use Rattle.std.specs.Prelude.{Result, Ok, Err, OnOk, min, take}
use Rattle.std.specs.List.{AllByRecursion}
use Rattle.pp_terms.specs.command.Report.{AreRanges, ranges_text}
use Rattle.pp_terms.specs.command.Stream.{SourceState, SinkState, Gains}
use Rattle.pp_terms.specs.format.Descriptor.{chunks_of}
use Rattle.pp_terms.specs.tree.Range.{Span}
use Rattle.pp_world.specs.Outcome as terms
use Rattle.pp_world.specs.Outcome.{AreLines, IsEndOf, peer_line}
use Rattle.pp_world.specs.Schedule.{most_text}
use Rattle.pp_world.specs.ScheduleFault.{ScheduleFault, Long, fault, kind_text, schedule_line}
use Rattle.pp_world.specs.ScheduleRead.{◌>>=◌, read_first, read_schedule, rows_of, wants}
use Rattle.pp_world.specs.World.{PeerState}
use Rattle.pp_outcome.specs.Outcome.{end_as}
use Rattle.pp_outcome.specs.declared.outcome.PeerEnd.{PeerEnd}
use Rattle.pp_play.specs.Replaying.{ShowEnds}
use Rattle.pp_node.specs.Held.{HasRanges}
use Rattle.pp_node.specs.Replaying.{PlaysText, ReplaysIn}
use Rattle.pp_node.specs.declared.status.Status.{Status}
use Rattle.pp_node.specs.declared.status.Status.TheVariants.{Done, Usage, NotAStore, Incomplete, DiskFault, LinkFault, SourceFault, SinkFault, NotEmpty, ContentSize, Schedule as NoSchedule, Memory, Damaged, AuditNo, Recording as NoRecording, NoLife, TooLarge, Shape}
use Rattle.pp_node.specs.Shown.{HasLine, HasLines, numbers_of}
use Rattle.pp_stream.proofs.Written.{gains-nil, gains_more}

-- ---- lines

-- one more line
lines_more : (first : ℕ) (peers : List terms.PeerEnd) (x : terms.PeerEnd) (ranges : List Span) (text : List ℕ) → AreLines first peers text → AreRanges x.held ranges
    → AreLines first (peers ++ x ∷ []) (text ++ peer_line (first + length peers) x ranges)
lines_more first [] x ranges text are is =
    let place : first + zero ≡ first = omega arith in (
      ranges,
      [],
      is,
      ap (λ (t : List ℕ). t ++ peer_line (first + zero) x ranges) are ∙ ap (λ (n : ℕ). peer_line n x ranges) place
          ∙ sym (append-nil (peer_line first x ranges)),
      refl,
    )
lines_more first (y ∷ ys) x ranges text are is =
    let place : first + 1 + length ys ≡ first + suc (length ys) = omega arith in
    let more = lines_more (first + 1) ys x ranges are.1 are.4 is in (
      are.0,
      are.1 ++ peer_line (first + suc (length ys)) x ranges,
      are.2,
      ap (λ (t : List ℕ). t ++ peer_line (first + suc (length ys)) x ranges) are.3 ∙ append_assoc (peer_line first y are.0) are.1 (peer_line (first + suc (length ys)) x ranges),
      subst (λ (n : ℕ). AreLines (first + 1) (ys ++ x ∷ []) (are.1 ++ peer_line n x ranges)) place more,
    )

-- Some peers' lines were put, and no fault was counted less than before.
pub record ArePut (ends : List PeerEnd) (old new : SinkState) : Type 0 where
  pub put : HasLines ends old new
  pub later : old.faults ≤ new.faults

pub put_none : (state : SinkState) → ArePut [] state state
put_none state = record { put = record { lines = []; are = refl; gained = gains-nil state.taken }; later = omega arith }

pub put_more : (ends : List PeerEnd) (end : PeerEnd) (old mid new : SinkState) → ArePut ends old mid → HasLine (length ends) end mid new → mid.faults ≤ new.faults
    → ArePut (ends ++ end ∷ []) old new
put_more ends end old mid new put one later =
    let count : length (map numbers_of ends) ≡ length ends = length-map_numbers ends in
    let place : zero + length (map numbers_of ends) ≡ length ends = (let n = count in omega (arith, n)) in record {
      put = record {
        lines = put.put.lines ++ peer_line (length ends) (numbers_of end) one.ranges;
        are = subst (λ (ps : List terms.PeerEnd). AreLines 0 ps (put.put.lines ++ peer_line (length ends) (numbers_of end) one.ranges))
            (sym (map-append numbers_of ends (end ∷ [])))
            (subst (λ (n : ℕ). AreLines 0 (map numbers_of ends ++ numbers_of end ∷ []) (put.put.lines ++ peer_line n (numbers_of end) one.ranges)) place
            (lines_more 0 (map numbers_of ends) (numbers_of end) one.ranges put.put.lines put.put.are one.are));
        gained = gains_more old.taken mid.taken new.taken put.put.lines (peer_line (length ends) (numbers_of end) one.ranges) put.put.gained one.gained;
      };
      later = (let before = put.later in omega (arith, before, later));
    }
  where
    length-map_numbers : (es : List PeerEnd) → length (map numbers_of es) ≡ length es
    length-map_numbers [] = refl
    length-map_numbers (e ∷ es) = ap (λ (n : ℕ). suc n) (length-map_numbers es)

-- no line tells of a peer's state
same_line : (p : ℕ) (x : PeerState) (e : PeerEnd) (ranges : List Span) → peer_line p (numbers_of e) ranges ≡ peer_line p (end_as x e) ranges
unfolding peer_line
same_line p x e ranges = refl

-- the peers have the numbers that were put
pub lines_shown : (first : ℕ) (ends : List PeerEnd) (peers : List terms.PeerEnd) (text : List ℕ) → ShowEnds ends peers → AreLines first (map numbers_of ends) text
    → AreLines first peers text
lines_shown first [] [] text show are = are
lines_shown first [] (e ∷ es) text show are = absurd show
lines_shown first (end ∷ ends) [] text show are = absurd show
lines_shown first (end ∷ ends) (e ∷ es) text show are = (
  are.0,
  are.1,
  subst (λ (x : terms.PeerEnd). AreRanges x.held are.0) (sym show.0.numbers) are.2,
  are.3 ∙ ap (λ (t : List ℕ). t ++ are.1) (same_line first e.state end are.0 ∙ ap (λ (x : terms.PeerEnd). peer_line first x are.0) (sym show.0.numbers)),
  lines_shown (first + 1) ends es are.1 show.1 are.4,
)

-- the sets of all peers have as many chunks as the content
pub sizes : (d : _) (chunks : ℕ) (ends : List PeerEnd) (peers : List terms.PeerEnd) → ShowEnds ends peers → AllByRecursion (IsEndOf d) peers → chunks ≡ chunks_of d
    → AllByRecursion (λ end. length end.held ≡ chunks) ends
sizes d chunks [] peers show are is = tt
sizes d chunks (end ∷ ends) [] show are is = absurd show
sizes d chunks (end ∷ ends) (e ∷ es) show are is =
    (ap (λ (x : terms.PeerEnd). length x.held) (sym show.0.numbers) ∙ are.0.size ∙ sym is, sizes d chunks ends es show.1 are.1 is)

-- ---- what is said

pub fault_said : {T E : Type 0} (f : ScheduleFault) (old a b new : Option (List ℕ)) (result : Result T E)
    → Gains old (codes "schedule: line " ++ decimal f.line ++ codes ": ") a → Gains a (kind_text f.kind) b → OnOk result (Gains b (10 ∷ []) new)
    → OnOk result (Gains old (schedule_line f) new)
unfolding schedule_line
fault_said f old a b new (Ok x) one two three =
    gains_more old b new (codes "schedule: line " ++ decimal f.line ++ codes ": " ++ kind_text f.kind) (10 ∷ [])
    (gains_more old a b (codes "schedule: line " ++ decimal f.line ++ codes ": ") (kind_text f.kind) one two) three
fault_said f old a b new (Err e) one two three = tt

pub end_said : {T E : Type 0} (p : ℕ) (end : PeerEnd) (old a b c d new : SinkState) (result : Result T E)
    → Gains old.taken (codes "peer " ++ decimal p ++ codes " lives ") a.taken
    → Gains a.taken (decimal (length end.remains.lives.items) ++ codes " announced ") b.taken
    → Gains b.taken (decimal end.announced ++ codes " held ") c.taken → HasRanges end.held c d → OnOk result (Gains d.taken (10 ∷ []) new.taken)
    → OnOk result (HasLine p end old new)
unfolding peer_line
end_said p end old a b c d new (Ok x) one two three ranges last =
    let head : List ℕ = codes "peer " ++ decimal p ++ codes " lives " in
    let lives : List ℕ = decimal (length end.remains.lives.items) in
    let count : List ℕ = decimal end.announced in
    let first : Gains old.taken (head ++ lives ++ codes " announced ") b.taken =
    subst (λ (t : List ℕ). Gains old.taken t b.taken) (sym (append_assoc head lives (codes " announced ")))
    (gains_more old.taken a.taken b.taken head (lives ++ codes " announced ") one two) in
    let second : Gains old.taken (head ++ lives ++ codes " announced " ++ count ++ codes " held ") c.taken =
    subst (λ (t : List ℕ). Gains old.taken t c.taken) (sym (append_assoc (head ++ lives ++ codes " announced ") count (codes " held ")))
    (gains_more old.taken b.taken c.taken (head ++ lives ++ codes " announced ") (count ++ codes " held ") first three) in
    record {
      ranges = ranges.ranges;
      are = ranges.are;
      gained = gains_more old.taken d.taken new.taken (head ++ lives ++ codes " announced " ++ count ++ codes " held " ++ ranges_text ranges.ranges) (10 ∷ [])
          (gains_more old.taken c.taken d.taken (head ++ lives ++ codes " announced " ++ count ++ codes " held ") (ranges_text ranges.ranges) second ranges.gained) last;
    }
end_said p end old a b c d new (Err e) one two three ranges last = tt

pub at_index : (chunks : ℕ) (ends : List PeerEnd) (i : ℕ) (end : PeerEnd) → AllByRecursion (λ e. length e.held ≡ chunks) ends → i < length ends → end ≡ get_or ends i end
    → length end.held ≡ chunks
at_index chunks [] i end all within is = absurd (omega (arith, within))
at_index chunks (e ∷ ends) zero end all within is = ap (λ (x : PeerEnd). length x.held) is ∙ all.0
at_index chunks (e ∷ ends) (suc i) end all within is = at_index chunks ends i end all.1 (omega (arith, within)) is

-- ---- a text that was read

long_text : (text : List ℕ) → most_text < length text → read_schedule text ≡ Err (fault 0 Long)
unfolding read_schedule
long_text text long = ap (λ (b : Bool). wants b (fault 0 Long) >>= λ fits. read_first (rows_of text)) (lt-leb (length text) most_text long)

-- what was read of a text, up to a byte more than it may have, is read as the text is
pub read_as : (content : List ℕ) (n : ℕ) → n ≡ min (length content) (most_text + 1) → read_schedule content ≡ read_schedule (take n content)
read_as content n is = of (cases_lt most_text (length content))
  where
    of : (most_text < length content) ⊎ (length content ≤ most_text) → read_schedule content ≡ read_schedule (take n content)
    of (inr few) = ap read_schedule (sym (take_all n content (omega (arith, is, few))))
    of (inl many) =
        let size : length (take n content) ≡ n = length-take-le n content (omega (arith, is)) in
        long_text content many ∙ sym (long_text (take n content) (omega (arith, is, many, size)))

-- the end of a run whose text was read
pub ends_read : (text : List ℕ) (status : Status) (source source' : SourceState) (old new : SinkState)
    → ((content : List ℕ) → source.left ≡ Some content → read_schedule content ≡ read_schedule text) → PlaysText text status old new
    → ReplaysIn status source source' old new
ends_read text Memory source source' old new same plays = plays
ends_read text SourceFault source source' old new same plays = absurd plays
ends_read text Done source source' old new same plays = record { text = text; same = same; plays = plays }
ends_read text Usage source source' old new same plays = record { text = text; same = same; plays = plays }
ends_read text AuditNo source source' old new same plays = record { text = text; same = same; plays = plays }
ends_read text NoRecording source source' old new same plays = record { text = text; same = same; plays = plays }
ends_read text NoLife source source' old new same plays = record { text = text; same = same; plays = plays }
ends_read text TooLarge source source' old new same plays = record { text = text; same = same; plays = plays }
ends_read text Shape source source' old new same plays = record { text = text; same = same; plays = plays }
ends_read text NotAStore source source' old new same plays = record { text = text; same = same; plays = plays }
ends_read text Incomplete source source' old new same plays = record { text = text; same = same; plays = plays }
ends_read text DiskFault source source' old new same plays = record { text = text; same = same; plays = plays }
ends_read text LinkFault source source' old new same plays = record { text = text; same = same; plays = plays }
ends_read text SinkFault source source' old new same plays = record { text = text; same = same; plays = plays }
ends_read text NotEmpty source source' old new same plays = record { text = text; same = same; plays = plays }
ends_read text ContentSize source source' old new same plays = record { text = text; same = same; plays = plays }
ends_read text NoSchedule source source' old new same plays = record { text = text; same = same; plays = plays }
ends_read text Damaged source source' old new same plays = record { text = text; same = same; plays = plays }
