-- A run of `seed`, from what its parts do.
use Rattle.std.proofs.Common.{◌≡◌, ℕ, ◌<◌, Bool, true, false, List, [], ◌∷◌, ◌++◌, length, Result, Ok, Err, OnOk, codes, decimal, append_assoc, refl, sym, ◌∙◌, subst}
use Rattle.std.specs.Prelude.{count_by, slice_index_or}
use Rattle.std.proofs.lemmas.List.{get_or_default}
use Rattle.pp_terms.specs.Count.{HasCause}
use Rattle.pp_terms.specs.command.Report.{SaysHeld, held_line, disk_fault_line, link_fault_line, SaysReport}
use Rattle.pp_terms.specs.command.Stream.{SinkState, Gains}
use Rattle.pp_terms.specs.command.Tally.{Tally, tally_text}
use Rattle.pp_promises.specs.Missing.{incomplete_line}
use Rattle.pp_peer.specs.Standing.{Beginning}
use Rattle.pp_core.specs.Peers.{PeerState}
use Rattle.pp_core.specs.Turning.{Closes}
use Rattle.pp_node.specs.Seeding.{Service, set_of, told_of, NamesFirst, Judges, Finishes, Serves, ReportsSeed}
use Rattle.pp_node.specs.Text.{Says}
use Rattle.pp_turns.specs.Taking.{IsSized, TakesAll, StopsIn, Ends}
use Rattle.pp_turns.specs.Turning.{Post}
use Rattle.pp_node.specs.declared.status.Status.{Status}
use Rattle.pp_node.specs.declared.preparing.SeedFault.{SeedFault}
use Rattle.pp_node.specs.declared.status.Status.TheVariants.{Done, Usage, NotAStore, Incomplete, DiskFault, LinkFault, SourceFault, SinkFault, NotEmpty, ContentSize, Schedule, Memory, Damaged, AuditNo, Recording, NoLife, TooLarge, Shape}
use Rattle.pp_node.proofs.Lines.{says}
use Rattle.pp_stream.proofs.Written.{gains_more}

pub report_said : {T E : Type 0} (set : List Bool) (tally : Tally) (old mid new : SinkState) (result : Result T E) → SaysHeld set old mid
    → OnOk result (Gains mid.taken (tally_text tally) new.taken) → OnOk result (SaysReport set tally old new)
report_said set tally old mid new (Ok x) held counted = record {
  ranges = held.ranges;
  are = held.are;
  gained = gains_more old.taken mid.taken new.taken (held_line (count_by (λ b. b) set) (length set) held.ranges) (tally_text tally) held.gained counted;
}
report_said set tally old mid new (Err e) held counted = tt

pub link_fault_is : codes "link fault\n" ≡ link_fault_line
unfolding link_fault_line
link_fault_is = refl

pub reports_seed : (f other : SeedFault) (status : Status) (old new : SinkState) → f ≡ other → ReportsSeed other status old new → ReportsSeed f status old new
reports_seed f other status old new is reported = subst (λ (x : SeedFault). ReportsSeed x status old new) (sym is) reported

pub incomplete_is : (n : ℕ) → codes "incomplete: first missing chunk " ++ decimal n ++ codes "\n" ≡ incomplete_line n
unfolding incomplete_line
incomplete_is n = sym (append_assoc (codes "incomplete: first missing chunk ") (decimal n) (10 ∷ []))

index_or : (set : List Bool) (i : ℕ) → i < length set → slice_index_or set i true ≡ false → slice_index_or set i false ≡ false
index_or set i within is = get_or_default set i false true within ∙ is

-- what a fetch names
pub names_first : {T E : Type 0} (set : List Bool) (first : ℕ) (text : List ℕ) (old new : SinkState) (result : Result T E) → first < length set
    → slice_index_or set first true ≡ false → ((k : ℕ) → k < first → slice_index_or set k false ≡ true) → text ≡ incomplete_line first
    → OnOk result (Gains old.taken text new.taken) → HasCause old.faults new.faults result → NamesFirst set old new
names_first set first text old new result within missing before is gained cause = record {
  first = first;
  within = within;
  missing = index_or set first within missing;
  before = before;
  said = says (incomplete_line first) text old new result is gained cause;
}

-- ---- behind the report

pub finishes_on : (status : Status) (service : Service) (p : PeerState) (old mid new : SinkState) → SaysReport (set_of p) (told_of service.earlier p) old mid
    → Judges status service.fetches p mid new → Finishes status service p old new
finishes_on Done service p old mid new said j = (j.1, subst (SaysReport (set_of p) (told_of service.earlier p) old) (sym j.0) said)
finishes_on Incomplete service p old mid new said j = (j.0, record { between = mid; reported = said; names = j.1 })
finishes_on Usage service p old mid new said j = absurd j
finishes_on NotAStore service p old mid new said j = absurd j
finishes_on DiskFault service p old mid new said j = absurd j
finishes_on LinkFault service p old mid new said j = absurd j
finishes_on SourceFault service p old mid new said j = absurd j
finishes_on SinkFault service p old mid new said j = absurd j
finishes_on NotEmpty service p old mid new said j = absurd j
finishes_on ContentSize service p old mid new said j = absurd j
finishes_on Schedule service p old mid new said j = absurd j
finishes_on Memory service p old mid new said j = absurd j
finishes_on Damaged service p old mid new said j = absurd j
finishes_on AuditNo service p old mid new said j = absurd j
finishes_on Recording service p old mid new said j = absurd j
finishes_on NoLife service p old mid new said j = absurd j
finishes_on TooLarge service p old mid new said j = absurd j
finishes_on Shape service p old mid new said j = absurd j

module _ (service : Service) (b : Beginning) (first mid last : Post) (old new : SinkState) (takes : TakesAll b service.most service.fetches first mid)
    (closes : Closes mid.peer last.peer mid.link last.link mid.disk) (disk : last.disk ≡ mid.disk) (sized : IsSized last.peer) where
  ends_so : Ends b service.most service.fetches first last
  ends_so = record { mid = mid; takes = takes; closes = closes; disk = disk; sized = sized }

  pub serves_on : (status : Status) → Finishes status service last.peer old new → Serves status service b first last old new
  serves_on Done f = (ends_so, f)
  serves_on Incomplete f = (ends_so, f)
  serves_on SinkFault f = (ends_so, f)
  serves_on Usage f = absurd f
  serves_on NotAStore f = absurd f
  serves_on DiskFault f = absurd f
  serves_on LinkFault f = absurd f
  serves_on SourceFault f = absurd f
  serves_on NotEmpty f = absurd f
  serves_on ContentSize f = absurd f
  serves_on Schedule f = absurd f
  serves_on Memory f = absurd f
  serves_on Damaged f = absurd f
  serves_on AuditNo f = absurd f
  serves_on Recording f = absurd f
  serves_on NoLife f = absurd f
  serves_on TooLarge f = absurd f
  serves_on Shape f = absurd f

pub stops_on : (status : Status) (service : Service) (b : Beginning) (first last : Post) (old new : SinkState) → status ≡ DiskFault
    → StopsIn b service.most first last → Says disk_fault_line old new → Serves status service b first last old new
stops_on status service b first last old new is stops said =
    subst (λ (s : Status). Serves s service b first last old new) (sym is) (stops, said)
