-- How a run ended, from how the command ended that its words spell.
use Rattle.std.proofs.Common.{◌≡◌, ◌⊎◌, inl, inr, ℕ, ◌+◌, List, [], ◌∷◌, codes, refl, sym, ◌∙◌, subst}
use Rattle.std.specs.Prelude.{Option, Some, None}
use Rattle.pp_terms.specs.command.Order.{Order}
use Rattle.pp_terms.specs.command.Tally.{Tally}
use Rattle.pp_counts.specs.Counts.{tally_of}
use Rattle.pp_words.specs.Commands.{Command, Import, Seed, Fetch, Check, Export, Upgrade, Replay, Rehearse, Play, Record, Audit}
use Rattle.pp_words.specs.CommandLine.{Spells, IsImport, IsSeed, IsFetch, IsPlay, IsOnStore, IsOnTarget, IsRehearse, IsRecord, IsOneOf, IsFirstWrong}
use Rattle.pp_terms.specs.command.Stream.{SourceState, SinkState}
use Rattle.pp_targets.specs.Target.{SwarmName, Sized, Auto}
use Rattle.pp_words.specs.Usage as wrong
use Rattle.pp_terms.specs.disk.Disk.{DiskState, IsKnown, GainsName}
use Rattle.pp_terms.specs.format.Descriptor.{Descriptor}
use Rattle.pp_terms.specs.format.Traffic.{Address, LinkState}
use Rattle.pp_tree.specs.Book.{BookState, IsBookOf}
use Rattle.pp_words.proofs.OneCommand.{one_command}
use Rattle.pp_words.proofs.OneReading.{command_not_wrong}
use Rattle.pp_node.specs.Built.{built}
use Rattle.pp_node.specs.Run.{ImportsIn, IsImportRun, ImportEnds}
use Rattle.pp_node.specs.Looking.{IsUnwritten, Lasts}
use Rattle.pp_node.specs.Outside.{Outside, outside}
use Rattle.pp_node.specs.Checking.{ChecksIn, CheckEnds}
use Rattle.pp_node.specs.Naming.{IsTold, IsRootedByName, NamedChecksIn, NamedCheckEnds}
use Rattle.pp_node.specs.Exporting.{ExportsIn, ExportEnds}
use Rattle.pp_node.specs.NamedExporting.{NamedExportsIn, NamedExportEnds}
use Rattle.pp_node.specs.NamedSeeding.{NamedWords, UntoldIn, NamedSeedEnds}
use Rattle.pp_node.specs.Playing.{PlaysIn, PlayEnds}
use Rattle.pp_node.specs.NamedFetching.{UnbegunIn, UnlearnedIn, SoughtEnds, NamedFetchEnds, words_after, behind}
use Rattle.pp_node.specs.Promising.{PeerWords, SeedsIn, SeedEnds, FetchesIn, FetchEndsBehind, FetchEnds}
use Rattle.pp_world.specs.Rehearsal.{first_words, rehearsal_key, rehearsal_text}
use Rattle.pp_world.specs.Schedule.{most_text}
use Rattle.pp_store.specs.Import.{TakesAtMost}
use Rattle.pp_recording.specs.Recording as recordings
use Rattle.pp_node.specs.Auditing.{AuditsIn, AuditEnds}
use Rattle.pp_node.specs.Recordings.{RecordsIn, RecordEnds, streams}
use Rattle.pp_node.specs.Replaying.{PlaysText, ReplaysIn, ReplayEnds, RehearseEnds}
use Rattle.pp_node.specs.Upgrading.{UpgradesIn, IsUpgradeRun, UpgradeEnds}
use Rattle.pp_node.specs.Commanding.{HasEnded}
use Rattle.pp_node.specs.Status.{number_of}
use Rattle.pp_node.specs.declared.status.Status.{Status}
use Rattle.pp_node.specs.declared.status.Status.TheVariants.{Done, Usage, NotAStore, Incomplete, DiskFault, LinkFault, SourceFault, SinkFault, NotEmpty, ContentSize, Schedule, Memory, Damaged, AuditNo, Recording, NoLife, TooLarge, Shape}

-- ---- words that spell no command that is built

pub none_spelled : (words : List (List ℕ)) (u : wrong.Usage) → IsFirstWrong built words u → (c : Command) → IsOneOf built c → Spells words c → ⊥
none_spelled words u first c one spelled = command_not_wrong built words c u one spelled first

-- ---- a command's end, of what its call says

module _ (status : Status) (store : List ℕ) (link : LinkState) (disk disk' : DiskState) (sink sink' : SinkState) where
  pub import_ended : (chunk : ℕ) (source source' : SourceState) (book : BookState)
      → ((l : LinkState) (b : BookState) → ImportsIn status chunk (outside disk l source sink b) (outside disk' l source' sink' b))
      → (IsKnown disk → GainsName disk.history.names store disk'.history.names) → IsImportRun status chunk source source' disk disk'
      → ImportEnds (number_of status) store chunk (outside disk link source sink book) (outside disk' link source' sink' book)
  import_ended chunk source source' book ends named run = record { status = status; number = refl; ends = ends link book; named = named; run = run }

  pub check_ended : (d : Descriptor) (source : SourceState) (book book' : BookState)
      → ((l : LinkState) (s : SourceState) → ChecksIn status d (outside disk l s sink book) (outside disk' l s sink' book'))
      → (IsKnown disk → GainsName disk.history.names store disk'.history.names) → IsUnwritten disk disk' → (IsKnown disk → Lasts d disk'.history) → (book' ≡ book) ⊎ IsBookOf d book'
      → CheckEnds (number_of status) store d (outside disk link source sink book) (outside disk' link source sink' book')
  check_ended d source book book' ends named unwritten lasts rooted =
      record { status = status; number = refl; ends = ends link source; named = named; unwritten = unwritten; lasts = lasts; unread = refl; rooted = rooted }

  pub named_check_ended : (name : SwarmName) (source : SourceState) (book book' : BookState)
      → ((l : LinkState) (s : SourceState) → NamedChecksIn status name (outside disk l s sink book) (outside disk' l s sink' book'))
      → (IsKnown disk → GainsName disk.history.names store disk'.history.names) → IsUnwritten disk disk'
      → (IsKnown disk → (e : Descriptor) → IsTold name e disk disk' → Lasts e disk'.history) → IsRootedByName name book book'
      → NamedCheckEnds (number_of status) store name (outside disk link source sink book) (outside disk' link source sink' book')
  named_check_ended name source book book' ends named unwritten lasts rooted =
      record { status = status; number = refl; ends = ends link source; named = named; unwritten = unwritten; lasts = lasts; unread = refl; rooted = rooted }

  pub export_ended : (d : Descriptor) (source : SourceState) (book book' : BookState)
      → ((l : LinkState) (s : SourceState) → ExportsIn status d (outside disk l s sink book) (outside disk' l s sink' book'))
      → (IsKnown disk → GainsName disk.history.names store disk'.history.names) → IsUnwritten disk disk' → (IsKnown disk → Lasts d disk'.history) → (book' ≡ book) ⊎ IsBookOf d book'
      → ExportEnds (number_of status) store d (outside disk link source sink book) (outside disk' link source sink' book')
  export_ended d source book book' ends named unwritten lasts rooted =
      record { status = status; number = refl; ends = ends link source; named = named; unwritten = unwritten; lasts = lasts; unread = refl; rooted = rooted }

  pub named_export_ended : (name : SwarmName) (source : SourceState) (book book' : BookState)
      → ((l : LinkState) (s : SourceState) → NamedExportsIn status name (outside disk l s sink book) (outside disk' l s sink' book'))
      → (IsKnown disk → GainsName disk.history.names store disk'.history.names) → IsUnwritten disk disk'
      → (IsKnown disk → (e : Descriptor) → IsTold name e disk disk' → Lasts e disk'.history) → IsRootedByName name book book'
      → NamedExportEnds (number_of status) store name (outside disk link source sink book) (outside disk' link source sink' book')
  named_export_ended name source book book' ends named unwritten lasts rooted =
      record { status = status; number = refl; ends = ends link source; named = named; unwritten = unwritten; lasts = lasts; unread = refl; rooted = rooted }

  pub upgrade_ended : (d : Descriptor) (source source' : SourceState) (book book' : BookState)
      → ((l : LinkState) → UpgradesIn status d (outside disk l source sink book) (outside disk' l source' sink' book'))
      → (IsKnown disk → GainsName disk.history.names store disk'.history.names) → IsUpgradeRun status d source source' disk disk' → (book' ≡ book) ⊎ IsBookOf d book'
      → UpgradeEnds (number_of status) store d (outside disk link source sink book) (outside disk' link source' sink' book')
  upgrade_ended d source source' book book' ends named run rooted =
      record { status = status; number = refl; ends = ends link; named = named; run = run; rooted = rooted }

pub replay_ended : (status : Status) (link : LinkState) (disk : DiskState) (source source' : SourceState) (sink sink' : SinkState) (book : BookState)
    → ReplaysIn status source source' sink sink' → TakesAtMost (most_text + 1) source source'
    → ReplayEnds (number_of status) (outside disk link source sink book) (outside disk link source' sink' book)
replay_ended status link disk source source' sink sink' book ends takes = record { status = status; number = refl; ends = ends; takes = takes; disk = refl }

pub rehearse_ended : (status : Status) (n : ℕ) (link : LinkState) (disk : DiskState) (source : SourceState) (sink sink' : SinkState) (book : BookState)
    → PlaysText (rehearsal_text (first_words 2002 (rehearsal_key n))) status sink sink'
    → RehearseEnds (number_of status) n (outside disk link source sink book) (outside disk link source sink' book)
rehearse_ended status n link disk source sink sink' book ends = record { status = status; is_number = refl; ends = ends; source = refl; disk = refl }

pub record_ended : (status : Status) (peer life : ℕ) (link : LinkState) (disk : DiskState) (source source' : SourceState) (sink sink' : SinkState)
    (book : BookState) → RecordsIn status peer life (streams source sink) (streams source' sink') → TakesAtMost (most_text + 1) source source'
    → RecordEnds (number_of status) peer life (outside disk link source sink book) (outside disk link source' sink' book)
record_ended status peer life link disk source source' sink sink' book ends takes =
    record { status = status; is_number = refl; ends = ends; takes = takes; disk = refl }

pub audit_ended : (status : Status) (link : LinkState) (disk : DiskState) (source source' : SourceState) (sink sink' : SinkState) (book : BookState)
    → AuditsIn status (streams source sink) (streams source' sink') → TakesAtMost (recordings.most_text + 1) source source'
    → AuditEnds (number_of status) (outside disk link source sink book) (outside disk link source' sink' book)
audit_ended status link disk source source' sink sink' book ends takes = record { status = status; number = refl; ends = ends; takes = takes; disk = refl }

-- ---- a run's end

module _ (words : List (List ℕ)) (command : Command) (status : Status) (result : ℕ) (old new : Outside) (read : Spells words command)
    (number : result ≡ number_of status) (ended : HasEnded command (number_of status) old new) where
  pub ended_as : (c : Command) → Spells words c → HasEnded c result old new
  ended_as c spelled = subst (λ (n : ℕ). HasEnded c n old new) (sym number)
      (subst (λ (x : Command). HasEnded x (number_of status) old new) (one_command words command c read spelled) ended)

  pub import_ends : (store : List ℕ) (chunk : ℕ) → IsImport words store chunk → ImportEnds result store chunk old new
  import_ends store chunk spelled = ended_as (Import store chunk) spelled

  pub seed_ends : (w : PeerWords) → IsSeed words w.store (Sized w.descriptor) w.listen w.turns → SeedEnds result w old new
  seed_ends w spelled = ended_as (Seed w.store (Sized w.descriptor) w.listen w.turns) spelled

  pub named_seed_ends : (w : NamedWords) → IsSeed words w.store (Auto w.name) w.listen w.turns → NamedSeedEnds result w old new
  named_seed_ends w spelled = ended_as (Seed w.store (Auto w.name) w.listen w.turns) spelled

  pub fetch_ends : (w : PeerWords) (order : Order) (peers : List Address) → IsFetch words w.store (Sized w.descriptor) w.listen w.turns order peers
      → FetchEnds result w peers old new
  fetch_ends w order peers spelled = ended_as (Fetch w.store (Sized w.descriptor) w.listen w.turns order peers) spelled

  pub named_fetch_ends : (w : NamedWords) (order : Order) (peers : List Address) → IsFetch words w.store (Auto w.name) w.listen w.turns order peers
      → NamedFetchEnds result w peers old new
  named_fetch_ends w order peers spelled = ended_as (Fetch w.store (Auto w.name) w.listen w.turns order peers) spelled

  pub play_ends : (w : PeerWords) (window : ℕ) (peers : List Address) → IsPlay words w.store w.descriptor w.listen w.turns window peers
      → PlayEnds result w window peers old new
  play_ends w window peers spelled = ended_as (Play w.store w.descriptor w.listen w.turns window peers) spelled

  pub check_ends : (store : List ℕ) (descriptor : Descriptor) → IsOnTarget (codes "check") words store (Sized descriptor)
      → CheckEnds result store descriptor old new
  check_ends store descriptor spelled = ended_as (Check store (Sized descriptor)) spelled

  pub named_check_ends : (store : List ℕ) (name : SwarmName) → IsOnTarget (codes "check") words store (Auto name)
      → NamedCheckEnds result store name old new
  named_check_ends store name spelled = ended_as (Check store (Auto name)) spelled

  pub export_ends : (store : List ℕ) (descriptor : Descriptor) → IsOnTarget (codes "export") words store (Sized descriptor)
      → ExportEnds result store descriptor old new
  export_ends store descriptor spelled = ended_as (Export store (Sized descriptor)) spelled

  pub named_export_ends : (store : List ℕ) (name : SwarmName) → IsOnTarget (codes "export") words store (Auto name)
      → NamedExportEnds result store name old new
  named_export_ends store name spelled = ended_as (Export store (Auto name)) spelled

  pub upgrade_ends : (store : List ℕ) (descriptor : Descriptor) → IsOnStore (codes "upgrade") words store descriptor
      → UpgradeEnds result store descriptor old new
  upgrade_ends store descriptor spelled = ended_as (Upgrade store descriptor) spelled

  pub replay_ends : words ≡ codes "replay" ∷ [] → ReplayEnds result old new
  replay_ends spelled = ended_as Replay spelled

  pub rehearse_ends : (n : ℕ) → IsRehearse words n → RehearseEnds result n old new
  rehearse_ends n spelled = ended_as (Rehearse n) spelled

  pub record_ends : (peer life : ℕ) → IsRecord words peer life → RecordEnds result peer life old new
  record_ends peer life spelled = ended_as (Record peer life) spelled

  pub audit_ends : words ≡ codes "audit" ∷ [] → AuditEnds result old new
  audit_ends spelled = ended_as Audit spelled

usage_only : (s : Status) → number_of s ≡ 1 → s ≡ Usage
usage_only Usage is = refl
usage_only Done is = absurd cc
usage_only NotAStore is = absurd cc
usage_only Incomplete is = absurd cc
usage_only DiskFault is = absurd cc
usage_only LinkFault is = absurd cc
usage_only SourceFault is = absurd cc
usage_only SinkFault is = absurd cc
usage_only NotEmpty is = absurd cc
usage_only ContentSize is = absurd cc
usage_only Schedule is = absurd cc
usage_only Memory is = absurd cc
usage_only Damaged is = absurd cc
usage_only AuditNo is = absurd cc
usage_only Recording is = absurd cc
usage_only NoLife is = absurd cc
usage_only TooLarge is = absurd cc
usage_only Shape is = absurd cc

never_seeds : (w : PeerWords) (number : ℕ) (old new : Outside) → number ≡ 1 → SeedEnds number w old new → ⊥
never_seeds w number old new one end =
    subst (λ (s : Status). SeedsIn s w old new end.run.added) (usage_only end.run.status (sym end.run.number ∙ one)) end.ends

never_fetches : (earlier : Option Tally) (w : PeerWords) (dial : List Address) (number : ℕ) (old new : Outside) → number ≡ 1
    → FetchEndsBehind earlier number w dial old new → ⊥
never_fetches earlier w dial number old new one end =
    subst (λ (s : Status). FetchesIn s earlier w old new end.run.added) (usage_only end.run.status (sym end.run.number ∙ one)) end.ends

never_sought : (w : NamedWords) (dial : List Address) (number : ℕ) (old new : Outside) → number ≡ 1 → SoughtEnds number w dial old new → ⊥
never_sought w dial number old new one (inl end) =
    subst (λ (s : Status). UnbegunIn s w old new) (usage_only end.status (sym end.number ∙ one)) end.ends
never_sought w dial number old new one (inr (inl end)) =
    subst (λ (s : Status). UnlearnedIn s (tally_of end.last.parts.counts) old.sink new.sink) (usage_only end.status (sym end.number ∙ one)) end.ends
never_sought w dial number old new one (inr (inr end)) =
    never_fetches (Some (tally_of end.last.parts.counts)) (words_after w end.lesson) dial number (behind old end.last.link) new one end.fetches

-- no command ends as wrong words do
never : (c : Command) (number : ℕ) (old new : Outside) → number ≡ 1 → HasEnded c number old new → ⊥
never (Import store chunk) number old new one end =
    subst (λ (s : Status). ImportsIn s chunk old new) (usage_only end.status (sym end.number ∙ one)) end.ends
never (Seed store (Sized descriptor) listen turns) number old new one end = never_seeds (record { store = store; descriptor = descriptor; listen = listen; turns = turns }) number old new one end
never (Seed store (Auto name) listen turns) number old new one (inl untold) =
    subst (λ (s : Status). UntoldIn s name old new) (usage_only untold.status (sym untold.number ∙ one)) untold.ends
never (Seed store (Auto name) listen turns) number old new one (inr (e, told, inl end)) =
    never_seeds (record { store = store; descriptor = e; listen = listen; turns = turns }) number old new one end.seeds
never (Seed store (Auto name) listen turns) number old new one (inr (e, told, inr end)) = let number : number_of Shape ≡ 1 = sym end.number ∙ one in cc
never (Check store (Sized descriptor)) number old new one end =
    subst (λ (s : Status). ChecksIn s descriptor old new) (usage_only end.status (sym end.number ∙ one)) end.ends
never (Check store (Auto name)) number old new one end =
    subst (λ (s : Status). NamedChecksIn s name old new) (usage_only end.status (sym end.number ∙ one)) end.ends
never (Fetch store (Sized descriptor) listen turns order peers) number old new one end =
    never_fetches None (record { store = store; descriptor = descriptor; listen = listen; turns = turns }) peers number old new one end
never (Fetch store (Auto name) listen turns order peers) number old new one (inl none) =
    subst (λ (s : Status). UntoldIn s name old new) (usage_only none.untold.status (sym none.untold.number ∙ one)) none.untold.ends
never (Fetch store (Auto name) listen turns order peers) number old new one (inr (inl (e, told, inl end))) =
    never_fetches None (record { store = store; descriptor = e; listen = listen; turns = turns }) peers number old new one end.fetches
never (Fetch store (Auto name) listen turns order peers) number old new one (inr (inl (e, told, inr end))) =
    let number : number_of Shape ≡ 1 = sym end.number ∙ one in cc
never (Fetch store (Auto name) listen turns order peers) number old new one (inr (inr end)) =
    never_sought (record { store = store; name = name; listen = listen; turns = turns }) peers number old new one end
never (Export store (Sized descriptor)) number old new one end =
    subst (λ (s : Status). ExportsIn s descriptor old new) (usage_only end.status (sym end.number ∙ one)) end.ends
never (Export store (Auto name)) number old new one end =
    subst (λ (s : Status). NamedExportsIn s name old new) (usage_only end.status (sym end.number ∙ one)) end.ends
never (Upgrade store descriptor) number old new one end =
    subst (λ (s : Status). UpgradesIn s descriptor old new) (usage_only end.status (sym end.number ∙ one)) end.ends
never Replay number old new one end =
    (subst (λ (s : Status). ReplaysIn s old.source new.source old.sink new.sink) (usage_only end.status (sym end.number ∙ one)) end.ends).plays
never (Rehearse n) number old new one end =
    subst (λ (s : Status). PlaysText (rehearsal_text (first_words 2002 (rehearsal_key n))) s old.sink new.sink) (usage_only end.status (sym end.is_number ∙ one)) end.ends
never (Play store descriptor listen turns window peers) number old new one end =
    subst (λ (s : Status). PlaysIn s (record { store = store; descriptor = descriptor; listen = listen; turns = turns }) window peers old new end.run.added)
    (usage_only end.run.status (sym end.run.number ∙ one)) end.ends
never (Record peer life) number old new one end =
    (subst (λ (s : Status). RecordsIn s peer life (streams old.source old.sink) (streams new.source new.sink))
    (usage_only end.status (sym end.is_number ∙ one)) end.ends).tapes
never Audit number old new one end =
    (subst (λ (s : Status). AuditsIn s (streams old.source old.sink) (streams new.source new.sink))
    (usage_only end.status (sym end.number ∙ one)) end.ends).audits.answer

pub no_usage : (command : Command) (status : Status) (result : ℕ) (old new : Outside) → result ≡ number_of status
    → HasEnded command (number_of status) old new → result ≡ 1 → ⊥
no_usage command status result old new number ended one = never command (number_of status) old new (sym number ∙ one) ended
