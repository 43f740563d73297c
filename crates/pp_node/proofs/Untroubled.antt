-- Where no device refused a call, a command that has what it is for is done, but for want of memory and chunks that are missing.
use Rattle.std.proofs.Common.{◌≡◌, ◌⊎◌, inl, inr, ℕ, zero, suc, ◌+◌, ◌*◌, ◌^◌, ◌≤◌, List, length, Ok, Err, refl, sym, ◌∙◌, ap, subst, arith}
use Rattle.std.specs.Prelude.{min, ◌<◌, Option, Some, None, take}
use Rattle.std.proofs.lemmas.List.{take_all}
use Rattle.rand_core.specs.Steps as steps
use Rattle.rand_chacha.specs.ChaCha.{of_seed, next_word}
use Rattle.pp_words.specs.CommandLine.{Spells, IsOneOf}
use Rattle.pp_words.specs.Commands.{Command, Import, Seed, Fetch, Check, Export, Upgrade, Replay, Rehearse, Play, Audit}
use Rattle.pp_words.specs.Commands as commands
use Rattle.pp_terms.specs.disk.Disk.{DiskState, IsKnown}
use Rattle.pp_terms.specs.disk.Sound.{BeganSound}
use Rattle.pp_terms.specs.disk.Store.{HasHeader}
use Rattle.pp_terms.specs.format.Descriptor.{Descriptor}
use Rattle.pp_terms.specs.command.Tally.{Tally}
use Rattle.pp_terms.specs.format.Traffic.{Address, LinkState, Record}
use Rattle.pp_terms.proofs.Risings.{risen_less}
use Rattle.pp_counts.specs.Counts.{tally_of}
use Rattle.pp_terms.specs.tree.Content.{IsContentSize}
use Rattle.pp_store.specs.Old.{HasOldHeader}
use Rattle.pp_targets.specs.Target.{SwarmName, Sized, Auto}
use Rattle.pp_named.specs.Front.{sized}
use Rattle.pp_world.specs.Rehearsal.{first_words, rehearsal_key, rehearsal_of, rehearsal_text}
use Rattle.pp_world.specs.Schedule.{Schedule}
use Rattle.pp_world.specs.ScheduleRead.{read_schedule}
use Rattle.pp_world.proofs.Rehearsals.{rehearsals_read}
use Rattle.pp_node.proofs.Commands.{ended_as}
use Rattle.pp_node.specs.Built.{built}
use Rattle.pp_node.specs.Checking.{ChecksIn}
use Rattle.pp_node.specs.Commanding.{HasEnded}
use Rattle.pp_node.specs.Exporting.{ExportsIn}
use Rattle.pp_node.specs.Looking.{IsOf, IsOther}
use Rattle.pp_node.specs.Naming.{IsTold, IsOtherThan, IsChanged, NamedChecksIn}
use Rattle.pp_node.specs.NamedExporting.{NamedExportsIn}
use Rattle.pp_node.proofs.ByName.{told_once}
use Rattle.pp_node.specs.Outside.{Outside}
use Rattle.pp_node.specs.Playing.{PlaysIn}
use Rattle.pp_node.specs.NamedSeeding.{NamedWords, words_with, UntoldIn, NamedSeedEnds}
use Rattle.pp_node.specs.NamedFetching.{UnbegunIn, UnlearnedIn, ToldFetchEnds, SoughtEnds, NamedFetchEnds, words_after, behind}
use Rattle.pp_node.specs.Promising.{PeerWords, SeedsIn, SeedEnds, FetchesIn, FetchEndsBehind}
use Rattle.pp_recording.specs.Recording as recordings
use Rattle.pp_recording.specs.Recording.{Recorded, recording_text, IsWithin}
use Rattle.pp_node.specs.Auditing.{AuditsIn, AuditsText}
use Rattle.pp_node.specs.Recordings.{RecordsIn, TapesText, streams}
use Rattle.pp_node.specs.Replaying.{PlaysText, ReplaysIn}
use Rattle.pp_node.specs.Run.{ImportsIn}
use Rattle.pp_node.specs.Status.{number_of}
use Rattle.pp_node.specs.Untroubled.{IsUntroubled, FindsOwn, FindsOfName, FindsEmpty, IsDoneOrShort, IsDoneOrMissing, AnswersWell}
use Rattle.pp_node.specs.Upgrading.{UpgradesIn}
use Rattle.pp_node.specs.declared.status.Status.{Status}
use Rattle.pp_node.specs.declared.status.Status.TheVariants.{Done, Usage, NotAStore, Incomplete, DiskFault, LinkFault, SourceFault, SinkFault, NotEmpty, ContentSize, Schedule as NoSchedule, Memory, Damaged, AuditNo, Recording as NoRecording, NoLife, TooLarge, Shape}

-- no first byte differs of a file that is empty or the descriptor's
none_differs : (d : Descriptor) (at found want : ℕ) (disk disk' : DiskState) → IsKnown disk → IsOf d disk'.history.found
    → IsOther d at found want disk disk' → ⊥
none_differs d at found want disk disk' known (inl empty) other =
    let some = other.some known in omega (arith, some, ap length empty)
none_differs d at found want disk disk' known (inr begins) other =
    let first = other.first known in
    first.differ (first.found_is ∙ begins at other.within ∙ sym first.want_is)

-- nor of one that begins with a header of the name
none_differs_named : (name : SwarmName) (at found want : ℕ) (disk disk' : DiskState) → IsKnown disk → (size : ℕ)
    → HasHeader (sized name size) disk'.history.found → IsOtherThan name at found want disk disk' ⊎ IsChanged name at found want disk disk' → ⊥
none_differs_named name at found want disk disk' known size begins (inl other) =
    other.differ (other.found_is known ∙ begins at other.within ∙ sym (other.wanted size))
none_differs_named name at found want disk disk' known size begins (inr other) = other.unknown known

-- as many words are drawn as are asked for
words_count : {S : Type 0} (step : S → ℕ × S) (count : ℕ) (state : S) → length (steps.first_words step count state) ≡ count
unfolding steps.first_words
words_count step zero state = refl
words_count step (suc k) state = ap suc (words_count step k (step state).1)

-- the words of a rehearsal
abbrev drawn : ℕ → List ℕ
drawn number = first_words 2002 (rehearsal_key number)

drawn_few : (number : ℕ) → length (drawn number) ≤ 2002
drawn_few number = omega (arith, words_count (next_word 4) 2002 (of_seed (rehearsal_key number)))

-- what a fetch answers then
module _ (old new : Outside) (u : IsUntroubled old new) where
  fetched : (earlier : Option Tally) (w : PeerWords) (added : List Record) (s : Status) → FindsOwn w.descriptor old new → FetchesIn s earlier w old new added
      → IsDoneOrMissing (number_of s)
  fetched earlier w added Done own ends = inl (inl refl)
  fetched earlier w added Incomplete own ends = inr refl
  fetched earlier w added NotAStore own ends =
      absurd (none_differs w.descriptor ends.0.at ends.0.found ends.0.want old.disk new.disk own.known own.begins ends.0.other)
  fetched earlier w added DiskFault own (inl ends) = absurd (u.disk ends.0.refused.risen)
  fetched earlier w added DiskFault own (inr ends) = absurd (u.hard ends.hard)
  fetched earlier w added LinkFault own ends = absurd (u.link ends.0.risen)
  fetched earlier w added SinkFault own ends = absurd (u.sink ends.1)
  fetched earlier w added Memory own ends = inl (inr refl)
  fetched earlier w added Usage own ends = absurd ends
  fetched earlier w added AuditNo own ends = absurd ends
  fetched earlier w added NoRecording own ends = absurd ends
  fetched earlier w added NoLife own ends = absurd ends
  fetched earlier w added TooLarge own ends = absurd ends
  fetched earlier w added Shape own ends = absurd ends
  fetched earlier w added SourceFault own ends = absurd ends
  fetched earlier w added NotEmpty own ends = absurd ends
  fetched earlier w added ContentSize own ends = absurd ends
  fetched earlier w added NoSchedule own ends = absurd ends
  fetched earlier w added Damaged own ends = absurd ends

  fetches_well : (earlier : Option Tally) (w : PeerWords) (dial : List Address) (result : ℕ) → FindsOwn w.descriptor old new
      → FetchEndsBehind earlier result w dial old new → IsDoneOrMissing result
  fetches_well earlier w dial result own end =
      subst IsDoneOrMissing (sym end.run.number) (fetched earlier w end.run.added end.run.status own end.ends)

module _ (old new : Outside) (u : IsUntroubled old new) where
  checked : (d : Descriptor) (s : Status) → FindsOwn d old new → ChecksIn s d old new → IsDoneOrShort (number_of s)
  checked d Done own ends = inl refl
  checked d NotAStore own ends = absurd (none_differs d ends.at ends.found ends.want old.disk new.disk own.known own.begins ends.other)
  checked d DiskFault own ends = absurd (u.disk ends.refused.risen)
  checked d SinkFault own ends = absurd (u.sink ends.risen)
  checked d Memory own ends = inr refl
  checked d Usage own ends = absurd ends
  checked d AuditNo own ends = absurd ends
  checked d NoRecording own ends = absurd ends
  checked d NoLife own ends = absurd ends
  checked d TooLarge own ends = absurd ends
  checked d Shape own ends = absurd ends
  checked d Incomplete own ends = absurd ends
  checked d LinkFault own ends = absurd ends
  checked d SourceFault own ends = absurd ends
  checked d NotEmpty own ends = absurd ends
  checked d ContentSize own ends = absurd ends
  checked d NoSchedule own ends = absurd ends
  checked d Damaged own ends = absurd ends

  named_checked : (name : SwarmName) (s : Status) → FindsOfName name old new → NamedChecksIn s name old new
      → IsDoneOrShort (number_of s) ⊎ (number_of s ≡ number_of ContentSize) ⊎ (number_of s ≡ number_of Shape)
  named_checked name Done own ends = inl (inl refl)
  named_checked name NotAStore own ends = absurd (none_differs_named name ends.at ends.found ends.want old.disk new.disk own.known own.size own.begins ends.other)
  named_checked name DiskFault own ends = absurd (u.disk ends.risen)
  named_checked name SinkFault own ends = absurd (u.sink ends.risen)
  named_checked name ContentSize own ends = inr (inl refl)
  named_checked name Memory own ends = inl (inr refl)
  named_checked name Shape own ends = inr (inr refl)
  named_checked name Usage own ends = absurd ends
  named_checked name Incomplete own ends = absurd ends
  named_checked name LinkFault own ends = absurd ends
  named_checked name SourceFault own ends = absurd ends
  named_checked name NotEmpty own ends = absurd ends
  named_checked name NoSchedule own ends = absurd ends
  named_checked name Damaged own ends = absurd ends
  named_checked name AuditNo own ends = absurd ends
  named_checked name NoRecording own ends = absurd ends
  named_checked name NoLife own ends = absurd ends
  named_checked name TooLarge own ends = absurd ends

  seeded : (w : PeerWords) (added : List Record) (s : Status) → FindsOwn w.descriptor old new → SeedsIn s w old new added → IsDoneOrShort (number_of s)
  seeded w added Done own ends = inl refl
  seeded w added NotAStore own ends =
      absurd (none_differs w.descriptor ends.0.at ends.0.found ends.0.want old.disk new.disk own.known own.begins ends.0.other)
  seeded w added DiskFault own (inl ends) = absurd (u.disk ends.0.refused.risen)
  seeded w added DiskFault own (inr ends) = absurd (u.hard ends.hard)
  seeded w added LinkFault own ends = absurd (u.link ends.0.risen)
  seeded w added SinkFault own ends = absurd (u.sink ends.1)
  seeded w added Memory own ends = inr refl
  seeded w added Usage own ends = absurd ends
  seeded w added AuditNo own ends = absurd ends
  seeded w added NoRecording own ends = absurd ends
  seeded w added NoLife own ends = absurd ends
  seeded w added TooLarge own ends = absurd ends
  seeded w added Shape own ends = absurd ends
  seeded w added Incomplete own ends = absurd ends
  seeded w added SourceFault own ends = absurd ends
  seeded w added NotEmpty own ends = absurd ends
  seeded w added ContentSize own ends = absurd ends
  seeded w added NoSchedule own ends = absurd ends
  seeded w added Damaged own ends = absurd ends

  seeds_well : (w : PeerWords) (result : ℕ) → FindsOwn w.descriptor old new → SeedEnds result w old new → IsDoneOrShort result
  seeds_well w result own end = subst IsDoneOrShort (sym end.run.number) (seeded w end.run.added end.run.status own end.ends)

  untold : (name : SwarmName) (s : Status) → FindsOfName name old new → UntoldIn s name old new → number_of s ≡ number_of ContentSize
  untold name NotAStore own ends = absurd (none_differs_named name ends.at ends.found ends.want old.disk new.disk own.known own.size own.begins ends.other)
  untold name DiskFault own ends = absurd (u.disk ends.risen)
  untold name ContentSize own ends = refl
  untold name Done own ends = absurd ends
  untold name Usage own ends = absurd ends
  untold name Incomplete own ends = absurd ends
  untold name LinkFault own ends = absurd ends
  untold name SourceFault own ends = absurd ends
  untold name SinkFault own ends = absurd ends
  untold name NotEmpty own ends = absurd ends
  untold name NoSchedule own ends = absurd ends
  untold name Memory own ends = absurd ends
  untold name Damaged own ends = absurd ends
  untold name Shape own ends = absurd ends
  untold name AuditNo own ends = absurd ends
  untold name NoRecording own ends = absurd ends
  untold name NoLife own ends = absurd ends
  untold name TooLarge own ends = absurd ends

  seeds_by_name : (w : NamedWords) (result : ℕ) → FindsOfName w.name old new → NamedSeedEnds result w old new
      → IsDoneOrShort result ⊎ (result ≡ number_of ContentSize) ⊎ (result ≡ number_of Shape)
  seeds_by_name w result own (inl none) = inr (inl (none.number ∙ untold w.name none.status own none.ends))
  seeds_by_name w result own (inr (e, told, inl end)) =
      inl (seeds_well (words_with w e) result (record { known = own.known; begins = inr (told.begins own.known) }) end.seeds)
  seeds_by_name w result own (inr (e, told, inr end)) = inr (inr end.number)

  exported : (d : Descriptor) (s : Status) → FindsOwn d old new → ExportsIn s d old new
      → IsDoneOrMissing (number_of s) ⊎ ((number_of s ≡ number_of Damaged) × (BeganSound d new.disk.history → ⊥))
  exported d Done own ends = inl (inl (inl refl))
  exported d Incomplete own ends = inl (inr refl)
  exported d NotAStore own ends = absurd (none_differs d ends.at ends.found ends.want old.disk new.disk own.known own.begins ends.other)
  exported d DiskFault own ends = absurd (u.disk ends.refused.risen)
  exported d SinkFault own ends = absurd (u.sink ends.risen)
  exported d Memory own ends = inl (inl (inr refl))
  exported d Damaged own ends = inr (refl, ends.damaged.never own.known)
  exported d Usage own ends = absurd ends
  exported d AuditNo own ends = absurd ends
  exported d NoRecording own ends = absurd ends
  exported d NoLife own ends = absurd ends
  exported d TooLarge own ends = absurd ends
  exported d Shape own ends = absurd ends
  exported d LinkFault own ends = absurd ends
  exported d SourceFault own ends = absurd ends
  exported d NotEmpty own ends = absurd ends
  exported d ContentSize own ends = absurd ends
  exported d NoSchedule own ends = absurd ends

  abbrev IsExportAnswer : SwarmName → ℕ → Type 0
  IsExportAnswer name n = IsDoneOrMissing n ⊎ (n ≡ number_of ContentSize) ⊎ (n ≡ number_of Shape)
      ⊎ ((n ≡ number_of Damaged) × ((e : Descriptor) → IsTold name e old.disk new.disk → BeganSound e new.disk.history → ⊥))

  named_exported : (name : SwarmName) (s : Status) → FindsOfName name old new → NamedExportsIn s name old new → IsExportAnswer name (number_of s)
  named_exported name Done own ends = inl (inl (inl refl))
  named_exported name Incomplete own ends = inl (inr refl)
  named_exported name NotAStore own ends = absurd (none_differs_named name ends.at ends.found ends.want old.disk new.disk own.known own.size own.begins ends.other)
  named_exported name DiskFault own (inl ends) = absurd (u.disk ends.risen)
  named_exported name DiskFault own (inr ends) = absurd (u.disk ends.ends.refused.risen)
  named_exported name SinkFault own ends = absurd (u.sink ends.ends.risen)
  named_exported name ContentSize own ends = inr (inl refl)
  named_exported name Memory own ends = inl (inl (inr refl))
  named_exported name Damaged own ends = inr (inr (inr (
    refl,
    λ e told began. ends.ends.damaged.never own.known
        (subst (λ (d : Descriptor). BeganSound d new.disk.history) (told_once name e ends.descriptor old.disk new.disk own.known told ends.scanned.told) began),
  )))
  named_exported name Shape own ends = inr (inr (inl refl))
  named_exported name Usage own ends = absurd ends
  named_exported name LinkFault own ends = absurd ends
  named_exported name SourceFault own ends = absurd ends
  named_exported name NotEmpty own ends = absurd ends
  named_exported name NoSchedule own ends = absurd ends
  named_exported name AuditNo own ends = absurd ends
  named_exported name NoRecording own ends = absurd ends
  named_exported name NoLife own ends = absurd ends
  named_exported name TooLarge own ends = absurd ends

  imported : (chunk : ℕ) (s : Status) → FindsEmpty old new → (content : List ℕ) → old.source.left ≡ Some content → IsContentSize chunk (length content)
      → ImportsIn s chunk old new → number_of s ≡ 0
  imported chunk Done own content left fits ends = refl
  imported chunk DiskFault own content left fits ends = absurd (u.disk ends.risen)
  imported chunk SourceFault own content left fits ends = absurd (u.source ends.risen)
  imported chunk SinkFault own content left fits ends = absurd (u.sink ends.risen)
  imported chunk NotEmpty own content left fits ends =
      absurd (let some = ends.some in let len = ends.counted own.known in omega (arith, some, len, ap length own.empty))
  imported chunk ContentSize own content left fits ends = absurd (no_size ends.either (ends.counted content left))
    where
      no_size : (ends.count ≡ 0) ⊎ (ends.count ≡ 2 ^ 20 * chunk + 1) → ends.count ≡ min (length content) (2 ^ 20 * chunk + 1) → ⊥
      no_size (inl none) is = let some = fits.some in omega (arith, some, none, is)
      no_size (inr more) is = let within = fits.within in omega (arith, within, more, is)
  imported chunk Usage own content left fits ends = absurd ends
  imported chunk AuditNo own content left fits ends = absurd ends
  imported chunk NoRecording own content left fits ends = absurd ends
  imported chunk NoLife own content left fits ends = absurd ends
  imported chunk TooLarge own content left fits ends = absurd ends
  imported chunk Shape own content left fits ends = absurd ends
  imported chunk NotAStore own content left fits ends = absurd ends
  imported chunk Incomplete own content left fits ends = absurd ends
  imported chunk LinkFault own content left fits ends = absurd ends
  imported chunk NoSchedule own content left fits ends = absurd ends
  imported chunk Memory own content left fits ends = absurd ends
  imported chunk Damaged own content left fits ends = absurd ends

  upgraded : (d : Descriptor) (s : Status) → FindsEmpty old new → (bytes : List ℕ) → old.source.left ≡ Some bytes → HasOldHeader d bytes
      → UpgradesIn s d old new → IsDoneOrShort (number_of s)
  upgraded d Done own bytes left has ends = inl refl
  upgraded d NotAStore own bytes left has ends = absurd (
      let first = ends.other.first bytes left in first.differ (first.found_is ∙ has ends.at first.within ∙ sym first.want_is))
  upgraded d DiskFault own bytes left has ends = absurd (u.disk ends.risen)
  upgraded d SourceFault own bytes left has ends = absurd (u.source ends.risen)
  upgraded d SinkFault own bytes left has ends = absurd (u.sink ends.risen)
  upgraded d NotEmpty own bytes left has ends =
      absurd (let some = ends.some in let len = ends.counted own.known in omega (arith, some, len, ap length own.empty))
  upgraded d Memory own bytes left has ends = inr refl
  upgraded d Usage own bytes left has ends = absurd ends
  upgraded d AuditNo own bytes left has ends = absurd ends
  upgraded d NoRecording own bytes left has ends = absurd ends
  upgraded d NoLife own bytes left has ends = absurd ends
  upgraded d TooLarge own bytes left has ends = absurd ends
  upgraded d Shape own bytes left has ends = absurd ends
  upgraded d Incomplete own bytes left has ends = absurd ends
  upgraded d LinkFault own bytes left has ends = absurd ends
  upgraded d ContentSize own bytes left has ends = absurd ends
  upgraded d NoSchedule own bytes left has ends = absurd ends
  upgraded d Damaged own bytes left has ends = absurd ends

  -- a text that is a schedule was played
  played : (text : List ℕ) (schedule : Schedule) (s : Status) → read_schedule text ≡ Ok schedule → PlaysText text s old.sink new.sink → IsDoneOrShort (number_of s)
  played text schedule Done read ends = inl refl
  played text schedule NoSchedule read ends = absurd (let never : Ok schedule ≡ Err ends.fault = sym read ∙ ends.read in cc)
  played text schedule SinkFault read ends = absurd (u.sink ends.risen)
  played text schedule Memory read ends = inr refl
  played text schedule Usage read ends = absurd ends
  played text schedule AuditNo read ends = absurd ends
  played text schedule NoRecording read ends = absurd ends
  played text schedule NoLife read ends = absurd ends
  played text schedule TooLarge read ends = absurd ends
  played text schedule Shape read ends = absurd ends
  played text schedule NotAStore read ends = absurd ends
  played text schedule Incomplete read ends = absurd ends
  played text schedule DiskFault read ends = absurd ends
  played text schedule LinkFault read ends = absurd ends
  played text schedule SourceFault read ends = absurd ends
  played text schedule NotEmpty read ends = absurd ends
  played text schedule ContentSize read ends = absurd ends
  played text schedule Damaged read ends = absurd ends

  replayed : (content : List ℕ) (schedule : Schedule) (s : Status) → old.source.left ≡ Some content → read_schedule content ≡ Ok schedule
      → ReplaysIn s old.source new.source old.sink new.sink → IsDoneOrShort (number_of s)
  replayed content schedule SourceFault left read ends = absurd (u.source ends.0)
  replayed content schedule Memory left read ends = inr refl
  replayed content schedule Done left read ends = played ends.text schedule Done (sym (ends.same content left) ∙ read) ends.plays
  replayed content schedule NoSchedule left read ends = played ends.text schedule NoSchedule (sym (ends.same content left) ∙ read) ends.plays
  replayed content schedule SinkFault left read ends = played ends.text schedule SinkFault (sym (ends.same content left) ∙ read) ends.plays
  replayed content schedule Usage left read ends = played ends.text schedule Usage (sym (ends.same content left) ∙ read) ends.plays
  replayed content schedule AuditNo left read ends = played ends.text schedule AuditNo (sym (ends.same content left) ∙ read) ends.plays
  replayed content schedule NoRecording left read ends = played ends.text schedule NoRecording (sym (ends.same content left) ∙ read) ends.plays
  replayed content schedule NoLife left read ends = played ends.text schedule NoLife (sym (ends.same content left) ∙ read) ends.plays
  replayed content schedule TooLarge left read ends = played ends.text schedule TooLarge (sym (ends.same content left) ∙ read) ends.plays
  replayed content schedule Shape left read ends = played ends.text schedule Shape (sym (ends.same content left) ∙ read) ends.plays
  replayed content schedule NotAStore left read ends = played ends.text schedule NotAStore (sym (ends.same content left) ∙ read) ends.plays
  replayed content schedule Incomplete left read ends = played ends.text schedule Incomplete (sym (ends.same content left) ∙ read) ends.plays
  replayed content schedule DiskFault left read ends = played ends.text schedule DiskFault (sym (ends.same content left) ∙ read) ends.plays
  replayed content schedule LinkFault left read ends = played ends.text schedule LinkFault (sym (ends.same content left) ∙ read) ends.plays
  replayed content schedule NotEmpty left read ends = played ends.text schedule NotEmpty (sym (ends.same content left) ∙ read) ends.plays
  replayed content schedule ContentSize left read ends = played ends.text schedule ContentSize (sym (ends.same content left) ∙ read) ends.plays
  replayed content schedule Damaged left read ends = played ends.text schedule Damaged (sym (ends.same content left) ∙ read) ends.plays

  -- a content was written while it came
  shown : (w : PeerWords) (window : ℕ) (peers : List Address) (added : List Record) (s : Status) → FindsOwn w.descriptor old new
      → PlaysIn s w window peers old new added
      → IsDoneOrMissing (number_of s) ⊎ ((number_of s ≡ number_of Damaged) × (BeganSound w.descriptor new.disk.history → ⊥))
  shown w window peers added Done own ends = inl (inl (inl refl))
  shown w window peers added Incomplete own ends = inl (inr refl)
  shown w window peers added Memory own ends = inl (inl (inr refl))
  shown w window peers added Damaged own ends = inr (refl, ends.never own.known)
  shown w window peers added NotAStore own ends =
      absurd (none_differs w.descriptor ends.0.at ends.0.found ends.0.want old.disk new.disk own.known own.begins ends.0.other)
  shown w window peers added DiskFault own (inl ends) = absurd (u.disk ends.0.refused.risen)
  shown w window peers added DiskFault own (inr (inl ends)) = absurd (u.hard ends.hard)
  shown w window peers added DiskFault own (inr (inr ends)) = absurd (u.disk ends.risen)
  shown w window peers added LinkFault own ends = absurd (u.link ends.0.risen)
  shown w window peers added SinkFault own ends = absurd (u.sink ends.risen)
  shown w window peers added Usage own ends = absurd ends
  shown w window peers added AuditNo own ends = absurd ends
  shown w window peers added NoRecording own ends = absurd ends
  shown w window peers added NoLife own ends = absurd ends
  shown w window peers added TooLarge own ends = absurd ends
  shown w window peers added Shape own ends = absurd ends
  shown w window peers added SourceFault own ends = absurd ends
  shown w window peers added NotEmpty own ends = absurd ends
  shown w window peers added ContentSize own ends = absurd ends
  shown w window peers added NoSchedule own ends = absurd ends

  -- a life of a replay was recorded
  taped : (text : List ℕ) (peer life : ℕ) (schedule : Schedule) (s : Status) → read_schedule text ≡ Ok schedule → TapesText text peer life s old.sink new.sink
      → IsDoneOrShort (number_of s) ⊎ (number_of s ≡ number_of NoLife) ⊎ (number_of s ≡ number_of TooLarge)
  taped text peer life schedule Done read ends = inl (inl refl)
  taped text peer life schedule NoSchedule read ends = absurd (let never : Ok schedule ≡ Err ends.fault = sym read ∙ ends.read in cc)
  taped text peer life schedule SinkFault read ends = absurd (u.sink ends.risen)
  taped text peer life schedule Memory read ends = inl (inr refl)
  taped text peer life schedule NoLife read ends = inr (inl refl)
  taped text peer life schedule TooLarge read ends = inr (inr refl)
  taped text peer life schedule Shape read ends = absurd ends
  taped text peer life schedule Usage read ends = absurd ends
  taped text peer life schedule NotAStore read ends = absurd ends
  taped text peer life schedule Incomplete read ends = absurd ends
  taped text peer life schedule DiskFault read ends = absurd ends
  taped text peer life schedule LinkFault read ends = absurd ends
  taped text peer life schedule SourceFault read ends = absurd ends
  taped text peer life schedule NotEmpty read ends = absurd ends
  taped text peer life schedule ContentSize read ends = absurd ends
  taped text peer life schedule Damaged read ends = absurd ends
  taped text peer life schedule AuditNo read ends = absurd ends
  taped text peer life schedule NoRecording read ends = absurd ends

  recorded : (peer life : ℕ) (content : List ℕ) (schedule : Schedule) (s : Status) → old.source.left ≡ Some content → read_schedule content ≡ Ok schedule
      → RecordsIn s peer life (streams old.source old.sink) (streams new.source new.sink)
      → IsDoneOrShort (number_of s) ⊎ (number_of s ≡ number_of NoLife) ⊎ (number_of s ≡ number_of TooLarge)
  recorded peer life content schedule SourceFault left read ends = absurd (u.source ends.0)
  recorded peer life content schedule Memory left read ends = inl (inr refl)
  recorded peer life content schedule Done left read ends = taped ends.text peer life schedule Done (sym (ends.same content left) ∙ read) ends.tapes
  recorded peer life content schedule Usage left read ends = taped ends.text peer life schedule Usage (sym (ends.same content left) ∙ read) ends.tapes
  recorded peer life content schedule NotAStore left read ends = taped ends.text peer life schedule NotAStore (sym (ends.same content left) ∙ read) ends.tapes
  recorded peer life content schedule Incomplete left read ends = taped ends.text peer life schedule Incomplete (sym (ends.same content left) ∙ read) ends.tapes
  recorded peer life content schedule DiskFault left read ends = taped ends.text peer life schedule DiskFault (sym (ends.same content left) ∙ read) ends.tapes
  recorded peer life content schedule LinkFault left read ends = taped ends.text peer life schedule LinkFault (sym (ends.same content left) ∙ read) ends.tapes
  recorded peer life content schedule SinkFault left read ends = taped ends.text peer life schedule SinkFault (sym (ends.same content left) ∙ read) ends.tapes
  recorded peer life content schedule NotEmpty left read ends = taped ends.text peer life schedule NotEmpty (sym (ends.same content left) ∙ read) ends.tapes
  recorded peer life content schedule ContentSize left read ends = taped ends.text peer life schedule ContentSize (sym (ends.same content left) ∙ read) ends.tapes
  recorded peer life content schedule NoSchedule left read ends = taped ends.text peer life schedule NoSchedule (sym (ends.same content left) ∙ read) ends.tapes
  recorded peer life content schedule Damaged left read ends = taped ends.text peer life schedule Damaged (sym (ends.same content left) ∙ read) ends.tapes
  recorded peer life content schedule AuditNo left read ends = taped ends.text peer life schedule AuditNo (sym (ends.same content left) ∙ read) ends.tapes
  recorded peer life content schedule NoRecording left read ends = taped ends.text peer life schedule NoRecording (sym (ends.same content left) ∙ read) ends.tapes
  recorded peer life content schedule NoLife left read ends = taped ends.text peer life schedule NoLife (sym (ends.same content left) ∙ read) ends.tapes
  recorded peer life content schedule TooLarge left read ends = taped ends.text peer life schedule TooLarge (sym (ends.same content left) ∙ read) ends.tapes
  recorded peer life content schedule Shape left read ends = taped ends.text peer life schedule Shape (sym (ends.same content left) ∙ read) ends.tapes

  -- a recording was audited
  answered : (text : List ℕ) (r : Recorded) (s : Status) → IsWithin r → text ≡ recording_text r → AuditsText text s old.sink new.sink
      → IsDoneOrShort (number_of s) ⊎ (number_of s ≡ number_of AuditNo)
  answered text r Done within is ends = inl (inl refl)
  answered text r AuditNo within is ends = inr refl
  answered text r NoRecording within is ends = absurd (ends.fault.none r within is)
  answered text r SinkFault within is ends = absurd (u.sink ends.answer.risen)
  answered text r Memory within is ends = inl (inr refl)
  answered text r Usage within is ends = absurd ends.answer
  answered text r NotAStore within is ends = absurd ends.answer
  answered text r Incomplete within is ends = absurd ends.answer
  answered text r DiskFault within is ends = absurd ends.answer
  answered text r LinkFault within is ends = absurd ends.answer
  answered text r SourceFault within is ends = absurd ends.answer
  answered text r NotEmpty within is ends = absurd ends.answer
  answered text r ContentSize within is ends = absurd ends.answer
  answered text r Damaged within is ends = absurd ends.answer
  answered text r NoSchedule within is ends = absurd ends.answer
  answered text r NoLife within is ends = absurd ends.answer
  answered text r TooLarge within is ends = absurd ends.answer
  answered text r Shape within is ends = absurd ends.answer

  whole_text : (text content : List ℕ) (r : Recorded) → IsWithin r → content ≡ recording_text r → text ≡ take (recordings.most_text + 1) content
      → text ≡ recording_text r
  whole_text text content r within is taken =
      let size : length content ≡ length (recording_text r) = ap (λ (t : List ℕ). length t) is in
      let short = within.short in
      taken ∙ take_all (recordings.most_text + 1) content (omega (arith, size, short)) ∙ is

  audited : (r : Recorded) (s : Status) → IsWithin r → old.source.left ≡ Some (recording_text r)
      → AuditsIn s (streams old.source old.sink) (streams new.source new.sink) → IsDoneOrShort (number_of s) ⊎ (number_of s ≡ number_of AuditNo)
  audited r SourceFault within left ends = absurd (u.source ends.0)
  audited r Memory within left ends = inl (inr refl)
  audited r Done within left ends = answered ends.text r Done within (whole_text ends.text (recording_text r) r within refl (ends.same (recording_text r) left)) ends.audits
  audited r Usage within left ends = answered ends.text r Usage within (whole_text ends.text (recording_text r) r within refl (ends.same (recording_text r) left)) ends.audits
  audited r NotAStore within left ends = answered ends.text r NotAStore within (whole_text ends.text (recording_text r) r within refl (ends.same (recording_text r) left)) ends.audits
  audited r Incomplete within left ends = answered ends.text r Incomplete within (whole_text ends.text (recording_text r) r within refl (ends.same (recording_text r) left)) ends.audits
  audited r DiskFault within left ends = answered ends.text r DiskFault within (whole_text ends.text (recording_text r) r within refl (ends.same (recording_text r) left)) ends.audits
  audited r LinkFault within left ends = answered ends.text r LinkFault within (whole_text ends.text (recording_text r) r within refl (ends.same (recording_text r) left)) ends.audits
  audited r SinkFault within left ends = answered ends.text r SinkFault within (whole_text ends.text (recording_text r) r within refl (ends.same (recording_text r) left)) ends.audits
  audited r NotEmpty within left ends = answered ends.text r NotEmpty within (whole_text ends.text (recording_text r) r within refl (ends.same (recording_text r) left)) ends.audits
  audited r ContentSize within left ends = answered ends.text r ContentSize within (whole_text ends.text (recording_text r) r within refl (ends.same (recording_text r) left)) ends.audits
  audited r NoSchedule within left ends = answered ends.text r NoSchedule within (whole_text ends.text (recording_text r) r within refl (ends.same (recording_text r) left)) ends.audits
  audited r Damaged within left ends = answered ends.text r Damaged within (whole_text ends.text (recording_text r) r within refl (ends.same (recording_text r) left)) ends.audits
  audited r AuditNo within left ends = answered ends.text r AuditNo within (whole_text ends.text (recording_text r) r within refl (ends.same (recording_text r) left)) ends.audits
  audited r NoRecording within left ends = answered ends.text r NoRecording within (whole_text ends.text (recording_text r) r within refl (ends.same (recording_text r) left)) ends.audits
  audited r NoLife within left ends = answered ends.text r NoLife within (whole_text ends.text (recording_text r) r within refl (ends.same (recording_text r) left)) ends.audits
  audited r TooLarge within left ends = answered ends.text r TooLarge within (whole_text ends.text (recording_text r) r within refl (ends.same (recording_text r) left)) ends.audits
  audited r Shape within left ends = answered ends.text r Shape within (whole_text ends.text (recording_text r) r within refl (ends.same (recording_text r) left)) ends.audits

  -- a learner was to be opened
  unbegun : (w : NamedWords) (s : Status) → UnbegunIn s w old new → IsDoneOrMissing (number_of s)
  unbegun w LinkFault ends = absurd (u.link ends.0)
  unbegun w Memory ends = inl (inr refl)
  unbegun w Done ends = absurd ends
  unbegun w Usage ends = absurd ends
  unbegun w NotAStore ends = absurd ends
  unbegun w Incomplete ends = absurd ends
  unbegun w DiskFault ends = absurd ends
  unbegun w SourceFault ends = absurd ends
  unbegun w SinkFault ends = absurd ends
  unbegun w NotEmpty ends = absurd ends
  unbegun w ContentSize ends = absurd ends
  unbegun w NoSchedule ends = absurd ends
  unbegun w Damaged ends = absurd ends
  unbegun w AuditNo ends = absurd ends
  unbegun w NoRecording ends = absurd ends
  unbegun w NoLife ends = absurd ends
  unbegun w TooLarge ends = absurd ends
  unbegun w Shape ends = absurd ends

  unlearned : (tally : Tally) (s : Status) → UnlearnedIn s tally old.sink new.sink → IsDoneOrMissing (number_of s)
  unlearned tally Incomplete ends = inr refl
  unlearned tally SinkFault ends = absurd (u.sink ends)
  unlearned tally Done ends = absurd ends
  unlearned tally Usage ends = absurd ends
  unlearned tally NotAStore ends = absurd ends
  unlearned tally DiskFault ends = absurd ends
  unlearned tally LinkFault ends = absurd ends
  unlearned tally SourceFault ends = absurd ends
  unlearned tally NotEmpty ends = absurd ends
  unlearned tally ContentSize ends = absurd ends
  unlearned tally NoSchedule ends = absurd ends
  unlearned tally Memory ends = absurd ends
  unlearned tally Damaged ends = absurd ends
  unlearned tally AuditNo ends = absurd ends
  unlearned tally NoRecording ends = absurd ends
  unlearned tally NoLife ends = absurd ends
  unlearned tally TooLarge ends = absurd ends
  unlearned tally Shape ends = absurd ends

  -- nothing was refused behind a learner either
  untroubled_behind : (link : LinkState) → old.link.faults ≤ link.faults → IsUntroubled (behind old link) new
  untroubled_behind link later = record {
    disk = u.disk;
    hard = u.hard;
    link = λ risen. u.link (risen_less old.link.faults link.faults new.link.faults later risen);
    source = u.source;
    sink = u.sink;
  }

  sought : (w : NamedWords) (dial : List Address) (result : ℕ) → IsKnown old.disk → SoughtEnds result w dial old new → IsDoneOrMissing result
  sought w dial result known (inl end) = subst IsDoneOrMissing (sym end.number) (unbegun w end.status end.ends)
  sought w dial result known (inr (inl end)) = subst IsDoneOrMissing (sym end.number) (unlearned (tally_of end.last.parts.counts) end.status end.ends)
  sought w dial result known (inr (inr end)) =
      let opened_later = end.opening.unsent.later in
      let closed_later = end.learning.closed.later in
      fetches_well (behind old end.last.link) new (untroubled_behind end.last.link (omega (arith, opened_later, closed_later)))
      (Some (tally_of end.last.parts.counts)) (words_after w end.lesson) dial result (record { known = known; begins = inl (end.empty known) }) end.fetches

  -- the header of an empty file tells no size, and an empty file is no fault
  unfound : (w : NamedWords) (s : Status) → FindsEmpty old new → (s ≡ NotAStore → IsKnown old.disk → 0 < length new.disk.history.found)
      → UntoldIn s w.name old new → ⊥
  unfound w NotAStore own some ends = let lt = some refl own.known in omega (arith, lt, ap length own.empty)
  unfound w DiskFault own some ends = u.disk ends.risen
  unfound w ContentSize own some ends = let lt = ends.is.some own.known in omega (arith, lt, ap length own.empty)
  unfound w Done own some ends = ends
  unfound w Usage own some ends = ends
  unfound w Incomplete own some ends = ends
  unfound w LinkFault own some ends = ends
  unfound w SourceFault own some ends = ends
  unfound w SinkFault own some ends = ends
  unfound w NotEmpty own some ends = ends
  unfound w NoSchedule own some ends = ends
  unfound w Memory own some ends = ends
  unfound w Damaged own some ends = ends
  unfound w Shape own some ends = ends
  unfound w AuditNo own some ends = ends
  unfound w NoRecording own some ends = ends
  unfound w NoLife own some ends = ends
  unfound w TooLarge own some ends = ends

  -- an empty file, and one that begins with the name's header
  fetches_empty : (w : NamedWords) (dial : List Address) (result : ℕ) → FindsEmpty old new → NamedFetchEnds result w dial old new → IsDoneOrMissing result
  fetches_empty w dial result own (inl none) = absurd (unfound w none.untold.status own none.some none.untold.ends)
  fetches_empty w dial result own (inr (inl (e, told, end))) = absurd (let lt = told.some own.known in omega (arith, lt, ap length own.empty))
  fetches_empty w dial result own (inr (inr end)) = sought w dial result own.known end

  fetches_told : (w : PeerWords) (dial : List Address) (result : ℕ) → FindsOwn w.descriptor old new → ToldFetchEnds result w dial old new
      → IsDoneOrMissing result ⊎ (result ≡ number_of ContentSize) ⊎ (result ≡ number_of Shape)
  fetches_told w dial result own (inl end) = inl (fetches_well old new u None w dial result own end.fetches)
  fetches_told w dial result own (inr end) = inr (inr end.number)

  fetches_named : (w : NamedWords) (dial : List Address) (result : ℕ) → FindsOfName w.name old new → NamedFetchEnds result w dial old new
      → IsDoneOrMissing result ⊎ (result ≡ number_of ContentSize) ⊎ (result ≡ number_of Shape)
  fetches_named w dial result own (inl none) = inr (inl (none.untold.number ∙ untold w.name none.untold.status own none.untold.ends))
  fetches_named w dial result own (inr (inl (e, told, end))) =
      fetches_told (words_with w e) dial result (record { known = own.known; begins = inr (told.begins own.known) }) end
  fetches_named w dial result own (inr (inr end)) = inl (sought w dial result own.known end)

  -- what each command answers
  answers : (c : Command) (result : ℕ) → HasEnded c result old new → AnswersWell c result old new
  answers (Import store chunk) result end = λ own content left fits. end.number ∙ imported chunk end.status own content left fits end.ends
  answers (Seed store (Sized d) listen turns) result end = λ own. seeds_well (record { store = store; descriptor = d; listen = listen; turns = turns }) result own end
  answers (Seed store (Auto name) listen turns) result end = λ own. seeds_by_name (record { store = store; name = name; listen = listen; turns = turns }) result own end
  answers (Fetch store (Sized d) listen turns order peers) result end = λ own.
      fetches_well old new u None (record { store = store; descriptor = d; listen = listen; turns = turns }) peers result own end
  answers (Fetch store (Auto name) listen turns order peers) result end = (
    λ own. fetches_empty (record { store = store; name = name; listen = listen; turns = turns }) peers result own end,
    λ own. fetches_named (record { store = store; name = name; listen = listen; turns = turns }) peers result own end,
  )
  answers (Check store (Sized d)) result end = λ own. subst IsDoneOrShort (sym end.number) (checked d end.status own end.ends)
  answers (Check store (Auto name)) result end = λ own. subst
      (λ (n : ℕ). IsDoneOrShort n ⊎ (n ≡ number_of ContentSize) ⊎ (n ≡ number_of Shape)) (sym end.number) (named_checked name end.status own end.ends)
  answers (Export store (Sized d)) result end = λ own. subst
      (λ (n : ℕ). IsDoneOrMissing n ⊎ ((n ≡ number_of Damaged) × (BeganSound d new.disk.history → ⊥))) (sym end.number) (exported d end.status own end.ends)
  answers (Export store (Auto name)) result end = λ own. subst (IsExportAnswer name) (sym end.number) (named_exported name end.status own end.ends)
  answers (Upgrade store d) result end = λ own bytes left has. subst IsDoneOrShort (sym end.number) (upgraded d end.status own bytes left has end.ends)
  answers Replay result end = λ content schedule left read. subst IsDoneOrShort (sym end.number) (replayed content schedule end.status left read end.ends)
  answers (Rehearse number) result end = subst IsDoneOrShort (sym end.is_number)
      (played (rehearsal_text (drawn number)) (rehearsal_of (drawn number)) end.status (rehearsals_read.read (drawn number) (drawn_few number)) end.ends)
  answers (Play store d listen turns window peers) result end = λ own. subst
      (λ (n : ℕ). IsDoneOrMissing n ⊎ ((n ≡ number_of Damaged) × (BeganSound d new.disk.history → ⊥))) (sym end.run.number)
      (shown (record { store = store; descriptor = d; listen = listen; turns = turns }) window peers end.run.added end.run.status own end.ends)
  answers (commands.Record peer life) result end = λ content schedule left read. subst
      (λ (n : ℕ). IsDoneOrShort n ⊎ (n ≡ number_of NoLife) ⊎ (n ≡ number_of TooLarge)) (sym end.is_number)
      (recorded peer life content schedule end.status left read end.ends)
  answers Audit result end = λ r within left. subst (λ (n : ℕ). IsDoneOrShort n ⊎ (n ≡ number_of AuditNo)) (sym end.number)
      (audited r end.status within left end.ends)

-- the same of the command that the words spell
pub answers_well : (words : List (List ℕ)) (command : Command) (status : Status) (result : ℕ) (old new : Outside) → Spells words command
    → result ≡ number_of status → HasEnded command (number_of status) old new
    → (c : Command) → Spells words c → IsUntroubled old new → IsOneOf built c → AnswersWell c result old new
answers_well words command status result old new read number ended c spelled u one =
    answers old new u c result (ended_as words command status result old new read number ended c spelled)
