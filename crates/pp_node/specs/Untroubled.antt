-- Which answers may come where no device refused anything.
use Rattle.std.specs.Prelude.{◌≡◌, ◌⊎◌, ℕ, ◌<◌, Some, List, [], length, Ok}
use Rattle.pp_words.specs.Commands.{Command, Import, Seed, Fetch, Check, Export, Upgrade, Replay, Rehearse, Play, Record, Audit}
use Rattle.pp_terms.specs.disk.Disk.{IsKnown}
use Rattle.pp_terms.specs.disk.Sound.{BeganSound}
use Rattle.pp_terms.specs.disk.Store.{HasHeader}
use Rattle.pp_terms.specs.format.Descriptor.{Descriptor}
use Rattle.pp_terms.specs.tree.Content.{IsContentSize}
use Rattle.pp_promises.specs.Premises.{IsCalm}
use Rattle.pp_store.specs.Old.{HasOldHeader}
use Rattle.pp_world.specs.Schedule.{Schedule}
use Rattle.pp_world.specs.ScheduleRead.{read_schedule}
use Rattle.pp_recording.specs.Recording.{Recorded, recording_text, IsWithin}
use Rattle.pp_targets.specs.Target.{SwarmName, Sized, Auto}
use Rattle.pp_named.specs.Front.{sized}
use Rattle.pp_node.specs.Looking.{IsOf}
use Rattle.pp_node.specs.Naming.{IsTold}
use Rattle.pp_node.specs.Outside.{Outside}
use Rattle.pp_node.specs.Status.{number_of}
use Rattle.pp_node.specs.declared.status.Status.TheVariants.{Done, Incomplete, ContentSize, Memory, Damaged, Shape, AuditNo, NoLife, TooLarge}

-- No device refused a call.
pub record IsUntroubled (old new : Outside) : Type 0 where
  pub disk : IsCalm old.disk.faults new.disk.faults
  pub hard : IsCalm old.disk.hard new.disk.hard
  pub link : IsCalm old.link.faults new.link.faults
  pub source : IsCalm old.source.faults new.source.faults
  pub sink : IsCalm old.sink.faults new.sink.faults

-- On a disk that is honest and tells, the file was empty when it was attached, or began with the descriptor's header.
pub record FindsOwn (d : Descriptor) (old new : Outside) : Type 0 where
  pub known : IsKnown old.disk
  pub begins : IsOf d new.disk.history.found

-- On a disk that is honest and tells, the file wasn't empty when it was attached, and began with the name's header, of some size.
pub record FindsOfName (name : SwarmName) (old new : Outside) : Type 0 where
  pub known : IsKnown old.disk
  pub some : 0 < length new.disk.history.found
  pub size : ℕ
  pub begins : HasHeader (sized name size) new.disk.history.found

-- On a disk that is honest and tells, the file was empty when it was attached.
pub record FindsEmpty (old new : Outside) : Type 0 where
  pub known : IsKnown old.disk
  pub empty : new.disk.history.found ≡ []

-- done, or memory was refused
abbrev pub IsDoneOrShort : ℕ → Type 0
IsDoneOrShort result = (result ≡ number_of Done) ⊎ (result ≡ number_of Memory)

-- or some chunk is missing
abbrev pub IsDoneOrMissing : ℕ → Type 0
IsDoneOrMissing result = IsDoneOrShort result ⊎ (result ≡ number_of Incomplete)

-- What a command answers then, where it has what it is for: a store of its own or an empty one, and a source with a content, with a
-- file of version 1, with a schedule or with a recording. A damaged chunk comes only where some image
-- wasn't sound at the attachment.
abbrev pub AnswersWell : Command → ℕ → Outside → Outside → Type 0
AnswersWell (Import store chunk) result old new =
    FindsEmpty old new → (content : List ℕ) → old.source.left ≡ Some content → IsContentSize chunk (length content)
    → result ≡ number_of Done
AnswersWell (Seed store (Sized d) listen turns) result old new = FindsOwn d old new → IsDoneOrShort result
AnswersWell (Seed store (Auto name) listen turns) result old new =
    FindsOfName name old new → IsDoneOrShort result ⊎ (result ≡ number_of ContentSize) ⊎ (result ≡ number_of Shape)
AnswersWell (Fetch store (Sized d) listen turns order peers) result old new = FindsOwn d old new → IsDoneOrMissing result
AnswersWell (Fetch store (Auto name) listen turns order peers) result old new = (FindsEmpty old new → IsDoneOrMissing result)
    × (FindsOfName name old new → IsDoneOrMissing result ⊎ (result ≡ number_of ContentSize) ⊎ (result ≡ number_of Shape))
AnswersWell (Check store (Sized d)) result old new = FindsOwn d old new → IsDoneOrShort result
AnswersWell (Check store (Auto name)) result old new =
    FindsOfName name old new → IsDoneOrShort result ⊎ (result ≡ number_of ContentSize) ⊎ (result ≡ number_of Shape)
AnswersWell (Export store (Sized d)) result old new =
    FindsOwn d old new → IsDoneOrMissing result ⊎ ((result ≡ number_of Damaged) × (BeganSound d new.disk.history → ⊥))
AnswersWell (Export store (Auto name)) result old new =
    FindsOfName name old new → IsDoneOrMissing result ⊎ (result ≡ number_of ContentSize) ⊎ (result ≡ number_of Shape)
    ⊎ ((result ≡ number_of Damaged) × ((e : Descriptor) → IsTold name e old.disk new.disk → BeganSound e new.disk.history → ⊥))
AnswersWell (Upgrade store d) result old new =
    FindsEmpty old new → (bytes : List ℕ) → old.source.left ≡ Some bytes → HasOldHeader d bytes → IsDoneOrShort result
AnswersWell Replay result old new =
    (content : List ℕ) (schedule : Schedule) → old.source.left ≡ Some content → read_schedule content ≡ Ok schedule → IsDoneOrShort result
AnswersWell (Rehearse number) result old new = IsDoneOrShort result
AnswersWell (Play store d listen turns window peers) result old new =
    FindsOwn d old new → IsDoneOrMissing result ⊎ ((result ≡ number_of Damaged) × (BeganSound d new.disk.history → ⊥))
AnswersWell (Record peer life) result old new =
    (content : List ℕ) (schedule : Schedule) → old.source.left ≡ Some content → read_schedule content ≡ Ok schedule
    → IsDoneOrShort result ⊎ (result ≡ number_of NoLife) ⊎ (result ≡ number_of TooLarge)
AnswersWell Audit result old new =
    (r : Recorded) → IsWithin r → old.source.left ≡ Some (recording_text r) → IsDoneOrShort result ⊎ (result ≡ number_of AuditNo)
