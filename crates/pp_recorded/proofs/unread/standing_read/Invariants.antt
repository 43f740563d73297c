use Rattle.std.proofs.Common.{◌≡◌}
use Rattle.pp_terms.specs.format.Descriptor.{chunks_of}
use Rattle.pp_promises.specs.ReadStory.{is_read, read_story}
use Rattle.pp_recorded.specs.Entries.{life_of}
use Rattle.pp_recorded.specs.Standing.{standing_of}
use Rattle.pp_recorded.proofs.Pasts.{first}
use Rattle.pp_recorded.proofs.unread.standing_read.Given as goal

abbrev pub invariant-loop-place : goal.invariant-loop-place
invariant-loop-place l = record {
  read_is : l.is_read ≡ is_read l.descriptor (life_of l.life) (first l.place l.entries);
  standing_is : l.standing ≡ standing_of (chunks_of l.descriptor) l.question (read_story l.descriptor (life_of l.life) (first l.place l.entries));
}
