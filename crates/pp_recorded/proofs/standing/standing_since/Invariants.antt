use Rattle.std.proofs.Common.{◌≡◌}
use Rattle.pp_terms.specs.format.Descriptor.{chunks_of}
use Rattle.pp_recorded.specs.Entries.{life_of}
use Rattle.pp_recorded.specs.Standing.{standing_of, story_since}
use Rattle.pp_recorded.proofs.Pasts.{first}
use Rattle.pp_recorded.proofs.standing.standing_since.Given as goal

abbrev pub invariant-loop-place : goal.invariant-loop-place
invariant-loop-place l =
    l.standing ≡ standing_of (chunks_of l.descriptor) l.question (story_since l.from l.descriptor (life_of l.life) (first l.place l.entries))
