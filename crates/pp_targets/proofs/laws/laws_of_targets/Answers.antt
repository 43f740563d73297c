use Rattle.pp_targets.proofs.ClimbBooks.{climb_is_backed}
use Rattle.pp_targets.proofs.SizedClashes.{sized_clash_is_clash}
use Rattle.pp_targets.proofs.BackedChunks.{backed_is_chunk_of_target}
use Rattle.pp_targets.proofs.LastSizes.{last_tells_size}
use Rattle.pp_targets.proofs.WholeBooks.{backed_is_content_of_name}
use Rattle.pp_targets.proofs.laws.laws_of_targets.Goals as goal

pub returns-clause-backed : goal.returns-clause-backed
returns-clause-backed c = backed_is_chunk_of_target

pub returns-clause-size : goal.returns-clause-size
returns-clause-size c = last_tells_size

pub returns-clause-clash : goal.returns-clause-clash
returns-clause-clash c = sized_clash_is_clash

pub returns-clause-climb : goal.returns-clause-climb
returns-clause-climb c = climb_is_backed

pub returns-clause-content : goal.returns-clause-content
returns-clause-content c = backed_is_content_of_name
