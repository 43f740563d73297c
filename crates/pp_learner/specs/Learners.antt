-- A learner as contracts see it.
use Rattle.std.specs.Prelude.{◌≡◌, ℕ, None, List, length, map, replicate}
use Rattle.rand_chacha.specs.ChaCha.{of_seed}
use Rattle.pp_terms.specs.tree.Content.{IsChunkSize}
use Rattle.pp_outside.specs.declared.link.Address.{Address}
use Rattle.pp_counts.specs.Counts.{no_counts}
use Rattle.pp_targets.specs.Names.{name_of}
use Rattle.pp_targets.specs.declared.target.SwarmName.{SwarmName}
use Rattle.pp_learner.specs.Standing.{stand_in}
use Rattle.pp_learner.specs.Rows.{blank}
use Rattle.pp_learner.specs.Dials.{undialled}
use Rattle.pp_learner.specs.declared.parts.Parts.{Parts}

-- The swarm's name; the descriptor that stands for its; the channels, and what is kept of the messages of each; the addresses to
-- dial, each with the moment from which it may be dialled; the greatest moment that was handed in; and what was counted.
abbrev pub LearnerState : Type 0
LearnerState = Parts

-- The name is one of a swarm, and there is a row for each seat.
pub record IsWhole (p : LearnerState) : Type 0 where
  pub size : IsChunkSize p.name.chunk
  pub swarm : p.outbox ≡ stand_in (name_of p.name)
  pub seats : length p.rows ≡ 64

-- a learner to which nothing came yet
abbrev pub opened : SwarmName → List ℕ → List Address → LearnerState
opened name seed dial = record {
  name = name;
  outbox = stand_in (name_of name);
  lives = record { channels = replicate 64 None; numbers = of_seed seed };
  rows = replicate 64 blank;
  dials = map undialled dial;
  moment = 0;
  counts = no_counts;
}
