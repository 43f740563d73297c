use Rattle.pp_learner.proofs.Staying.{absorb_stands, open_stands}
use Rattle.pp_learner.proofs.Tallying.{events_tally, refusal_tallies}
use Rattle.pp_learner.proofs.Ending.{flush_ends}
use Rattle.pp_learner.proofs.Parting.{close_parts}
use Rattle.pp_learner.proofs.Idle.{absorb_idles, absorb_names, refusal_stands}
use Rattle.pp_learner.proofs.Sources.{learns_from}
use Rattle.pp_learner.proofs.Missing.{absorb_misses}
use Rattle.pp_learner.proofs.laws.laws_of_learning.Goals as goal

pub returns-clause-open : goal.returns-clause-open
returns-clause-open c = open_stands

pub returns-clause-absorb : goal.returns-clause-absorb
returns-clause-absorb c = absorb_stands

pub returns-clause-flush : goal.returns-clause-flush
returns-clause-flush c = flush_ends

pub returns-clause-close : goal.returns-clause-close
returns-clause-close c = close_parts

pub returns-clause-names : goal.returns-clause-names
returns-clause-names c = absorb_names

pub returns-clause-idle : goal.returns-clause-idle
returns-clause-idle c = absorb_idles

pub returns-clause-learns : goal.returns-clause-learns
returns-clause-learns c = learns_from

pub returns-clause-misses : goal.returns-clause-misses
returns-clause-misses c = absorb_misses

pub returns-clause-events : goal.returns-clause-events
returns-clause-events c = events_tally

pub returns-clause-refusal : goal.returns-clause-refusal
returns-clause-refusal c = refusal_stands

pub returns-clause-refusals : goal.returns-clause-refusals
returns-clause-refusals c = refusal_tallies
