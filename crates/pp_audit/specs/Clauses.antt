-- What is to be so at the ends of turns, as tests.
use Rattle.std.specs.Prelude.{Bool, List}
use Rattle.pp_terms.specs.format.Traffic.{Record}
use Rattle.pp_terms.specs.format.Descriptor.{Descriptor}
use Rattle.pp_promises.specs.LastTurn.{last_event, sent_since, earlier}
use Rattle.pp_promises.specs.Answered.{is_let_in}
use Rattle.pp_audit.specs.Channels.{passes_openings}
use Rattle.pp_audit.specs.Duties.{is_done}
use Rattle.pp_audit.specs.declared.clauses.Clause.{Clause}
use Rattle.pp_audit.specs.declared.clauses.Clause.TheVariants as clauses

-- the newcomer of the last turn got its reply
abbrev pub lets_in_last : Descriptor → List Record → Bool
lets_in_last d past = is_let_in d (last_event past) (sent_since past) (earlier past)

abbrev pub clause_of : Clause → Descriptor → List Record → Bool
clause_of clauses.LetsIn d past = lets_in_last d past
clause_of (clauses.Each duty) d past = passes_openings (is_done duty d past) d past past
