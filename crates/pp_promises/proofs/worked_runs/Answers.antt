use Rattle.pp_promises.proofs.RunExamples as runs
use Rattle.pp_promises.proofs.worked_runs.Goals as goal

pub returns-clause-serving : goal.returns-clause-serving
returns-clause-serving c = runs.serving

pub returns-clause-plans : goal.returns-clause-plans
returns-clause-plans c = runs.plans

pub returns-clause-answering : goal.returns-clause-answering
returns-clause-answering c = runs.answering

pub returns-clause-telling : goal.returns-clause-telling
returns-clause-telling c = runs.telling

pub returns-clause-storing : goal.returns-clause-storing
returns-clause-storing c = runs.storing

pub returns-clause-fetching : goal.returns-clause-fetching
returns-clause-fetching c = runs.fetching

pub returns-clause-own : goal.returns-clause-own
returns-clause-own c = runs.own

pub returns-clause-reports : goal.returns-clause-reports
returns-clause-reports c = runs.reports

pub returns-clause-batches : goal.returns-clause-batches
returns-clause-batches c = runs.batches
