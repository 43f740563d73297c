use Rattle.pp_agenda.proofs.Agreeing.{all_may_go, may_be_said, covers_news, covers_rows, knows_no_more, exchanges_all, cancels_all, chokes_where_due, never_silent}
use Rattle.pp_agenda.proofs.laws_of_agendas.Goals as goal

pub returns-clause-goes : goal.returns-clause-goes
returns-clause-goes c = all_may_go

pub returns-clause-said : goal.returns-clause-said
returns-clause-said c = may_be_said

pub returns-clause-news : goal.returns-clause-news
returns-clause-news c = covers_news

pub returns-clause-rows : goal.returns-clause-rows
returns-clause-rows c = covers_rows

pub returns-clause-known : goal.returns-clause-known
returns-clause-known c = knows_no_more

pub returns-clause-exchanges : goal.returns-clause-exchanges
returns-clause-exchanges c = exchanges_all

pub returns-clause-cancels : goal.returns-clause-cancels
returns-clause-cancels c = cancels_all

pub returns-clause-turns : goal.returns-clause-turns
returns-clause-turns c = chokes_where_due

pub returns-clause-silence : goal.returns-clause-silence
returns-clause-silence c = never_silent
