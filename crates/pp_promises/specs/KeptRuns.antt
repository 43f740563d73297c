-- Small runs that keep the promises.
use Rattle.std.specs.Prelude.{ℕ, List, ◌++◌}
use Rattle.std.specs.List.{AllByRecursion}
use Rattle.pp_terms.specs.disk.Disk.{History}
use Rattle.pp_terms.specs.tree.Book.{LookUp}
use Rattle.pp_traffic.specs.Committed.{RequestsNone}
use Rattle.pp_traffic.specs.Meter.{lets_send}
use Rattle.pp_traffic.specs.Turns.{ClosesLast}
use Rattle.pp_promises.specs.LastTurn.{first_turn}
use Rattle.pp_promises.specs.Stored.{StoresAll}
use Rattle.pp_promises.specs.Served.{ServesBut}
use Rattle.pp_promises.specs.Announced.{AcknowledgesAll, TellsAll}
use Rattle.pp_promises.specs.Answered.{LetsInBut, ChokesNone}
use Rattle.pp_promises.specs.Asked.{IsMissed, MayBeAsked, AsksBut}
use Rattle.pp_promises.specs.Datagrams.{IsWhole}
use Rattle.pp_promises.specs.RunExample.{to_bob}
use Rattle.pp_promises.specs.Runs as run
use Rattle.pp_promises.specs.Runs.{past, bob, both, seven, hundred}

pub record KeptPromises : Type 0 where
  -- a newcomer gets its reply, and has not written since: nothing is owed to it
  pub lets_in : LetsInBut 0 seven (past run.opened)
  pub serves : (h : History) → ServesBut 0 seven (lets_send 1024) h (past run.opened)
  pub tells : (h : History) → TellsAll seven h (past run.opened)
  pub acknowledges : (book : LookUp) → AcknowledgesAll seven book (past run.opened)
  pub stores : (book : LookUp) (reads : List ℕ) → StoresAll seven book reads (past run.opened)
  pub asks : (reads : List ℕ) → AsksBut 0 seven reads (past run.opened)
  -- a refusal excuses a turn at whose end six chunks are owed
  pub excused : (h : History) → ServesBut 1 seven (lets_send 1024) h (past run.served_one)
  -- a channel with 32 requests need not be asked for more; who wrote first need not be dialled
  pub asked_enough : MayBeAsked hundred to_bob (past (run.dials_both ++ run.bob_replies ++ run.asks_bob 0 31)) → ⊥
  pub wrote_first : IsMissed hundred both (first_turn (past run.dials_other)) bob → ⊥
  -- nobody is choked; and one is, where there are nine
  pub chokes_none : ChokesNone 0 seven (past run.served_more)
  pub chokes_ninth : ChokesNone 0 seven (past run.nine_opened)
  -- a seeder asks for nothing; addresses are sent; the channels are closed at the end
  pub requests_none : RequestsNone seven (past run.served_more)
  pub whole : AllByRecursion (IsWhole seven) (past run.exchanged)
  pub closes_last : ClosesLast seven (past run.closed_up)
