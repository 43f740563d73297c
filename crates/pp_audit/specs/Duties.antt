-- What is to be so of each plain channel, as tests.
use Rattle.std.specs.Prelude.{nat_le, Bool, not, ◌||◌, List}
use Rattle.pp_terms.specs.format.Traffic.{Record}
use Rattle.pp_terms.specs.format.Descriptor.{Descriptor}
use Rattle.pp_traffic.specs.Past.{now}
use Rattle.pp_traffic.specs.Life.{Life}
use Rattle.pp_traffic.specs.Asking.{is_heard}
use Rattle.pp_promises.specs.Answered.{wrote_lately}
use Rattle.pp_promises.specs.Announced.{fewest_new, new_count}
use Rattle.pp_audit.specs.Acknowledgements.{acknowledges}
use Rattle.pp_audit.specs.Asks.{may_be_served}
use Rattle.pp_audit.specs.Debts.{leaves_few}
use Rattle.pp_audit.specs.declared.debts.Debt.TheVariants as debts
use Rattle.pp_recorded.specs.Offers.{may_be_asked, asks_offered}
use Rattle.pp_recorded.specs.PlainTests.{is_plain, is_plain_newest}
use Rattle.pp_audit.specs.Storings.{stores_newest}
use Rattle.pp_tree.specs.Book.{entry}
use Rattle.pp_audit.specs.declared.duties.Duty.{Duty}
use Rattle.pp_audit.specs.declared.duties.Duty.TheVariants as duties

-- a duty is owed to a plain channel; where it is of the newest record, to one that is plain up to it
abbrev pub is_due : Duty → Descriptor → List Record → Life → Bool
is_due (duties.Stores book held) d past life = is_plain_newest d life past
is_due _ d past life = is_plain d life past

abbrev pub duty_of : Duty → Descriptor → List Record → Life → Bool
duty_of duties.KeepsUp d past life = wrote_lately d life (now past) past
duty_of (duties.Serves refusals stood) d past life = not (may_be_served d past life) || leaves_few refusals debts.Owed stood.now d past life
duty_of (duties.Tells stood) d past life =
    not (is_heard d life past) || (leaves_few 0 debts.Untold stood.now d past life || nat_le fewest_new (new_count d life past))
duty_of (duties.Asks held) d past life = not (may_be_asked d past life) || asks_offered held.now d past life
duty_of (duties.Stores book held) d past life = stores_newest d (entry book.now) held.now past life
duty_of (duties.Acknowledges book) d past life = acknowledges d (entry book.now) past life

-- a channel passes the test of a duty that it is owed
abbrev pub is_done : Duty → Descriptor → List Record → Life → Bool
is_done duty d past life = not (is_due duty d past life) || duty_of duty d past life
