-- Sorts of messages and of records, as they are asked of a whole traffic.
use Rattle.std.specs.Prelude.{ℕ, Bool, true, false}
use Rattle.pp_terms.specs.format.Traffic.{Record}
use Rattle.pp_terms.specs.format.Descriptor.{Descriptor}
use Rattle.pp_terms.specs.format.Messages.{Message, Request, Ack, Have}
use Rattle.pp_terms.specs.tree.Range.{within}
use Rattle.pp_traffic.specs.Plain.{is_handshake}
use Rattle.pp_traffic.specs.Committed.{requests}
use Rattle.pp_traffic.specs.Turns.{is_closing}
use Rattle.pp_promises.specs.OwnSide.{has_in, names_in}
use Rattle.pp_promises.specs.Announced as announced
use Rattle.pp_promises.specs.Answered.{is_choke, is_of, opens, chokes}
use Rattle.pp_promises.specs.Asked.{asks_for}
use Rattle.pp_recorded.specs.declared.sorts.Sort.{Sort}
use Rattle.pp_recorded.specs.declared.sorts.Sort.TheVariants as sorts
use Rattle.pp_recorded.specs.declared.marks.Mark.{Mark}
use Rattle.pp_recorded.specs.declared.marks.Mark.TheVariants as marks

abbrev pub is_request : Message → Bool
is_request (Request span) = true
is_request _ = false

-- an ACK or a HAVE covers the chunk
abbrev pub announces_in : ℕ → Message → Bool
announces_in i (Ack span delay) = within span i
announces_in i (Have span) = within span i
announces_in i _ = false

-- the test of a sort
abbrev pub sort_of : Sort → Message → Bool
sort_of sorts.Handshake m = is_handshake m
sort_of (sorts.HandshakeOf number) m = is_of number m
sort_of sorts.Choke m = is_choke m
sort_of sorts.Request m = is_request m
sort_of (sorts.RequestOf i) m = names_in i m
sort_of (sorts.HaveOf i) m = has_in i m
sort_of (sorts.AckOf i) m = announced.acknowledges i m
sort_of (sorts.DataOf i) m = announced.is_data i m
sort_of (sorts.NewsOf i) m = announces_in i m

-- the test of a record
abbrev pub mark_of : Mark → Descriptor → Record → Bool
mark_of marks.Opens d r = opens d r
mark_of marks.Chokes d r = chokes d r
mark_of marks.Requests d r = requests d r
mark_of marks.Closes d r = is_closing d r
mark_of (marks.AsksFor i) d r = asks_for d i r
mark_of (marks.Brings i) d r = announced.came_in d i r
