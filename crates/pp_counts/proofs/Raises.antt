-- What a note changes in the counts.
use Rattle.std.proofs.Common.{◌≡◌, ◌≢◌, ℕ, ◌+◌, refl, ap, ◌∙◌, arith}
use Rattle.pp_terms.specs.Count.{capped}
use Rattle.pp_counts.specs.declared.counts.Counts.{Counts}
use Rattle.pp_counts.specs.declared.note.Note.{Note}
use Rattle.pp_counts.specs.declared.note.Note.TheVariants.{Turn, Datagram, Sent, Stored, KeepAlive, Short, Stranger, RefusedHandshake, NoSeat, Cut, Outside, NotANode, Full, Choked, Unheld, Missing, Wrong, Repeat, Damaged, ReadFault, SendFault, ReceiveFault}
use Rattle.pp_counts.specs.Counts.{tally_of, with_count, count_of, NotesRaiseOneCount, NotesAddUp}

-- the count of the note is the changed one
own_count : (note : Note) (change : ℕ → ℕ) (k : Counts)
    → count_of note (tally_of (with_count note change k)) ≡ change (count_of note (tally_of k))
own_count Turn change k = refl
own_count Datagram change k = refl
own_count Sent change k = refl
own_count Stored change k = refl
own_count KeepAlive change k = refl
own_count Short change k = refl
own_count Stranger change k = refl
own_count RefusedHandshake change k = refl
own_count NoSeat change k = refl
own_count Cut change k = refl
own_count Outside change k = refl
own_count NotANode change k = refl
own_count Full change k = refl
own_count Choked change k = refl
own_count Unheld change k = refl
own_count Missing change k = refl
own_count Wrong change k = refl
own_count Repeat change k = refl
own_count Damaged change k = refl
own_count ReadFault change k = refl
own_count SendFault change k = refl
own_count ReceiveFault change k = refl

-- each other count stands
other_count : (other note : Note) (change : ℕ → ℕ) (k : Counts) → other ≢ note
    → count_of other (tally_of (with_count note change k)) ≡ count_of other (tally_of k)
other_count Turn Turn change k ne = absurd (ne refl)
other_count Turn _ change k ne = refl
other_count Datagram Datagram change k ne = absurd (ne refl)
other_count Datagram _ change k ne = refl
other_count Sent Sent change k ne = absurd (ne refl)
other_count Sent _ change k ne = refl
other_count Stored Stored change k ne = absurd (ne refl)
other_count Stored _ change k ne = refl
other_count KeepAlive KeepAlive change k ne = absurd (ne refl)
other_count KeepAlive _ change k ne = refl
other_count Short Short change k ne = absurd (ne refl)
other_count Short _ change k ne = refl
other_count Stranger Stranger change k ne = absurd (ne refl)
other_count Stranger _ change k ne = refl
other_count RefusedHandshake RefusedHandshake change k ne = absurd (ne refl)
other_count RefusedHandshake _ change k ne = refl
other_count NoSeat NoSeat change k ne = absurd (ne refl)
other_count NoSeat _ change k ne = refl
other_count Cut Cut change k ne = absurd (ne refl)
other_count Cut _ change k ne = refl
other_count Outside Outside change k ne = absurd (ne refl)
other_count Outside _ change k ne = refl
other_count NotANode NotANode change k ne = absurd (ne refl)
other_count NotANode _ change k ne = refl
other_count Full Full change k ne = absurd (ne refl)
other_count Full _ change k ne = refl
other_count Choked Choked change k ne = absurd (ne refl)
other_count Choked _ change k ne = refl
other_count Unheld Unheld change k ne = absurd (ne refl)
other_count Unheld _ change k ne = refl
other_count Missing Missing change k ne = absurd (ne refl)
other_count Missing _ change k ne = refl
other_count Wrong Wrong change k ne = absurd (ne refl)
other_count Wrong _ change k ne = refl
other_count Repeat Repeat change k ne = absurd (ne refl)
other_count Repeat _ change k ne = refl
other_count Damaged Damaged change k ne = absurd (ne refl)
other_count Damaged _ change k ne = refl
other_count ReadFault ReadFault change k ne = absurd (ne refl)
other_count ReadFault _ change k ne = refl
other_count SendFault SendFault change k ne = absurd (ne refl)
other_count SendFault _ change k ne = refl
other_count ReceiveFault ReceiveFault change k ne = absurd (ne refl)
other_count ReceiveFault _ change k ne = refl

pub notes_raise_one_count : NotesRaiseOneCount
notes_raise_one_count note times k = record {
  raised = own_count note (λ n. capped (n + times)) k;
  others = λ other ne. other_count other note (λ n. capped (n + times)) k ne;
}

-- a count that is changed twice
with_count-with_count : (note : Note) (first then : ℕ → ℕ) (k : Counts)
    → with_count note then (with_count note first k) ≡ with_count note (λ n. then (first n)) k
with_count-with_count Turn first then k = refl
with_count-with_count Datagram first then k = refl
with_count-with_count Sent first then k = refl
with_count-with_count Stored first then k = refl
with_count-with_count KeepAlive first then k = refl
with_count-with_count Short first then k = refl
with_count-with_count Stranger first then k = refl
with_count-with_count RefusedHandshake first then k = refl
with_count-with_count NoSeat first then k = refl
with_count-with_count Cut first then k = refl
with_count-with_count Outside first then k = refl
with_count-with_count NotANode first then k = refl
with_count-with_count Full first then k = refl
with_count-with_count Choked first then k = refl
with_count-with_count Unheld first then k = refl
with_count-with_count Missing first then k = refl
with_count-with_count Wrong first then k = refl
with_count-with_count Repeat first then k = refl
with_count-with_count Damaged first then k = refl
with_count-with_count ReadFault first then k = refl
with_count-with_count SendFault first then k = refl
with_count-with_count ReceiveFault first then k = refl

-- changes that agree on each number make the same counts
with_count-ap : (note : Note) (one other : ℕ → ℕ) (k : Counts) → ((n : ℕ) → one n ≡ other n)
    → with_count note one k ≡ with_count note other k
with_count-ap Turn one other k same = ap (λ n. record k { turns = n }) (same k.turns)
with_count-ap Datagram one other k same = ap (λ n. record k { datagrams = n }) (same k.datagrams)
with_count-ap Sent one other k same = ap (λ n. record k { sent = n }) (same k.sent)
with_count-ap Stored one other k same = ap (λ n. record k { stored = n }) (same k.stored)
with_count-ap KeepAlive one other k same = ap (λ n. record k { keepalives = n }) (same k.keepalives)
with_count-ap Short one other k same = ap (λ n. record k { short = n }) (same k.short)
with_count-ap Stranger one other k same = ap (λ n. record k { stranger = n }) (same k.stranger)
with_count-ap RefusedHandshake one other k same = ap (λ n. record k { refused_handshakes = n }) (same k.refused_handshakes)
with_count-ap NoSeat one other k same = ap (λ n. record k { no_seat = n }) (same k.no_seat)
with_count-ap Cut one other k same = ap (λ n. record k { cut = n }) (same k.cut)
with_count-ap Outside one other k same = ap (λ n. record k { outside = n }) (same k.outside)
with_count-ap NotANode one other k same = ap (λ n. record k { not_a_node = n }) (same k.not_a_node)
with_count-ap Full one other k same = ap (λ n. record k { full = n }) (same k.full)
with_count-ap Choked one other k same = ap (λ n. record k { choked = n }) (same k.choked)
with_count-ap Unheld one other k same = ap (λ n. record k { unheld = n }) (same k.unheld)
with_count-ap Missing one other k same = ap (λ n. record k { missing = n }) (same k.missing)
with_count-ap Wrong one other k same = ap (λ n. record k { wrong = n }) (same k.wrong)
with_count-ap Repeat one other k same = ap (λ n. record k { repeats = n }) (same k.repeats)
with_count-ap Damaged one other k same = ap (λ n. record k { damaged = n }) (same k.damaged)
with_count-ap ReadFault one other k same = ap (λ n. record k { read_faults = n }) (same k.read_faults)
with_count-ap SendFault one other k same = ap (λ n. record k { send_faults = n }) (same k.send_faults)
with_count-ap ReceiveFault one other k same = ap (λ n. record k { receive_faults = n }) (same k.receive_faults)

capped-capped : (n first then : ℕ) → capped (capped (n + first) + then) ≡ capped (n + (first + then))
capped-capped n first then = omega arith

pub notes_add_up : NotesAddUp
notes_add_up note first then k =
    with_count-with_count note (λ n. capped (n + first)) (λ n. capped (n + then)) k
    ∙ with_count-ap note _ _ k (λ n. capped-capped n first then)
