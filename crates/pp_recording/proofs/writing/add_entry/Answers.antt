use Rattle.std.proofs.Common.{◌≡◌, ℕ, ◌+◌, ◌-◌, ◌∙◌, ap, sym, codes, ◌++◌, take, drop, arith}
use Rattle.pp_outside.specs.Outside.{address_of}
use Rattle.pp_recording.specs.Spelling.{record_line, datagram_line}
use Rattle.pp_recording.specs.State.{record_of}
use Rattle.pp_recording.specs.declared.recording.Entry.{Entry}
use Rattle.pp_recording.proofs.NodeTexts.{datagram_added}
use Rattle.pp_recording.proofs.writing.add_entry.Goals as goal

pub returns-in_ok-add_datagram-in-Received : goal.returns-in_ok-add_datagram-in-Received
unfolding record_line
returns-in_ok-add_datagram-in-Received c =
    let all : c.in-Received.start + c.in-Received.len - c.in-Received.start ≡ c.in-Received.len = omega arith in
    datagram_added c.args.text.now.items (codes "received ") c.extend_from_slice.new.self.items c.add_datagram.new.text.items
    c.in-Received.at (address_of c.in-Received.from)
    (take (c.in-Received.start + c.in-Received.len - c.in-Received.start) (drop c.in-Received.start c.args.bytes.now))
    c.in_ok-extend_from_slice-in-Received.ensures.items c.in_ok-add_datagram-in-Received.ensures
    ∙ ap (λ (n : ℕ). c.args.text.now.items
    ++ datagram_line (codes "received ") c.in-Received.at (address_of c.in-Received.from) (take n (drop c.in-Received.start c.args.bytes.now))) all
    ∙ ap (λ (e : Entry). c.args.text.now.items ++ record_line (record_of c.args.bytes.now e)) (sym c.in-Received.is)

pub returns-in_ok-add_datagram-in-Sent : goal.returns-in_ok-add_datagram-in-Sent
unfolding record_line
returns-in_ok-add_datagram-in-Sent c =
    let all : c.in-Sent.start + c.in-Sent.len - c.in-Sent.start ≡ c.in-Sent.len = omega arith in
    datagram_added c.args.text.now.items (codes "sent ") c.extend_from_slice-in-Sent.new.self.items c.add_datagram-in-Sent.new.text.items
    c.in-Sent.moment (address_of c.in-Sent.to)
    (take (c.in-Sent.start + c.in-Sent.len - c.in-Sent.start) (drop c.in-Sent.start c.args.bytes.now))
    c.in_ok-extend_from_slice-in-Sent.ensures.items c.in_ok-add_datagram-in-Sent.ensures
    ∙ ap (λ (n : ℕ). c.args.text.now.items
    ++ datagram_line (codes "sent ") c.in-Sent.moment (address_of c.in-Sent.to) (take n (drop c.in-Sent.start c.args.bytes.now))) all
    ∙ ap (λ (e : Entry). c.args.text.now.items ++ record_line (record_of c.args.bytes.now e)) (sym c.in-Sent.is)
