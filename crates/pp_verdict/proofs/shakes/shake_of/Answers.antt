use Rattle.std.proofs.Common.{cond, subst, true, ◌≡◌}
use Rattle.pp_traffic.specs.Life.{greets, answers}
use Rattle.pp_recorded.specs.Entries.{record_of}
use Rattle.pp_recorded.specs.declared.entry.Entry.{Entry}
use Rattle.pp_recorded.specs.declared.entry.Entry.TheVariants as entries
use Rattle.pp_verdict.proofs.Handshakes.{greeting_parts, reply_parts, greeting_is, reply_is}
use Rattle.pp_verdict.proofs.shakes.shake_of.Goals as goal

pub returns-in-Received-clause-greets : goal.returns-in-Received-clause-greets
returns-in-Received-clause-greets c = λ life e.
    let d = c.args.descriptor.now in
    let is = subst (λ (x : Entry). greets d life (record_of x) ≡ true) c.in-Received.is e in
    let parts = greeting_parts d life (record_of (entries.Received c.in-Received.at c.in-Received.from c.in-Received.bytes)) is in
    greeting_is life c.in-Received.from c.args.place c.shake_in.result parts.0
    (c.shake_in.ensures (cond life.is_dialled life.local 0) life.remote parts.1 parts.2)

pub returns-in-Sent-clause-answers : goal.returns-in-Sent-clause-answers
returns-in-Sent-clause-answers c = λ life e.
    let d = c.args.descriptor.now in
    let is = subst (λ (x : Entry). answers d life (record_of x) ≡ true) c.in-Sent.is e in
    let parts = reply_parts d life (record_of (entries.Sent c.in-Sent.moment c.in-Sent.to c.in-Sent.bytes)) is in
    reply_is life c.in-Sent.to c.args.place c.shake_in-in-Sent.result parts.0
    (c.shake_in-in-Sent.ensures (cond life.is_dialled 0 life.remote) life.local parts.1 parts.2)
