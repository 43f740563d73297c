use Rattle.std.proofs.Common.{◌≡◌, ℕ, zero, ◌+◌, ◌-◌, ◌≤◌, List, refl, sym, ◌∙◌, ap, arith}
use Rattle.std.specs.Prelude.{drop, length, reverse, take}
use Rattle.pp_terms.specs.format.Traffic.{Record}
use Rattle.pp_outside.specs.MemoryLink.{in_order}
use Rattle.pp_outside.specs.Outside.{address_of}
use Rattle.pp_outside.specs.Records.{bytes_of, marked}
use Rattle.pp_outside.specs.declared.records.Mark.{Mark}
use Rattle.pp_world.specs.World.{Queued}
use Rattle.pp_mail.specs.Mail.{delivered}
use Rattle.pp_play.specs.Stage.{mail_after, mail_with}
use Rattle.pp_play.proofs.Deliveries.{all_taken, bytes_there, length-delivered, next_delivered}
use Rattle.pp_play.proofs.delivering.deliver.Goals as goal
use Rattle.pp_play.proofs.delivering.deliver.Goals.{in-Sent+in_ok-deliver-in-Sent, in-Received, in-Quiet}

pub loop-n-init : goal.loop-n-init
loop-n-init c =
    let none : zero ≡ c.args.from - c.args.from = omega arith in
    (ap (λ (k : ℕ). mail_after c.args.sender (reverse (take k (drop c.args.from (in_order c.args.link.now)))) c.args.mail.now) none, omega arith, refl)

pub loop-n-preserved : goal.loop-n-preserved
loop-n-preserved c =
    let bytes : List ℕ = c.mark.ensures.0 in
    let later : c.args.from ≤ c.loop-n.n = c.loop-n.invariant.1 in
    let more : c.args.from ≤ c.loop-n.n + 1 = omega (arith, later) in
    let next = next_delivered c.args.sender c.args.from c.loop-n.n (in_order c.args.link.now) (marked c.mark.result bytes) c.args.mail.now c.loop-n.mail
    later c.mark.ensures.1 c.loop-n.invariant.0 in
    let is : c.match-mark.mail ≡ mail_with c.args.sender (marked c.mark.result bytes) c.loop-n.mail = elim c.match-mark.branch [
      | in-Sent+in_ok-deliver-in-Sent w ↦
          let same = bytes_there (in_order c.args.link.now) c.loop-n.n (marked c.mark.result bytes) w.mark_bytes.result.now c.mark.ensures.1 w.mark_bytes.ensures
          ∙ ap (λ (m : Mark). bytes_of (marked m bytes)) w.in-Sent.is in
          w.mail-is ∙ w.in_ok-deliver-in-Sent.ensures.ok
          ∙ ap (λ (b : List ℕ). delivered c.args.sender (address_of w.in-Sent.to) b c.loop-n.mail) same
          ∙ sym (ap (λ (m : Mark). mail_with c.args.sender (marked m bytes) c.loop-n.mail) w.in-Sent.is)
      | in-Received w ↦ w.mail-is ∙ sym (ap (λ (m : Mark). mail_with c.args.sender (marked m bytes) c.loop-n.mail) w.in-Received.is)
      | in-Quiet w ↦ w.mail-is ∙ sym (ap (λ (m : Mark). mail_with c.args.sender (marked m bytes) c.loop-n.mail) w.in-Quiet.is)
    ] in
    let size : length c.match-mark.mail ≡ length c.loop-n.mail = elim c.match-mark.branch [
      | in-Sent+in_ok-deliver-in-Sent w ↦
          ap (λ (m : List (List Queued)). length m) (w.mail-is ∙ w.in_ok-deliver-in-Sent.ensures.ok)
          ∙ length-delivered c.args.sender (address_of w.in-Sent.to) w.mark_bytes.result.now c.loop-n.mail
      | in-Received w ↦ ap (λ (m : List (List Queued)). length m) w.mail-is
      | in-Quiet w ↦ ap (λ (m : List (List Queued)). length m) w.mail-is
    ] in
    (is ∙ next, more, size ∙ c.loop-n.invariant.2)

pub returns-clause-sent : goal.returns-clause-sent
returns-clause-sent c =
    c.loop-n.invariant.0 ∙ ap (λ (rs : List Record). mail_after c.args.sender (reverse rs) c.args.mail.now)
    (all_taken (in_order c.args.link.now) c.args.from c.loop-n.n (let end = c.loop-n-test.false in let size = c.marks-n-end.ensures in omega (arith, end, size)))
