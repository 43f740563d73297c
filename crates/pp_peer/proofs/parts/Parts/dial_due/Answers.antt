use Rattle.std.proofs.Common.{ℕ, refl, sym, ap, ◌∙◌}
use Rattle.pp_peer.specs.Dialling.{is_due, noticed, after_dial}
use Rattle.pp_peer.proofs.Dialled.{step_seated, step_noticed, step_dialled}
use Rattle.pp_peer.proofs.parts.Parts.dial_due.Goals as goal

pub returns-then-has_address : goal.returns-then-has_address
returns-then-has_address g c = step_seated c.args.dial.now
    (record { parts = c.args.self.now; link = g.L.Link.seen c.args.link.now; disk = g.D.Disk.state c.args.disk.now })
    (sym c.has_address.ensures ∙ c.if-has_address.true)

pub returns-then-not-is_due : goal.returns-then-not-is_due
returns-then-not-is_due g c = step_noticed c.args.dial.now c.noticed.result
    (record { parts = c.args.self.now; link = g.L.Link.seen c.args.link.now; disk = g.D.Disk.state c.args.disk.now })
    (record { parts = c.args.self.now; link = g.L.Link.seen c.args.link.now; disk = g.D.Disk.state c.args.disk.now })
    (sym c.has_address.ensures ∙ c.if-has_address.false)
    (ap (λ (n : ℕ). is_due n c.args.dial.now.state) (sym c.moment-now.ensures) ∙ sym c.is_due.ensures ∙ c.if-not-is_due.true) refl
    (c.noticed.ensures ∙ ap (λ (n : ℕ). noticed n c.args.dial.now.state) c.moment-now.ensures)

pub returns : goal.returns
returns g c = step_dialled c.args.dial.now c.after_dial.result
    (record { parts = c.args.self.now; link = g.L.Link.seen c.args.link.now; disk = g.D.Disk.state c.args.disk.now })
    (record { parts = c.dial-sent.new.self; link = g.L.Link.seen c.dial-sent.new.link; disk = g.D.Disk.state c.args.disk.now })
    (sym c.has_address.ensures ∙ c.if-has_address.false) c.dial-sent.result
    (ap (λ (n : ℕ). is_due n c.args.dial.now.state) (sym c.moment-now.ensures) ∙ sym c.is_due.ensures ∙ c.if-not-is_due.false)
    (refl, c.dial-sent.ensures.dials)
    (c.after_dial.ensures ∙ ap (λ (n : ℕ). after_dial n c.args.dial.now.state c.dial-sent.result) c.moment-now.ensures)
