use Rattle.std.proofs.Common.{ℕ, ◌-◌, [], ◌∷◌, List, length, sym, ◌∙◌, ap, subst, arith}
use Rattle.pp_terms.specs.disk.Disk.{History, written}
use Rattle.pp_terms.proofs.Knowing.{known_on}
use Rattle.pp_store.specs.Upgrade.{IsCopied}
use Rattle.pp_store.proofs.Copies.{longer_size, longer_copied}
use Rattle.pp_store.proofs.Writings.{keeps_more, write_puts}
use Rattle.pp_store.proofs.copying.copy_file.Goals as goal

pub returns-in-Ok-write_at-clause-copied : goal.returns-in-Ok-write_at-clause-copied
returns-in-Ok-write_at-clause-copied g c known =
    let start = g.D.Disk.state c.args.disk.now in
    let mid = g.D.Disk.state c.copy_slots.new.disk in
    let left = (g.S.Source.state c.args.source.now).left in
    let keeps = c.in-Ok.ensures.behind in
    let is = ap (λ (h : History). h.reads) (c.in-Ok-write_at.ensures.done (known_on start mid keeps.tells keeps.honest known))
    ∙ ap (λ (n : ℕ). written mid.history.reads (n - 1) (0 ∷ [])) c.file_size.ensures.size in
    subst (λ (r : List ℕ). IsCopied c.args.descriptor.now left r) (sym is)
    (longer_copied c.args.descriptor.now left mid.history.reads (c.in-Ok.ensures.copied known) (omega (arith, c.file_size.ensures.size, c.file_size.ensures.least)))

pub returns-in-Ok-write_at-clause-long : goal.returns-in-Ok-write_at-clause-long
returns-in-Ok-write_at-clause-long g c known =
    let start = g.D.Disk.state c.args.disk.now in
    let mid = g.D.Disk.state c.copy_slots.new.disk in
    let left = (g.S.Source.state c.args.source.now).left in
    let keeps = c.in-Ok.ensures.behind in
    let is = ap (λ (h : History). h.reads) (c.in-Ok-write_at.ensures.done (known_on start mid keeps.tells keeps.honest known))
    ∙ ap (λ (n : ℕ). written mid.history.reads (n - 1) (0 ∷ [])) c.file_size.ensures.size in
    ap (λ (r : List ℕ). length r) is
    ∙ longer_size c.args.descriptor.now left mid.history.reads (c.in-Ok.ensures.copied known) (omega (arith, c.file_size.ensures.size, c.file_size.ensures.least))

pub returns-in-Ok-write_at-clause-behind : goal.returns-in-Ok-write_at-clause-behind
returns-in-Ok-write_at-clause-behind g c =
    keeps_more _ _ _ c.in-Ok.ensures.behind (write_puts _ _ _ _ _ (omega (arith, c.file_size.ensures.least)) c.in-Ok-write_at.ensures).does.keeps

pub returns-in-Err-write_at-clause-behind : goal.returns-in-Err-write_at-clause-behind
returns-in-Err-write_at-clause-behind g c =
    keeps_more _ _ _ c.in-Ok.ensures.behind (write_puts _ _ _ _ _ (omega (arith, c.file_size.ensures.least)) c.in-Err-write_at.ensures).does.keeps
