use Rattle.std.proofs.Common.{◌≡◌, true, false, refl, sym, ◌∙◌, ap, subst}
use Rattle.pp_terms.specs.Count.{HasRisen}
use Rattle.pp_outside.specs.MemoryDisk as disks
use Rattle.pp_outside.specs.MemoryLink as links
use Rattle.pp_outside.specs.Outside.{DoesNext}
use Rattle.pp_outside.specs.declared.link.LinkFault.{LinkFault}
use Rattle.pp_outside.specs.declared.memory_disk.MemoryDisk.{MemoryDisk}
use Rattle.pp_outside.specs.declared.memory_link.MemoryLink.{MemoryLink}
use Rattle.pp_turns.specs.Turning.{Post, post}
use Rattle.pp_outside.specs.declared.memory_link.MemoryLink.{MemoryLink}
use Rattle.pp_watch.specs.Done as doings
use Rattle.pp_watch.specs.Done.{DiskBefore}
use Rattle.pp_watch.specs.Sent as sendings
use Rattle.pp_watch.specs.Sent.{LinkBefore}
use Rattle.pp_watch.specs.Turned.{Devices}
use Rattle.pp_stage.proofs.Acts.{flushed, acted_on, acted_off, failed, promised_on, promised_off, renamed}
use Rattle.pp_stage.proofs.acting.act.Goals as goal
use Rattle.pp_stage.proofs.acting.act.Goals.{then-goes_on, else-goes_on}

pub returns-clause-acted : goal.returns-clause-acted
returns-clause-acted g c =
    let old : Devices = record { disk = c.args.devices.disk; link = c.args.devices.link } in
    let new : Devices = record { disk = c.into_inner.result; link = c.into_inner-2.result } in
    let done = subst (λ (b : DiskBefore). doings.IsSince b c.into_inner.result) c.requires.disk c.into_inner.ensures.since in
    let over = subst (λ (b : LinkBefore). sendings.IsSince b c.into_inner-2.result) c.requires.link c.into_inner-2.ensures.since in
    elim c.if-goes_on.branch [
      | then-goes_on w ↦
          acted_on c.is_ok-goes_on.result old new w.flush.ensures.exact.1.flushes.added done over
          (flushed old (record { disk = c.hear.new.disk; link = c.new-link.result }) new w.flush.ensures.exact.0 _ _ w.flush.ensures.exact.1.flushes
          (ap links.state_of c.new-link.ensures) refl
          (ap links.state_of (sym w.link-is ∙ sym c.into_inner-2.ensures.is)) (ap disks.state_of (sym w.disk-is ∙ sym c.into_inner.ensures.is)))
          w.if-goes_on.true
      | else-goes_on w ↦
          acted_off c.is_ok-goes_on.result old new done over
          (ap links.state_of (c.into_inner-2.ensures.is ∙ w.link-is ∙ c.new-link.ensures))
          (subst (λ (m : MemoryDisk). HasRisen (disks.state_of m).hard (disks.state_of c.into_inner.result).hard) c.new-disk.ensures
          (subst (λ (m : MemoryDisk). HasRisen (disks.state_of c.new-disk.result).hard (disks.state_of m).hard) (sym w.disk-is ∙ sym c.into_inner.ensures.is)
          ((c.hear.ensures.cause c.requires.live).risen (failed c.hear.result (sym c.is_ok-goes_on.ensures.value ∙ w.if-goes_on.false)))))
          w.if-goes_on.false
    ]

pub returns-clause-promises : goal.returns-clause-promises
returns-clause-promises g c link does =
    let old : Post = post c.args.peer.now (disks.state_of c.new-disk.result) link in
    let heard : Post = post c.hear.new.peer (disks.state_of c.hear.new.disk) (links.state_of c.new-link.result) in
    let came = subst (λ (l : MemoryLink). DoesNext {E = LinkFault} link c.args.buffer.now c.args.came (links.state_of l)) (sym c.new-link.ensures) does in
    let waits = c.hear.ensures.waits link (links.state_of c.new-link.result) came in
    elim c.if-goes_on.branch [
      | then-goes_on w ↦
          renamed true c.is_ok-goes_on.result c.args.peer.now w.flush.new.self c.if-goes_on.peer link c.new-disk.result c.args.devices.disk
          w.flush.new.disk c.into_inner.result w.flush.new.link c.into_inner-2.result (sym w.if-goes_on.true) c.new-disk.ensures (sym w.peer-is)
          (sym w.disk-is ∙ sym c.into_inner.ensures.is) (sym w.link-is ∙ sym c.into_inner-2.ensures.is)
          (promised_on old heard (post w.flush.new.self (disks.state_of w.flush.new.disk) (links.state_of w.flush.new.link)) c.hear.result
          w.flush.ensures.exact.0 (sym c.is_ok-goes_on.ensures.value ∙ w.if-goes_on.true) waits w.flush.ensures.exact.1 w.flush.ensures.exact.2)
      | else-goes_on w ↦
          renamed false c.is_ok-goes_on.result c.args.peer.now c.hear.new.peer c.if-goes_on.peer link c.new-disk.result c.args.devices.disk
          c.hear.new.disk c.into_inner.result c.new-link.result c.into_inner-2.result (sym w.if-goes_on.false) c.new-disk.ensures (sym w.peer-is)
          (sym w.disk-is ∙ sym c.into_inner.ensures.is) (sym w.link-is ∙ sym c.into_inner-2.ensures.is)
          (promised_off old heard c.hear.result (sym c.is_ok-goes_on.ensures.value ∙ w.if-goes_on.false) waits)
    ]
