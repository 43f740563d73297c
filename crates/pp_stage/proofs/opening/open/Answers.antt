use Rattle.std.proofs.Common.{◌≡◌, Option, false, refl, sym, ◌∙◌, ap, subst}
use Rattle.std.specs.Prelude.{Result, IfOk, IfErr, IfSome}
use Rattle.pp_outside.specs.MemoryDisk as disks
use Rattle.pp_core.specs.Peers.{PeerState}
use Rattle.pp_holding.specs.Opening.{IsOpenFault}
use Rattle.pp_scan.specs.declared.scanning.ScanFault.{ScanFault}
use Rattle.pp_stage.specs.Opening.{Begins, OpensAs}
use Rattle.pp_stage.specs.Shown.{IsReady}
use Rattle.pp_stage.specs.declared.turning.Running.{Running}
use Rattle.pp_stage.proofs.Opens.{opened, ready, refused}
use Rattle.pp_stage.proofs.opening.open.Goals as goal
use Rattle.pp_stage.proofs.opening.open.Goals.{in-Ok+in_ok-new-in-Ok, in-Err+in_ok-had_memory-in-Err}

pub returns-clause-opens : goal.returns-clause-opens
returns-clause-opens c =
    let enough : disks.is_short c.try_open-disk.result.disk ≡ false = sym c.short.ensures ∙ (c.in_ok-enough.ensures).0 refl in
    elim c.match-peer-3.branch [
      | in-Ok+in_ok-new-in-Ok w ↦
          let r : Running = record { peer = w.in-Ok.peer; link = w.in_ok-new-in-Ok.field-0; is_deaf = false } in
          let begins = subst (λ (p : Result PeerState ScanFault). IfOk p (Begins c.args.descriptor.now c.args.start.now (disks.state_of c.args.disk)
          (disks.state_of c.try_open-disk.result.disk))) w.in-Ok.is c.try_open-disk.ensures.begins in
          subst (OpensAs c.args.descriptor.now c.args.disk c.try_open-disk.result.disk) (sym w.running-is)
          (opened c.args.descriptor.now c.args.disk c.try_open-disk.result.disk enough c.try_open-disk.ensures.since r begins.scanned
          w.in_ok-new-in-Ok.ensures.state w.in_ok-new-in-Ok.ensures.no_events w.in_ok-new-in-Ok.ensures.nothing_ordered refl)
      | in-Err+in_ok-had_memory-in-Err w ↦
          let fault = subst (λ (p : Result PeerState ScanFault). IfErr p (IsOpenFault c.args.descriptor.now (disks.state_of c.args.disk)
          (disks.state_of c.try_open-disk.result.disk))) w.in-Err.is c.try_open-disk.ensures.fault in
          subst (OpensAs c.args.descriptor.now c.args.disk c.try_open-disk.result.disk) (sym w.running-is)
          (refused c.args.descriptor.now c.args.disk c.try_open-disk.result.disk enough c.try_open-disk.ensures.since
          w.in-Err.fault w.in_ok-had_memory-in-Err.ensures fault)
    ]

pub returns-clause-ready : goal.returns-clause-ready
returns-clause-ready c =
    let enough : disks.is_short c.try_open-disk.result.disk ≡ false = sym c.short.ensures ∙ (c.in_ok-enough.ensures).0 refl in
    elim c.match-peer-3.branch [
      | in-Ok+in_ok-new-in-Ok w ↦
          let r : Running = record { peer = w.in-Ok.peer; link = w.in_ok-new-in-Ok.field-0; is_deaf = false } in
          let begins = subst (λ (p : Result PeerState ScanFault). IfOk p (Begins c.args.descriptor.now c.args.start.now (disks.state_of c.args.disk)
          (disks.state_of c.try_open-disk.result.disk))) w.in-Ok.is c.try_open-disk.ensures.begins in
          subst (λ (o : Option Running). IfSome o IsReady) (sym w.running-is)
          (ready c.args.descriptor.now c.args.disk c.try_open-disk.result.disk enough c.try_open-disk.ensures.since r begins.scanned
          w.in_ok-new-in-Ok.ensures.state w.in_ok-new-in-Ok.ensures.no_events w.in_ok-new-in-Ok.ensures.nothing_ordered refl begins.begun.holding.live)
      | in-Err+in_ok-had_memory-in-Err w ↦ subst (λ (o : Option Running). IfSome o IsReady) (sym w.running-is) tt
    ]

pub returns-clause-begins : goal.returns-clause-begins
returns-clause-begins c = elim c.match-peer-3.branch [
  | in-Ok+in_ok-new-in-Ok w ↦
      subst (λ (o : Option Running). IfSome o (λ r. Begins c.args.descriptor.now c.args.start.now (disks.state_of c.args.disk)
      (disks.state_of c.try_open-disk.result.disk) r.peer)) (sym w.running-is)
      (subst (λ (p : Result PeerState ScanFault). IfOk p (Begins c.args.descriptor.now c.args.start.now (disks.state_of c.args.disk)
      (disks.state_of c.try_open-disk.result.disk))) w.in-Ok.is c.try_open-disk.ensures.begins)
  | in-Err+in_ok-had_memory-in-Err w ↦
      subst (λ (o : Option Running). IfSome o (λ r. Begins c.args.descriptor.now c.args.start.now (disks.state_of c.args.disk)
      (disks.state_of c.try_open-disk.result.disk) r.peer)) (sym w.running-is) tt
]
