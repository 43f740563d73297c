use Rattle.std.proofs.Common.{◌≡◌, get_or, refl, subst, sym, ◌∙◌, false}
use Rattle.std.proofs.lemmas.Bool.{or_right}
use Rattle.pp_terms.specs.tree.Book.{IsRooted}
use Rattle.pp_store.specs.Gates.{made_durable, IsRefusedCommit}
use Rattle.pp_store.specs.Pairs.{GoesOnSince}
use Rattle.pp_store.specs.Sound.{StaysGated}
use Rattle.pp_store.proofs.Puttings.{held_within, either_left}
use Rattle.pp_store.proofs.Gated.{gated_more}
use Rattle.pp_store.proofs.GateWrites.{durable_goes_on, refused_goes_on, durable_keeps, refused_keeps, durable_gated, refused_gated}
use Rattle.pp_store.specs.Store.{StoreState, is_committed, is_held, AgreesWith, HoldsAll, AllStand, KnowsHeld, HasCommitted}
use Rattle.pp_store.proofs.Committing.{commit_none, sized_committed, agrees_gates, agrees_committed, stands_committed, committed_is, agrees_dead, knows_committed, knows_live}
use Rattle.pp_store.proofs.keeping.Store.commit.Goals as goal

pub returns-then-count-eq0-clause-committed : goal.returns-then-count-eq0-clause-committed
returns-then-count-eq0-clause-committed g c =
    subst (λ (s : StoreState). HasCommitted s s) c.self.view_is
    (commit_none (record { descriptor = c.self.inside.descriptor; committed = c.self.inside.committed; pending = c.self.inside.pending; pairs = c.self.inside.pairs; live = c.self.inside.live })
    c.self.invariant (sym c.count.ensures ∙ c.if-count-eq0.true))

pub returns-in-Ok-clause-durable : goal.returns-in-Ok-clause-durable
returns-in-Ok-clause-durable g c known some =
    subst (λ (s : StoreState). (g.D.Disk.state c.make_durable.new.disk).history ≡ made_durable s.descriptor s.pending (g.D.Disk.state c.args.disk.now).history) c.self.view_is (c.in-Ok.ensures.done known)

pub returns-in-Ok-clause-goes_on : goal.returns-in-Ok-clause-goes_on
returns-in-Ok-clause-goes_on g c known l =
    subst (λ (s : StoreState). get_or s.pending l false ≡ false → GoesOnSince s.descriptor l (g.D.Disk.state c.args.disk.now).history (g.D.Disk.state c.make_durable.new.disk).history) c.self.view_is
    (λ out. durable_goes_on c.self.inside.descriptor c.self.inside.pending (g.D.Disk.state c.args.disk.now).history (g.D.Disk.state c.make_durable.new.disk).history c.chunks.ensures.valid l out
    (g.met.D.Disk.whole c.args.disk.now known) (c.in-Ok.ensures.done known))

pub returns-in-Ok-clause-agrees : goal.returns-in-Ok-clause-agrees
returns-in-Ok-clause-agrees g c known book rooted agrees =
    let done = committed_is c.self.inside.descriptor c.self.inside.committed c.self.inside.pending c.self.inside.pairs c.commit_all.new.committed c.commit_all.new.pending
    c.self.inside.live c.self.invariant c.commit_all.ensures.size c.commit_all.ensures.none c.commit_all.ensures.each in
    let before : StoreState = record { descriptor = c.self.inside.descriptor; committed = c.self.inside.committed; pending = c.self.inside.pending; pairs = c.self.inside.pairs; live = c.self.inside.live } in
    agrees_committed before _ done book (g.D.Disk.state c.make_durable.new.disk).history.reads
    (durable_keeps c.self.inside.descriptor c.self.inside.pending (g.D.Disk.state c.args.disk.now).history (g.D.Disk.state c.make_durable.new.disk).history c.chunks.ensures.valid
    (λ reads. AgreesWith before book reads)
    (agrees_gates before book c.chunks.ensures.valid (subst (λ (s : StoreState). IsRooted s.descriptor book) (sym c.self.view_is) rooted)
    (λ l. held_within c.self.inside.descriptor c.self.inside.committed c.self.inside.pending c.self.inside.pairs l c.self.invariant))
    (c.in-Ok.ensures.done known)
    (subst (λ (s : StoreState). AgreesWith s book (g.D.Disk.state c.args.disk.now).history.reads) (sym c.self.view_is) agrees))

pub returns-in-Ok-clause-stands : goal.returns-in-Ok-clause-stands
returns-in-Ok-clause-stands g c known holds all =
    let done = committed_is c.self.inside.descriptor c.self.inside.committed c.self.inside.pending c.self.inside.pairs c.commit_all.new.committed c.commit_all.new.pending
    c.self.inside.live c.self.invariant c.commit_all.ensures.size c.commit_all.ensures.none c.commit_all.ensures.each in
    let before : StoreState = record { descriptor = c.self.inside.descriptor; committed = c.self.inside.committed; pending = c.self.inside.pending; pairs = c.self.inside.pairs; live = c.self.inside.live } in
    subst (λ (s : StoreState). AllStand s.descriptor c.commit_all.new.committed (g.D.Disk.state c.make_durable.new.disk).history) c.self.view_is
    (stands_committed before _ done (g.D.Disk.state c.args.disk.now).history (g.D.Disk.state c.make_durable.new.disk).history c.chunks.ensures.valid (c.in-Ok.ensures.done known)
    (g.met.D.Disk.whole c.args.disk.now known)
    (subst (λ (s : StoreState). HoldsAll s (g.D.Disk.state c.args.disk.now).history.reads) (sym c.self.view_is) holds)
    (subst (λ (s : StoreState). AllStand s.descriptor s.committed (g.D.Disk.state c.args.disk.now).history) (sym c.self.view_is) all))

pub returns-in-Err-clause-refused : goal.returns-in-Err-clause-refused
returns-in-Err-clause-refused g c known =
    subst (λ (s : StoreState). IsRefusedCommit s.descriptor s.pending (g.D.Disk.state c.args.disk.now).history (g.D.Disk.state c.make_durable.new.disk).history) c.self.view_is (c.in-Err.ensures.refused known)

pub returns-in-Err-clause-goes_on : goal.returns-in-Err-clause-goes_on
returns-in-Err-clause-goes_on g c known l =
    subst (λ (s : StoreState). get_or s.pending l false ≡ false → GoesOnSince s.descriptor l (g.D.Disk.state c.args.disk.now).history (g.D.Disk.state c.make_durable.new.disk).history) c.self.view_is
    (λ out. refused_goes_on c.self.inside.descriptor c.self.inside.pending (g.D.Disk.state c.args.disk.now).history (g.D.Disk.state c.make_durable.new.disk).history c.chunks.ensures.valid l out
    (g.met.D.Disk.whole c.args.disk.now known) (c.in-Err.ensures.refused known))

pub returns-in-Err-clause-agrees : goal.returns-in-Err-clause-agrees
returns-in-Err-clause-agrees g c known book rooted agrees =
    let before : StoreState = record { descriptor = c.self.inside.descriptor; committed = c.self.inside.committed; pending = c.self.inside.pending; pairs = c.self.inside.pairs; live = c.self.inside.live } in
    agrees_dead before c.self.inside.descriptor c.self.inside.committed c.self.inside.pending c.self.inside.pairs c.self.inside.live false book
    (g.D.Disk.state c.make_durable.new.disk).history.reads refl
    (refused_keeps c.self.inside.descriptor c.self.inside.pending (g.D.Disk.state c.args.disk.now).history (g.D.Disk.state c.make_durable.new.disk).history c.chunks.ensures.valid
    (λ reads. AgreesWith before book reads)
    (agrees_gates before book c.chunks.ensures.valid (subst (λ (s : StoreState). IsRooted s.descriptor book) (sym c.self.view_is) rooted)
    (λ l. held_within c.self.inside.descriptor c.self.inside.committed c.self.inside.pending c.self.inside.pairs l c.self.invariant))
    (c.in-Err.ensures.refused known)
    (subst (λ (s : StoreState). AgreesWith s book (g.D.Disk.state c.args.disk.now).history.reads) (sym c.self.view_is) agrees))

pub returns-in-Ok-clause-knows : goal.returns-in-Ok-clause-knows
returns-in-Ok-clause-knows g c book knows =
    let done = committed_is c.self.inside.descriptor c.self.inside.committed c.self.inside.pending c.self.inside.pairs c.commit_all.new.committed c.commit_all.new.pending
    c.self.inside.live c.self.invariant c.commit_all.ensures.size c.commit_all.ensures.none c.commit_all.ensures.each in
    knows_committed _ _ done book (subst (λ (s : StoreState). KnowsHeld s book) (sym c.self.view_is) knows)

pub returns-in-Err-clause-knows : goal.returns-in-Err-clause-knows
returns-in-Err-clause-knows g c book =
    knows_live c.args.self.now c.self.inside.descriptor c.self.inside.committed c.self.inside.pending c.self.inside.pairs c.self.inside.live false book c.self.view_is

pub returns-in-Ok-clause-gated : goal.returns-in-Ok-clause-gated
returns-in-Ok-clause-gated g c known =
    subst (λ (s : StoreState). HoldsAll s (g.D.Disk.state c.args.disk.now).history.reads
    → StaysGated s.descriptor (is_committed s) (is_held s) (g.D.Disk.state c.args.disk.now).history (g.D.Disk.state c.make_durable.new.disk).history) c.self.view_is
    (λ holds moment within all.
    let before : StoreState = record { descriptor = c.self.inside.descriptor; committed = c.self.inside.committed; pending = c.self.inside.pending; pairs = c.self.inside.pairs; live = c.self.inside.live } in
    durable_gated c.self.inside.descriptor (is_held before) c.chunks.ensures.valid (is_committed before) c.self.inside.pending (g.D.Disk.state c.args.disk.now).history
    (g.D.Disk.state c.make_durable.new.disk).history (g.met.D.Disk.whole c.args.disk.now known) (λ i at. either_left (get_or c.self.inside.committed i false) (get_or c.self.inside.pending i false) at)
    (λ i at. or_right (get_or c.self.inside.committed i false) (get_or c.self.inside.pending i false) at) holds moment within all (c.in-Ok.ensures.done known))

pub returns-in-Err-clause-gated : goal.returns-in-Err-clause-gated
returns-in-Err-clause-gated g c known =
    subst (λ (s : StoreState). HoldsAll s (g.D.Disk.state c.args.disk.now).history.reads
    → StaysGated s.descriptor (is_committed s) (is_held s) (g.D.Disk.state c.args.disk.now).history (g.D.Disk.state c.make_durable.new.disk).history) c.self.view_is
    (λ holds moment within all.
    let before : StoreState = record { descriptor = c.self.inside.descriptor; committed = c.self.inside.committed; pending = c.self.inside.pending; pairs = c.self.inside.pairs; live = c.self.inside.live } in
    refused_gated c.self.inside.descriptor (is_held before) c.chunks.ensures.valid (is_committed before) c.self.inside.pending (g.D.Disk.state c.args.disk.now).history
    (g.D.Disk.state c.make_durable.new.disk).history (g.met.D.Disk.whole c.args.disk.now known) (λ i at. either_left (get_or c.self.inside.committed i false) (get_or c.self.inside.pending i false) at)
    (λ i at. or_right (get_or c.self.inside.committed i false) (get_or c.self.inside.pending i false) at) holds moment within all (c.in-Err.ensures.refused known))

pub returns-then-count-eq0-clause-gated : goal.returns-then-count-eq0-clause-gated
returns-then-count-eq0-clause-gated g c known holds moment within all image since =
    gated_more c.args.self.now.descriptor (is_committed c.args.self.now) (is_held c.args.self.now) image
    (λ i at. either_left (get_or c.args.self.now.committed i false) (get_or c.args.self.now.pending i false) at) (all image since)

pub invariant_of-self : goal.invariant_of-self
invariant_of-self g c =
    sized_committed c.self.inside.descriptor c.self.inside.committed c.self.inside.pending c.self.inside.pairs c.commit_all.new.committed c.commit_all.new.pending
    c.self.invariant c.commit_all.ensures.size c.commit_all.ensures.none c.commit_all.ensures.each
