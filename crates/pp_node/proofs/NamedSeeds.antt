-- A seed by the name of its swarm, from what its parts do.
use Rattle.std.proofs.Common.{◌≡◌, ℕ, ◌<◌, ◌≤◌, Option, Some, None, List, length, Result, Ok, Err, sym, ◌∙◌, ap, subst, arith}
use Rattle.pp_terms.specs.disk.Disk.{DiskState, History, IsKnown, DoesAttach, GainsName}
use Rattle.pp_terms.specs.disk.Image.{known}
use Rattle.pp_terms.specs.disk.Untouched.{IsFreshlyAttached}
use Rattle.pp_terms.specs.format.Descriptor.{Descriptor}
use Rattle.pp_terms.specs.format.Traffic.{LinkState, GainsAddress}
use Rattle.pp_terms.specs.tree.Book.{LookUp}
use Rattle.pp_terms.proofs.Knowing.{known_on}
use Rattle.pp_terms.proofs.Risings.{risen_less}
use Rattle.pp_terms.proofs.Untouched.{freshly_attached}
use Rattle.pp_tree.specs.Book.{BookState, entry, IsBookOf}
use Rattle.pp_tree.specs.declared.node.Node.{Node}
use Rattle.pp_core.specs.Peers.{PeerState}
use Rattle.pp_scan.specs.Look.{KeepsAll}
use Rattle.pp_targets.specs.Target.{SwarmName}
use Rattle.pp_named.specs.Told.{HasTold}
use Rattle.pp_named.specs.declared.probing.NameFault.{NameFault}
use Rattle.pp_named.specs.declared.probing.NameFault.TheVariants as probes
use Rattle.pp_named.specs.Shape.{IsMisshapen, IsFirstMisshapen, FindsMisshapen}
use Rattle.pp_node.specs.Looking.{Lasts}
use Rattle.pp_named.specs.Front.{size_in}
use Rattle.pp_terms.specs.disk.Store.{HasHeader}
use Rattle.pp_node.specs.Naming.{IsTold, HasAttached, FindsTold, TellsNamed, fault_of_name}
use Rattle.pp_node.specs.NamedSeeding.{WasInShape}
use Rattle.pp_node.specs.Outside.{Outside}
use Rattle.pp_node.specs.Preparing.{IsUnsent, IsReady}
use Rattle.pp_node.specs.Seeding.{words_of}
use Rattle.pp_node.specs.declared.preparing.Peering.{Peering}
use Rattle.pp_node.specs.declared.naming.NamingFault.{NamingFault}
use Rattle.pp_node.specs.declared.naming.NamingFault.TheVariants as fault
use Rattle.pp_node.proofs.ByName.{kept_found, told_later, other_later, empty_other, other_kept, size_kept, told_scanned}
use Rattle.pp_node.proofs.Looks.{found_kept, named_later}
use Rattle.pp_node.proofs.Peers.{WasReady, was_ready}
use Rattle.pp_node.proofs.Readies.{ready_since}

-- ---- what the header tells

module _ (name : SwarmName) (old new : DiskState) (fresh : IsKnown old → IsFreshlyAttached old.history) (keeps : KeepsAll old new) where
  pub finds_told : (o : Option Descriptor) → HasTold name old new (Ok o) → FindsTold name old new (Ok o)
  finds_told None has = record {
    empty = λ known. kept_found name old new fresh keeps known ∙ has known;
    untouched = λ known. subst IsFreshlyAttached (sym keeps.same) (fresh known);
  }
  finds_told (Some e) has = told_scanned name e old new has (found_kept e old new fresh keeps)

  pub finds_fault : (f : NameFault) → HasTold name old new (Err f) → FindsTold name old new (Err (fault_of_name f))
  finds_fault (probes.NotAStore at found want) has = (
    other_kept name old new fresh keeps at found want has,
    λ known. subst (λ (r : List ℕ). 0 < length r) (sym (kept_found name old new fresh keeps known)) (has.some known),
  )
  finds_fault (probes.Size size) has = size_kept name old new fresh keeps size has
  finds_fault probes.Disk has = has

pub sought_later : (name : SwarmName) (old mid new : DiskState) → (IsKnown old → IsKnown mid) → old.faults ≤ mid.faults
    → (result : Result (Option Descriptor) NamingFault) → FindsTold name mid new result → FindsTold name old new result
sought_later name old mid new known_mid later (Ok (Some e)) is = told_later name old mid new known_mid e is
sought_later name old mid new known_mid later (Ok None) is =
    record { empty = λ known. is.empty (known_mid known); untouched = λ known. is.untouched (known_mid known) }
sought_later name old mid new known_mid later (Err (fault.NotAStore at found want)) is =
    (other_later name old mid new known_mid at found want is.0, λ known. is.1 (known_mid known))
sought_later name old mid new known_mid later (Err (fault.Size size)) is = record {
  cause = is.cause;
  some = λ known. is.some (known_mid known);
  begins = λ known. is.begins (known_mid known);
  untouched = λ known. is.untouched (known_mid known);
}
sought_later name old mid new known_mid later (Err (fault.Shape node)) is = absurd is
sought_later name old mid new known_mid later (Err fault.Disk) risen = risen_less old.faults mid.faults new.faults later risen
sought_later name old mid new known_mid later (Err fault.Memory) is = absurd is

module _ (name : SwarmName) (old new : DiskState) where
  pub tells_none : FindsTold name old new (Ok None) → TellsNamed name old new (Err (fault.NotAStore 0 0 80))
  tells_none is = empty_other name old new is.empty is.untouched

  pub tells_fault : (f : NamingFault) → FindsTold name old new (Err f) → TellsNamed name old new (Err f)
  tells_fault (fault.NotAStore at found want) is = is.0
  tells_fault (fault.Size size) is = is
  tells_fault (fault.Shape node) is = absurd is
  tells_fault fault.Disk is = is
  tells_fault fault.Memory is = absurd is

-- as long as what reads gave at the attachment is remembered
pub told_found : (name : SwarmName) (e : Descriptor) (old mid new : DiskState) → (IsKnown old → new.history.found ≡ mid.history.found)
    → IsTold name e old mid → IsTold name e old new
told_found name e old mid new found is = record {
  valid = is.valid;
  of = is.of;
  some = λ known. subst (λ (r : List ℕ). 0 < length r) (sym (found known)) (is.some known);
  begins = λ known. subst (λ (r : List ℕ). HasHeader e r) (sym (found known)) (is.begins known);
  size = λ known. is.size known ∙ ap (λ (r : List ℕ). size_in r) (sym (found known));
}

-- what the header told is what reads give
pub told_reads : (name : SwarmName) (e : Descriptor) (store : List ℕ) (old new : DiskState) → HasAttached store old new → IsTold name e old new
    → IsKnown new → HasHeader e new.history.reads
told_reads name e store old new a is known =
    subst (λ (r : List ℕ). HasHeader e r) (a.fresh (known_on new old (sym a.tells) (sym a.honest) known)).showed
    (is.begins (known_on new old (sym a.tells) (sym a.honest) known))

pub attached_alone : {E : Type 0} (store : List ℕ) (old new : DiskState) (result : Result (Unit {0}) E) → DoesAttach old store result new
    → HasAttached store old new
attached_alone store old new result does = record {
  tells = does.call.tells;
  honest = does.call.honest;
  faults = does.call.cause.later;
  hard = does.hard_cause.later;
  named = λ known. (does.attached known).named;
  fresh = λ known. freshly_attached store old.history new.history (does.attached known);
}

pub attached_read : (store : List ℕ) (old mid new : DiskState) → HasAttached store old mid → KeepsAll mid new → HasAttached store old new
attached_read store old mid new is keeps = record {
  tells = keeps.tells ∙ is.tells;
  honest = keeps.honest ∙ is.honest;
  faults = omega (arith, is.faults, keeps.faults);
  hard = omega (arith, is.hard, keeps.hard);
  named = λ known. named_later old.history.names store mid.history.names new.history.names (is.named known) (ap (λ (h : History). h.names) keeps.same);
  fresh = λ known. subst IsFreshlyAttached (sym keeps.same) (is.fresh known);
}

-- ---- a peer of the descriptor that was told

-- a node that is out of shape in one book is so in another that has the same there
misshapen_same : (e : Descriptor) (a b : LookUp) (k j : ℕ) → a k j ≡ b k j → IsMisshapen e b k j → IsMisshapen e a k j
misshapen_same e a b k j same is = record {
  in_tree = is.in_tree;
  past = is.past;
  filled = record { digest = is.filled.digest; is = same ∙ is.filled.is; differ = is.filled.differ };
}

-- what is answered for the book of a peer of the descriptor
module _ (e d : Descriptor) (seen book : BookState) (same : seen ≡ book) (of : IsBookOf d book) (is : d ≡ e) where
  described : seen.descriptor ≡ Some e
  described = ap (λ (s : BookState). s.descriptor) same ∙ of.descriptor_is ∙ ap Some is

  pub none_misshapen : FindsMisshapen seen.descriptor (entry seen) None → (k j : ℕ) → IsMisshapen e (entry book) k j → ⊥
  none_misshapen found = subst (λ (s : BookState). (k j : ℕ) → IsMisshapen e (entry s) k j → ⊥) same
      (subst (λ (o : Option Descriptor). FindsMisshapen o (entry seen) None) described found)

  pub some_misshapen : (at : Node) → FindsMisshapen seen.descriptor (entry seen) (Some at) → IsFirstMisshapen e (entry book) at.layer at.offset
  some_misshapen at found = subst (λ (s : BookState). IsFirstMisshapen e (entry s) at.layer at.offset) same
      (subst (λ (o : Option Descriptor). FindsMisshapen o (entry seen) (Some at)) described found)

-- what holds once the peer of the descriptor was made ready, as seen from before the attachment
module _ (w : Peering) (old new : Outside) (mid opened : DiskState) (listens : LinkState) (first : PeerState) (len : ℕ)
    (a : HasAttached w.store.now old.disk mid) (ready : IsReady w mid opened first len) where
  known_mid : IsKnown old.disk → IsKnown mid
  known_mid = known_on old.disk mid a.tells a.honest

  pub ready_before : IsReady w old.disk opened first len
  ready_before = ready_since w old.disk mid opened old.link listens a.tells a.honest a.faults a.hard first len ready

  pub lasts_before : (IsKnown mid → Lasts w.descriptor.now opened.history) → IsKnown old.disk → Lasts w.descriptor.now opened.history
  lasts_before lasts known = lasts (known_mid known)

  pub named_before : (IsKnown mid → opened.history.names ≡ mid.history.names)
      → IsKnown old.disk → GainsName old.disk.history.names w.store.now opened.history.names
  named_before names known =
      named_later old.disk.history.names w.store.now mid.history.names opened.history.names (a.named known) (names (known_mid known))

  pub was_ready_told : IsUnsent old.link listens → GainsAddress old.link.bound (words_of w).listen listens.bound
      → (IsKnown mid → Lasts w.descriptor.now opened.history) → (IsKnown mid → opened.history.names ≡ mid.history.names) → new.source ≡ old.source
      → WasReady w old new opened listens first
  was_ready_told unsent bound lasts names unread =
      was_ready w old new opened listens first len ready_before unsent bound (lasts_before lasts) (named_before names) unread

  -- the nodes that were known at the attachment are in shape, where the book's are
  pub was_in_shape : ((k j : ℕ) → IsMisshapen w.descriptor.now (entry first.parts.holding.book) k j → ⊥)
      → (IsKnown old.disk → new.disk.history.found ≡ opened.history.found) → WasInShape w.descriptor.now old.disk new.disk
  was_in_shape shaped found known_old k j is =
      shaped k j (misshapen_same w.descriptor.now (entry first.parts.holding.book) (known w.descriptor.now new.disk.history.found) k j
      (ready_before.knows known_old k j ∙ ap (λ (reads : List ℕ). known w.descriptor.now reads k j) (sym (found known_old))) is)
