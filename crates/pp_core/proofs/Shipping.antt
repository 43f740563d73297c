-- A chunk that comes on a plain channel with the hashes that this peer lacks, by what it announced, is held, or a book is at fault.
use Rattle.std.proofs.Common.{◌≡◌, ◌⊎◌, inl, inr, ⊎_elim, ℕ, Bool, true, Option, Some, List, ◌∷◌, refl, sym, ap, subst}
use Rattle.std.specs.Prelude.{is_some}
use Rattle.std.proofs.lemmas.Bool.{or_left}
use Rattle.pp_terms.specs.format.Traffic.{Record}
use Rattle.pp_terms.specs.format.Descriptor.{Descriptor, chunks_of, IsDescriptor}
use Rattle.pp_terms.specs.format.Messages.{Message, Data}
use Rattle.pp_terms.specs.tree.Book.{LookUp, IsRooted, has_peaks}
use Rattle.pp_terms.specs.tree.Claims.{Claim, latest}
use Rattle.pp_terms.specs.tree.Tree.{Node}
use Rattle.pp_tree.specs.Book.{entry}
use Rattle.pp_traffic.specs.Claims as traffic
use Rattle.pp_traffic.specs.Hashes.{brings}
use Rattle.pp_traffic.specs.Past.{now}
use Rattle.pp_traffic.specs.Story.{Line, hear}
use Rattle.pp_promises.specs.ReadStory.{proven_story}
use Rattle.pp_paths.specs.Judge.{KeepsEntries}
use Rattle.pp_paths.proofs.ProvenChunks.{counted}
use Rattle.pp_store.specs.Answer.{peaked}
use Rattle.pp_store.specs.Store.{StoreState, is_committed, is_held}
use Rattle.pp_complete.specs.Faults.{AreAtFault}
use Rattle.pp_complete.specs.Laws.{HasNode, IsCompleted}
use Rattle.pp_complete.specs.Shipped.{AreTold, IsShipped, StoresShipped}
use Rattle.pp_complete.proofs.Completing.{completed_is_settled, completed_fits}
use Rattle.pp_complete.proofs.Knowing.{rooted_knows}
use Rattle.pp_outside.specs.Arrivals.{IsEvent}
use Rattle.pp_outside.specs.Outside.{record_of}
use Rattle.pp_outside.specs.declared.link.Event.{Event}
use Rattle.pp_holding.specs.Holding.{HoldingState, AreTied}
use Rattle.pp_peer.specs.declared.parts.Parts.{Parts}
use Rattle.pp_peer.specs.Standing.{Beginning, StandsFor}
use Rattle.pp_core.specs.Storing.{IsJudgedFit, StoresWhatFits, CommitsTold}
use Rattle.pp_core.proofs.Brought.{brought_claimed}
use Rattle.pp_core.proofs.Promised.{TakesSteadily, event_comes}
use Rattle.pp_core.proofs.Proven.{ComesAt}

-- ---- what was told

-- a node that a book has one that keeps its entries has too
node_kept : (book more : LookUp) (n : Node) → KeepsEntries book more → HasNode book n → HasNode more n
node_kept book more n keeps has = by (book n.layer n.offset) refl has
  where
    by : (o : Option (List ℕ)) → book n.layer n.offset ≡ o → is_some o ≡ true → HasNode more n
    by (Some digest) e some = ap is_some (keeps n.layer n.offset digest e)
    by _ e none = absurd cc

-- The book of a holding has each node that was told of by what it has committed.
told_known : (d : Descriptor) (h : HoldingState) (had : ℕ → Bool) (past : List Record) (told : Node → Bool) → h.store.descriptor ≡ d → AreTied h
    → CommitsTold d had past h.store → AreTold d had past told → (n : Node) → told n ≡ true → HasNode (entry h.book) n
told_known d h had past told swarm tied commits are n is =
    let it = are n is in
    let held : is_held h.store it.0 ≡ true = or_left (is_committed h.store it.0) _ (commits.committed it.0 it.2) in
    rooted_knows d (entry h.book) it.0
    (subst (λ (e : Descriptor). IsRooted e (entry h.book)) swarm tied.book_is.rooted)
    (tied.knows.leaf it.0 held)
    (subst (λ (e : Descriptor). has_peaks (entry h.book) (chunks_of e) ≡ true) swarm (tied.knows.peaks it.0 held))
    n it.1

-- ---- the faults

-- a book that keeps the entries of one at fault is at fault
pub faults_stay : (d : Descriptor) (mine more theirs : LookUp) → KeepsEntries mine more → AreAtFault d mine theirs → AreAtFault d more theirs
faults_stay d mine more theirs keeps (inl differ) = inl (record {
  n = differ.n;
  k = differ.k;
  j = differ.j;
  below = differ.below;
  digest = differ.digest;
  digest' = differ.digest';
  is = keeps differ.k differ.j differ.digest differ.is;
  is' = differ.is';
  differ = differ.differ;
})
faults_stay d mine more theirs keeps (inr stray) = inr stray

-- ---- one chunk

-- By hashes that complete its path the bytes are judged to be the chunk, or a book is at fault.
completed_judged : (s : HoldingState) (theirs claims : LookUp) (brought told : Node → Bool) (i : ℕ) (bytes : List ℕ)
    → IsDescriptor s.store.descriptor → IsCompleted s.store.descriptor (entry s.book) theirs claims brought told i bytes
    → IsJudgedFit s claims i bytes ⊎ AreAtFault s.store.descriptor (entry s.book) theirs
completed_judged s theirs claims brought told i bytes is completed = ⊎_elim
    (λ known. ⊎_elim
    (λ fits. inl (record { content = completed.backed.within; peaks = known; verdict = fits }))
    (λ fault. inr fault)
    (completed_fits d mine theirs claims brought told i bytes is completed (peaked d mine claims) (λ k j. refl)))
    (λ fault. inr fault)
    (completed_is_settled d mine theirs claims brought told i bytes is completed)
  where
    d : Descriptor
    d = s.store.descriptor

    mine : LookUp
    mine = entry s.book

-- Where the chunk comes it is held, or the book at the end is at fault, or theirs is.
module _ (d : Descriptor) (had : ℕ → Bool) (past : List Record) (told : Node → Bool) (theirs : LookUp) (i sent_at : ℕ) (bytes : List ℕ)
    (front : List Message) (shipped : IsShipped d had past told theirs i bytes front) (is : IsDescriptor d) where
  chunk_shipped : (seat moment : ℕ) (store : StoreState) (story : List Line) (first : HoldingState) (last : Parts)
      → (c : ComesAt d seat store (Data i sent_at bytes) (hear moment front story) first last)
      → first.store.descriptor ≡ d → first.store.live ≡ true → AreTied first → CommitsTold d had past first.store
      → (book : LookUp) → KeepsEntries (entry c.at.holding.book) book → (is_held store i ≡ true) ⊎ AreAtFault d book theirs
  chunk_shipped seat moment store story first last c same live tied commits book keeps = ⊎_elim
      (λ fit. inl (c.holds (record {
        proven = c.claims.proven;
        judged_fit = subst (λ (claims : List Claim). IsJudgedFit at (latest claims) i bytes) (sym c.claims.claims) fit;
      })))
      (λ fault. inr (faults_stay d (entry at.book) book theirs keeps
      (subst (λ (e : Descriptor). AreAtFault e (entry at.book) theirs) c.steady.swarm fault)))
      (completed_judged at theirs claims (brings front) told i bytes (subst IsDescriptor (sym c.steady.swarm) is)
      (subst (λ (e : Descriptor). IsCompleted e (entry at.book) theirs claims (brings front) told i bytes) (sym c.steady.swarm) completed))
    where
      at : HoldingState
      at = c.at.holding

      claims : LookUp
      claims = traffic.claimed (chunks_of d) (hear moment front story)

      completed : IsCompleted d (entry at.book) theirs claims (brings front) told i bytes
      completed = record {
        rooted = c.steady.rooted shipped.backed.within c.claims.proven;
        backed = shipped.backed;
        has = λ n is_told. node_kept (entry first.book) (entry at.book) n (c.grows live)
            (told_known d first had past told same tied commits shipped.told_of n is_told);
        peaks = shipped.peaks;
        claimed = λ n full brought. brought_claimed (chunks_of d) moment theirs n (counted d is).most front story 128 shipped.hashes
            shipped.inside shipped.few brought;
        path = shipped.path;
      }

-- ---- the whole

-- what an event brings so is held as is promised
pub event_shipped : (b : Beginning) (most : ℕ) (past : List Record) (event : Event) (bytes : List ℕ) (old new : Parts)
    → StandsFor b most old past → IsEvent event bytes → (stores : StoresWhatFits event bytes old new)
    → TakesSteadily b.d event bytes old new stores → old.holding.store.live ≡ true → AreTied old.holding
    → (had : ℕ → Bool) → CommitsTold b.d had past old.holding.store
    → StoresShipped b.d had (entry new.holding.book) (is_held new.holding.store) past (record_of event bytes)
event_shipped b most past event bytes old new stands fits stores takes live tied had commits = λ life i text brought told theirs shipped.
    let by = event_comes b most past bytes old new stands event fits stores takes life i text brought in
    chunk_shipped b.d had past told theirs i brought.sent_at text brought.front shipped takes.valid by.seat (now (record_of event bytes ∷ past))
    new.holding.store (proven_story b.d life past) old.holding by.last by.comes stands.ledger.swarm live tied commits
    (entry new.holding.book) by.keeps
