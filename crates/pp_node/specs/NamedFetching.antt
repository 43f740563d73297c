-- What a run of `fetch STORE DESC LISTEN TURNS ORDER PEER..` promises where DESC names a swarm without its size. The store's header tells
-- the size; where the file is empty, it is learned from the last chunk that another peer sends.
use Rattle.std.specs.Prelude.{◌≡◌, ◌⊎◌, ℕ, ◌<◌, true, Some, None, is_some, List, [], length, map}
use Rattle.pp_terms.specs.Count.{HasRisen}
use Rattle.pp_terms.specs.command.Report.{link_fault_line, SaysReport}
use Rattle.pp_terms.specs.command.Stream.{SinkState}
use Rattle.pp_terms.specs.command.Tally.{Tally}
use Rattle.pp_terms.specs.disk.Disk.{IsKnown}
use Rattle.pp_terms.specs.format.Descriptor.{Descriptor}
use Rattle.pp_terms.specs.format.Traffic as traffic
use Rattle.pp_terms.specs.format.Traffic.{LinkState, GainsAddress}
use Rattle.pp_counts.specs.Counts.{tally_of}
use Rattle.pp_outside.specs.Outside.{address_of}
use Rattle.pp_outside.specs.declared.link.Address.{Address}
use Rattle.pp_promises.specs.Missing.{incomplete_line}
use Rattle.pp_targets.specs.Names.{name_of}
use Rattle.pp_targets.specs.Target.{Target, Sized, Auto}
use Rattle.pp_targets.specs.declared.target.SwarmName.{SwarmName}
use Rattle.pp_learner.specs.Learners.{opened}
use Rattle.pp_learner.specs.Sending.{Scene}
use Rattle.pp_sizing.specs.Sizing.{HasLearned, HasNotLearned}
use Rattle.pp_sizing.specs.declared.sizing.Lesson.{Lesson}
use Rattle.pp_node.specs.Naming.{IsTold, HasAttached}
use Rattle.pp_node.specs.NamedSeeding.{NamedWords, words_with, UntoldEnds, WasInShape, IsMisshapedPeer, ToldSeedEnds}
use Rattle.pp_node.specs.Outside.{Outside}
use Rattle.pp_node.specs.Preparing.{IsUnsent}
use Rattle.pp_node.specs.Promising.{PeerWords, FetchEnds, FetchEndsBehind}
use Rattle.pp_node.specs.Seeding.{words_of, dials_of}
use Rattle.pp_node.specs.Status.{number_of}
use Rattle.pp_node.specs.Text.{Says}
use Rattle.pp_node.specs.declared.named_fetching.Fetching.{Fetching}
use Rattle.pp_node.specs.declared.named_fetching.Search.{Search}
use Rattle.pp_node.specs.declared.preparing.Peering.{Peering}
use Rattle.pp_node.specs.declared.status.Status.{Status}
use Rattle.pp_node.specs.declared.status.Status.TheVariants.{NotAStore, Incomplete, LinkFault, SinkFault, Memory}

-- the words of a peer of a descriptor, for so many turns
abbrev pub words_at : Fetching → Descriptor → ℕ → PeerWords
words_at w e turns = record { store = w.store.now; descriptor = e; listen = address_of w.listen.now; turns = turns }

-- the addresses that are to be dialled
abbrev pub dials_in : Fetching → List traffic.Address
dials_in w = map address_of w.dial.now.items

-- the words as plain data, where they name a swarm without its size
abbrev pub sought_of : Search → NamedWords
sought_of s = record {
  store = s.words.now.store.now;
  name = name_of s.name.now;
  listen = address_of s.words.now.listen.now;
  turns = s.words.now.turns;
}

-- ---- the file isn't empty

-- The header told no descriptor of the name, and the file isn't empty.
pub record UnfoundEnds (result : ℕ) (w : NamedWords) (old new : Outside) : Type 0 where
  pub untold : UntoldEnds result w.store w.name old new
  pub some : untold.status ≡ NotAStore → IsKnown old.disk → 0 < length new.disk.history.found

-- The descriptor that the header told was fetched; turns were taken only where the nodes were in shape.
pub record IsFetchedTold (result : ℕ) (w : PeerWords) (dial : List traffic.Address) (old new : Outside) : Type 0 where
  pub fetches : FetchEnds result w dial old new
  pub shaped : WasInShape w.descriptor old.disk new.disk ⊎ ((fetches.run.added ≡ []) × (new.link.nexts ≡ old.link.nexts))

-- The descriptor that the header told was fetched, or its nodes are out of shape.
abbrev pub ToldFetchEnds : ℕ → PeerWords → List traffic.Address → Outside → Outside → Type 0
ToldFetchEnds result w dial old new = IsFetchedTold result w dial old new ⊎ IsMisshapedPeer result w old new

-- The descriptor that the header told was seeded or fetched, as the words say.
abbrev pub SharesTold : Peering → ℕ → Outside → Outside → Type 0
SharesTold w result old new = (w.asks ≡ None → ToldSeedEnds result (words_of w) old new)
    × (is_some w.asks ≡ true → ToldFetchEnds result (words_of w) (dials_of w) old new)

-- ---- the file is empty

-- The link refused to listen, or there was no memory for a learner.
abbrev pub UnbegunIn : Status → NamedWords → Outside → Outside → Type 0
UnbegunIn LinkFault w old new =
    HasRisen old.link.faults new.link.faults × (new.link.bound ≡ old.link.bound) × Says link_fault_line old.sink new.sink
UnbegunIn Memory w old new = GainsAddress old.link.bound w.listen new.link.bound × (new.sink ≡ old.sink)
UnbegunIn _ w old new = ⊥

-- No turn was taken: the store was attached by its name, is empty, and was only read.
pub record UnbegunEnds (result : ℕ) (w : NamedWords) (old new : Outside) : Type 0 where
  pub status : Status
  pub number : result ≡ number_of status
  pub ends : UnbegunIn status w old new
  pub attached : HasAttached w.store old.disk new.disk
  pub empty : IsKnown old.disk → new.disk.history.found ≡ []
  pub unsent : IsUnsent old.link new.link
  pub unread : new.source ≡ old.source
  pub book : new.book ≡ old.book

-- A learner of the name was opened, which is to dial these addresses, over a link that was bound to the words' address since.
pub record HasOpened (w : NamedWords) (dial : List traffic.Address) (link : LinkState) (first : Scene) : Type 0 where
  pub name : SwarmName
  pub seed : List ℕ
  pub given : List Address
  pub same : map address_of given ≡ dial
  pub name_is : name_of name ≡ w.name
  pub is : first.parts ≡ opened name seed given
  pub unsent : IsUnsent link first.link
  pub bound : GainsAddress link.bound w.listen first.link.bound

-- The report of no chunks was said, and that the first is missing; or the sink refused the report.
pub record SaysNothing (tally : Tally) (old new : SinkState) : Type 0 where
  pub between : SinkState
  pub reported : SaysReport [] tally old between
  pub said : Says (incomplete_line 0) between new

abbrev pub UnlearnedIn : Status → Tally → SinkState → SinkState → Type 0
UnlearnedIn Incomplete tally old new = SaysNothing tally old new
UnlearnedIn SinkFault tally old new = HasRisen old.faults new.faults
UnlearnedIn _ tally old new = ⊥

-- All turns were taken, and no size was learned. The store was attached by its name, is empty, and was only read; the report has what
-- the learner counted.
pub record UnlearnedEnds (result : ℕ) (w : NamedWords) (dial : List traffic.Address) (old new : Outside) : Type 0 where
  pub status : Status
  pub number : result ≡ number_of status
  pub first : Scene
  pub last : Scene
  pub opening : HasOpened w dial old.link first
  pub learning : HasNotLearned w.turns opening.given first last
  pub link : new.link ≡ last.link
  pub ends : UnlearnedIn status (tally_of last.parts.counts) old.sink new.sink
  pub attached : HasAttached w.store old.disk new.disk
  pub empty : IsKnown old.disk → new.disk.history.found ≡ []
  pub unread : new.source ≡ old.source
  pub book : new.book ≡ old.book

-- the words of a peer of the descriptor that was learned, with the turns that are left
abbrev pub words_after : NamedWords → Lesson → PeerWords
words_after w lesson = record { store = w.store; descriptor = lesson.descriptor; listen = w.listen; turns = lesson.left }

-- what was there before the run, but for the link, which is as the learner left it; it is bound to no address of this run yet
abbrev pub behind : Outside → LinkState → Outside
behind old link = record old { link = record link { bound = old.link.bound } }

-- A size was learned, from a DATA of a channel that was dialled. The store was empty; a peer of the descriptor fetched the content in the
-- turns that were left, and its promises are those of a fetch that begins where the learner ended. The report adds what both counted.
pub record LearnedEnds (result : ℕ) (w : NamedWords) (dial : List traffic.Address) (old new : Outside) : Type 0 where
  pub first : Scene
  pub last : Scene
  pub lesson : Lesson
  pub opening : HasOpened w dial old.link first
  pub learning : HasLearned w.turns opening.given first last lesson
  pub empty : IsKnown old.disk → new.disk.history.found ≡ []
  pub fetches : FetchEndsBehind (Some (tally_of last.parts.counts)) result (words_after w lesson) dial (behind old last.link) new

-- A learner was to be opened.
abbrev pub SoughtEnds : ℕ → NamedWords → List traffic.Address → Outside → Outside → Type 0
SoughtEnds result w dial old new =
    UnbegunEnds result w old new ⊎ (UnlearnedEnds result w dial old new ⊎ LearnedEnds result w dial old new)

-- ---- both

-- A run of `fetch` by a name, by the number that it answers.
abbrev pub NamedFetchEnds : ℕ → NamedWords → List traffic.Address → Outside → Outside → Type 0
NamedFetchEnds result w dial old new = UnfoundEnds result w old new
    ⊎ (((e : Descriptor) × IsTold w.name e old.disk new.disk × ToldFetchEnds result (words_with w e) dial old new)
    ⊎ SoughtEnds result w dial old new)

-- A run of `fetch`, by either form of a swarm's text.
abbrev pub TargetFetchEnds : ℕ → (store : List ℕ) → Target → (listen : traffic.Address) (turns : ℕ) → (dial : List traffic.Address)
    → Outside → Outside → Type 0
TargetFetchEnds result store (Sized d) listen turns dial old new =
    FetchEnds result (record { store = store; descriptor = d; listen = listen; turns = turns }) dial old new
TargetFetchEnds result store (Auto name) listen turns dial old new =
    NamedFetchEnds result (record { store = store; name = name; listen = listen; turns = turns }) dial old new
