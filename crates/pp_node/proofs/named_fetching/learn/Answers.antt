use Rattle.std.proofs.Common.{◌≡◌, ◌≤◌, inl, inr, ℕ, Option, Some, List, length, refl, sym, ◌∙◌, ap, subst}
use Rattle.std.specs.Prelude.{map}
use Rattle.pp_terms.specs.disk.Disk.{DiskState}
use Rattle.pp_terms.specs.format.Traffic as traffic
use Rattle.pp_terms.specs.format.Traffic.{LinkState, GainsAddress}
use Rattle.pp_terms.specs.tree.Content.{IsChunkSize}
use Rattle.pp_terms.proofs.Knowing.{known_on}
use Rattle.pp_counts.specs.Counts.{tally_of}
use Rattle.pp_counts.specs.declared.counts.Counts.{Counts}
use Rattle.pp_outside.specs.Outside.{address_of}
use Rattle.pp_outside.specs.declared.link.Address.{Address}
use Rattle.pp_learner.specs.Learners.{LearnerState}
use Rattle.pp_learner.specs.Sending.{Scene}
use Rattle.pp_sizing.specs.Sizing.{scene}
use Rattle.pp_node.specs.Naming.{HasAttached}
use Rattle.pp_node.specs.NamedFetching.{HasOpened, behind, dials_in, sought_of, words_after}
use Rattle.pp_node.specs.Outside.{Outside, outside}
use Rattle.pp_node.specs.Promising.{PeerWords}
use Rattle.pp_node.specs.Seeding.{words_of, earlier_of}
use Rattle.pp_node.specs.Status.{number_of}
use Rattle.pp_node.specs.declared.status.Status.TheVariants.{Memory}
use Rattle.pp_node.proofs.NamedFetches.{empty_found, fetched_behind}
use Rattle.pp_node.proofs.named_fetching.learn.Goals as goal

pub returns-in_default : goal.returns-in_default
returns-in_default g c before unbound source a unsent gains = inl (record {
  status = Memory;
  number = refl;
  ends = (gains, refl);
  attached = a;
  empty = empty_found c.args.search.now.words.now.store.now before (g.D.Disk.state c.args.disk.now) a c.requires.attached c.requires.nothing;
  unsent = unsent;
  unread = refl;
  book = refl;
})

pub returns-in_default-open : goal.returns-in_default-open
returns-in_default-open g c before unbound source a unsent gains = inl (record {
  status = Memory;
  number = refl;
  ends = (gains, refl);
  attached = a;
  empty = empty_found c.args.search.now.words.now.store.now before (g.D.Disk.state c.args.disk.now) a c.requires.attached c.requires.nothing;
  unsent = unsent;
  unread = refl;
  book = refl;
})

pub returns : goal.returns
returns g c before unbound source a unsent gains =
    let given : List Address = c.as_slice.result.now in
    let few : length given ≤ 16 = c.as_slice.ensures.fits in
    let size = subst (λ (p : LearnerState). IsChunkSize p.name.chunk) (sym c.in-Ok-open.ensures) c.requires.size in
    let opening : HasOpened (sought_of c.args.search.now) (dials_in c.args.search.now.words.now) unbound (scene c.in-Ok-open.learner (g.L.Link.seen c.args.link.now)) = record {
      name = c.args.search.now.name.now;
      seed = c.args.search.now.words.now.random;
      given = given;
      same = ap (map address_of) c.as_slice.ensures.value;
      name_is = refl;
      is = c.in-Ok-open.ensures;
      unsent = unsent;
      bound = gains;
    } in
    inr (inl (record {
      status = c.report_nothing.result;
      number = refl;
      first = scene c.in-Ok-open.learner (g.L.Link.seen c.args.link.now);
      last = scene c.learn_size.new.learner (g.L.Link.seen c.learn_size.new.link);
      opening = opening;
      learning = c.in-None.ensures c.args.search.now.name.now c.args.search.now.words.now.random given c.in-Ok-open.ensures few size;
      link = refl;
      ends = rw c.counts-in-None.ensures at c.report_nothing.ensures;
      attached = a;
      empty = empty_found c.args.search.now.words.now.store.now before (g.D.Disk.state c.args.disk.now) a c.requires.attached c.requires.nothing;
      unread = refl;
      book = refl;
    }))

pub returns-in-Some : goal.returns-in-Some
returns-in-Some g c before unbound source a unsent gains =
    let mid : DiskState = g.D.Disk.state c.args.disk.now in
    let after : LinkState = g.L.Link.seen c.learn_size.new.link in
    let first : Scene = scene c.in-Ok-open.learner (g.L.Link.seen c.args.link.now) in
    let last : Scene = scene c.learn_size.new.learner after in
    let given : List Address = c.as_slice.result.now in
    let w : PeerWords = words_after (sought_of c.args.search.now) c.in-Some.lesson in
    let words : words_of c.behind-peering.result ≡ w = c.behind-peering.ensures.words in
    let learning = c.in-Some.ensures c.args.search.now.name.now c.args.search.now.words.now.random given c.in-Ok-open.ensures c.as_slice.ensures.fits
    (subst (λ (p : LearnerState). IsChunkSize p.name.chunk) (sym c.in-Ok-open.ensures) c.requires.size) in
    let opening : HasOpened (sought_of c.args.search.now) (dials_in c.args.search.now.words.now) unbound first = record {
      name = c.args.search.now.name.now;
      seed = c.args.search.now.words.now.random;
      given = given;
      same = ap (map address_of) c.as_slice.ensures.value;
      name_is = refl;
      is = c.in-Ok-open.ensures;
      unsent = unsent;
      bound = gains;
    } in
    let attached = subst (λ (s : List ℕ). HasAttached s before mid) (sym (ap (λ (x : PeerWords). x.store) words)) a in
    let bound : GainsAddress unbound.bound w.listen after.bound = subst (λ (o : Option (List traffic.Address)). GainsAddress unbound.bound w.listen o) (sym learning.closed.bound) gains in
    let listens = subst (λ (l : traffic.Address). GainsAddress unbound.bound l after.bound) (sym (ap (λ (x : PeerWords). x.listen) words)) bound in
    let (kept, end) = c.fetch_learned.ensures before unbound.bound source attached listens in
    let old : Outside = outside before unbound source (g.K.Sink.state c.args.sink.now) c.args.book.now in
    let new : Outside = outside (g.D.Disk.state c.fetch_learned.new.disk) (g.L.Link.seen c.fetch_learned.new.link) source (g.K.Sink.state c.fetch_learned.new.sink) c.fetch_learned.new.book in
    let counted : earlier_of c.behind-peering.result ≡ Some (tally_of last.parts.counts) =
    c.behind-peering.ensures.earlier ∙ ap (λ (k : Counts). Some (tally_of k)) c.counts.ensures in
    inr (inr (record {
      first = first;
      last = last;
      lesson = c.in-Some.lesson;
      opening = opening;
      learning = learning;
      empty = λ known. kept (known_on before mid a.tells a.honest known) ∙ empty_found c.args.search.now.words.now.store.now before mid a c.requires.attached c.requires.nothing known;
      fetches = fetched_behind (number_of c.fetch_learned.result) c.behind-peering.result (Some (tally_of last.parts.counts)) w (dials_in c.args.search.now.words.now) (behind old after) new
          counted words c.behind-peering.ensures.dials end;
    }))
