use Rattle.std.proofs.Common.{◌≡◌, ◌<◌, ◌≤◌, ◌+◌, ◌++◌, [], ◌∷◌, length, map, ap, sym, ◌∙◌, subst, arith, rules}
use Rattle.std.proofs.lemmas.Result.{err_from_is_err_and}
use Rattle.std.proofs.lemmas.List.{length-map, drop_all, map-append}
use Rattle.pp_outside.specs.Outside.{address_of}
use Rattle.pp_words.specs.Views.{texts, usage_of}
use Rattle.pp_words.proofs.Peers.{AreRead, next_peer, full, wrong_peer, all_peers}
use Rattle.pp_words.proofs.slots.peers.Goals as goal

pub returns-in_err-peer-clause-err : goal.returns-in_err-peer-clause-err
returns-in_err-peer-clause-err c =
    let p = err_from_is_err_and c.from_residual.result c.from_residual.ensures.1 in
    rw (p.1, p.2) (c.in_err-peer.ensures.err [] 15)

pub returns-then-is_full-clause-err : goal.returns-then-is_full-clause-err
returns-then-is_full-clause-err c =
    let peers = map address_of c.loop-at.peers.items in
    let lt = c.loop-at-test.true in
    let size : length c.loop-at.peers.items ≡ 16 = search rules in
    let long : length peers ≡ 16 = rw length-map size in
    let within : c.loop-at.at < length (texts c.args.words.now) = rw length-map lt in
    full (texts c.args.words.now) c.args.first c.loop-at.at peers (usage_of c.wrong.result) c.loop-at.invariant.read long within (search rules)

pub returns-in_err-peer-2-clause-err : goal.returns-in_err-peer-2-clause-err
returns-in_err-peer-2-clause-err c =
    let p = err_from_is_err_and c.from_residual-in_err-peer-2.result c.from_residual-in_err-peer-2.ensures.1 in
    let peers = map address_of c.loop-at.peers.items in
    let lt = c.loop-at-test.true in
    let size : length c.loop-at.peers.items < 16 = search rules in
    let long : length peers < 16 = rw length-map size in
    let within : c.loop-at.at < length (texts c.args.words.now) = rw length-map lt in
    rw (p.1, p.2) (wrong_peer (texts c.args.words.now) c.args.first c.loop-at.at peers (usage_of c.in_err-peer-2.field-0.0) c.loop-at.invariant.read
    long within (c.in_err-peer-2.ensures.err [] _))

pub loop-at-preserved : goal.loop-at-preserved
loop-at-preserved c =
    let peers = map address_of c.loop-at.peers.items in
    let size : length c.loop-at.peers.items < 16 = search rules in
    let long : length peers < 16 = rw length-map size in
    let peer = address_of c.in_ok-peer-2.peer in
    let found = c.in_ok-peer-2.ensures.ok in
    let all : map address_of c.push-in-loop-at.new.self.items ≡ peers ++ peer ∷ [] =
    ap (λ xs. map address_of xs) c.push-in-loop-at.ensures.items ∙ map-append address_of c.loop-at.peers.items (c.in_ok-peer-2.peer ∷ []) in
    record {
      read = subst (λ ps. AreRead (texts c.args.words.now) c.args.first (c.loop-at.at + 1) ps) (sym all)
          (next_peer (texts c.args.words.now) c.args.first c.loop-at.at peers found.0 peer c.loop-at.invariant.read long found.1 found.2);
    }

pub returns-clause-ok : goal.returns-clause-ok
returns-clause-ok c =
    let peers = map address_of c.loop-at.peers.items in
    let read = c.loop-at.invariant.read in
    let size : length peers ≡ length c.loop-at.peers.items = rw length-map in
    let past = c.loop-at-test.false in
    let beyond : length (texts c.args.words.now) ≤ c.loop-at.at = rw length-map past in (
      all_peers (texts c.args.words.now) c.args.first c.loop-at.at peers read (drop_all c.loop-at.at (texts c.args.words.now) beyond),
      omega (arith, size, read.some),
      omega (arith, size, read.most),
    )
