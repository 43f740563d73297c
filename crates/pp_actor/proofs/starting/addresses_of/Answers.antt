use Rattle.std.proofs.Common.{◌≡◌, ℕ, suc, ◌+◌, ◌<◌, List, [], ◌∷◌, ◌++◌, length, map, sym, ◌∙◌, ap, arith}
use Rattle.std.proofs.Math.Seq.{take-suc}
use Rattle.std.proofs.lemmas.List.{length-append, map-append, take_all}
use Rattle.std.specs.Prelude.{take}
use Rattle.pp_outside.specs.Outside as outside
use Rattle.pp_outside.specs.declared.link.Address.{Address}
use Rattle.pp_world.specs.World.{address_of}
use Rattle.pp_actor.proofs.starting.addresses_of.Goals as goal

pub loop-peer-init : goal.loop-peer-init
loop-peer-init c = (ap (map outside.address_of) c.new-addresses.ensures, ap (λ (l : List Address). length l) c.new-addresses.ensures)

pub push-requires : goal.push-requires
push-requires c =
    let size : length c.loop-peer.addresses.items ≡ c.loop-peer.peer-index = c.loop-peer.invariant.1 in
    let few = c.requires in let less = c.loop-peer-test.true in
    let room : length c.loop-peer.addresses.items < 16 = omega (arith, size, few, less) in (omega arith, room)

pub loop-peer-preserved : goal.loop-peer-preserved
loop-peer-preserved c =
    let size : length c.loop-peer.addresses.items ≡ c.loop-peer.peer-index = c.loop-peer.invariant.1 in
    let longer : length c.push.new.self.items ≡ length c.loop-peer.addresses.items + 1 =
    ap (λ (l : List Address). length l) c.push.ensures.items ∙ length-append c.loop-peer.addresses.items (c.address_of.result ∷ []) in
    let next : c.loop-peer.peer-index + 1 ≡ suc c.loop-peer.peer-index = omega arith in (
      ap (map outside.address_of) c.push.ensures.items
          ∙ map-append outside.address_of c.loop-peer.addresses.items (c.address_of.result ∷ [])
          ∙ ap (λ l. l ++ outside.address_of c.address_of.result ∷ []) c.loop-peer.invariant.0
          ∙ ap (λ a. map address_of (take c.loop-peer.peer-index c.args.peers.now) ++ a ∷ []) c.address_of.ensures
          ∙ sym (map-append address_of (take c.loop-peer.peer-index c.args.peers.now) _)
          ∙ sym (ap (map address_of) (ap (λ (k : ℕ). take k c.args.peers.now) next
          ∙ take-suc c.args.peers.now c.loop-peer.peer-index 0 c.loop-peer-test.true)),
      omega (arith, size, longer),
    )

pub returns-clause-are : goal.returns-clause-are
returns-clause-are c = c.loop-peer.invariant.0 ∙ ap (map address_of) (take_all c.loop-peer.peer-index c.args.peers.now c.loop-peer-test.false)
