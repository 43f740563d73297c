use Rattle.std.proofs.Common.{◌≡◌, false, List, ℕ, ◌∷◌, [], ◌++◌, map, take, drop, refl, sym, ◌∙◌, ap, subst, set}
use Rattle.std.specs.Prelude.{is_some, Option, OnOk}
use Rattle.pp_outside.specs.Outside as outside
use Rattle.pp_world.specs.World.{Queued}
use Rattle.pp_mail.specs.declared.queues.Letter.{Letter}
use Rattle.pp_mail.specs.Letters.{seen, letter_at, keys_of}
use Rattle.pp_mail.specs.Mail.{queue_of}
use Rattle.pp_mail.proofs.Letters.{first_held}
use Rattle.pp_mail.proofs.Kept.{in_keys, keys_at, waiting, none_waits, unchanged, first_of}
use Rattle.pp_mail.proofs.queues.Mail.repeat.Goals as goal

pub returns-in_default-clause-ok : goal.returns-in_default-clause-ok
returns-in_default-clause-ok c =
    let nothing : is_some c.front.result ≡ false = ap is_some c.in_default.is in
    let none : queue_of c.args.peer c.args.self.now ≡ [] =
    none_waits c.self.inside c.args.self.now c.self.view_is c.args.peer c.requires c.from.result c.from.ensures c.index.result.now c.index.ensures
    (λ h. let some = c.front.ensures.variant.1 h in cc) in
    unchanged c.args.peer (λ queue. queue ++ take 1 queue) c.args.self.now (ap (λ (q : List Queued). q ++ take 1 q) none ∙ sym none)

pub index-letter-requires : goal.index-letter-requires
index-letter-requires c =
    let queue = c.index.result.now in
    let first = first_of queue.items c.in-Some.key.now queue.len queue.ok.0 (c.in-Some.ensures.variant.0 refl) c.in-Some.ensures.lookup in
    first_held c.self.inside.letters (keys_of c.self.inside) c.self.invariant c.args.peer c.in-Some.key.now (drop 1 queue.items)
    (in_keys c.self.inside c.args.self.now c.self.view_is c.args.peer c.requires)
    (keys_at c.self.inside c.args.self.now c.self.view_is c.args.peer c.requires c.from.result c.from.ensures queue c.index.ensures ∙ first)

pub returns-clause-ok : goal.returns-clause-ok
returns-clause-ok c =
    let queue = c.index.result.now in
    let first = first_of queue.items c.in-Some.key.now queue.len queue.ok.0 (c.in-Some.ensures.variant.0 refl) c.in-Some.ensures.lookup in
    let oldest = ap (λ (q : List Queued). take 1 q)
    (waiting c.self.inside c.args.self.now c.self.view_is c.args.peer c.requires c.from.result c.from.ensures queue c.index.ensures
    ∙ ap (map (letter_at c.self.inside.letters)) first)
    ∙ ap (λ (slot : Option Letter). seen slot ∷ []) c.index-letter.ensures in
    let copy = ap (λ (bytes : List ℕ). record { sender = outside.address_of c.index-letter.result.now.sender; bytes = bytes } ∷ [])
    (c.in_ok-bytes.ensures.items ∙ c.as_slice.ensures.value) in
    subst (λ (mail : List (List Queued)). OnOk c.put.result (c.put.new.self ≡ mail))
    (ap (λ (last : List Queued). set c.args.self.now c.args.peer (queue_of c.args.peer c.args.self.now ++ last)) (copy ∙ sym oldest))
    c.put.ensures.ok
