use Rattle.std.proofs.Common.{◌≡◌, false, Some, List, ℕ, map, drop, refl, sym, ◌∙◌, ap}
use Rattle.std.specs.Prelude.{is_some, slice_get, Option}
use Rattle.pp_outside.specs.Outside as outside
use Rattle.pp_world.specs.World.{Queued}
use Rattle.pp_mail.specs.declared.queues.Letter.{Letter}
use Rattle.pp_mail.specs.Letters.{seen, letter_at, keys_of}
use Rattle.pp_mail.proofs.Letters.{first_held}
use Rattle.pp_mail.proofs.Kept.{in_keys, keys_at, waiting, none_waits, first_of}
use Rattle.pp_mail.proofs.queues.Mail.oldest.Goals as goal

pub returns-in_err-key : goal.returns-in_err-key
returns-in_err-key c =
    let nothing : is_some c.front.result ≡ false = ap is_some c.in_err-key.was in
    rw c.from_residual.ensures
    (ap (λ (q : List Queued). slice_get q 0)
    (sym (none_waits c.self.inside c.args.self.now c.self.view_is c.args.peer c.requires c.from.result c.from.ensures
    c.index.result.now c.index.ensures
    (λ h. let some = c.front.ensures.variant.1 h in cc))))

pub index-letter-requires : goal.index-letter-requires
index-letter-requires c =
    let queue = c.index.result.now in
    let first = first_of queue.items c.in_ok-key.key.now queue.len queue.ok.0 (c.in_ok-key.ensures.variant.0 refl) c.in_ok-key.ensures.lookup in
    first_held c.self.inside.letters (keys_of c.self.inside) c.self.invariant c.args.peer c.in_ok-key.key.now (drop 1 queue.items)
    (in_keys c.self.inside c.args.self.now c.self.view_is c.args.peer c.requires)
    (keys_at c.self.inside c.args.self.now c.self.view_is c.args.peer c.requires c.from.result c.from.ensures queue c.index.ensures ∙ first)

pub returns : goal.returns
returns c =
    let queue = c.index.result.now in
    let first = first_of queue.items c.in_ok-key.key.now queue.len queue.ok.0 (c.in_ok-key.ensures.variant.0 refl) c.in_ok-key.ensures.lookup in
    ap (λ (bytes : List ℕ). Some (record { sender = outside.address_of c.index-letter.result.now.sender; bytes = bytes })) c.as_slice.ensures.value
    ∙ sym (ap (λ (q : List Queued). slice_get q 0)
    (waiting c.self.inside c.args.self.now c.self.view_is c.args.peer c.requires c.from.result c.from.ensures queue c.index.ensures
    ∙ ap (map (letter_at c.self.inside.letters)) first)
    ∙ ap (λ (slot : Option Letter). Some (seen slot)) c.index-letter.ensures)
