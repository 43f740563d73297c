use Rattle.std.proofs.Common.{◌≡◌, ℕ, Bool, not, ◌&&◌, List, sym, ◌∙◌, ap}
use Rattle.std.specs.List.{list_any}
use Rattle.pp_terms.specs.format.Traffic.{Record}
use Rattle.pp_traffic.specs.Past.{some_since}
use Rattle.pp_promises.specs.LastTurn.{earlier, sent_since}
use Rattle.pp_promises.specs.Announced.{tells_of, was_told_of}
use Rattle.pp_recorded.specs.Entries.{past, life_of}
use Rattle.pp_audit.proofs.LastTurns.{since_start}
use Rattle.pp_audit.proofs.telling.is_new.Goals as goal

pub returns-then-tells_since : goal.returns-then-tells_since
returns-then-tells_since c =
    let d = c.args.descriptor.now in
    let life = life_of c.args.life in
    let before = past c.args.entries.now in
    let told : list_any (tells_of d life c.args.chunk) (sent_since before) ≡ c.tells_since.result =
    since_start (tells_of d life c.args.chunk) before ∙ ap (λ (n : ℕ). some_since (tells_of d life c.args.chunk) n before) (sym c.turn_start.ensures.start) ∙ sym c.tells_since.ensures in
    ap (λ (b : Bool). not b) (c.was_told_of.ensures ∙ ap (λ (rs : List Record). was_told_of d life c.args.chunk rs) c.earlier.ensures)
    ∙ sym (ap (λ (b : Bool). b && not (was_told_of d life c.args.chunk (earlier before))) (told ∙ c.if-tells_since.true))

pub returns-else-tells_since : goal.returns-else-tells_since
returns-else-tells_since c =
    let d = c.args.descriptor.now in
    let life = life_of c.args.life in
    let before = past c.args.entries.now in
    let told : list_any (tells_of d life c.args.chunk) (sent_since before) ≡ c.tells_since.result =
    since_start (tells_of d life c.args.chunk) before ∙ ap (λ (n : ℕ). some_since (tells_of d life c.args.chunk) n before) (sym c.turn_start.ensures.start) ∙ sym c.tells_since.ensures in
    c.if-tells_since.false
    ∙ sym (ap (λ (b : Bool). b && not (was_told_of d life c.args.chunk (earlier before))) (told ∙ c.if-tells_since.false))
