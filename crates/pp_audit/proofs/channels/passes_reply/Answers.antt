use Rattle.std.proofs.Common.{ℕ, true, List, Option, ◌∙◌, ap}
use Rattle.std.specs.Option.{option_map_or}
use Rattle.pp_terms.specs.format.Options.{Options}
use Rattle.pp_traffic.specs.Life as lives
use Rattle.pp_recorded.specs.Entries.{past, life_of}
use Rattle.pp_recorded.specs.Parts.{all, first_shake}
use Rattle.pp_audit.specs.Channels as terms
use Rattle.pp_audit.specs.Duties.{is_done}
use Rattle.pp_audit.proofs.channels.passes_reply.Goals as goal

pub returns-in-Some : goal.returns-in-Some
returns-in-Some c =
    let test = is_done c.args.duty c.args.descriptor.now (past c.args.entries.now) in
    c.is_done.ensures
    ∙ ap (λ (l : lives.Life). test l) c.replied_by.ensures
    ∙ ap (λ (o : Option (ℕ × Options)). option_map_or (λ x. test (terms.replied_by (life_of c.args.life) x.0)) o true) c.in-Some.ensures
    ∙ ap (λ (bytes : List ℕ). option_map_or (λ x. test (terms.replied_by (life_of c.args.life) x.0)) (first_shake (all c.args.descriptor.now bytes)) true) c.bytes_of.ensures
