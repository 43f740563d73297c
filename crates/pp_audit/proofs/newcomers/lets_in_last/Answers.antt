use Rattle.std.proofs.Common.{◌-◌, Bool, not, sym, ◌∙◌, ap, arith}
use Rattle.std.proofs.lemmas.List.{get_or_default}
use Rattle.pp_recorded.specs.Entries.{past}
use Rattle.pp_audit.proofs.LastTurns.{lets_none, lets_other, lets_newcomer}
use Rattle.pp_audit.proofs.newcomers.lets_in_last.Goals as goal

pub returns-then-start-eq0 : goal.returns-then-start-eq0
returns-then-start-eq0 c =
    lets_none c.args.descriptor.now (past c.args.entries.now) c.turn_start-start.result c.turn_start-start.ensures.start c.if-start-eq0.true

pub returns-then-not-is_newcomer : goal.returns-then-not-is_newcomer
returns-then-not-is_newcomer c =
    ap (λ (b : Bool). not b) c.if-not-is_newcomer.true
    ∙ sym (lets_other c.args.descriptor.now c.args.entries.now _ c.turn_start-start.result c.turn_start-start.ensures.start c.turn_start-start.ensures.within c.if-start-eq0.false
    (get_or_default c.args.entries.now (c.turn_start-start.result - 1) _ _ (omega (arith, c.turn_start-start.ensures.within, c.if-start-eq0.false)))
    (sym c.is_newcomer.ensures ∙ c.if-not-is_newcomer.true))

pub returns-else-not-is_newcomer : goal.returns-else-not-is_newcomer
returns-else-not-is_newcomer c =
    c.some_reply.ensures
    ∙ sym (lets_newcomer c.args.descriptor.now c.args.entries.now _ c.turn_start-start.result c.turn_start-start.ensures.start c.turn_start-start.ensures.within c.if-start-eq0.false
    (get_or_default c.args.entries.now (c.turn_start-start.result - 1) _ _ (omega (arith, c.turn_start-start.ensures.within, c.if-start-eq0.false)))
    (sym c.is_newcomer.ensures ∙ c.if-not-is_newcomer.false))
