use Rattle.std.proofs.Common.{ℕ, List, length, Option, sym, ◌∙◌, ap}
use Rattle.std.specs.Prelude.{option_copied, position}
use Rattle.std.proofs.lemmas.Bool.{lt-ltb, le-ltb, ne_eqb}
use Rattle.pp_swarms.specs.Routing.{owns, place_of_root}
use Rattle.pp_swarms.proofs.Routes.{route_short, route_zero, route_other}
use Rattle.pp_swarms.proofs.routing.route.Goals as goal

pub returns-then-bytes-lt-NUMBER-clause-way : goal.returns-then-bytes-lt-NUMBER-clause-way
returns-then-bytes-lt-NUMBER-clause-way c =
    sym (route_short c.args.peers.now c.args.from.now c.args.bytes.now (lt-ltb (length c.args.bytes.now) 4 c.if-bytes-lt-NUMBER.true))

pub returns-in-Some-clause-way : goal.returns-in-Some-clause-way
returns-in-Some-clause-way c =
    c.by_root.ensures.way ∙ sym (route_zero c.args.peers.now c.args.from.now c.args.bytes.now
    (le-ltb (length c.args.bytes.now) 4 c.if-bytes-lt-NUMBER.false) (sym c.number_of-number.ensures ∙ c.if-number-ne0.false)
    ∙ ap (λ (o : Option (List ℕ)). place_of_root o c.args.peers.now) (sym c.named_first.ensures ∙ ap option_copied c.in-Some.is))

pub returns-in-None-clause-way : goal.returns-in-None-clause-way
returns-in-None-clause-way c =
    sym (route_zero c.args.peers.now c.args.from.now c.args.bytes.now
    (le-ltb (length c.args.bytes.now) 4 c.if-bytes-lt-NUMBER.false) (sym c.number_of-number.ensures ∙ c.if-number-ne0.false)
    ∙ ap (λ (o : Option (List ℕ)). place_of_root o c.args.peers.now) (sym c.named_first.ensures ∙ ap option_copied c.in-None.is))

pub returns-then-number-ne0-clause-way : goal.returns-then-number-ne0-clause-way
returns-then-number-ne0-clause-way c =
    c.by_channel.ensures.way ∙ ap (λ (n : ℕ). position (owns n c.args.from.now) c.args.peers.now) c.number_of-number.ensures
    ∙ sym (route_other c.args.peers.now c.args.from.now c.args.bytes.now (le-ltb (length c.args.bytes.now) 4 c.if-bytes-lt-NUMBER.false)
    (ne_eqb _ 0 (λ e. c.if-number-ne0.true (c.number_of-number.ensures ∙ e))))
