use Rattle.pp_node.proofs.Names.{none_named}
use Rattle.pp_node.proofs.built.is_built.Goals as goal

pub returns-in_default : goal.returns-in_default
returns-in_default c = none_named c.args.name.now c.in_default.not-import c.in_default.not-seed c.in_default.not-fetch c.in_default.not-check c.in_default.not-export
    c.in_default.not-upgrade c.in_default.not-replay c.in_default.not-rehearse c.in_default.not-play c.in_default.not-record c.in_default.not-audit
