use Rattle.std.proofs.Common.{rules, refl}
use Rattle.pp_targets.specs.Target.{Sized, Auto}
use Rattle.pp_words.specs.Commands.{Audit, Check, Export, Fetch, Seed, Upgrade, Record, Replay, Rehearse, Play}
use Rattle.pp_words.specs.Views.{texts, command_of, usage_of}
use Rattle.pp_node.specs.Outside.{outside}
use Rattle.pp_node.proofs.Commands.{no_usage, none_spelled, import_ends, seed_ends, named_seed_ends, fetch_ends, named_fetch_ends, play_ends, check_ends, named_check_ends, export_ends, named_export_ends, upgrade_ends, replay_ends, rehearse_ends, record_ends, audit_ends}
use Rattle.pp_node.proofs.Untroubled.{answers_well}
use Rattle.pp_node.proofs.top.run.Goals as goal

-- a command that was done ends with another number
pub returns-in-Ok-clause-usage : goal.returns-in-Ok-clause-usage
returns-in-Ok-clause-usage g c = (
  λ is. absurd (no_usage (command_of c.in-Ok.command) c.obey.result c.number.result
      (outside (g.D.Disk.state c.args.disk.now) (g.L.Link.seen c.args.link.now) (g.S.Source.state c.args.source.now) (g.K.Sink.state c.args.sink.now) c.args.book.now)
      (outside (g.D.Disk.state c.obey.new.disk) (g.L.Link.seen c.obey.new.link) (g.S.Source.state c.obey.new.source) (g.K.Sink.state c.obey.new.sink) c.obey.new.book)
      c.number.ensures c.obey.ensures.ended is),
  λ none. absurd (none (command_of c.in-Ok.command) c.in-Ok.ensures.ok.1 c.in-Ok.ensures.ok.0),
)

pub returns-in-Ok-clause-line : goal.returns-in-Ok-clause-line
returns-in-Ok-clause-line g c is = absurd (no_usage (command_of c.in-Ok.command) c.obey.result c.number.result
    (outside (g.D.Disk.state c.args.disk.now) (g.L.Link.seen c.args.link.now) (g.S.Source.state c.args.source.now) (g.K.Sink.state c.args.sink.now) c.args.book.now)
    (outside (g.D.Disk.state c.obey.new.disk) (g.L.Link.seen c.obey.new.link) (g.S.Source.state c.obey.new.source) (g.K.Sink.state c.obey.new.sink) c.obey.new.book)
    c.number.ensures c.obey.ensures.ended is)

pub returns-in-Ok-clause-disk : goal.returns-in-Ok-clause-disk
returns-in-Ok-clause-disk g c is = absurd (no_usage (command_of c.in-Ok.command) c.obey.result c.number.result
    (outside (g.D.Disk.state c.args.disk.now) (g.L.Link.seen c.args.link.now) (g.S.Source.state c.args.source.now) (g.K.Sink.state c.args.sink.now) c.args.book.now)
    (outside (g.D.Disk.state c.obey.new.disk) (g.L.Link.seen c.obey.new.link) (g.S.Source.state c.obey.new.source) (g.K.Sink.state c.obey.new.sink) c.obey.new.book)
    c.number.ensures c.obey.ensures.ended is)

pub returns-in-Ok-clause-source : goal.returns-in-Ok-clause-source
returns-in-Ok-clause-source g c is = absurd (no_usage (command_of c.in-Ok.command) c.obey.result c.number.result
    (outside (g.D.Disk.state c.args.disk.now) (g.L.Link.seen c.args.link.now) (g.S.Source.state c.args.source.now) (g.K.Sink.state c.args.sink.now) c.args.book.now)
    (outside (g.D.Disk.state c.obey.new.disk) (g.L.Link.seen c.obey.new.link) (g.S.Source.state c.obey.new.source) (g.K.Sink.state c.obey.new.sink) c.obey.new.book)
    c.number.ensures c.obey.ensures.ended is)

pub returns-in-Ok-clause-import : goal.returns-in-Ok-clause-import
returns-in-Ok-clause-import g c =
    import_ends (texts c.args.words.now) (command_of c.in-Ok.command) c.obey.result c.number.result
    (outside (g.D.Disk.state c.args.disk.now) (g.L.Link.seen c.args.link.now) (g.S.Source.state c.args.source.now) (g.K.Sink.state c.args.sink.now) c.args.book.now)
    (outside (g.D.Disk.state c.obey.new.disk) (g.L.Link.seen c.obey.new.link) (g.S.Source.state c.obey.new.source) (g.K.Sink.state c.obey.new.sink) c.obey.new.book)
    c.in-Ok.ensures.ok.0 c.number.ensures c.obey.ensures.ended

pub returns-in-Ok-clause-seed : goal.returns-in-Ok-clause-seed
returns-in-Ok-clause-seed g c =
    seed_ends (texts c.args.words.now) (command_of c.in-Ok.command) c.obey.result c.number.result
    (outside (g.D.Disk.state c.args.disk.now) (g.L.Link.seen c.args.link.now) (g.S.Source.state c.args.source.now) (g.K.Sink.state c.args.sink.now) c.args.book.now)
    (outside (g.D.Disk.state c.obey.new.disk) (g.L.Link.seen c.obey.new.link) (g.S.Source.state c.obey.new.source) (g.K.Sink.state c.obey.new.sink) c.obey.new.book)
    c.in-Ok.ensures.ok.0 c.number.ensures c.obey.ensures.ended

pub returns-in-Ok-clause-named_seed : goal.returns-in-Ok-clause-named_seed
returns-in-Ok-clause-named_seed g c =
    named_seed_ends (texts c.args.words.now) (command_of c.in-Ok.command) c.obey.result c.number.result
    (outside (g.D.Disk.state c.args.disk.now) (g.L.Link.seen c.args.link.now) (g.S.Source.state c.args.source.now) (g.K.Sink.state c.args.sink.now) c.args.book.now)
    (outside (g.D.Disk.state c.obey.new.disk) (g.L.Link.seen c.obey.new.link) (g.S.Source.state c.obey.new.source) (g.K.Sink.state c.obey.new.sink) c.obey.new.book)
    c.in-Ok.ensures.ok.0 c.number.ensures c.obey.ensures.ended

pub returns-in-Ok-clause-fetch : goal.returns-in-Ok-clause-fetch
returns-in-Ok-clause-fetch g c =
    fetch_ends (texts c.args.words.now) (command_of c.in-Ok.command) c.obey.result c.number.result
    (outside (g.D.Disk.state c.args.disk.now) (g.L.Link.seen c.args.link.now) (g.S.Source.state c.args.source.now) (g.K.Sink.state c.args.sink.now) c.args.book.now)
    (outside (g.D.Disk.state c.obey.new.disk) (g.L.Link.seen c.obey.new.link) (g.S.Source.state c.obey.new.source) (g.K.Sink.state c.obey.new.sink) c.obey.new.book)
    c.in-Ok.ensures.ok.0 c.number.ensures c.obey.ensures.ended

pub returns-in-Ok-clause-named_fetch : goal.returns-in-Ok-clause-named_fetch
returns-in-Ok-clause-named_fetch g c =
    named_fetch_ends (texts c.args.words.now) (command_of c.in-Ok.command) c.obey.result c.number.result
    (outside (g.D.Disk.state c.args.disk.now) (g.L.Link.seen c.args.link.now) (g.S.Source.state c.args.source.now) (g.K.Sink.state c.args.sink.now) c.args.book.now)
    (outside (g.D.Disk.state c.obey.new.disk) (g.L.Link.seen c.obey.new.link) (g.S.Source.state c.obey.new.source) (g.K.Sink.state c.obey.new.sink) c.obey.new.book)
    c.in-Ok.ensures.ok.0 c.number.ensures c.obey.ensures.ended

pub returns-in-Ok-clause-play : goal.returns-in-Ok-clause-play
returns-in-Ok-clause-play g c =
    play_ends (texts c.args.words.now) (command_of c.in-Ok.command) c.obey.result c.number.result
    (outside (g.D.Disk.state c.args.disk.now) (g.L.Link.seen c.args.link.now) (g.S.Source.state c.args.source.now) (g.K.Sink.state c.args.sink.now) c.args.book.now)
    (outside (g.D.Disk.state c.obey.new.disk) (g.L.Link.seen c.obey.new.link) (g.S.Source.state c.obey.new.source) (g.K.Sink.state c.obey.new.sink) c.obey.new.book)
    c.in-Ok.ensures.ok.0 c.number.ensures c.obey.ensures.ended

pub returns-in-Ok-clause-check : goal.returns-in-Ok-clause-check
returns-in-Ok-clause-check g c =
    check_ends (texts c.args.words.now) (command_of c.in-Ok.command) c.obey.result c.number.result
    (outside (g.D.Disk.state c.args.disk.now) (g.L.Link.seen c.args.link.now) (g.S.Source.state c.args.source.now) (g.K.Sink.state c.args.sink.now) c.args.book.now)
    (outside (g.D.Disk.state c.obey.new.disk) (g.L.Link.seen c.obey.new.link) (g.S.Source.state c.obey.new.source) (g.K.Sink.state c.obey.new.sink) c.obey.new.book)
    c.in-Ok.ensures.ok.0 c.number.ensures c.obey.ensures.ended

pub returns-in-Ok-clause-named_check : goal.returns-in-Ok-clause-named_check
returns-in-Ok-clause-named_check g c =
    named_check_ends (texts c.args.words.now) (command_of c.in-Ok.command) c.obey.result c.number.result
    (outside (g.D.Disk.state c.args.disk.now) (g.L.Link.seen c.args.link.now) (g.S.Source.state c.args.source.now) (g.K.Sink.state c.args.sink.now) c.args.book.now)
    (outside (g.D.Disk.state c.obey.new.disk) (g.L.Link.seen c.obey.new.link) (g.S.Source.state c.obey.new.source) (g.K.Sink.state c.obey.new.sink) c.obey.new.book)
    c.in-Ok.ensures.ok.0 c.number.ensures c.obey.ensures.ended

pub returns-in-Ok-clause-export : goal.returns-in-Ok-clause-export
returns-in-Ok-clause-export g c =
    export_ends (texts c.args.words.now) (command_of c.in-Ok.command) c.obey.result c.number.result
    (outside (g.D.Disk.state c.args.disk.now) (g.L.Link.seen c.args.link.now) (g.S.Source.state c.args.source.now) (g.K.Sink.state c.args.sink.now) c.args.book.now)
    (outside (g.D.Disk.state c.obey.new.disk) (g.L.Link.seen c.obey.new.link) (g.S.Source.state c.obey.new.source) (g.K.Sink.state c.obey.new.sink) c.obey.new.book)
    c.in-Ok.ensures.ok.0 c.number.ensures c.obey.ensures.ended

pub returns-in-Ok-clause-named_export : goal.returns-in-Ok-clause-named_export
returns-in-Ok-clause-named_export g c =
    named_export_ends (texts c.args.words.now) (command_of c.in-Ok.command) c.obey.result c.number.result
    (outside (g.D.Disk.state c.args.disk.now) (g.L.Link.seen c.args.link.now) (g.S.Source.state c.args.source.now) (g.K.Sink.state c.args.sink.now) c.args.book.now)
    (outside (g.D.Disk.state c.obey.new.disk) (g.L.Link.seen c.obey.new.link) (g.S.Source.state c.obey.new.source) (g.K.Sink.state c.obey.new.sink) c.obey.new.book)
    c.in-Ok.ensures.ok.0 c.number.ensures c.obey.ensures.ended

pub returns-in-Ok-clause-upgrade : goal.returns-in-Ok-clause-upgrade
returns-in-Ok-clause-upgrade g c =
    upgrade_ends (texts c.args.words.now) (command_of c.in-Ok.command) c.obey.result c.number.result
    (outside (g.D.Disk.state c.args.disk.now) (g.L.Link.seen c.args.link.now) (g.S.Source.state c.args.source.now) (g.K.Sink.state c.args.sink.now) c.args.book.now)
    (outside (g.D.Disk.state c.obey.new.disk) (g.L.Link.seen c.obey.new.link) (g.S.Source.state c.obey.new.source) (g.K.Sink.state c.obey.new.sink) c.obey.new.book)
    c.in-Ok.ensures.ok.0 c.number.ensures c.obey.ensures.ended

pub returns-in-Ok-clause-replay : goal.returns-in-Ok-clause-replay
returns-in-Ok-clause-replay g c =
    replay_ends (texts c.args.words.now) (command_of c.in-Ok.command) c.obey.result c.number.result
    (outside (g.D.Disk.state c.args.disk.now) (g.L.Link.seen c.args.link.now) (g.S.Source.state c.args.source.now) (g.K.Sink.state c.args.sink.now) c.args.book.now)
    (outside (g.D.Disk.state c.obey.new.disk) (g.L.Link.seen c.obey.new.link) (g.S.Source.state c.obey.new.source) (g.K.Sink.state c.obey.new.sink) c.obey.new.book)
    c.in-Ok.ensures.ok.0 c.number.ensures c.obey.ensures.ended

pub returns-in-Ok-clause-rehearse : goal.returns-in-Ok-clause-rehearse
returns-in-Ok-clause-rehearse g c =
    rehearse_ends (texts c.args.words.now) (command_of c.in-Ok.command) c.obey.result c.number.result
    (outside (g.D.Disk.state c.args.disk.now) (g.L.Link.seen c.args.link.now) (g.S.Source.state c.args.source.now) (g.K.Sink.state c.args.sink.now) c.args.book.now)
    (outside (g.D.Disk.state c.obey.new.disk) (g.L.Link.seen c.obey.new.link) (g.S.Source.state c.obey.new.source) (g.K.Sink.state c.obey.new.sink) c.obey.new.book)
    c.in-Ok.ensures.ok.0 c.number.ensures c.obey.ensures.ended

pub returns-in-Ok-clause-record : goal.returns-in-Ok-clause-record
returns-in-Ok-clause-record g c =
    record_ends (texts c.args.words.now) (command_of c.in-Ok.command) c.obey.result c.number.result
    (outside (g.D.Disk.state c.args.disk.now) (g.L.Link.seen c.args.link.now) (g.S.Source.state c.args.source.now) (g.K.Sink.state c.args.sink.now) c.args.book.now)
    (outside (g.D.Disk.state c.obey.new.disk) (g.L.Link.seen c.obey.new.link) (g.S.Source.state c.obey.new.source) (g.K.Sink.state c.obey.new.sink) c.obey.new.book)
    c.in-Ok.ensures.ok.0 c.number.ensures c.obey.ensures.ended

pub returns-in-Ok-clause-audit : goal.returns-in-Ok-clause-audit
returns-in-Ok-clause-audit g c =
    audit_ends (texts c.args.words.now) (command_of c.in-Ok.command) c.obey.result c.number.result
    (outside (g.D.Disk.state c.args.disk.now) (g.L.Link.seen c.args.link.now) (g.S.Source.state c.args.source.now) (g.K.Sink.state c.args.sink.now) c.args.book.now)
    (outside (g.D.Disk.state c.obey.new.disk) (g.L.Link.seen c.obey.new.link) (g.S.Source.state c.obey.new.source) (g.K.Sink.state c.obey.new.sink) c.obey.new.book)
    c.in-Ok.ensures.ok.0 c.number.ensures c.obey.ensures.ended

pub returns-in-Ok-clause-untroubled : goal.returns-in-Ok-clause-untroubled
returns-in-Ok-clause-untroubled g c =
    answers_well (texts c.args.words.now) (command_of c.in-Ok.command) c.obey.result c.number.result
    (outside (g.D.Disk.state c.args.disk.now) (g.L.Link.seen c.args.link.now) (g.S.Source.state c.args.source.now) (g.K.Sink.state c.args.sink.now) c.args.book.now)
    (outside (g.D.Disk.state c.obey.new.disk) (g.L.Link.seen c.obey.new.link) (g.S.Source.state c.obey.new.source) (g.K.Sink.state c.obey.new.sink) c.obey.new.book)
    c.in-Ok.ensures.ok.0 c.number.ensures c.obey.ensures.ended

-- words that are wrong spell no command that is built
pub returns-in-Err-clause-usage : goal.returns-in-Err-clause-usage
returns-in-Err-clause-usage g c = (
  λ is command one spelled. none_spelled (texts c.args.words.now) (usage_of c.in-Err.usage) c.in-Err.ensures.err command one spelled,
  λ never. search rules,
)

pub returns-in-Err-clause-seed : goal.returns-in-Err-clause-seed
returns-in-Err-clause-seed g c = λ w spelled.
    absurd (none_spelled (texts c.args.words.now) (usage_of c.in-Err.usage) c.in-Err.ensures.err (Seed w.store (Sized w.descriptor) w.listen w.turns) refl spelled)

pub returns-in-Err-clause-named_seed : goal.returns-in-Err-clause-named_seed
returns-in-Err-clause-named_seed g c = λ w spelled.
    absurd (none_spelled (texts c.args.words.now) (usage_of c.in-Err.usage) c.in-Err.ensures.err (Seed w.store (Auto w.name) w.listen w.turns) refl spelled)

pub returns-in-Err-clause-fetch : goal.returns-in-Err-clause-fetch
returns-in-Err-clause-fetch g c = λ w order peers spelled.
    absurd (none_spelled (texts c.args.words.now) (usage_of c.in-Err.usage) c.in-Err.ensures.err (Fetch w.store (Sized w.descriptor) w.listen w.turns order peers) refl spelled)

pub returns-in-Err-clause-named_fetch : goal.returns-in-Err-clause-named_fetch
returns-in-Err-clause-named_fetch g c = λ w order peers spelled.
    absurd (none_spelled (texts c.args.words.now) (usage_of c.in-Err.usage) c.in-Err.ensures.err (Fetch w.store (Auto w.name) w.listen w.turns order peers) refl spelled)

pub returns-in-Err-clause-play : goal.returns-in-Err-clause-play
returns-in-Err-clause-play g c = λ w window peers spelled.
    absurd (none_spelled (texts c.args.words.now) (usage_of c.in-Err.usage) c.in-Err.ensures.err (Play w.store w.descriptor w.listen w.turns window peers) refl spelled)

pub returns-in-Err-clause-check : goal.returns-in-Err-clause-check
returns-in-Err-clause-check g c = λ store descriptor spelled.
    absurd (none_spelled (texts c.args.words.now) (usage_of c.in-Err.usage) c.in-Err.ensures.err (Check store (Sized descriptor)) refl spelled)

pub returns-in-Err-clause-named_check : goal.returns-in-Err-clause-named_check
returns-in-Err-clause-named_check g c = λ store name spelled.
    absurd (none_spelled (texts c.args.words.now) (usage_of c.in-Err.usage) c.in-Err.ensures.err (Check store (Auto name)) refl spelled)

pub returns-in-Err-clause-export : goal.returns-in-Err-clause-export
returns-in-Err-clause-export g c = λ store descriptor spelled.
    absurd (none_spelled (texts c.args.words.now) (usage_of c.in-Err.usage) c.in-Err.ensures.err (Export store (Sized descriptor)) refl spelled)

pub returns-in-Err-clause-named_export : goal.returns-in-Err-clause-named_export
returns-in-Err-clause-named_export g c = λ store name spelled.
    absurd (none_spelled (texts c.args.words.now) (usage_of c.in-Err.usage) c.in-Err.ensures.err (Export store (Auto name)) refl spelled)

pub returns-in-Err-clause-upgrade : goal.returns-in-Err-clause-upgrade
returns-in-Err-clause-upgrade g c = λ store descriptor spelled.
    absurd (none_spelled (texts c.args.words.now) (usage_of c.in-Err.usage) c.in-Err.ensures.err (Upgrade store descriptor) refl spelled)

pub returns-in-Err-clause-replay : goal.returns-in-Err-clause-replay
returns-in-Err-clause-replay g c = λ spelled.
    absurd (none_spelled (texts c.args.words.now) (usage_of c.in-Err.usage) c.in-Err.ensures.err Replay refl spelled)

pub returns-in-Err-clause-rehearse : goal.returns-in-Err-clause-rehearse
returns-in-Err-clause-rehearse g c = λ number spelled.
    absurd (none_spelled (texts c.args.words.now) (usage_of c.in-Err.usage) c.in-Err.ensures.err (Rehearse number) refl spelled)

pub returns-in-Err-clause-record : goal.returns-in-Err-clause-record
returns-in-Err-clause-record g c = λ peer life spelled.
    absurd (none_spelled (texts c.args.words.now) (usage_of c.in-Err.usage) c.in-Err.ensures.err (Record peer life) refl spelled)

pub returns-in-Err-clause-audit : goal.returns-in-Err-clause-audit
returns-in-Err-clause-audit g c = λ spelled.
    absurd (none_spelled (texts c.args.words.now) (usage_of c.in-Err.usage) c.in-Err.ensures.err Audit refl spelled)

pub returns-in-Err-clause-untroubled : goal.returns-in-Err-clause-untroubled
returns-in-Err-clause-untroubled g c = λ command spelled untroubled one.
    absurd (none_spelled (texts c.args.words.now) (usage_of c.in-Err.usage) c.in-Err.ensures.err command one spelled)
