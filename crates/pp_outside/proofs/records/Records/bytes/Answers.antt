use Rattle.std.proofs.Common.{◌∙◌, ap, sym, arith, Some}
use Rattle.std.proofs.lemmas.List.{length-map}
use Rattle.pp_outside.specs.Records.{record_of}
use Rattle.pp_outside.proofs.Telling.{bytes_at}
use Rattle.pp_outside.proofs.records.Records.bytes.Goals as goal

pub returns : goal.returns
returns c =
    let items = c.args.self.now.passed.items in
    bytes_at items c.args.n c.index.result.now (omega (arith, c.requires, length-map items record_of)) c.index.ensures
    ∙ ap Some (sym c.datagram.ensures)
