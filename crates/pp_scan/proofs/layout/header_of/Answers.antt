use Rattle.std.proofs.Common.{ap, ◌∙◌}
use Rattle.std.specs.Int.{w32, w64, to_be_bytes}
use Rattle.pp_scan.proofs.HeaderBytes.{header_placed}
use Rattle.pp_scan.proofs.layout.header_of.Goals as goal

pub returns : goal.returns
returns c =
    header_placed c.args.descriptor.now _ _ _ _ c.copy_from_slice.ensures.after
    (c.copy_from_slice-2.ensures.after ∙ c.to_be_bytes.ensures ∙ ap (to_be_bytes w32) c.chunk.ensures.chunk)
    (c.copy_from_slice-3.ensures.after ∙ c.to_be_bytes-2.ensures ∙ ap (to_be_bytes w64) c.size.ensures.size)
    (c.copy_from_slice-4.ensures.after ∙ c.bytes.ensures.same ∙ c.root-root.ensures.root)
