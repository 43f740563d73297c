use Rattle.std.proofs.Common.{append_assoc}
use Rattle.std.specs.Fmt.{digits}
use Rattle.pp_replay.proofs.rehearsing.add_beginning.Goals as goal

pub returns : goal.returns
unfolding digits
returns c =
    rw (
      c.in_ok-extend_from_slice-5.ensures.items,
      c.in_ok-extend_from_slice-4.ensures.items,
      c.in_ok-extend_from_slice-3.ensures.items,
      c.in_ok-extend_from_slice-2.ensures.items,
      c.in_ok-add_longer_line.ensures,
      c.in_ok-extend_from_slice.ensures.items,
    )
    (simp append_assoc)
