-- A question on what was read of a channel, told from one record to the next.
use Rattle.std.specs.Prelude.{ℕ, nat_le, Bool, not, ◌&&◌, if◌then◌else◌}
use Rattle.pp_terms.specs.format.Traffic.{Record}
use Rattle.pp_terms.specs.format.Descriptor.{Descriptor}
use Rattle.pp_traffic.specs.Past.{is_event}
use Rattle.pp_traffic.specs.Life.{Life}
use Rattle.pp_recorded.specs.Standing.{after_record}
use Rattle.pp_recorded.specs.declared.standing.Question.{Question}
use Rattle.pp_recorded.specs.declared.standing.Standing.{Standing}

-- the record at a place is left unread: what came on a channel that was dialled, before the reply
abbrev pub is_unread : Life → Bool → ℕ → Record → Bool
is_unread life is_read place r = not is_read && is_event r && nat_le life.opening place

-- how it stands behind the record
abbrev pub after_read : Descriptor → Question → Life → Bool → ℕ → Record → Standing → Standing
after_read d question life is_read place r s =
    if is_unread life is_read place r then s else after_record d question life life.opening place r s
