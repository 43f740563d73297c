-- Worked examples of schedules, by computing.
use Rattle.std.proofs.Common.{refl}
use Rattle.std.specs.Fmt.{digits}
use Rattle.pp_world.specs.ScheduleFault.{schedule_line}
use Rattle.pp_world.specs.ScheduleRead.{read_schedule}
use Rattle.pp_world.specs.Rehearsal.{rehearsal_text}
use Rattle.pp_world.specs.ScheduleExamples.{SchedulesThatRead, SchedulesThatDont, Rehearses}

pub schedules_read : SchedulesThatRead
unfolding read_schedule digits
schedules_read = record { is_read = refl; is_written = refl; content = (refl, refl) }

pub schedules_refused : SchedulesThatDont
unfolding read_schedule schedule_line digits
schedules_refused = record {
  second_version = refl;
  no_such_peer = refl;
  misspelt_kind = refl;
  undeclared_peer_fails = refl;
  no_kind = refl;
  misspelt_header = refl;
  no_chunk_size = refl;
  peer_out_of_order = refl;
  letter_in_a_number = refl;
  letter_behind_a_number = refl;
  half_a_byte = refl;
  letter_in_hex = refl;
  empty = refl;
  unended_header = refl;
  no_content = refl;
  unended_content = refl;
  wrong_number_of_content = refl;
  no_peer = refl;
  step_before_peers = refl;
  peer_after_step = refl;
  undeclared_before_faulty = refl;
  dials_itself = refl;
  peer_sixteen = refl;
  leading_zero = refl;
  number_before_peer = refl;
  peer_before_hex = refl;
  upper_case_hex = refl;
  failing_kind = refl;
  unended_step = refl;
  said = refl;
}

pub rehearses : Rehearses
unfolding rehearsal_text digits
rehearses = record { text = refl }
