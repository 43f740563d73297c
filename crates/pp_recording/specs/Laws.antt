-- What holds of all recordings.
use Rattle.std.specs.Prelude.{◌≡◌}
use Rattle.pp_recording.specs.Recording.{Recorded, recording_text, IsRecording}

-- Two recordings with one text are one.
abbrev pub TextDetermines : Type 0
TextDetermines = (r s : Recorded) → IsRecording r → IsRecording s → recording_text r ≡ recording_text s → r ≡ s
