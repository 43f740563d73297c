-- The commands that are built.
use Rattle.std.specs.Prelude.{List, [], ◌∷◌}
use Rattle.pp_words.specs.CommandLine.{Shape, import_shape, seed_shape, fetch_shape, check_shape, export_shape, upgrade_shape, replay_shape, rehearse_shape, play_shape, record_shape, audit_shape}

abbrev pub built : List Shape
built =
    import_shape ∷
    seed_shape ∷
    fetch_shape ∷
    check_shape ∷
    export_shape ∷
    upgrade_shape ∷
    replay_shape ∷
    rehearse_shape ∷
    play_shape ∷
    record_shape ∷
    audit_shape ∷
    []
