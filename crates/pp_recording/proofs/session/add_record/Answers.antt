use Rattle.std.proofs.Common.{◌∙◌, ap, ◌++◌, ◌∷◌, [], ℕ, length}
use Rattle.pp_outside.specs.MemoryLink.{in_order}
use Rattle.pp_recording.specs.Sessions.{entry_at}
use Rattle.pp_recording.specs.declared.recording.Entry.{Entry}
use Rattle.pp_recording.proofs.Sessions.{record_added}
use Rattle.pp_recording.proofs.session.add_record.Goals as goal

pub returns : goal.returns
returns c =
    record_added (in_order c.args.link.now) c.args.n c.args.traffic.now c.mark-mark.result c.mark-mark.ensures.0 c.mark_bytes-bytes.result.now
    c.push.new.self c.extend_from_slice.new.self c.is_kept.result c.requires.within c.requires.before c.mark-mark.ensures.1 c.mark_bytes-bytes.ensures
    (c.in_ok-push.ensures.items ∙ ap (λ (e : Entry). c.args.traffic.now.entries.items ++ e ∷ [])
    (c.entry_at.ensures ∙ ap (λ (k : ℕ). entry_at c.mark-mark.result k (length c.mark_bytes-bytes.result.now)) (c.len-start.ensures ∙ c.args.traffic.now.bytes.ok.0)))
    c.in_ok-extend_from_slice.ensures.items c.is_kept.ensures
