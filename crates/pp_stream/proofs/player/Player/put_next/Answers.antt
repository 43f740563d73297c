use Rattle.std.proofs.Common.{◌≡◌, ◌+◌, ◌<◌, ◌≤◌, ℕ, true, length, sym, ◌∙◌, ap, subst, arith, refl, Result, Ok, Err}
use Rattle.pp_terms.specs.format.Descriptor.{Descriptor, IsDescriptor, chunks_of}
use Rattle.pp_store.specs.declared.reading.ReadFault.{ReadFault}
use Rattle.pp_stream.specs.declared.player.PlayFault.TheVariants.{Sink}
use Rattle.pp_stream.specs.Player.{PlayerState, Feed, feed}
use Rattle.pp_stream.specs.Steps.{PutsOne}
use Rattle.pp_stream.proofs.Steps.{one_put, one_refused, one_left}
use Rattle.pp_stream.proofs.player.Player.put_next.Goals as goal

same_fault : {a b : ReadFault} → ◌≡◌ {A = Result ℕ ReadFault} (Err a) (Err b) → a ≡ b
same_fault e = cc

pub returns-in-Ok-put_all : goal.returns-in-Ok-put_all
returns-in-Ok-put_all g c =
    let s = c.args.peer.now.parts.holding in
    let q : PlayerState = record { chunks = c.self.inside.chunks; window = c.self.inside.window; base = c.self.inside.base } in
    let old : Feed = feed q (g.D.Disk.state c.args.disk.now) (g.K.Sink.state c.args.sink.now) in
    let new : Feed = feed (record q { base = q.base + 1 }) (g.D.Disk.state c.read.new.disk) (g.K.Sink.state c.put_all.new.sink) in
    let valid : IsDescriptor s.store.descriptor = subst IsDescriptor c.descriptor.ensures c.chunk.ensures.valid in
    let of : q.chunks ≡ chunks_of s.store.descriptor = subst (λ (x : PlayerState). x.chunks ≡ chunks_of s.store.descriptor) (sym c.self.view_is) c.requires.of in
    let within : q.base < q.chunks = subst (λ (x : PlayerState). x.base < x.chunks) (sym c.self.view_is) c.requires.within in
    let size : s.store.descriptor.chunk ≤ 8192 = subst (λ (d : Descriptor). d.chunk ≤ 8192) c.descriptor.ensures (omega (arith, c.chunk.ensures.chunk, c.chunk.ensures.range)) in
    let long : length c.read.new.out ≡ 8192 = c.read.auto.out ∙ c.self.told in
    subst (λ (x : PlayerState). PutsOne s (feed x old.disk old.sink) new (Ok true)) c.self.view_is
    (one_put s old new valid c.book.ensures.tied of within c.read.ensures.looks c.read.ensures.hard c.put_all.ensures.cause.later
    c.read.new.out c.in-Ok.len refl (λ not. let e = c.in-Ok.ensures.absent.1 not in absurd cc) (omega (arith, size, long)) c.in-Ok.ensures.read c.in-Ok-put_all.ensures.gained)

pub returns-in-Err-put_all : goal.returns-in-Err-put_all
returns-in-Err-put_all g c =
    let s = c.args.peer.now.parts.holding in
    let q : PlayerState = record { chunks = c.self.inside.chunks; window = c.self.inside.window; base = c.self.inside.base } in
    let old : Feed = feed q (g.D.Disk.state c.args.disk.now) (g.K.Sink.state c.args.sink.now) in
    let new : Feed = feed q (g.D.Disk.state c.read.new.disk) (g.K.Sink.state c.put_all.new.sink) in
    let valid : IsDescriptor s.store.descriptor = subst IsDescriptor c.descriptor.ensures c.chunk.ensures.valid in
    let of : q.chunks ≡ chunks_of s.store.descriptor = subst (λ (x : PlayerState). x.chunks ≡ chunks_of s.store.descriptor) (sym c.self.view_is) c.requires.of in
    let within : q.base < q.chunks = subst (λ (x : PlayerState). x.base < x.chunks) (sym c.self.view_is) c.requires.within in
    let size : s.store.descriptor.chunk ≤ 8192 = subst (λ (d : Descriptor). d.chunk ≤ 8192) c.descriptor.ensures (omega (arith, c.chunk.ensures.chunk, c.chunk.ensures.range)) in
    let long : length c.read.new.out ≡ 8192 = c.read.auto.out ∙ c.self.told in
    subst (λ (x : PlayerState). PutsOne s (feed x old.disk old.sink) new (Err Sink)) c.self.view_is
    (one_refused s old new valid c.book.ensures.tied of within c.read.ensures.looks c.read.ensures.hard c.put_all.ensures.cause.later refl
    c.read.new.out c.in-Ok.len (λ not. let e = c.in-Ok.ensures.absent.1 not in absurd cc) (omega (arith, size, long)) c.in-Ok.ensures.read
    c.in-Err-put_all.ensures.part (c.in-Err-put_all.ensures.cause.risen refl))

pub returns-in-Err : goal.returns-in-Err
returns-in-Err g c =
    let s = c.args.peer.now.parts.holding in
    let q : PlayerState = record { chunks = c.self.inside.chunks; window = c.self.inside.window; base = c.self.inside.base } in
    let old : Feed = feed q (g.D.Disk.state c.args.disk.now) (g.K.Sink.state c.args.sink.now) in
    let new : Feed = feed q (g.D.Disk.state c.read.new.disk) (g.K.Sink.state c.args.sink.now) in
    let valid : IsDescriptor s.store.descriptor = subst IsDescriptor c.descriptor.ensures c.chunk.ensures.valid in
    let of : q.chunks ≡ chunks_of s.store.descriptor = subst (λ (x : PlayerState). x.chunks ≡ chunks_of s.store.descriptor) (sym c.self.view_is) c.requires.of in
    let within : q.base < q.chunks = subst (λ (x : PlayerState). x.base < x.chunks) (sym c.self.view_is) c.requires.within in
    let size : s.store.descriptor.chunk ≤ 8192 = subst (λ (d : Descriptor). d.chunk ≤ 8192) c.descriptor.ensures (omega (arith, c.chunk.ensures.chunk, c.chunk.ensures.range)) in
    let long : length c.read.new.out ≡ 8192 = c.read.auto.out ∙ c.self.told in
    subst (λ (x : PlayerState). PutsOne s (feed x old.disk old.sink) new c.unread.result) c.self.view_is
    (subst (PutsOne s old new) (sym c.unread.ensures)
    (one_left s old new valid c.book.ensures.tied of within c.read.ensures.looks c.read.ensures.hard (omega arith) c.in-Err.fault c.read.new.out _ refl refl
    (λ is. c.in-Err.ensures.absent.0 (ap Err is)) (λ not. same_fault (c.in-Err.ensures.absent.1 not)) (omega (arith, size, long)) c.in-Err.ensures.read))
