use Rattle.std.proofs.Common.{ℕ, ap, sym, ◌∙◌, arith}
use Rattle.pp_terms.specs.tree.Content.{chunk_count}
use Rattle.pp_tree.proofs.Sizes.{chunk_size_range}
use Rattle.pp_store.specs.Import.{unfinished}
use Rattle.pp_store.proofs.Writings.{keeps_more, known_back, behind_keeps}
use Rattle.pp_store.proofs.Ends.{sealed_store, sealed_left, front_keeps, disk_more}
use Rattle.pp_store.proofs.importing.finish_store.Goals as goal

pub finish-requires-clause-size : goal.finish-requires-clause-size
finish-requires-clause-size g c = let range = chunk_size_range c.args.chunk c.requires.chunk in omega arith

-- what the stretched file is
pub returns-in-Ok-keep_front-clause-stored : goal.returns-in-Ok-keep_front-clause-stored
returns-in-Ok-keep_front-clause-stored g c content long part =
    let all = c.requires.counted ∙ ap (λ (n : ℕ). chunk_count n c.args.chunk) (sym long) in
    let is = c.describe-descriptor.ensures content long (c.in-Ok.ensures.root content all part) in
    let mid = g.D.Disk.state c.finish.new.disk in
    let next = g.D.Disk.state c.stretch.new.disk in
    sealed_store c.args.chunk content c.describe-descriptor.result c.header_of.result (g.D.Disk.state c.args.disk.now) next (g.D.Disk.state c.keep_front.new.disk) _
    (keeps_more _ _ _ c.in-Ok.ensures.does.keeps c.in-Ok-stretch.ensures.does.keeps) c.header_of.ensures c.in-Ok-keep_front.ensures is
    (λ known. let known_mid = known_back mid next c.in-Ok-stretch.ensures.does.keeps known in
    c.in-Ok-stretch.ensures.whole c.args.chunk content is known_mid (c.in-Ok.ensures.built content all part known_mid))

pub returns-in-Ok-keep_front-clause-left : goal.returns-in-Ok-keep_front-clause-left
returns-in-Ok-keep_front-clause-left g c =
    let mid = g.D.Disk.state c.finish.new.disk in
    let next = g.D.Disk.state c.stretch.new.disk in
    sealed_left c.args.chunk c.args.size c.args.tree.now.count c.args.tree.now.peaks c.describe-descriptor.result c.header_of.result (g.D.Disk.state c.args.disk.now) next (g.D.Disk.state c.keep_front.new.disk) _
    (keeps_more _ _ _ c.in-Ok.ensures.does.keeps c.in-Ok-stretch.ensures.does.keeps) c.header_of.ensures c.in-Ok-keep_front.ensures
    (λ content long part. c.describe-descriptor.ensures content long (c.in-Ok.ensures.root content (c.requires.counted ∙ ap (λ (n : ℕ). chunk_count n c.args.chunk) (sym long)) part))
    (λ content long part known.
    let all = c.requires.counted ∙ ap (λ (n : ℕ). chunk_count n c.args.chunk) (sym long) in
    let known_mid = known_back mid next c.in-Ok-stretch.ensures.does.keeps known in
    c.in-Ok-stretch.ensures.whole c.args.chunk content (c.describe-descriptor.ensures content long (c.in-Ok.ensures.root content all part)) known_mid (c.in-Ok.ensures.built content all part known_mid))

pub returns-in-Ok-keep_front-clause-disk : goal.returns-in-Ok-keep_front-clause-disk
returns-in-Ok-keep_front-clause-disk g c =
    disk_more _ _ _ (behind_keeps _ _ (keeps_more _ _ _ c.in-Ok.ensures.does.keeps c.in-Ok-stretch.ensures.does.keeps)) (front_keeps _ _ _ _ c.in-Ok-keep_front.ensures)

pub returns-in-Err-keep_front-clause-left : goal.returns-in-Err-keep_front-clause-left
returns-in-Err-keep_front-clause-left g c =
    let mid = g.D.Disk.state c.finish.new.disk in
    let next = g.D.Disk.state c.stretch.new.disk in
    sealed_left c.args.chunk c.args.size c.args.tree.now.count c.args.tree.now.peaks c.describe-descriptor.result c.header_of.result (g.D.Disk.state c.args.disk.now) next (g.D.Disk.state c.keep_front.new.disk) _
    (keeps_more _ _ _ c.in-Ok.ensures.does.keeps c.in-Ok-stretch.ensures.does.keeps) c.header_of.ensures c.in-Err-keep_front.ensures
    (λ content long part. c.describe-descriptor.ensures content long (c.in-Ok.ensures.root content (c.requires.counted ∙ ap (λ (n : ℕ). chunk_count n c.args.chunk) (sym long)) part))
    (λ content long part known.
    let all = c.requires.counted ∙ ap (λ (n : ℕ). chunk_count n c.args.chunk) (sym long) in
    let known_mid = known_back mid next c.in-Ok-stretch.ensures.does.keeps known in
    c.in-Ok-stretch.ensures.whole c.args.chunk content (c.describe-descriptor.ensures content long (c.in-Ok.ensures.root content all part)) known_mid (c.in-Ok.ensures.built content all part known_mid))

pub returns-in-Err-keep_front-clause-disk : goal.returns-in-Err-keep_front-clause-disk
returns-in-Err-keep_front-clause-disk g c =
    disk_more _ _ _ (behind_keeps _ _ (keeps_more _ _ _ c.in-Ok.ensures.does.keeps c.in-Ok-stretch.ensures.does.keeps)) (front_keeps _ _ _ _ c.in-Err-keep_front.ensures)

pub returns-in-Err-stretch-clause-left : goal.returns-in-Err-stretch-clause-left
returns-in-Err-stretch-clause-left g c known =
    unfinished _ ((keeps_more _ _ _ c.in-Ok.ensures.does.keeps c.in-Err-stretch.ensures.does.keeps).behind known)

pub returns-in-Err-stretch-clause-disk : goal.returns-in-Err-stretch-clause-disk
returns-in-Err-stretch-clause-disk g c = behind_keeps _ _ (keeps_more _ _ _ c.in-Ok.ensures.does.keeps c.in-Err-stretch.ensures.does.keeps)

pub returns-in-Err-clause-left : goal.returns-in-Err-clause-left
returns-in-Err-clause-left g c known = unfinished _ (c.in-Err.ensures.does.keeps.behind known)
