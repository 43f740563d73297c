use Rattle.pp_words.proofs.SizeWords.{spelled_256, spelled_512, spelled_1024, spelled_2048, spelled_4096, spelled_8192, none_spelled}
use Rattle.pp_words.proofs.slots.chunk_size.Goals as goal

pub returns-in-text : goal.returns-in-text
returns-in-text c = spelled_256 c.args.word.now c.in-text.is

pub returns-in-text-2 : goal.returns-in-text-2
returns-in-text-2 c = spelled_512 c.args.word.now c.in-text-2.is

pub returns-in-text-3 : goal.returns-in-text-3
returns-in-text-3 c = spelled_1024 c.args.word.now c.in-text-3.is

pub returns-in-text-4 : goal.returns-in-text-4
returns-in-text-4 c = spelled_2048 c.args.word.now c.in-text-4.is

pub returns-in-text-5 : goal.returns-in-text-5
returns-in-text-5 c = spelled_4096 c.args.word.now c.in-text-5.is

pub returns-in-text-6 : goal.returns-in-text-6
returns-in-text-6 c = spelled_8192 c.args.word.now c.in-text-6.is

pub returns-in_default : goal.returns-in_default
returns-in_default c =
    let others = c.in_default in
    none_spelled c.args.word.now others.not-text others.not-text-2 others.not-text-3 others.not-text-4 others.not-text-5 others.not-text-6
