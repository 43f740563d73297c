use Rattle.std.proofs.Common.{codes, arith}
use Rattle.pp_outside.specs.Outside.{address_of}
use Rattle.pp_recording.proofs.LineFaults.{no_word, no_name, no_quiet, no_received, no_sent, says_quiet, says_received, says_sent, with_word}
use Rattle.pp_recording.proofs.ByteTests.{told_same, told_apart}
use Rattle.pp_recording.proofs.lines.line_in.Goals as goal
use Rattle.pp_recording.proofs.lines.line_in.Goals.{in-Some-number, in-None-number, in-Some-2, in-None-2, in-Some-3, in-None-3}

pub returns-in_default : goal.returns-in_default
returns-in_default c = no_word c.args.row.now c.in_default.ensures

pub returns-then-eq-2 : goal.returns-then-eq-2
returns-then-eq-2 c =
    let word = told_same c.eq-2.result c.in-Some.name.now c.as_slice-2.result.now (codes "quiet") c.eq-2.ensures c.as_slice-2.ensures c.if-eq-2.true in
    elim c.match-number.branch [
      | in-Some-number w ↦ rw w.result-is (
        says_quiet c.args.row.now c.in-Some.name.now c.in-Some.words.now w.in-Some-number.at c.in-Some.ensures.0 word w.in-Some-number.ensures.1,
        omega (arith, w.in-Some-number.ensures.0),
      )
      | in-None-number w ↦ rw w.result-is
          (no_quiet c.args.row.now c.in-Some.words.now (with_word c.args.row.now c.in-Some.name.now (codes "quiet") c.in-Some.words.now c.in-Some.ensures.0 word)
          w.in-None-number.ensures)
    ]

pub returns-then-eq-3 : goal.returns-then-eq-3
returns-then-eq-3 c =
    let word = told_same c.eq-3.result c.in-Some.name.now c.as_slice-3.result.now (codes "received") c.eq-3.ensures c.as_slice-3.ensures c.if-eq-3.true in
    elim c.match-branch-2.branch [
      | in-Some-2 w ↦
          let told = rw w.in-Some-2.is at c.in_ok-d.ensures in
          rw w.result-is (
            says_received c.args.row.now c.in-Some.name.now c.in-Some.words.now w.in-Some-2.d.number (address_of w.in-Some-2.d.address)
                w.in-Some-2.d.digits.now c.in-Some.ensures.0 word told.0,
            told.1,
            told.2,
            told.3,
          )
      | in-None-2 w ↦
          let told = rw w.in-None-2.is at c.in_ok-d.ensures in
          rw w.result-is
          (no_received c.args.row.now c.in-Some.words.now (with_word c.args.row.now c.in-Some.name.now (codes "received") c.in-Some.words.now c.in-Some.ensures.0 word) told)
    ]

pub returns-then-eq-4 : goal.returns-then-eq-4
returns-then-eq-4 c =
    let word = told_same c.eq-4.result c.in-Some.name.now c.as_slice-4.result.now (codes "sent") c.eq-4.ensures c.as_slice-4.ensures c.if-eq-4.true in
    elim c.match-branch-4.branch [
      | in-Some-3 w ↦
          let told = rw w.in-Some-3.is at c.in_ok-d-2.ensures in
          rw w.result-is (
            says_sent c.args.row.now c.in-Some.name.now c.in-Some.words.now w.in-Some-3.d.number (address_of w.in-Some-3.d.address)
                w.in-Some-3.d.digits.now c.in-Some.ensures.0 word told.0,
            told.1,
            told.2,
            told.3,
          )
      | in-None-3 w ↦
          let told = rw w.in-None-3.is at c.in_ok-d-2.ensures in
          rw w.result-is
          (no_sent c.args.row.now c.in-Some.words.now (with_word c.args.row.now c.in-Some.name.now (codes "sent") c.in-Some.words.now c.in-Some.ensures.0 word) told)
    ]

pub returns : goal.returns
returns c = no_name c.args.row.now c.in-Some.name.now c.in-Some.words.now c.in-Some.ensures.0 c.in-Some.ensures.1
    (told_apart c.eq.result c.in-Some.name.now c.as_slice.result.now (codes "node") c.eq.ensures c.as_slice.ensures c.if-eq.false)
    (told_apart c.eq-2.result c.in-Some.name.now c.as_slice-2.result.now (codes "quiet") c.eq-2.ensures c.as_slice-2.ensures c.if-eq-2.false)
    (told_apart c.eq-3.result c.in-Some.name.now c.as_slice-3.result.now (codes "received") c.eq-3.ensures c.as_slice-3.ensures c.if-eq-3.false)
    (told_apart c.eq-4.result c.in-Some.name.now c.as_slice-4.result.now (codes "sent") c.eq-4.ensures c.as_slice-4.ensures c.if-eq-4.false)
