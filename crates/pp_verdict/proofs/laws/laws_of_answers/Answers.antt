use Rattle.pp_verdict.proofs.Faults.{faults_do_not_serve}
use Rattle.pp_verdict.proofs.Ones.{faults_are_one, answers_are_one}
use Rattle.pp_verdict.proofs.Spelled.{served_are_yes}
use Rattle.pp_verdict.proofs.laws.laws_of_answers.Goals as goal

pub returns : goal.returns
returns c = record { fault = faults_do_not_serve; part = faults_are_one; answer = answers_are_one; served = served_are_yes }
