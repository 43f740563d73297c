use Rattle.std.proofs.Common.{sym, arith}
use Rattle.pp_store.proofs.Rereading.{stands}
use Rattle.pp_store.proofs.laws.laws_of_stores.Goals as goal

pub returns : goal.returns
returns c = record {
  hold = stands;
  sound = λ chunk content image is whole. record {
    long = λ begins. omega (arith, whole.size);
    held = λ begins i within opened. sym (sym (stands chunk content image is whole i within).held);
  };
}
