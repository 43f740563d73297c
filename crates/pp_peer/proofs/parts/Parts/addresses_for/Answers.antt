use Rattle.std.proofs.Common.{rules, arith, ◌∙◌, ap, List, length}
use Rattle.std.specs.List.{filter}
use Rattle.std.proofs.lemmas.List.{length-take}
use Rattle.std.proofs.lemmas.List.Sums.{length-filter, count_by-le-length}
use Rattle.pp_outside.specs.declared.link.Address.{Address}
use Rattle.pp_pex.specs.Exchange.{addresses, answers, is_told}
use Rattle.pp_peer.specs.Speaking.{is_taken}
use Rattle.pp_peer.proofs.parts.Parts.addresses_for.Goals as goal

pub returns : goal.returns
returns c = record {
  known = c.seat-known.result.now;
  there = c.seat-known.ensures;
  takes = c.supports_of-takes.result;
  supports = c.supports_of-takes.ensures;
  asked = λ asked rested. c.keep_taken.ensures ∙ ap (λ (xs : List Address). filter (is_taken c.supports_of-takes.result.v6) xs)
      (c.answer-addresses.ensures.told ∙ ap (answers c.args.self.now.pex.table c.args.own.now) c.moment-now.ensures);
  unasked = λ none. search rules;
  early = λ early. search rules;
  few = let kept = ap (λ (xs : List Address). length xs) c.keep_taken.ensures in
      let some = length-filter (is_taken c.supports_of-takes.result.v6) c.answer-addresses.result.items in
      let most = count_by-le-length (is_taken c.supports_of-takes.result.v6) c.answer-addresses.result.items in
      let told = ap (λ (xs : List Address). length xs) c.answer-addresses.ensures.told in
      let few = length-take 16 (addresses (filter (is_told c.args.own.now c.moment-now.result) c.args.self.now.pex.table)) in
      omega (arith, kept, some, most, told, few);
}
