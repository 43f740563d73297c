-- Words spell at most one command.
use Rattle.std.proofs.Common.{◌≡◌, ℕ, ◌^◌, ◌<◌, Bool, true, false, cond, List, [], ◌∷◌, codes, decimal, Some, None, Result, Ok, Err, refl, sym, ◌∙◌, ap, subst, arith}
use Rattle.std.specs.Prelude.{IfOk, IfErr, IsOkAnd, IsErrAnd}
use Rattle.std.specs.Str.{bytes_eq}
use Rattle.std.specs.List.{AllZip}
use Rattle.std.proofs.lemmas.Bool.{true≢false}
use Rattle.std.proofs.lemmas.Fmt.{decimal_injective}
use Rattle.std.proofs.lemmas.Slice.Eq.{bytes_eq-Decides}
use Rattle.pp_terms.specs.tree.Content.{IsChunkSize}
use Rattle.pp_terms.specs.format.Descriptor.{Descriptor}
use Rattle.pp_terms.specs.format.Traffic.{Address}
use Rattle.pp_terms.specs.format.Addresses.{IsAddress}
use Rattle.pp_terms.specs.command.Order.{Order, Sequential, Rarest, order_text}
use Rattle.pp_words.specs.Commands.{Command, Import, Seed, Fetch, Check, Export, Upgrade, Replay, Rehearse, Play, Record, Audit}
use Rattle.pp_words.specs.Usage as wrong
use Rattle.pp_words.specs.Usage.{Usage, usage}
use Rattle.pp_words.specs.CommandLine.{IsDescriptorText, IsTargetText, IsImport, IsSeed, IsFetch, IsOnStore, IsOnTarget, IsRehearse, IsPlay, IsRecord, Spells, Shape, import_shape, seed_shape, fetch_shape, check_shape, export_shape, upgrade_shape, replay_shape, rehearse_shape, play_shape, record_shape, audit_shape, commands, shape_of, named, IsFirstWrong}
use Rattle.pp_targets.specs.Target.{Target}
use Rattle.pp_tree.proofs.Readings.{descriptor_same}
use Rattle.pp_tree.proofs.Sizes.{chunk_size_range}
use Rattle.pp_words.proofs.AddressParts.{address_same}
use Rattle.pp_words.proofs.TargetLaws.{target_same}
use Rattle.pp_words.proofs.OneReading.{words_of, command_not_wrong, one_of_all, first_wrong_once}

-- ---- what each word writes

chunk_same : (a b : ℕ) → IsChunkSize a → IsChunkSize b → decimal a ≡ decimal b → a ≡ b
chunk_same a b one two e =
    let low = chunk_size_range a one in
    let high = chunk_size_range b two in
    decimal_injective a b (omega arith) (omega arith) e

number_same : (a b : ℕ) → a < 2 ^ 32 → b < 2 ^ 32 → decimal a ≡ decimal b → a ≡ b
number_same a b low high e = decimal_injective a b (omega arith) (omega arith) e

narrow_low : (n : ℕ) → n < 4097 → n < 2 ^ 32
narrow_low n low = omega arith

below_16 : (n : ℕ) → n < 16 → n < 2 ^ 32
below_16 n low = omega arith

described_same : (s t : List ℕ) (a b : Descriptor) → s ≡ t → IsDescriptorText s a → IsDescriptorText t b → a ≡ b
described_same s t a b e one two =
    descriptor_same a b t one.valid two.valid one.bytes two.bytes (sym e ∙ one.text_is) two.text_is

named_same : (s t : List ℕ) (a b : Target) → s ≡ t → IsTargetText s a → IsTargetText t b → a ≡ b
named_same s t a b e one two = target_same t a b (subst (λ w. IsTargetText w a) e one) two

listen_same : (s t : List ℕ) (a b : Address) → s ≡ t → IsAddress s a → IsAddress t b → a ≡ b
listen_same s t a b e one two = address_same t a b (subst (λ w. IsAddress w a) e one) two

order_same : (a b : Order) → order_text a ≡ order_text b → a ≡ b
order_same Sequential Sequential e = refl
order_same Sequential Rarest e = absurd (true≢false (sym (subst (λ t. bytes_eq (codes "sequential") t ≡ true) e refl)))
order_same Rarest Sequential e = absurd (true≢false (sym (subst (λ t. bytes_eq (codes "rarest") t ≡ true) e refl)))
order_same Rarest Rarest e = refl

peers_same : (words : List (List ℕ)) (a b : List Address) → AllZip IsAddress words a → AllZip IsAddress words b → a ≡ b
peers_same [] [] [] one two = refl
peers_same [] [] (y ∷ b) one two = absurd two
peers_same [] (x ∷ a) b one two = absurd one
peers_same (word ∷ words) [] b one two = absurd one
peers_same (word ∷ words) (x ∷ a) [] one two = absurd two
peers_same (word ∷ words) (x ∷ a) (y ∷ b) one two =
    ap (λ p. p ∷ a) (address_same word x y one.0 two.0) ∙ ap (λ ps. y ∷ ps) (peers_same words a b one.1 two.1)

-- ---- the words of two lists

head_word : List (List ℕ) → List ℕ
head_word [] = []
head_word (word ∷ words) = word

cons_same : (a b : List ℕ) (x y : List (List ℕ)) → a ∷ x ≡ b ∷ y → (a ≡ b) × (x ≡ y)
cons_same a b x y e = (cc, cc)

-- the name of a command that these words spell
name_is : (words : List (List ℕ)) (name : List ℕ) (rest : List (List ℕ)) (c : Command) → words ≡ name ∷ rest → Spells words c
    → bytes_eq name name ≡ true → bytes_eq name (shape_of c).name ≡ true
name_is words name rest c e is self =
    let of_it = words_of words c is in
    let same = (cons_same name (shape_of c).name rest of_it.rest (sym e ∙ of_it.named)).0 in
    subst (λ t. bytes_eq name t ≡ true) same self

-- ---- each command

import_only : (words : List (List ℕ)) (store : List ℕ) (chunk : ℕ) → IsImport words store chunk → (d : Command) → Spells words d → Import store chunk ≡ d
import_only words store chunk one (Import store' chunk') two =
    let e = (cons_same _ _ _ _ (sym one.spelled ∙ two.spelled)).1 in
    let first = cons_same _ _ _ _ e in
    let second = cons_same _ _ _ _ first.1 in
    ap (λ s. Import s chunk) first.0 ∙ ap (λ n. Import store' n) (chunk_same chunk chunk' one.size two.size second.0)
import_only words store chunk one d two = absurd (true≢false (sym (name_is words (codes "import") _ d one.spelled two refl)))

seed_only : (words : List (List ℕ)) (store : List ℕ) (target : Target) (listen : Address) (turns : ℕ) → IsSeed words store target listen turns
    → (d : Command) → Spells words d → Seed store target listen turns ≡ d
seed_only words store target listen turns one (Seed store' target' listen' turns') two =
    let a = cons_same _ _ _ _ (cons_same _ _ _ _ (sym one.spelled ∙ two.spelled)).1 in
    let b = cons_same _ _ _ _ a.1 in
    let c = cons_same _ _ _ _ b.1 in
    let d = cons_same _ _ _ _ c.1 in
    ap (λ s. Seed s target listen turns) a.0
    ∙ ap (λ x. Seed store' x listen turns) (named_same _ _ _ _ b.0 one.target_is two.target_is)
    ∙ ap (λ x. Seed store' target' x turns) (listen_same _ _ _ _ c.0 one.listen_is two.listen_is)
    ∙ ap (λ n. Seed store' target' listen' n) (number_same turns turns' one.few two.few d.0)
seed_only words store target listen turns one d two = absurd (true≢false (sym (name_is words (codes "seed") _ d one.spelled two refl)))

fetch_only : (words : List (List ℕ)) (store : List ℕ) (target : Target) (listen : Address) (turns : ℕ) (order : Order) (peers : List Address)
    → IsFetch words store target listen turns order peers → (d : Command) → Spells words d → Fetch store target listen turns order peers ≡ d
fetch_only words store target listen turns order peers one (Fetch store' target' listen' turns' order' peers') two =
    let a = cons_same _ _ _ _ (cons_same _ _ _ _ (sym one.spelled ∙ two.spelled)).1 in
    let b = cons_same _ _ _ _ a.1 in
    let c = cons_same _ _ _ _ b.1 in
    let d = cons_same _ _ _ _ c.1 in
    let f = cons_same _ _ _ _ d.1 in
    ap (λ s. Fetch s target listen turns order peers) a.0
    ∙ ap (λ x. Fetch store' x listen turns order peers) (named_same _ _ _ _ b.0 one.target_is two.target_is)
    ∙ ap (λ x. Fetch store' target' x turns order peers) (listen_same _ _ _ _ c.0 one.listen_is two.listen_is)
    ∙ ap (λ n. Fetch store' target' listen' n order peers) (number_same turns turns' one.few two.few d.0)
    ∙ ap (λ o. Fetch store' target' listen' turns' o peers) (order_same order order' f.0)
    ∙ ap (λ ps. Fetch store' target' listen' turns' order' ps)
    (peers_same two.dialled peers peers' (subst (λ ws. AllZip IsAddress ws peers) f.1 one.dialled_are) two.dialled_are)
fetch_only words store target listen turns order peers one d two =
    absurd (true≢false (sym (name_is words (codes "fetch") _ d one.spelled two refl)))

-- the store and the descriptor of a command on a store
on_store_same : (name : List ℕ) (words : List (List ℕ)) (store store' : List ℕ) (descriptor descriptor' : Descriptor) → IsOnStore name words store descriptor
    → IsOnStore name words store' descriptor' → (store ≡ store') × (descriptor ≡ descriptor')
on_store_same name words store store' descriptor descriptor' one two =
    let a = cons_same _ _ _ _ (cons_same _ _ _ _ (sym one.spelled ∙ two.spelled)).1 in
    let b = cons_same _ _ _ _ a.1 in
    (a.0, described_same _ _ _ _ b.0 one.descriptor_is two.descriptor_is)

-- the store and the target of a command on a target
on_target_same : (name : List ℕ) (words : List (List ℕ)) (store store' : List ℕ) (target target' : Target) → IsOnTarget name words store target
    → IsOnTarget name words store' target' → (store ≡ store') × (target ≡ target')
on_target_same name words store store' target target' one two =
    let a = cons_same _ _ _ _ (cons_same _ _ _ _ (sym one.spelled ∙ two.spelled)).1 in
    let b = cons_same _ _ _ _ a.1 in
    (a.0, named_same _ _ _ _ b.0 one.target_is two.target_is)

check_only : (words : List (List ℕ)) (store : List ℕ) (target : Target) → IsOnTarget (codes "check") words store target
    → (d : Command) → Spells words d → Check store target ≡ d
check_only words store target one (Check store' target') two =
    let (a, b) = on_target_same (codes "check") words store store' target target' one two in
    ap (λ s. Check s target) a ∙ ap (λ x. Check store' x) b
check_only words store target one d two = absurd (true≢false (sym (name_is words (codes "check") _ d one.spelled two refl)))

export_only : (words : List (List ℕ)) (store : List ℕ) (target : Target) → IsOnTarget (codes "export") words store target
    → (d : Command) → Spells words d → Export store target ≡ d
export_only words store target one (Export store' target') two =
    let (a, b) = on_target_same (codes "export") words store store' target target' one two in
    ap (λ s. Export s target) a ∙ ap (λ x. Export store' x) b
export_only words store target one d two = absurd (true≢false (sym (name_is words (codes "export") _ d one.spelled two refl)))

upgrade_only : (words : List (List ℕ)) (store : List ℕ) (descriptor : Descriptor) → IsOnStore (codes "upgrade") words store descriptor
    → (d : Command) → Spells words d → Upgrade store descriptor ≡ d
upgrade_only words store descriptor one (Upgrade store' descriptor') two =
    let (a, b) = on_store_same (codes "upgrade") words store store' descriptor descriptor' one two in
    ap (λ s. Upgrade s descriptor) a ∙ ap (λ x. Upgrade store' x) b
upgrade_only words store descriptor one d two = absurd (true≢false (sym (name_is words (codes "upgrade") _ d one.spelled two refl)))

replay_only : (words : List (List ℕ)) → words ≡ codes "replay" ∷ [] → (d : Command) → Spells words d → Replay ≡ d
replay_only words one Replay two = refl
replay_only words one d two = absurd (true≢false (sym (name_is words (codes "replay") _ d one two refl)))

rehearse_only : (words : List (List ℕ)) (number : ℕ) → IsRehearse words number → (d : Command) → Spells words d → Rehearse number ≡ d
rehearse_only words number one (Rehearse number') two =
    let a = cons_same _ _ _ _ (cons_same _ _ _ _ (sym one.spelled ∙ two.spelled)).1 in
    ap (λ n. Rehearse n) (decimal_injective number number' one.low two.low a.0)
rehearse_only words number one d two = absurd (true≢false (sym (name_is words (codes "rehearse") _ d one.spelled two refl)))

play_only : (words : List (List ℕ)) (store : List ℕ) (descriptor : Descriptor) (listen : Address) (turns window : ℕ) (peers : List Address)
    → IsPlay words store descriptor listen turns window peers → (d : Command) → Spells words d → Play store descriptor listen turns window peers ≡ d
play_only words store descriptor listen turns window peers one (Play store' descriptor' listen' turns' window' peers') two =
    let a = cons_same _ _ _ _ (cons_same _ _ _ _ (sym one.spelled ∙ two.spelled)).1 in
    let b = cons_same _ _ _ _ a.1 in
    let c = cons_same _ _ _ _ b.1 in
    let d = cons_same _ _ _ _ c.1 in
    let f = cons_same _ _ _ _ d.1 in
    ap (λ s. Play s descriptor listen turns window peers) a.0
    ∙ ap (λ x. Play store' x listen turns window peers) (described_same _ _ _ _ b.0 one.descriptor_is two.descriptor_is)
    ∙ ap (λ x. Play store' descriptor' x turns window peers) (listen_same _ _ _ _ c.0 one.listen_is two.listen_is)
    ∙ ap (λ n. Play store' descriptor' listen' n window peers) (number_same turns turns' one.few two.few d.0)
    ∙ ap (λ n. Play store' descriptor' listen' turns' n peers) (number_same window window' (narrow_low window one.narrow) (narrow_low window' two.narrow) f.0)
    ∙ ap (λ ps. Play store' descriptor' listen' turns' window' ps)
    (peers_same two.dialled peers peers' (subst (λ ws. AllZip IsAddress ws peers) f.1 one.dialled_are) two.dialled_are)
play_only words store descriptor listen turns window peers one d two =
    absurd (true≢false (sym (name_is words (codes "play") _ d one.spelled two refl)))

record_only : (words : List (List ℕ)) (peer life : ℕ) → IsRecord words peer life → (d : Command) → Spells words d → Record peer life ≡ d
record_only words peer life one (Record peer' life') two =
    let a = cons_same _ _ _ _ (cons_same _ _ _ _ (sym one.spelled ∙ two.spelled)).1 in
    let b = cons_same _ _ _ _ a.1 in
    ap (λ p. Record p life) (number_same peer peer' (below_16 peer one.low) (below_16 peer' two.low) a.0)
    ∙ ap (λ n. Record peer' n) (number_same life life' one.few two.few b.0)
record_only words peer life one d two = absurd (true≢false (sym (name_is words (codes "record") _ d one.spelled two refl)))

audit_only : (words : List (List ℕ)) → words ≡ codes "audit" ∷ [] → (d : Command) → Spells words d → Audit ≡ d
audit_only words one Audit two = refl
audit_only words one d two = absurd (true≢false (sym (name_is words (codes "audit") _ d one two refl)))

pub one_command : (words : List (List ℕ)) (c d : Command) → Spells words c → Spells words d → c ≡ d
one_command words (Import store chunk) d one two = import_only words store chunk one d two
one_command words (Seed store target listen turns) d one two = seed_only words store target listen turns one d two
one_command words (Fetch store target listen turns order peers) d one two = fetch_only words store target listen turns order peers one d two
one_command words (Check store target) d one two = check_only words store target one d two
one_command words (Export store target) d one two = export_only words store target one d two
one_command words (Upgrade store descriptor) d one two = upgrade_only words store descriptor one d two
one_command words Replay d one two = replay_only words one d two
one_command words (Rehearse number) d one two = rehearse_only words number one d two
one_command words (Play store descriptor listen turns window peers) d one two = play_only words store descriptor listen turns window peers one d two
one_command words (Record peer life) d one two = record_only words peer life one d two
one_command words Audit d one two = audit_only words one d two

-- ---- what an answer says of every command and every wrong word

pub each_command : {A B : Type 0} (view : A → Command) (fault : B → Usage) (words : List (List ℕ)) (r : Result A B)
    → IfOk r (λ a. Spells words (view a)) → IfErr r (λ b. IsFirstWrong commands words (fault b))
    → (c : Command) → Spells words c → IsOkAnd r (λ a. view a ≡ c)
each_command view fault words (Ok a) ok err c is = one_command words (view a) c ok is
each_command view fault words (Err b) ok err c is = absurd (command_not_wrong commands words c (fault b) (one_of_all c) is err)

pub each_wrong : {A B : Type 0} (view : A → Command) (fault : B → Usage) (words : List (List ℕ)) (r : Result A B)
    → IfOk r (λ a. Spells words (view a)) → IfErr r (λ b. IsFirstWrong commands words (fault b))
    → (u : Usage) → IsFirstWrong commands words u → IsErrAnd r (λ b. fault b ≡ u)
each_wrong view fault words (Ok a) ok err u is = absurd (command_not_wrong commands words (view a) u (one_of_all (view a)) ok is)
each_wrong view fault words (Err b) ok err u is = first_wrong_once commands words (fault b) u err is

-- ---- no command of that name

other_name : (name text : List ℕ) → (text ≡ name → ⊥) → bytes_eq name text ≡ false
other_name name text never = at (bytes_eq name text) refl
  where
    at : (b : Bool) → bytes_eq name text ≡ b → b ≡ false
    at true e = absurd (never (sym ((bytes_eq-Decides name text).0 e)))
    at false e = refl

not_first : (text : List ℕ) (shape : Shape) (shapes : List Shape) → (text ≡ shape.name → ⊥) → named text shapes ≡ None → named text (shape ∷ shapes) ≡ None
not_first text shape shapes never more =
    ap (λ b. cond b (Some shape) (named text shapes)) (other_name shape.name text never) ∙ more

pub none_named : (text : List ℕ) → (text ≡ codes "import" → ⊥) → (text ≡ codes "seed" → ⊥) → (text ≡ codes "fetch" → ⊥) → (text ≡ codes "check" → ⊥)
    → (text ≡ codes "export" → ⊥) → (text ≡ codes "upgrade" → ⊥) → (text ≡ codes "replay" → ⊥) → (text ≡ codes "rehearse" → ⊥)
    → (text ≡ codes "play" → ⊥) → (text ≡ codes "record" → ⊥) → (text ≡ codes "audit" → ⊥) → named text commands ≡ None
none_named text a b c d e u f g play recorded audit =
    not_first text import_shape from_seed a (not_first text seed_shape from_fetch b (not_first text fetch_shape from_check c
    (not_first text check_shape from_export d (not_first text export_shape from_upgrade e
    (not_first text upgrade_shape from_replay u (not_first text replay_shape from_rehearse f
    (not_first text rehearse_shape from_play g (not_first text play_shape from_record play
    (not_first text record_shape (audit_shape ∷ []) recorded (not_first text audit_shape [] audit refl))))))))))
  where
    from_record : List Shape
    from_record = record_shape ∷ audit_shape ∷ []

    from_play : List Shape
    from_play = play_shape ∷ from_record

    from_rehearse : List Shape
    from_rehearse = rehearse_shape ∷ from_play

    from_replay : List Shape
    from_replay = replay_shape ∷ from_rehearse

    from_upgrade : List Shape
    from_upgrade = upgrade_shape ∷ from_replay

    from_export : List Shape
    from_export = export_shape ∷ from_upgrade

    from_check : List Shape
    from_check = check_shape ∷ from_export

    from_fetch : List Shape
    from_fetch = fetch_shape ∷ from_check

    from_seed : List Shape
    from_seed = seed_shape ∷ from_fetch

pub no_name : (words : List (List ℕ)) (name : List ℕ) (rest : List (List ℕ)) (shapes : List Shape) → words ≡ name ∷ rest → named name shapes ≡ None
    → IsFirstWrong shapes words (usage 0 wrong.Command)
no_name words name rest shapes e none =
    subst (λ ws. IsFirstWrong shapes ws (usage 0 wrong.Command)) (sym e) (rw none refl)
