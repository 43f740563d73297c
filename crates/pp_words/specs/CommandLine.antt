-- The words of a command line, after the program's name: which words spell which command, and which word is the first
-- wrong one of all others.
use Rattle.std.specs.Prelude.{◌≡◌, ◌⊎◌, ℕ, zero, suc, ◌+◌, ◌^◌, ◌<◌, ◌≤◌, List, [], ◌∷◌, length, codes, decimal, Option, Some, find, MatchOption}
use Rattle.std.specs.Str.{bytes_eq}
use Rattle.std.specs.List.{AllZip}
use Rattle.hex.specs.Hex.{IsBytes}
use Rattle.pp_terms.specs.tree.Content.{IsChunkSize}
use Rattle.pp_terms.specs.format.Descriptor.{Descriptor, descriptor_text, IsDescriptor}
use Rattle.pp_terms.specs.format.Traffic.{Address}
use Rattle.pp_terms.specs.format.Addresses.{IsAddress}
use Rattle.pp_terms.specs.command.Order.{Order, order_text}
use Rattle.pp_words.specs.Commands.{Command, Import, Seed, Fetch, Check, Export, Upgrade, Replay, Rehearse, Play, Record, Audit}
use Rattle.pp_terms.specs.format.DescriptorFault.{DescriptorFault, Form, Chunk, Size, Method, HasFault}
use Rattle.pp_targets.specs.Target.{Target}
use Rattle.pp_targets.specs.TargetText.{IsTarget, root_in, target_text}
use Rattle.pp_targets.specs.TargetRead.{IsFormFault, IsChunkFault, IsSizeFault, IsMethodFault}
use Rattle.pp_words.specs.Usage as wrong
use Rattle.pp_words.specs.Usage.{Usage, usage}

-- a store's name isn't empty
abbrev pub IsStore : List ℕ → Type 0
IsStore text = 0 < length text

-- The text is that of a descriptor, whose root is made of bytes.
pub record IsDescriptorText (text : List ℕ) (descriptor : Descriptor) : Type 0 where
  pub text_is : text ≡ descriptor_text descriptor
  pub valid : IsDescriptor descriptor
  pub bytes : IsBytes descriptor.root

-- The text is that of a target, a descriptor or a name without the size, whose root is made of bytes.
pub record IsTargetText (text : List ℕ) (target : Target) : Type 0 where
  pub text_is : text ≡ target_text target
  pub valid : IsTarget target
  pub bytes : IsBytes (root_in target)

-- the text has this fault of a target's text
abbrev pub HasTargetFault : List ℕ → DescriptorFault → Type 0
HasTargetFault text (Form at) = IsFormFault text at
HasTargetFault text (Chunk at) = IsChunkFault text at
HasTargetFault text (Size at) = IsSizeFault text at
HasTargetFault text (Method at) = IsMethodFault text at

-- `import STORE CHUNK`
pub record IsImport (words : List (List ℕ)) (store : List ℕ) (chunk : ℕ) : Type 0 where
  pub spelled : words ≡ codes "import" ∷ store ∷ decimal chunk ∷ []
  pub named : IsStore store
  pub size : IsChunkSize chunk

-- `seed STORE TARGET LISTEN TURNS`
pub record IsSeed (words : List (List ℕ)) (store : List ℕ) (target : Target) (listen : Address) (turns : ℕ) : Type 0 where
  pub described : List ℕ
  pub listening : List ℕ
  pub spelled : words ≡ codes "seed" ∷ store ∷ described ∷ listening ∷ decimal turns ∷ []
  pub named : IsStore store
  pub target_is : IsTargetText described target
  pub listen_is : IsAddress listening listen
  pub some_turns : 1 ≤ turns
  pub few : turns < 2 ^ 32

-- `fetch STORE TARGET LISTEN TURNS ORDER PEER..`, with 1 to 16 peers
pub record IsFetch (words : List (List ℕ)) (store : List ℕ) (target : Target) (listen : Address)
    (turns : ℕ) (order : Order) (peers : List Address) : Type 0 where
  pub described : List ℕ
  pub listening : List ℕ
  pub dialled : List (List ℕ)
  pub spelled : words ≡ codes "fetch" ∷ store ∷ described ∷ listening ∷ decimal turns ∷ order_text order ∷ dialled
  pub named : IsStore store
  pub target_is : IsTargetText described target
  pub listen_is : IsAddress listening listen
  pub some_turns : 1 ≤ turns
  pub few : turns < 2 ^ 32
  pub dialled_are : AllZip IsAddress dialled peers
  pub some : 0 < length peers
  pub most : length peers ≤ 16

-- a command's name, `STORE DESCRIPTOR`
pub record IsOnStore (name : List ℕ) (words : List (List ℕ)) (store : List ℕ) (descriptor : Descriptor) : Type 0 where
  pub described : List ℕ
  pub spelled : words ≡ name ∷ store ∷ described ∷ []
  pub named : IsStore store
  pub descriptor_is : IsDescriptorText described descriptor

-- a command's name, `STORE TARGET`
pub record IsOnTarget (name : List ℕ) (words : List (List ℕ)) (store : List ℕ) (target : Target) : Type 0 where
  pub described : List ℕ
  pub spelled : words ≡ name ∷ store ∷ described ∷ []
  pub named : IsStore store
  pub target_is : IsTargetText described target

-- `rehearse NUMBER`
pub record IsRehearse (words : List (List ℕ)) (number : ℕ) : Type 0 where
  pub spelled : words ≡ codes "rehearse" ∷ decimal number ∷ []
  pub low : number < 2 ^ 64

-- `play STORE DESCRIPTOR LISTEN TURNS WINDOW PEER..`, with 1 to 16 peers
pub record IsPlay (words : List (List ℕ)) (store : List ℕ) (descriptor : Descriptor) (listen : Address)
    (turns window : ℕ) (peers : List Address) : Type 0 where
  pub described : List ℕ
  pub listening : List ℕ
  pub dialled : List (List ℕ)
  pub spelled : words ≡ codes "play" ∷ store ∷ described ∷ listening ∷ decimal turns ∷ decimal window ∷ dialled
  pub named : IsStore store
  pub descriptor_is : IsDescriptorText described descriptor
  pub listen_is : IsAddress listening listen
  pub some_turns : 1 ≤ turns
  pub few : turns < 2 ^ 32
  pub some_window : 1 ≤ window
  pub narrow : window < 4097
  pub dialled_are : AllZip IsAddress dialled peers
  pub some : 0 < length peers
  pub most : length peers ≤ 16

-- `record PEER LIFE`
pub record IsRecord (words : List (List ℕ)) (peer life : ℕ) : Type 0 where
  pub spelled : words ≡ codes "record" ∷ decimal peer ∷ decimal life ∷ []
  pub low : peer < 16
  pub some : 1 ≤ life
  pub few : life < 2 ^ 32

-- the words spell the command
abbrev pub Spells : List (List ℕ) → Command → Type 0
Spells words (Import store chunk) = IsImport words store chunk
Spells words (Seed store target listen turns) = IsSeed words store target listen turns
Spells words (Fetch store target listen turns order peers) = IsFetch words store target listen turns order peers
Spells words (Check store target) = IsOnTarget (codes "check") words store target
Spells words (Export store target) = IsOnTarget (codes "export") words store target
Spells words (Upgrade store descriptor) = IsOnStore (codes "upgrade") words store descriptor
Spells words Replay = words ≡ codes "replay" ∷ []
Spells words (Rehearse number) = IsRehearse words number
Spells words (Play store descriptor listen turns window peers) = IsPlay words store descriptor listen turns window peers
Spells words (Record peer life) = IsRecord words peer life
Spells words Audit = words ≡ codes "audit" ∷ []

-- What a word may have to be: a store's name, a chunk size, a number from a least one on and below a
-- limit, a descriptor, a target, an address, an order.
pub data Slot : Type 0 where
  AStore : Slot
  AChunk : Slot
  ANumber : (least limit : ℕ) → Slot
  ADescriptor : Slot
  ATarget : Slot
  AnAddress : Slot
  AnOrder : Slot

abbrev pub IsRight : Slot → List ℕ → Type 0
IsRight AStore word = IsStore word
IsRight AChunk word = (chunk : ℕ) × (word ≡ decimal chunk) × IsChunkSize chunk
IsRight (ANumber least limit) word = (n : ℕ) × (word ≡ decimal n) × (least ≤ n) × (n < limit)
IsRight ADescriptor word = (descriptor : Descriptor) × IsDescriptorText word descriptor
IsRight ATarget word = (target : Target) × IsTargetText word target
IsRight AnAddress word = (address : Address) × IsAddress word address
IsRight AnOrder word = (order : Order) × (word ≡ order_text order)

-- what is wrong with word n in that slot
abbrev pub IsWrong : Slot → ℕ → List ℕ → Usage → Type 0
IsWrong AStore n word u = ¬ IsRight AStore word × (u ≡ usage n wrong.Store)
IsWrong AChunk n word u = ¬ IsRight AChunk word × (u ≡ usage n wrong.Chunk)
IsWrong (ANumber least limit) n word u = ¬ IsRight (ANumber least limit) word × (u ≡ usage n wrong.Number)
IsWrong ADescriptor n word u = (fault : DescriptorFault) × HasFault word fault × (u ≡ usage n (wrong.Descriptor fault))
IsWrong ATarget n word u = (fault : DescriptorFault) × HasTargetFault word fault × (u ≡ usage n (wrong.Descriptor fault))
IsWrong AnAddress n word u = ¬ IsRight AnAddress word × (u ≡ usage n wrong.Address)
IsWrong AnOrder n word u = ¬ IsRight AnOrder word × (u ≡ usage n wrong.Order)

-- A command's name, what its other words have to be, and how many more peers may follow them.
pub record Shape : Type 0 where
  pub name : List ℕ
  pub slots : List Slot
  pub peers : ℕ

abbrev pub import_shape : Shape
import_shape = record { name = codes "import"; slots = AStore ∷ AChunk ∷ []; peers = 0 }

abbrev pub seed_shape : Shape
seed_shape = record { name = codes "seed"; slots = AStore ∷ ATarget ∷ AnAddress ∷ ANumber 1 (2 ^ 32) ∷ []; peers = 0 }

abbrev pub fetch_shape : Shape
fetch_shape = record {
  name = codes "fetch";
  slots = AStore ∷ ATarget ∷ AnAddress ∷ ANumber 1 (2 ^ 32) ∷ AnOrder ∷ AnAddress ∷ [];
  peers = 15;
}

abbrev pub check_shape : Shape
check_shape = record { name = codes "check"; slots = AStore ∷ ATarget ∷ []; peers = 0 }

abbrev pub export_shape : Shape
export_shape = record { name = codes "export"; slots = AStore ∷ ATarget ∷ []; peers = 0 }

abbrev pub upgrade_shape : Shape
upgrade_shape = record { name = codes "upgrade"; slots = AStore ∷ ADescriptor ∷ []; peers = 0 }

abbrev pub replay_shape : Shape
replay_shape = record { name = codes "replay"; slots = []; peers = 0 }

abbrev pub rehearse_shape : Shape
rehearse_shape = record { name = codes "rehearse"; slots = ANumber 0 (2 ^ 64) ∷ []; peers = 0 }

abbrev pub play_shape : Shape
play_shape = record {
  name = codes "play";
  slots = AStore ∷ ADescriptor ∷ AnAddress ∷ ANumber 1 (2 ^ 32) ∷ ANumber 1 4097 ∷ AnAddress ∷ [];
  peers = 15;
}

abbrev pub record_shape : Shape
record_shape = record { name = codes "record"; slots = ANumber 0 16 ∷ ANumber 1 (2 ^ 32) ∷ []; peers = 0 }

abbrev pub audit_shape : Shape
audit_shape = record { name = codes "audit"; slots = []; peers = 0 }

-- all commands
abbrev pub commands : List Shape
commands =
    import_shape ∷ seed_shape ∷ fetch_shape ∷ check_shape ∷ export_shape ∷ upgrade_shape ∷ replay_shape ∷ rehearse_shape ∷
    play_shape ∷ record_shape ∷ audit_shape ∷ []

abbrev pub shape_of : Command → Shape
shape_of (Import store chunk) = import_shape
shape_of (Seed store target listen turns) = seed_shape
shape_of (Fetch store target listen turns order peers) = fetch_shape
shape_of (Check store target) = check_shape
shape_of (Export store target) = export_shape
shape_of (Upgrade store descriptor) = upgrade_shape
shape_of Replay = replay_shape
shape_of (Rehearse number) = rehearse_shape
shape_of (Play store descriptor listen turns window peers) = play_shape
shape_of (Record peer life) = record_shape
shape_of Audit = audit_shape

-- the command of that name, of those
abbrev pub named : List ℕ → List Shape → Option Shape
named name shapes = find (λ shape. bytes_eq shape.name name) shapes

-- the command is one of those
abbrev pub IsOneOf : List Shape → Command → Type 0
IsOneOf shapes command = named (shape_of command).name shapes ≡ Some (shape_of command)

-- The first wrong one of these words, of which the first is word n, where they have to fill these slots and then be at
-- most that many peers. Each word is judged before the next; a missing one has the count of words as its number.
abbrev pub IsWrongFrom : List Slot → ℕ → ℕ → List (List ℕ) → Usage → Type 0
IsWrongFrom [] peers n [] u = ⊥
IsWrongFrom [] zero n (word ∷ words) u = u ≡ usage n wrong.Extra
IsWrongFrom [] (suc peers) n (word ∷ words) u = IsWrong AnAddress n word u ⊎ (IsRight AnAddress word × IsWrongFrom [] peers (n + 1) words u)
IsWrongFrom (slot ∷ slots) peers n [] u = u ≡ usage n wrong.Missing
IsWrongFrom (slot ∷ slots) peers n (word ∷ words) u = IsWrong slot n word u ⊎ (IsRight slot word × IsWrongFrom slots peers (n + 1) words u)

-- the first wrong one of the words, where these are the commands
abbrev pub IsFirstWrong : List Shape → List (List ℕ) → Usage → Type 0
IsFirstWrong shapes [] u = u ≡ usage 0 wrong.Missing
IsFirstWrong shapes (name ∷ words) u =
    MatchOption (named name shapes) (u ≡ usage 0 wrong.Command) (λ shape. IsWrongFrom shape.slots shape.peers 1 words u)
