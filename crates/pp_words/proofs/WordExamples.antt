-- The worked examples of the words of a command line.
use Rattle.std.proofs.Common.{◌≡◌, ℕ, List, [], ◌∷◌, codes, true, false, refl, sym, ◌∙◌, subst, inl, inr, arith}
use Rattle.std.specs.Str.{bytes_eq}
use Rattle.std.specs.Fmt.{digits}
use Rattle.std.proofs.lemmas.Bool.{true≢false}
use Rattle.pp_terms.specs.tree.Content.{IsChunkSize}
use Rattle.pp_terms.specs.format.Traffic.{V4, V6}
use Rattle.pp_terms.specs.format.Addresses.{IsAddress}
use Rattle.pp_words.specs.Commands.{Import}
use Rattle.pp_terms.specs.format.DescriptorFault as fault
use Rattle.pp_words.specs.Usage.{Missing, Extra, Chunk, Descriptor, usage, usage_line}
use Rattle.pp_words.specs.CommandLine.{commands, Spells, IsFirstWrong}
use Rattle.pp_words.proofs.SizeWords.{none_spelled}

pub v4 : IsAddress (codes "127.0.0.1:7000") (V4 (127 ∷ 0 ∷ 0 ∷ 1 ∷ []) 7000)
unfolding digits
v4 = record {
  host = codes "127.0.0.1";
  host_is = record { a = 127; b = 0; c = 0; d = 1; fit = (omega arith, omega arith, omega arith, omega arith); value = refl; spelled = refl };
  port_low = omega arith;
  port_high = omega arith;
  text_is = refl;
}

pub v6 : IsAddress (codes "[fE80::1]:1") (V6 (0xfe ∷ 0x80 ∷ 0 ∷ 0 ∷ 0 ∷ 0 ∷ 0 ∷ 0 ∷ 0 ∷ 0 ∷ 0 ∷ 0 ∷ 0 ∷ 0 ∷ 0 ∷ 1 ∷ []) 1)
unfolding digits
v6 = record {
  host = codes "[fE80::1]";
  host_is = record {
    inner = codes "fE80::1";
    groups = 0xfe80 ∷ 0 ∷ 0 ∷ 0 ∷ 0 ∷ 0 ∷ 0 ∷ 1 ∷ [];
    text_is = refl;
    inner_is = inr (record {
      before_text = codes "fE80";
      after_text = codes "1";
      before = 0xfe80 ∷ [];
      after = 1 ∷ [];
      text_is = refl;
      before_is = inl (codes "fE80", [], refl, (((omega arith, (omega arith, (omega arith, (omega arith, (omega arith, tt))))), refl), omega arith), refl);
      after_is = inl (codes "1", [], refl, (((omega arith, (omega arith, tt)), refl), omega arith), refl);
      fewer = omega arith;
      groups_are = refl;
    });
    bytes_are = refl;
  };
  port_low = omega arith;
  port_high = omega arith;
  text_is = refl;
}

is_1024 : IsChunkSize 1024
is_1024 = record { exponent = 10; least = omega arith; greatest = omega arith; power = refl }

pub spelled : Spells (codes "import" ∷ codes "s" ∷ codes "1024" ∷ []) (Import (codes "s") 1024)
unfolding digits
spelled = record { spelled = refl; named = omega arith; size = is_1024 }

pub too_few : IsFirstWrong commands (codes "import" ∷ codes "s" ∷ []) (usage 2 Missing)
too_few = inr (omega arith, refl)

not_1000 : (text : List ℕ) → bytes_eq (codes "1000") text ≡ false → codes "1000" ≡ text → ⊥
not_1000 text other e = true≢false (sym (subst (λ t. bytes_eq (codes "1000") t ≡ true) e refl) ∙ other)

pub no_chunk_size : IsFirstWrong commands (codes "import" ∷ codes "s" ∷ codes "1000" ∷ []) (usage 2 Chunk)
no_chunk_size = inr (
  omega arith,
  inl (
    λ (chunk, is, size). none_spelled (codes "1000") (not_1000 _ refl) (not_1000 _ refl) (not_1000 _ refl)
        (not_1000 _ refl) (not_1000 _ refl) (not_1000 _ refl) chunk size is,
    refl,
  ),
)

pub too_many : IsFirstWrong commands (codes "import" ∷ codes "s" ∷ codes "1024" ∷ codes "x" ∷ []) (usage 3 Extra)
unfolding digits
too_many = inr (omega arith, inr ((1024, refl, is_1024), refl))

pub missing_line : usage_line (usage 0 Missing) ≡ codes "usage: word 0: missing\n"
unfolding usage_line digits
missing_line = refl

pub fault_line : usage_line (usage 2 (Descriptor (fault.Size 76))) ≡ codes "usage: word 2: descriptor size at 76\n"
unfolding usage_line digits
fault_line = refl
