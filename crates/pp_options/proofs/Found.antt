-- What was read, as a spelling.
use Rattle.std.proofs.Common.{◌≡◌, ℕ, ◌++◌, List, length, sym, ap, ◌∙◌, Result, Ok, Err}
use Rattle.std.specs.Prelude.{IfOk}
use Rattle.pp_terms.specs.format.Options as plain
use Rattle.pp_terms.specs.format.Options.{IsSpelling, read_options, IsBytes}
use Rattle.pp_terms.proofs.Spellings.{read_is_spelled, spelled_is_read}
use Rattle.pp_options.specs.declared.value.Options.{Options}
use Rattle.pp_options.specs.declared.value.OptionFault.{OptionFault}
use Rattle.pp_options.specs.Views.{options_of, read_of, IsSpelledBy}

pub is_found : (bytes : List ℕ) (result : Result (Options × ℕ) OptionFault) → IsBytes bytes → read_of result ≡ read_options bytes
    → IfOk result (λ x. IsSpelledBy (options_of x.0) x.1 bytes)
is_found bytes (Ok x) fits e = let h = read_is_spelled bytes (options_of x.0) x.1 fits (sym e) in record { within = h.0; spelled = h.1 }
is_found bytes (Err fault) fits e = tt

pub is_read : (bytes : List ℕ) (result : Result (Options × ℕ) OptionFault) → read_of result ≡ read_options bytes
    → (o : plain.Options) (text rest : List ℕ) → IsSpelling o text → bytes ≡ text ++ rest → read_of result ≡ Ok (o, length text)
is_read bytes result e o text rest is parts = e ∙ ap (λ (b : List ℕ). read_options b) parts ∙ spelled_is_read o text rest is
