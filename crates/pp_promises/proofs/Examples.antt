-- The worked examples, by computation.
use Rattle.std.proofs.Common.{◌≡◌, Some, [], ◌∷◌, refl}
use Rattle.pp_promises.specs.Example.{first_name, second_name, home, abroad, NameExamples, BookExamples}

pub name_examples : NameExamples
name_examples = record {
  told = refl;
  other = λ e. absurd (let never : Some (second_name ∷ []) ≡ Some (first_name ∷ []) = e in cc);
  none = λ e. absurd (let never : Some [] ≡ Some (first_name ∷ []) = e in cc);
  untold = refl;
  bound = refl;
  elsewhere = λ e. absurd (let never : Some (abroad ∷ []) ≡ Some (home ∷ []) = e in cc);
}

pub book_examples : BookExamples
book_examples = record {
  one = refl;
  unprepared = refl;
  no_book = λ book. absurd (let never = book.descriptor_is in cc);
}
