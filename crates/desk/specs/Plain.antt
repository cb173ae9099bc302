-- The answer of a search in plain numbers: a path's places, the answer, and what C is promised of it (`Says`).
-- Not here: what is answered (search/specs/Search.antt, reply/specs/Answer.antt); a reply's number, root and steps (`told` of
-- reply/specs/Numbers.antt); that one answer satisfies it (proofs/One.antt).
use Rattle.std.specs.Prelude.{List, map, ◌≡◌, ℕ}
use Rattle.places.specs.declared.BundlePlace.{BundlePlace}
use Rattle.reply.specs.Numbers.{told}
use Rattle.reply.specs.declared.Answer.{Answer}
use Rattle.desk.specs.declared.plain.Plain.{Plain}

-- the places' numbers
abbrev pub numbers : List BundlePlace → List ℕ
numbers ps = map (λ (p : BundlePlace). p.0) ps

-- what the reply tells, and the path beside it
unfoldable pub plain : Answer → Plain
plain a =
    record {
      steps = (told a.reply).steps;
      number = (told a.reply).number;
      root = (told a.reply).root;
      length = a.path.length;
      path = numbers a.path.places;
    }

-- r says in plain numbers an answer for which P holds
pub record Says (P : Answer → Type 0) (r : Plain) : Type 0 where
  pub answer : Answer
  pub holds : P answer
  pub plainly : r ≡ plain answer
