-- What is printed of a judged entry.
use Rattle.std.specs.Prelude.{ℕ, List, [], ◌∷◌, ◌++◌, Ok, Err, codes, decimal, Result}
use Rattle.factors.specs.Grounds.{ground_number}
use Rattle.factors.specs.declared.ground.Refusal.{Refusal}
use Rattle.book.specs.declared.entry.Entry.{Entry}
use Rattle.worksheet.specs.Examples.{outcome}

-- the grams, or the field and the ground
abbrev pub outcome_text : Result ℕ Refusal → List ℕ
outcome_text (Ok grams) = codes "\tgrams\t" ++ (decimal grams ++ 10 ∷ [])
outcome_text (Err r) = codes "\tfield\t" ++ (decimal r.field ++ (codes "\tground\t" ++ (decimal (ground_number r.ground) ++ 10 ∷ [])))

-- the number, and what judging answers
abbrev pub line_text : Entry → List ℕ
line_text e = decimal e.number ++ outcome_text (outcome e)
