-- Which entries are lawful, and what is kept of them.
use Rattle.std.specs.Prelude.{◌≡◌, ℕ, Bool, cond, List, [], ◌∷◌, ◌++◌, is_some, Some, None, Ok, Err, Option, Result, nat_le}
use Rattle.factors.specs.Grounds.{Check, check_on, first_fault, FirstFits}
use Rattle.factors.specs.Site.{site_of}
use Rattle.factors.specs.declared.ground.Ground.{Ground}
use Rattle.factors.specs.declared.ground.Ground.TheVariants.{NumberOutOfRange, UnknownLand, UnknownSite, FieldOutOfRange, UnknownCrop, SharesAboveWhole, TooManyGrams}
use Rattle.factors.specs.declared.ground.Refusal.{Refusal}
use Rattle.factors.specs.declared.site.Site.{Site}
use Rattle.book.specs.declared.activity.LawfulActivity.{LawfulActivity}
use Rattle.book.specs.declared.entry.Activity.{Activity}
use Rattle.book.specs.declared.entry.Entry.{Entry}
use Rattle.book.specs.declared.land.Land.{Land}
use Rattle.book.specs.declared.lawful.LawfulEntry.{LawfulEntry}
use Rattle.book.specs.Activity.{as_given}
use Rattle.book.specs.Common.{Weighed}
use Rattle.book.specs.Grams.{grams_of, most_grams}
use Rattle.book.specs.Kinds.{crop_known, shares_fit}
use Rattle.book.specs.Lands.{land_of}
use Rattle.book.specs.Ranges.{numbers, within, range_fault}

-- a ground that names this field where a test fails
abbrev pub unless : Bool → Ground → ℕ → Check
unless test g field = check_on g (cond test None (Some field))

-- the number is in its range
abbrev pub number_check : ℕ → Check
number_check n = unless (within n numbers) NumberOutOfRange 1

-- the letter is a land's
abbrev pub land_check : ℕ → Check
land_check letter = unless (is_some (land_of letter)) UnknownLand 2

-- the letters are a site's
abbrev pub site_check : List ℕ → Check
site_check letters = unless (is_some (site_of letters)) UnknownSite 3

-- the activity's numbers are in their ranges; the first that is not is named
abbrev pub range_check : Activity → Check
range_check a = check_on FieldOutOfRange (range_fault a)

-- the crop has a row, and manure shares are lawful
abbrev pub kind_checks : Activity → List Check
kind_checks a = unless (crop_known a) UnknownCrop 5 ∷ unless (shares_fit a) SharesAboveWhole 0 ∷ []

-- the grounds on which an activity is judged, in their order
abbrev pub activity_checks : Activity → List Check
activity_checks a = range_check a ∷ kind_checks a

-- the entry does not bring too much
abbrev pub grams_check : Activity → Check
grams_check a = unless (nat_le (grams_of a) most_grams) TooManyGrams 0

-- the grounds on which an entry is judged, in their order
abbrev pub entry_checks : Entry → List Check
entry_checks e =
    number_check e.number
    ∷ land_check e.land
    ∷ site_check e.site
    ∷ (activity_checks e.activity ++ grams_check e.activity ∷ [])

-- why an entry is refused
abbrev pub entry_refusal : Entry → Option Refusal
entry_refusal e = first_fault (entry_checks e)

-- an entry as the definitions speak of it: what is kept, without proofs
pub record Line : Type 0 where
  pub number : ℕ
  pub land : Land
  pub site : Site
  pub activity : Activity

-- the line with this land and site, if they are known
abbrev pub line_at : Option Land → Option Site → ℕ → Activity → Option Line
line_at None s n a = None
line_at (Some l) None n a = None
line_at (Some l) (Some s) n a = Some (record { number = n; land = l; site = s; activity = a })

-- the line that an entry asks for
abbrev pub line_from : Entry → Option Line
line_from e = line_at (land_of e.land) (site_of e.site) e.number e.activity

-- the line of a lawful entry
abbrev pub line_of : LawfulEntry → Line
line_of k = record { number = k.number; land = k.land; site = k.site; activity = as_given k.activity }

-- what judging an activity alone answers: what is kept of it, or the first ground that fits
abbrev pub Typed : Activity → Result LawfulActivity Refusal → Type 0
Typed a (Ok k) = (first_fault (activity_checks a) ≡ None) × (as_given k ≡ a)
Typed a (Err r) = first_fault (activity_checks a) ≡ Some r

-- what judging an entry answers: the lawful entry that it asks for and its grams, or the first ground that fits
abbrev pub Judged : Entry → Result LawfulEntry Refusal → Type 0
Judged e (Ok k) = (entry_refusal e ≡ None) × (line_from e ≡ Some (line_of k)) × (k.grams ≡ grams_of e.activity)
Judged e (Err r) = entry_refusal e ≡ Some r

-- the laws of judging: accepted exactly where no ground fits, with grams nearest to the exact ones; else refused on the first ground that fits
abbrev pub JudgedLaw : Entry → Result LawfulEntry Refusal → Type 0
JudgedLaw e (Ok k) = FirstFits (entry_checks e) None × Weighed e.activity k.grams
JudgedLaw e (Err r) = FirstFits (entry_checks e) (Some r)
