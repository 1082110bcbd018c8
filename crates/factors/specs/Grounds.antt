-- The numbers of the grounds, and which ground a call is refused on.
use Rattle.std.specs.Prelude.{◌≡◌, ℕ, List, [], ◌∷◌, ◌++◌, All, Some, None, Option}
use Rattle.factors.specs.declared.ground.Refusal.{Refusal}
use Rattle.factors.specs.declared.ground.Ground.{Ground}
use Rattle.factors.specs.declared.ground.Ground.TheVariants.{NoLineFeed, WrongShape, NotPlain, NumberOutOfRange, UnknownLand, UnknownSite, FieldOutOfRange, UnknownCrop, SharesAboveWhole, TooManyGrams, AlreadyStands, BookFull, LandFull, NotStanding, BufferTooShort, UnfitTrials}

-- the number that a refused line tells
abbrev pub ground_number : Ground → ℕ
ground_number NoLineFeed = 1
ground_number WrongShape = 2
ground_number NotPlain = 3
ground_number NumberOutOfRange = 4
ground_number UnknownLand = 5
ground_number UnknownSite = 6
ground_number FieldOutOfRange = 7
ground_number UnknownCrop = 8
ground_number SharesAboveWhole = 9
ground_number TooManyGrams = 10
ground_number AlreadyStands = 11
ground_number BookFull = 12
ground_number LandFull = 13
ground_number NotStanding = 14
ground_number BufferTooShort = 15
ground_number UnfitTrials = 16

-- a ground, with the field that it names where it fits what is given
pub record Check : Type 0 where
  pub ground : Ground
  pub fault : Option ℕ

-- the check of a ground: the field that it names, where it fits
abbrev pub check_on : Ground → Option ℕ → Check
check_on g f = record { ground = g; fault = f }

-- the refusal on a ground that names a field
abbrev pub refusal_on : Ground → ℕ → Refusal
refusal_on g f = record { ground = g; field = f }

-- a refusal on this ground if it fits, else what comes later
abbrev pub or_later : Ground → Option ℕ → Option Refusal → Option Refusal
or_later g (Some f) later = Some (record { ground = g; field = f })
or_later g None later = later

-- a call is refused on the first ground, in its checking order, that fits
abbrev pub first_fault : List Check → Option Refusal
first_fault [] = None
first_fault (c ∷ cs) = or_later c.ground c.fault (first_fault cs)

-- no ground fits
abbrev pub NoneFits : List Check → Type 0
NoneFits cs = All (λ c. c.fault ≡ None) cs

-- the law of a refusal: there is none exactly where no ground fits; else its ground fits, with its field, and none before it does
abbrev pub FirstFits : List Check → Option Refusal → Type 0
FirstFits cs None = NoneFits cs
FirstFits cs (Some r) = (before : List Check) × (after : List Check) × (cs ≡ before ++ (record { ground = r.ground; fault = Some r.field } ∷ after)) × NoneFits before
