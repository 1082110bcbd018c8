-- Worked examples: entries, and what judging them answers.
use Rattle.std.specs.Prelude.{◌≡◌, ℕ, List, All, [], ◌∷◌, Some, None, Ok, Err, Option, Result}
use Rattle.factors.specs.declared.ground.Ground.{Ground}
use Rattle.factors.specs.declared.ground.Ground.TheVariants.{NumberOutOfRange, UnknownLand, UnknownSite, FieldOutOfRange, UnknownCrop, SharesAboveWhole, TooManyGrams}
use Rattle.factors.specs.declared.ground.Refusal.{Refusal}
use Rattle.factors.specs.Grounds.{refusal_on}
use Rattle.book.specs.declared.entry.Activity.{Activity}
use Rattle.book.specs.declared.entry.Activity.TheVariants.{Synthetic, Manure, Sludge, Grazing, Residues, Mineralised, Drained, Lime, Urea}
use Rattle.book.specs.declared.entry.Animals.{Animals}
use Rattle.book.specs.declared.entry.Animals.TheVariants.{CattlePoultryPigs}
use Rattle.book.specs.declared.entry.Entry.{Entry}
use Rattle.book.specs.declared.entry.LimeStone.TheVariants.{Dolomite}
use Rattle.book.specs.Grams.{grams_of}
use Rattle.book.specs.Judge.{entry_refusal}

-- an answer of grams, unless there is a refusal
abbrev pub unless_refused : Option Refusal → ℕ → Result ℕ Refusal
unless_refused None grams = Ok grams
unless_refused (Some r) grams = Err r

-- the grams of an entry, or why it is refused
abbrev pub outcome : Entry → Result ℕ Refusal
outcome e = unless_refused (entry_refusal e) (grams_of e.activity)

-- a refusal on this ground, at this field
abbrev refused : Ground → ℕ → Result ℕ Refusal
refused g f = Err (refusal_on g f)

-- an entry by its number, its land letter, its site letters and its activity
abbrev entry : ℕ → ℕ → List ℕ → Activity → Entry
entry number land site activity = record { number = number; land = land; site = site; activity = activity }

-- manure by what is available and the shares of feed, fuel and building
abbrev manure : ℕ → ℕ → ℕ → ℕ → Activity
manure available feed fuel building = Manure (record { available = available; feed = feed; fuel = fuel; building = building })

-- grazing by animals, heads, grams per head, share on pasture
abbrev grazing : Animals → ℕ → ℕ → ℕ → Activity
grazing animals heads grams pasture = Grazing (record { animals = animals; heads = heads; grams_per_head = grams; pasture = pasture })

-- residues by crop code, harvest, area, burnt, removed, years
abbrev residues : ℕ → ℕ → ℕ → ℕ → ℕ → ℕ → Activity
residues crop harvest area burnt removed years = Residues (record { crop = crop; harvest = harvest; area = area; burnt = burnt; removed = removed; years = years })

abbrev RWL : List ℕ
RWL = 82 ∷ 87 ∷ 76 ∷ []

abbrev UDN : List ℕ
UDN = 85 ∷ 68 ∷ 78 ∷ []

abbrev ULW : List ℕ
ULW = 85 ∷ 76 ∷ 87 ∷ []

abbrev UWL : List ℕ
UWL = 85 ∷ 87 ∷ 76 ∷ []

-- the table: an entry of each kind, then an entry for each ground
abbrev pub worked : List (Entry × Result ℕ Refusal)
worked =
    (entry 1 67 UWL (Synthetic 1000 460), Ok 460000)
    ∷ (entry 2 67 UWL (manure 1000 0 0 0), Ok 1000000)
    ∷ (entry 3 67 UWL (manure 1000 1000 0 0), Ok 0)
    ∷ (entry 4 67 UWL (Sludge 1 500), Ok 1)
    ∷ (entry 5 67 UWL (Sludge 1 499), Ok 0)
    ∷ (entry 6 71 UWL (grazing CattlePoultryPigs 100 70000 500), Ok 3500000)
    ∷ (entry 7 67 UDN (residues 3 5000 100 0 0 1), Ok 68686)
    ∷ (entry 8 67 UDN (residues 3 5000 100 50 0 1), Ok 49140)
    ∷ (entry 9 67 RWL (Mineralised 1), Ok 67)
    ∷ (entry 10 87 UWL (Drained 2 100), Ok 0)
    ∷ (entry 11 67 UWL (Lime Dolomite 3), Ok 0)
    ∷ (entry 12 67 UWL (Urea 1000), Ok 0)
    ∷ (entry 0 67 UWL (Urea 1000), refused NumberOutOfRange 1)
    ∷ (entry 13 65 UWL (Urea 1000), refused UnknownLand 2)
    ∷ (entry 14 67 ULW (Urea 1000), refused UnknownSite 3)
    ∷ (entry 15 67 UWL (Synthetic 1000 1001), refused FieldOutOfRange 6)
    ∷ (entry 16 67 UWL (residues 7 5000 100 0 0 1), refused UnknownCrop 5)
    ∷ (entry 17 67 UWL (manure 1000 1000 1 0), refused SharesAboveWhole 0)
    ∷ (entry 18 67 UWL (Synthetic 500001 1000), refused TooManyGrams 0)
    ∷ []

-- each is judged as the table says
abbrev pub Right : List (Entry × Result ℕ Refusal) → Type 0
Right xs = All (λ x. outcome x.0 ≡ x.1) xs
