-- How an entry is judged, ground by ground, and the laws of judging.
use Rattle.std.proofs.Common.{◌≡◌, List, [], ◌∷◌, ◌++◌, Some, None, Ok, Err, Option, Result, ℕ, true, ◌<◌, ◌≤◌, sym, refl, ap, ◌∙◌, subst, arith}
use Rattle.factors.proofs.Grounds.{first_fits, in_turn, at_once}
use Rattle.std.proofs.lemmas.Bool.{le-leb, lt-leb}
use Rattle.std.proofs.lemmas.Option.{none-some}
use Rattle.factors.specs.Grounds.{Check, first_fault, or_later, refusal_on, FirstFits}
use Rattle.factors.specs.declared.ground.Ground.{Ground}
use Rattle.factors.specs.declared.ground.Ground.TheVariants.{TooManyGrams}
use Rattle.factors.specs.declared.ground.Refusal.{Refusal}
use Rattle.factors.specs.declared.site.Site.{Site}
use Rattle.factors.specs.Site.{site_of}
use Rattle.book.specs.declared.entry.Entry.{Entry}
use Rattle.book.specs.declared.land.Land.{Land}
use Rattle.book.specs.declared.lawful.LawfulEntry.{LawfulEntry}
use Rattle.book.specs.Common.{Weighed}
use Rattle.book.specs.Grams.{grams_of, most_grams}
use Rattle.book.specs.Judge.{unless, number_check, land_check, site_check, activity_checks, grams_check, entry_checks, entry_refusal, Judged, JudgedLaw}
use Rattle.book.specs.Lands.{land_of}
use Rattle.book.specs.Ranges.{numbers, within, range_fault}
use Rattle.book.proofs.Rounding.{weighed}

-- the grounds that are judged before the activity
abbrev pub front_checks : Entry → List Check
front_checks e = number_check e.number ∷ land_check e.land ∷ site_check e.site ∷ []

-- none of them fits
pub front_passes : (e : Entry) (l : Land) (s : Site) → within e.number numbers ≡ true → land_of e.land ≡ Some l → site_of e.site ≡ Some s → first_fault (front_checks e) ≡ None
front_passes e l s number land site = simp (number, land, site)

-- an entry is refused as its activity is, where no ground before fits
pub refused_activity : (e : Entry) (r : Refusal) → first_fault (front_checks e) ≡ None → first_fault (activity_checks e.activity) ≡ Some r → entry_refusal e ≡ Some r
refused_activity e r front fits =
    in_turn (front_checks e) (activity_checks e.activity ++ grams_check e.activity ∷ []) front ∙ at_once (activity_checks e.activity) (grams_check e.activity ∷ []) r fits

-- where the activity is kept, the grams decide
grams_decide : (e : Entry) → first_fault (front_checks e) ≡ None → first_fault (activity_checks e.activity) ≡ None → entry_refusal e ≡ first_fault (grams_check e.activity ∷ [])
grams_decide e front kept =
    in_turn (front_checks e) (activity_checks e.activity ++ grams_check e.activity ∷ []) front ∙ in_turn (activity_checks e.activity) (grams_check e.activity ∷ []) kept

pub refused_heavy : (e : Entry) → first_fault (front_checks e) ≡ None → first_fault (activity_checks e.activity) ≡ None → most_grams < grams_of e.activity → entry_refusal e ≡ Some (refusal_on TooManyGrams 0)
refused_heavy e front kept more = grams_decide e front kept ∙ ap (λ light. first_fault (unless light TooManyGrams 0 ∷ [])) (lt-leb (grams_of e.activity) most_grams more)

pub accepted : (e : Entry) → first_fault (front_checks e) ≡ None → first_fault (activity_checks e.activity) ≡ None → grams_of e.activity ≤ most_grams → entry_refusal e ≡ None
accepted e front kept few = grams_decide e front kept ∙ ap (λ light. first_fault (unless light TooManyGrams 0 ∷ [])) (le-leb (grams_of e.activity) most_grams few)

-- where nothing is refused, neither the first ground nor a later one fits
none_later : (g : Ground) (fault : Option ℕ) (later : Option Refusal) → or_later g fault later ≡ None → (fault ≡ None) × (later ≡ None)
none_later g None later h = (refl, h)
none_later g (Some f) later h = absurd (none-some (refusal_on g f) (sym h))

in_ranges : (e : Entry) → entry_refusal e ≡ None → range_fault e.activity ≡ None
in_ranges e h = grind (arith, none_later)

-- the laws of judging follow from its answer
pub law_accepted : (e : Entry) (g : ℕ) → entry_refusal e ≡ None → g ≡ grams_of e.activity → FirstFits (entry_checks e) None × Weighed e.activity g
law_accepted e g h same =
    (subst (λ (z : Option Refusal). FirstFits (entry_checks e) z) h (first_fits (entry_checks e)), subst (λ (z : ℕ). Weighed e.activity z) (sym same) (weighed e.activity (in_ranges e h)))

pub law : (e : Entry) (r : Result LawfulEntry Refusal) → Judged e r → JudgedLaw e r
law e (Ok k) h = law_accepted e k.grams h.0 h.2
law e (Err r) h = subst (λ (z : Option Refusal). FirstFits (entry_checks e) z) h (first_fits (entry_checks e))
