-- The law of the first ground that fits.
use Rattle.std.proofs.Common.{◌≡◌, ℕ, List, [], ◌∷◌, ◌++◌, Some, None, Option, sym, refl, ap}
use Rattle.std.proofs.lemmas.Option.{none-some}
use Rattle.std.proofs.lemmas.List.Elements.{All-nil, All-cons}
use Rattle.factors.specs.declared.ground.Ground.{Ground}
use Rattle.factors.specs.declared.ground.Refusal.{Refusal}
use Rattle.factors.specs.Grounds.{Check, or_later, first_fault, FirstFits}

-- a check that finds no fault, put before
later : (g : Ground) (cs : List Check) (r : Option Refusal) → FirstFits cs r → FirstFits (record { ground = g; fault = None } ∷ cs) r
later g cs None h = All-cons (λ c. c.fault ≡ None) (record { ground = g; fault = None }) cs refl h
later g cs (Some r) (before, after, e, none) = (record { ground = g; fault = None } ∷ before, after, ap (λ (z : List Check). record { ground = g; fault = None } ∷ z) e, All-cons (λ c. c.fault ≡ None) (record { ground = g; fault = None }) before refl none)

at_first : (g : Ground) (f : Option ℕ) (cs : List Check) (r : Option Refusal) → FirstFits cs r → FirstFits (record { ground = g; fault = f } ∷ cs) (or_later g f r)
at_first g None cs r h = later g cs r h
at_first g (Some f) cs r h = ([], cs, refl, All-nil (λ c. c.fault ≡ None))

pub first_fits : (cs : List Check) → FirstFits cs (first_fault cs)
first_fits [] = All-nil (λ c. c.fault ≡ None)
first_fits (c ∷ cs) = at_first c.ground c.fault cs (first_fault cs) (first_fits cs)

passing : (g : Ground) (f : Option ℕ) (early all late : Option Refusal) → (early ≡ None → all ≡ late) → or_later g f early ≡ None → or_later g f all ≡ late
passing g None early all late next e = next e
passing g (Some f) early all late next e = absurd (none-some (record { ground = g; field = f }) (sym e))

stopping : (g : Ground) (f : Option ℕ) (early all : Option Refusal) (r : Refusal) → (early ≡ Some r → all ≡ Some r) → or_later g f early ≡ Some r → or_later g f all ≡ Some r
stopping g None early all r next e = next e
stopping g (Some f) early all r next e = e

-- grounds judged one list after the other: the later list decides where no ground of the earlier fits
pub in_turn : (cs ds : List Check) → first_fault cs ≡ None → first_fault (cs ++ ds) ≡ first_fault ds
in_turn [] ds e = refl
in_turn (c ∷ cs) ds e = passing c.ground c.fault (first_fault cs) (first_fault (cs ++ ds)) (first_fault ds) (λ none. in_turn cs ds none) e

-- else the earlier list does
pub at_once : (cs ds : List Check) (r : Refusal) → first_fault cs ≡ Some r → first_fault (cs ++ ds) ≡ Some r
at_once [] ds r e = absurd (none-some r e)
at_once (c ∷ cs) ds r e = stopping c.ground c.fault (first_fault cs) (first_fault (cs ++ ds)) r (λ some. at_once cs ds r some) e
