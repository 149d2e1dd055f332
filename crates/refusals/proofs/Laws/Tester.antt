-- What the tester's limits change: a call of the tester's is refused by 22, or answered as the desk's call on the same lists; and the desk's never is by 22.
use Rattle.std.specs.Prelude.{◌≡◌, refl, Bool, true, false, cond, ◌&&◌, List, [], ◌∷◌, ◌⊎◌, ℕ, eqb}
use Rattle.std.proofs.Common.{inl, inr, arith}
use Rattle.std.proofs.lemmas.Bool.{eqb-false}
use Rattle.limits.specs.declared.Caller.TheVariants.{Desk}
use Rattle.refusals.specs.Key.{Key, among}
use Rattle.refusals.specs.Request.{Request}
use Rattle.refusals.specs.Refusal.{Check, checks, first, refusal}
use Rattle.refusals.proofs.Laws.Alike.{called_by, first_alike}

-- the same call at the desk
abbrev pub at_desk : Request → Request
at_desk r = called_by Desk r.arrangement r

-- a check has another number than 22, or does not fit
abbrev Spared : List (Check Request) → Request → Type 0
Spared [] s = Unit
Spared (c ∷ cs) s = ((eqb c.number 22 ≡ false) ⊎ (c.fits s ≡ false)) × Spared cs s

-- so the first that fits is not 22
never : (concerned : List Key) (s : Request) (cs : List (Check Request)) → Spared cs s → first cs concerned s ≡ 22 → ⊥
never concerned s [] a h = omega arith
never concerned s (c ∷ cs) a h = go (among concerned c.key) (c.fits s) a.0 (never concerned s cs a.1) h
  where
    go : (asked t : Bool) → (eqb c.number 22 ≡ false) ⊎ (t ≡ false) → (first cs concerned s ≡ 22 → ⊥)
        → cond (asked && t) c.number (first cs concerned s) ≡ 22 → ⊥
    go false t e later h = later h
    go true false e later h = later h
    go true true (inl n) later h = eqb-false c.number 22 n h
    go true true (inr n) later h = absurd (let z : ◌≡◌ {A = ℕ} 0 1 = cc in omega arith)

-- where 22 never refuses.
pub desk_not_22 : (concerned : List Key) (r : Request) → refusal concerned (at_desk r) ≡ 22 → ⊥
desk_not_22 concerned r h = never concerned (at_desk r) checks (inl refl, (inl refl, (inl refl, (inl refl, (inl refl, (inl refl, (inl refl, (inl refl, (inl refl, (inl refl, (inl refl, (inl refl, (inr refl, (inl refl, (inl refl, (inl refl, (inl refl, (inr refl, (inl refl, (inl refl, (inl refl, (inl refl, (inl refl, (inl refl, (inl refl, tt))))))))))))))))))))))))) h

-- A call that 22 does not refuse is answered as at the desk,
pub as_at_desk : (concerned : List Key) (r : Request) → (refusal concerned r ≡ 22 → ⊥) → refusal concerned r ≡ refusal concerned (at_desk r)
as_at_desk concerned r h = first_alike 22 r (at_desk r) concerned checks (inr refl, (inr refl, (inr refl, (inr refl, (inr refl, (inr refl, (inr refl, (inr refl, (inr refl, (inr refl, (inr refl, (inr refl, (inl refl, (inr refl, (inr refl, (inr refl, (inr refl, (inl refl, (inr refl, (inr refl, (inr refl, (inr refl, (inr refl, (inr refl, (inr refl, tt))))))))))))))))))))))))) h (desk_not_22 concerned r)
