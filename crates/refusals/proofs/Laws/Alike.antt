-- Two requests that differ in what one check reads: where its number refuses neither, both are answered alike.
use Rattle.std.specs.Prelude.{◌≡◌, refl, Bool, true, false, cond, ◌&&◌, List, [], ◌∷◌, ◌⊎◌, ℕ}
use Rattle.std.proofs.Common.{inl, inr, arith}
use Rattle.limits.specs.declared.Caller.{Caller}
use Rattle.transfer_matrix.specs.Room as Room
use Rattle.refusals.specs.Key.{Key, among}
use Rattle.refusals.specs.Request.{Request, whole_request}
use Rattle.refusals.specs.Refusal.{Check, first}

-- the same call of another caller, arranged in another way
abbrev pub called_by : Caller → Room.Arrangement → Request → Request
called_by caller arrangement r =
    whole_request r.sheet r.runs r.place caller arrangement r.vertices r.floor r.ones r.others r.magnitudes r.firsts r.seconds r.betas
    r.configurations r.factors r.factor_count r.misfit r.work r.unsound

module _ (k : ℕ) (r s : Request) where
  -- a check has this number, or fits both or neither
  abbrev pub Alike : Check Request → Type 0
  Alike c = (c.number ≡ k) ⊎ (c.fits r ≡ c.fits s)

  abbrev pub AllAlike : List (Check Request) → Type 0
  AllAlike [] = Unit
  AllAlike (c ∷ cs) = Alike c × AllAlike cs

  pub first_alike : (concerned : List Key) (cs : List (Check Request)) → AllAlike cs → (first cs concerned r ≡ k → ⊥) → (first cs concerned s ≡ k → ⊥)
      → first cs concerned r ≡ first cs concerned s
  first_alike concerned [] a h i = refl
  first_alike concerned (c ∷ cs) a h i = go (among concerned c.key) (c.fits r) (c.fits s) a.0 (first_alike concerned cs a.1) h i
    where
      go : (asked t u : Bool) → (c.number ≡ k) ⊎ (t ≡ u)
          → ((first cs concerned r ≡ k → ⊥) → (first cs concerned s ≡ k → ⊥) → first cs concerned r ≡ first cs concerned s)
          → (cond (asked && t) c.number (first cs concerned r) ≡ k → ⊥) → (cond (asked && u) c.number (first cs concerned s) ≡ k → ⊥)
          → cond (asked && t) c.number (first cs concerned r) ≡ cond (asked && u) c.number (first cs concerned s)
      go false t u e later h i = later h i
      go true true true e later h i = refl
      go true false false e later h i = later h i
      go true true false (inl n) later h i = absurd (h n)
      go true false true (inl n) later h i = absurd (i n)
      go true true false (inr n) later h i = absurd (let z : ◌≡◌ {A = ℕ} 0 1 = cc in omega arith)
      go true false true (inr n) later h i = absurd (let z : ◌≡◌ {A = ℕ} 0 1 = cc in omega arith)
