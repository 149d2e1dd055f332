-- The first check that fits, as code finds it: past those that do not, and here at the one that does. And what it means that none fits.
use Rattle.std.specs.Prelude.{◌≡◌, refl, Bool, true, false, cond, not, ◌&&◌, List, [], ◌∷◌, map, ℕ, ◌<◌}
use Rattle.std.proofs.Common.{sym, ◌∙◌, arith}
use Rattle.refusals.specs.Key.{Key, same, among}
use Rattle.refusals.proofs.Laws.Key.{among_same}
use Rattle.refusals.specs.Request.{Request}
use Rattle.refusals.specs.Refusal.{Check, checks, first, refusal}

pub here : (t : Bool) (k rest : ℕ) → t ≡ true → k ≡ cond t k rest
here t k rest e = rw e

pub past : (t : Bool) (k r rest : ℕ) → t ≡ false → r ≡ rest → r ≡ cond t k rest
past t k r rest e h = rw e h

-- what a function answered of the test that it answers
pub told : {r t b : Bool} → r ≡ t → r ≡ b → t ≡ b
told p q = sym p ∙ q

-- a check that might have answered did not
pub unless : (t : Bool) {k rest : ℕ} → 0 < k → cond t k rest ≡ 0 → (t ≡ false) × (rest ≡ 0)
unless true p h = absurd (omega arith)
unless false p h = (refl, h)

-- no check has the number 0
abbrev pub Numbered : {A : Type 0} → List (Check A) → Type 0
Numbered [] = Unit
Numbered (c ∷ cs) = (0 < c.number) × Numbered cs

pub checks-numbered : Numbered checks
checks-numbered = search arith

-- the test of the check with this key
abbrev pub test_of : {A : Type 0} → List (Check A) → Key → A → Bool
test_of [] k r = false
test_of (c ∷ cs) k r = cond (same c.key k) (c.fits r) (test_of cs k r)

-- no key stands twice in the list, so that each has one test
abbrev pub distinct : {A : Type 0} → List (Check A) → Bool
distinct [] = true
distinct (c ∷ cs) = not (among (map (λ d. d.key) cs) c.key) && distinct cs

pub checks-distinct : distinct checks ≡ true
checks-distinct = refl

-- where none of the checks that concern a call fits, the check of each of their keys does not
pub key-passed : {A : Type 0} (cs : List (Check A)) (concerned : List Key) (r : A) → Numbered cs → first cs concerned r ≡ 0
    → (k : Key) → among concerned k ≡ true → test_of cs k r ≡ false
key-passed [] concerned r numbered h k a = refl
key-passed (c ∷ cs) concerned r numbered h k a =
    go (same c.key k) (among concerned c.key) (c.fits r) (λ e. among_same concerned c.key k e ∙ a) h
    (λ z. key-passed cs concerned r numbered.1 z k a)
  where
    go : (is asked t : Bool) → (is ≡ true → asked ≡ true) → cond (asked && t) c.number (first cs concerned r) ≡ 0
        → (first cs concerned r ≡ 0 → test_of cs k r ≡ false) → cond is t (test_of cs k r) ≡ false
    go true true t e h later = (unless t numbered.0 h).0
    go true false t e h later = absurd (let z : true ≡ false = sym (e refl) in (let z : ◌≡◌ {A = ℕ} 0 1 = cc in omega arith))
    go false true t e h later = later (unless t numbered.0 h).1
    go false false t e h later = later h

-- of the checks of a job
pub passed-at : (concerned : List Key) (r : Request) → refusal concerned r ≡ 0 → (k : Key) → among concerned k ≡ true → test_of checks k r ≡ false
passed-at concerned r h k a = key-passed checks concerned r checks-numbered h k a
