-- Laws of what specs/Answers and specs/Numbers define.
use Rattle.std.specs.Prelude.{◌≡◌, refl, Result, Ok, Err, cond, ℕ, zero, suc, eqb}
use Rattle.std.proofs.Common.{sym, ap, ◌∙◌, arith}
use Rattle.refusals.specs.declared.Refusal.{Refusal}
use Rattle.refusals.specs.declared.Refusal.TheVariants as R
use Rattle.refusals.specs.Numbers.{number}
use Rattle.refusals.specs.Answers.{Answered, left}

-- no refusal has the number of accepted calls
pub number-not_zero : (e : Refusal) → number e ≡ 0 → ⊥
number-not_zero R.VertexCount z = omega arith
number-not_zero R.ListLengths z = omega arith
number-not_zero R.EdgeEnds z = omega arith
number-not_zero R.Magnitude z = omega arith
number-not_zero R.ParallelEdges z = omega arith
number-not_zero R.Window z = omega arith
number-not_zero R.BackEdges z = omega arith
number-not_zero R.PairEnds z = omega arith
number-not_zero R.FreeEdges z = omega arith
number-not_zero R.Factors z = omega arith
number-not_zero R.Samples z = omega arith
number-not_zero R.Buffer z = omega arith
number-not_zero R.WorkMemory z = omega arith
number-not_zero R.PartitionSum z = omega arith
number-not_zero R.StripSides z = omega arith
number-not_zero R.OddCylinder z = omega arith
number-not_zero R.Dilution z = omega arith
number-not_zero R.Sums z = omega arith
number-not_zero R.SheetRecord z = omega arith
number-not_zero R.SheetTail z = omega arith
number-not_zero R.Betas z = omega arith
number-not_zero R.TesterLimit z = omega arith
number-not_zero R.Couplings z = omega arith
number-not_zero R.EdgePlace z = omega arith
number-not_zero R.Shares z = omega arith
number-not_zero R.Record z = omega arith
number-not_zero R.Join z = omega arith

-- the refusal of a number
abbrev named : ℕ → Refusal
named k =
    cond (eqb k 1) R.VertexCount
    (cond (eqb k 2) R.ListLengths
    (cond (eqb k 3) R.EdgeEnds
    (cond (eqb k 4) R.Magnitude
    (cond (eqb k 5) R.ParallelEdges
    (cond (eqb k 6) R.Window
    (cond (eqb k 7) R.BackEdges
    (cond (eqb k 8) R.PairEnds
    (cond (eqb k 9) R.FreeEdges
    (cond (eqb k 10) R.Factors
    (cond (eqb k 11) R.Samples
    (cond (eqb k 12) R.Buffer
    (cond (eqb k 13) R.WorkMemory
    (cond (eqb k 14) R.PartitionSum
    (cond (eqb k 15) R.StripSides
    (cond (eqb k 16) R.OddCylinder
    (cond (eqb k 17) R.Dilution
    (cond (eqb k 18) R.Sums
    (cond (eqb k 19) R.SheetRecord
    (cond (eqb k 20) R.SheetTail
    (cond (eqb k 21) R.Betas
    (cond (eqb k 22) R.TesterLimit
    (cond (eqb k 23) R.Couplings
    (cond (eqb k 24) R.EdgePlace
    (cond (eqb k 25) R.Shares
    (cond (eqb k 26) R.Record
    R.Join)))))))))))))))))))))))))

named-number : (e : Refusal) → e ≡ named (number e)
named-number R.VertexCount = refl
named-number R.ListLengths = refl
named-number R.EdgeEnds = refl
named-number R.Magnitude = refl
named-number R.ParallelEdges = refl
named-number R.Window = refl
named-number R.BackEdges = refl
named-number R.PairEnds = refl
named-number R.FreeEdges = refl
named-number R.Factors = refl
named-number R.Samples = refl
named-number R.Buffer = refl
named-number R.WorkMemory = refl
named-number R.PartitionSum = refl
named-number R.StripSides = refl
named-number R.OddCylinder = refl
named-number R.Dilution = refl
named-number R.Sums = refl
named-number R.SheetRecord = refl
named-number R.SheetTail = refl
named-number R.Betas = refl
named-number R.TesterLimit = refl
named-number R.Couplings = refl
named-number R.EdgePlace = refl
named-number R.Shares = refl
named-number R.Record = refl
named-number R.Join = refl

-- no two refusals have one number
pub number-only : (e f : Refusal) → number e ≡ number f → e ≡ f
number-only e f p = named-number e ∙ ap named p ∙ sym (named-number f)

-- one answer is right
pub answered-only : {A : Type 0} (k : ℕ) (x : A) (r s : Result A Refusal) → Answered k x r → Answered k x s → r ≡ s
answered-only k x (Ok y) (Ok z) p q = ap Ok (p.1 ∙ sym q.1)
answered-only k x (Ok y) (Err f) p q = absurd (number-not_zero f (q.0 ∙ sym p.0))
answered-only k x (Err e) (Ok z) p q = absurd (number-not_zero e (p.0 ∙ sym q.0))
answered-only k x (Err e) (Err f) p q = ap Err (number-only e f (p.0 ∙ sym q.0))

pub left_alone : {A : Type 0} (r : ℕ) (new old : A) → (r ≡ 0 → ⊥) → old ≡ left r new old
left_alone zero new old n = absurd (n refl)
left_alone (suc k) new old n = refl
