-- The numbers by which callers know refusals, and that of an answer.
use Rattle.std.specs.Prelude.{ℕ}
use Rattle.std.specs.declared.result.Result.{Result}
use Rattle.std.specs.declared.result.Result.TheVariants.{Ok, Err}
use Rattle.refusals.specs.declared.Refusal.{Refusal}
use Rattle.refusals.specs.declared.Refusal.TheVariants as R

abbrev pub number : Refusal → ℕ
number R.VertexCount = 1
number R.ListLengths = 2
number R.EdgeEnds = 3
number R.Magnitude = 4
number R.ParallelEdges = 5
number R.Window = 6
number R.BackEdges = 7
number R.PairEnds = 8
number R.FreeEdges = 9
number R.Factors = 10
number R.Samples = 11
number R.Buffer = 12
number R.WorkMemory = 13
number R.PartitionSum = 14
number R.StripSides = 15
number R.OddCylinder = 16
number R.Dilution = 17
number R.Sums = 18
number R.SheetRecord = 19
number R.SheetTail = 20
number R.Betas = 21
number R.TesterLimit = 22
number R.Couplings = 23
number R.EdgePlace = 24
number R.Shares = 25
number R.Record = 26
number R.Join = 27

-- the number of an answer's refusal, 0 for an accepted call's
abbrev pub refused : {A : Type 0} → Result A Refusal → ℕ
refused (Ok x) = 0
refused (Err e) = number e

-- an answer with its refusal by number
abbrev pub by_number : {A : Type 0} → Result A Refusal → Result A ℕ
by_number (Ok x) = Ok x
by_number (Err e) = Err (number e)
