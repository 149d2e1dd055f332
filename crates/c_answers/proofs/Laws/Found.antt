-- What is told of a distance, a vertex and a bound, from what is told of any value.
use Rattle.std.specs.Prelude.{◌≡◌, Option, Some, None, Result, Ok, Err, Bool, ℕ, Float}
use Rattle.refusals.specs.declared.Refusal.{Refusal}
use Rattle.refusals.specs.Numbers.{by_number}
use Rattle.c_answers.specs.Found.{Tells}
use Rattle.c_answers.specs.Distances as Distances
use Rattle.c_answers.specs.Vertices as Vertices
use Rattle.c_answers.specs.Bounds as Bounds

pub distance : {a : Result (Option ℕ) Refusal} {r : ℕ} {f f' : Bool} {v v' : ℕ} → Tells a r f f' v v' → Distances.Tells a r f f' v v'
distance {a = Ok (Some x)} t = record { number = t.number; joins = t.founds; long = t.values }
distance {a = Ok None} t = record { number = t.number; joins = t.founds; long = t.values }
distance {a = Err e} t = record { number = t.number; joins = t.founds; long = t.values }

pub vertex : {a : Result (Option ℕ) Refusal} {r : ℕ} {f f' : Bool} {v v' : ℕ} → Tells a r f f' v v' → Vertices.Tells a r f f' v v'
vertex {a = Ok (Some x)} t = record { number = t.number; within = t.founds; at = t.values }
vertex {a = Ok None} t = record { number = t.number; within = t.founds; at = t.values }
vertex {a = Err e} t = record { number = t.number; within = t.founds; at = t.values }

pub bound : {a : Result (Option Float) Refusal} {r : ℕ} {f f' : Bool} {v v' : Float} → Tells a r f f' v v' → Bounds.Tells (by_number a) r f f' v v'
bound {a = Ok (Some x)} t = record { number = t.number; knows = t.founds; bounds = t.values }
bound {a = Ok None} t = record { number = t.number; knows = t.founds; bounds = t.values }
bound {a = Err e} t = record { number = t.number; knows = t.founds; bounds = t.values }
