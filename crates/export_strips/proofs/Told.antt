-- What an answer that was told says of the refusal's number and of the references.
use mathlib.Core.Path.{◌≡◌, ◌∙◌}
use mathlib.Core.List.{List}
use Prim.Native.Nat.{ℕ}
use lib.Ieee.{Float}
use lib.ListN.{length}
use Rattle.list_laws.specs.Front.{over}
use Rattle.refusals.specs.Answers.{Answered, left}
use Rattle.std.specs.Prelude.{refl, Bool, Option, Some, None, Result, Ok, Err, is_some, unwrap_or}
use Rattle.refusals.proofs.Laws.Answers.{number-not_zero, left_alone}
use Rattle.refusals.specs.declared.Refusal.{Refusal}
use Rattle.strip.specs.declared.strip.Strip.{Strip}
use Rattle.strip_bonds.specs.Edges.{edges, early_ends, late_ends}
use Rattle.strip_pairs.specs.PairSet.{Pair, firsts, seconds, label_bytes}
use Rattle.c_answers.specs.Numbers.{Tells}
use Rattle.c_answers.specs.Vertices as Vertices
use Rattle.c_answers.specs.Vertices.{inside_of, vertex_of}
use Rattle.c_answers.proofs.Laws.Numbers.{told-number, told-held}
use Rattle.export_strips.specs.Strips.{StripEdges}
use Rattle.export_strips.specs.PairSets.{Paired}

-- ---- the edges of a strip, and its pairs

pub edges-told : (k : ℕ) (s : Strip) (magnitudes : List Float) (early late : List ℕ) (mag : List Float) {early' late' : List ℕ} {mag' : List Float} {r count count' : ℕ} {a : Result ℕ Refusal}
    → early' ≡ left k (over (early_ends (edges s)) early) early → late' ≡ left k (over (late_ends (edges s)) late) late → mag' ≡ left k (over magnitudes mag) mag
    → Answered k (length (edges s)) a → Tells a r count count' → StripEdges k s magnitudes r early early' late late' mag mag' count count'
edges-told k s magnitudes early late mag e l m q t =
    record { answer = told-number k (length (edges s)) q t; earlies = e; lates = l; mags = m; counted = told-held k (length (edges s)) q t }

pub pairs-told : (k : ℕ) (ps : List Pair) (us vs labels : List ℕ) {us' vs' labels' : List ℕ} {r count count' : ℕ} {a : Result ℕ Refusal} → us' ≡ left k (over (firsts ps) us) us
    → vs' ≡ left k (over (seconds ps) vs) vs → labels' ≡ left k (over (label_bytes ps) labels) labels → Answered k (length ps) a → Tells a r count count'
    → Paired k ps r us us' vs vs' labels labels' count count'
pairs-told k ps us vs labels u v l q t =
    record { answer = told-number k (length ps) q t; first_ends = u; second-ends = v; labelled = l; counted = told-held k (length ps) q t }

-- ---- a strip's vertex

module _ (k : ℕ) (site : Option ℕ) where
  inside-is : (a : Result (Option ℕ) Refusal) (old : Bool) → Answered k site a → inside_of a old ≡ left k (is_some site) old
  inside-is (Err e) old q = left_alone k (is_some site) old (λ z. number-not_zero e (q.0 ∙ z))
  inside-is (Ok x) old q = rw (← q.0, ← q.1) (same x)
    where
      same : (x : Option ℕ) → inside_of (Ok x) old ≡ is_some x
      same (Some v) = refl
      same None = refl

  vertex-is : (a : Result (Option ℕ) Refusal) (old : ℕ) → Answered k site a → vertex_of a old ≡ left k (unwrap_or site old) old
  vertex-is (Err e) old q = left_alone k (unwrap_or site old) old (λ z. number-not_zero e (q.0 ∙ z))
  vertex-is (Ok x) old q = rw (← q.0, ← q.1) (same x)
    where
      same : (x : Option ℕ) → vertex_of (Ok x) old ≡ unwrap_or x old
      same (Some v) = refl
      same None = refl

  pub vertex-told : {a : Result (Option ℕ) Refusal} {r : ℕ} {inside inside' : Bool} {vertex vertex' : ℕ} → Answered k site a
      → Vertices.Tells a r inside inside' vertex vertex'
      → (r ≡ k) × (inside' ≡ left r (is_some site) inside) × (vertex' ≡ left r (unwrap_or site vertex) vertex)
  vertex-told {a = a} {inside = inside} {vertex = vertex} q t =
      let n = t.number ∙ q.0 in
      (n, rw n (t.within ∙ inside-is a inside q), rw n (t.at ∙ vertex-is a vertex q))
