-- The standard pair set: of the candidates, in order, a strip takes those that it wants and that lie on it with two different ends.
use Rattle.std.specs.Prelude.{Bool, cond, not, ◌||◌, ◌&&◌, List, [], ◌∷◌, ◌++◌, map, ℕ, zero, suc, eqb, ltb, length}
use Rattle.refusals.specs.StripRequest.{strip_refusal, of_pairs}
use Rattle.strip.specs.Vertices.{vertex}
use Rattle.strip.specs.Requests.{strip_request}
use Rattle.strip.specs.declared.strip.Strip.{Strip}
use Rattle.strip_candidates.specs.Candidates.{Candidate, candidate_at}
use Rattle.strip_candidates.specs.declared.Sites.{Sites}

-- both sites lie on the strip, and they differ
abbrev pub taken : ℕ → ℕ → Sites → Bool
taken w l c = c.wanted && (ltb c.x1 l && ltb c.x2 l && ltb c.y1 w && ltb c.y2 w && not (eqb c.x1 c.x2 && eqb c.y1 c.y2))

pub record Pair : Type 0 where
  pub label : List ℕ
  pub u : ℕ
  pub v : ℕ

abbrev pub pair_of : ℕ → Candidate → Pair
pair_of w c = record { label = c.label; u = vertex w c.sites.x1 c.sites.y1; v = vertex w c.sites.x2 c.sites.y2 }

-- what a strip takes of candidate i
unfoldable pub pair_at : ℕ → ℕ → ℕ → List Pair
unfolding candidate_at
pair_at w l i = let c = candidate_at w l i in cond (taken w l c.sites) (pair_of w c ∷ []) []

-- the pairs among the first i candidates
unfoldable pub pairs_below : ℕ → ℕ → ℕ → List Pair
unfolding pair_at
pairs_below w l zero = []
pairs_below w l (suc i) = pairs_below w l i ++ pair_at w l i

abbrev pub pair_set : Strip → List Pair
pair_set s = pairs_below s.w s.l 18

abbrev pub firsts : List Pair → List ℕ
firsts ps = map (λ p. p.u) ps

abbrev pub seconds : List Pair → List ℕ
seconds ps = map (λ p. p.v) ps

-- the labels one after another, each closed by a zero byte
unfoldable pub label_bytes : List Pair → List ℕ
label_bytes [] = []
label_bytes (p ∷ ps) = (p.label ++ (0 ∷ [])) ++ label_bytes ps

-- what refuses a call for the pair set
unfoldable pub pairs_refusal : Strip → List ℕ → List ℕ → List ℕ → ℕ
unfolding pairs_below label_bytes
pairs_refusal s us vs labels =
    strip_refusal of_pairs (strip_request s (ltb (length us) (length (pair_set s)) || ltb (length vs) (length (pair_set s)) || ltb (length labels) (length (label_bytes (pair_set s)))))
