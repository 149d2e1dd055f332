-- The forest grows edge by edge, and its roots stay the labels: those of `labels`, or the lowest ones.
use Rattle.std.specs.Prelude.{◌≡◌, refl, Bool, List, ℕ, ◌+◌, ◌<◌, eqb, ltb, length}
use Rattle.std.proofs.Common.{◌∙◌, add-one}
use Rattle.std.proofs.Math.Bool.{cond}
use Rattle.forest.specs.Paths.{end, Edges}
use Rattle.forest.specs.Labels.{labels, is_tree}
use Rattle.forest.specs.Lowest.{lowest}
use Rattle.forest.proofs.Laws.Lowest.{tree_apart}
use Rattle.union_find.specs.Forest.{links, root, Forest, Fresh, Found, Merged, MergedLower, Labelled}
use Rattle.union_find.proofs.Laws.Climb.{climb-own}

-- edges, or a forest, of as many vertices
pub edges-of : {n k : ℕ} {early late : List ℕ} → k ≡ n → Edges n early late → Edges k early late
edges-of e E = rw e E

pub labelled-of : {n k : ℕ} {label : ℕ → ℕ} {p : List ℕ} → k ≡ n → Labelled k label p → Labelled n label p
labelled-of e L = rw (← e) L

labelled-none : {n : ℕ} {label : ℕ → ℕ} {p : List ℕ} → ((v : ℕ) → label v ≡ v) → length p ≡ n → Fresh p → Labelled n label p
unfolding root
labelled-none {p = p} first e fresh =
    record {
      len = e;
      forest = record { inside = λ v h. rw (fresh v h) h; settles = λ v h. rw (own v h) (fresh v h) };
      roots = λ v h. rw (first v) (own v (rw e h));
    }
  where
    own : (v : ℕ) → v < length p → root p v ≡ v
    own v h = climb-own p (links 0 p) v (fresh v h)

pub labels-none : {n : ℕ} {p : List ℕ} (early late : List ℕ) → length p ≡ n → Fresh p → Labelled n (labels early late 0) p
unfolding labels
labels-none early late = labelled-none (λ v. refl)

pub lowest-begun : {n : ℕ} {p : List ℕ} (early late : List ℕ) → length p ≡ n → Fresh p → Labelled n (lowest early late 0) p
unfolding lowest
lowest-begun early late = labelled-none (λ v. refl)

module _ {n : ℕ} {label : ℕ → ℕ} {p : List ℕ} (L : Labelled n label p) where
  -- `find` returns the label
  pub found-label : {v r : ℕ} {q : List ℕ} → v < n → Found p v r q → r ≡ label v
  found-label h F = F.is ∙ L.roots _ h

  pub found-keeps : {v r : ℕ} {q : List ℕ} → Found p v r q → Labelled n label q
  found-keeps F =
      record {
        len = F.kept.len ∙ L.len;
        forest = F.kept.forest;
        roots = λ v h. F.kept.same v (rw L.len h) ∙ L.roots v h;
      }

  -- a union takes the ends of an edge
  pub union_takes : {early late : List ℕ} → Edges n early late → (i : ℕ) → i < length early → Forest p × (end early i < length p) × (end late i < length p)
  union_takes E i h = (L.forest, rw L.len (E.early-below i h), rw L.len (E.late_below i h))

-- merged by a rule that reads the labels of a, b and the vertex
labelled-more : {n : ℕ} {label next : ℕ → ℕ} {p q : List ℕ} (a b : ℕ) (rule : ℕ → ℕ → ℕ → ℕ) → a < n → b < n → Labelled n label p → length q ≡ length p → Forest q
    → ((v : ℕ) → v < length p → root q v ≡ rule (root p a) (root p b) (root p v)) → ((v : ℕ) → next v ≡ rule (label a) (label b) (label v)) → Labelled n next q
labelled-more a b rule h k L len forest roots is = record {
  len = len ∙ L.len;
  forest = forest;
  roots = λ v l. roots v (rw L.len l) ∙ rw (L.roots a h, L.roots b k, L.roots v l, is v);
}

-- the ends of the next edge, merged
module _ {n : ℕ} {early late : List ℕ} {p q : List ℕ} {r : Bool} (E : Edges n early late) (i : ℕ) (h : i < length early) where
  module _ (L : Labelled n (labels early late i) p) (M : Merged p (end early i) (end late i) r q) where
    pub union_labels : Labelled n (labels early late (i + 1)) q
    unfolding labels
    union_labels =
        labelled-more (end early i) (end late i) (λ x y z. cond (eqb z x) y z) (E.early-below i h) (E.late_below i h) L M.len M.forest M.roots
        (λ v. rw add-one)

  module _ (L : Labelled n (lowest early late i) p) (M : MergedLower p (end early i) (end late i) r q) where
    pub lower-tree : r ≡ is_tree early late i
    lower-tree = M.is ∙ rw (L.roots (end early i) (E.early-below i h), L.roots (end late i) (E.late_below i h), tree_apart early late i)

    pub lower-labels : Labelled n (lowest early late (i + 1)) q
    unfolding lowest
    lower-labels =
        labelled-more (end early i) (end late i) (λ x y z. cond (ltb x y) (cond (eqb z y) x z) (cond (eqb z x) y z)) (E.early-below i h) (E.late_below i h) L
        M.len M.forest M.roots (λ v. rw add-one)
