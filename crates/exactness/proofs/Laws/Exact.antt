-- Laws of what specs/Exact defines.
use Rattle.std.specs.Prelude.{◌≡◌, refl, List, [], ◌∷◌, map, ℕ, ◌≤◌, T, Float}
use Rattle.std.proofs.Common.{sym, ◌∙◌, ap, subst}
use Rattle.std.specs.Float.Ieee.Positive.{positive}
use Rattle.fraction.proofs.Laws.Fraction as Q
use Rattle.fraction.proofs.Fraction.{ℚ, frac, zeroℚ, oneℚ, sound, addℚ, mulℚ, negℚ, invℚ, posℚ, Posℚ}
use Rattle.fraction.proofs.Laws.Value.{value_pos}
use Rattle.transfer_matrix.specs.Job.{Edge, per_element, Job}
use Rattle.transfer_matrix.specs.Checked.{All, Kept, SameEnds, Apart, Checked}
use Rattle.transfer_matrix.specs.Sweep.{answer}
use Rattle.exactness.specs.Textbook.{partition_sum, textbook}
use Rattle.exactness.proofs.Exactness.{exactly, partition_sum_positive}
use Rattle.exactness.proofs.Literal.{literal_answer, exactly-literal}
use Rattle.exactness.proofs.Laws.Algebra.{Laws, Pos}
use Rattle.exactness.specs.Exact.{rational, edge_at_value, at_values}

-- ---- its laws

less_zero : (x : ℚ) → posℚ (addℚ x (negℚ zeroℚ)) ≡ posℚ x
unfolding negℚ
less_zero x = ap posℚ (Q.add-zero x)

above : (x : ℚ) → Pos rational x → Posℚ x
above x h = sym (less_zero x) ∙ h

pos : (x : ℚ) → Posℚ x → Pos rational x
pos x h = less_zero x ∙ h

one-mul : (x : ℚ) → mulℚ oneℚ x ≡ x
one-mul x = Q.mul_comm oneℚ x ∙ Q.mul-one x

pub rational_laws : Laws rational
rational_laws = record {
  ⊕_comm = Q.add_comm;
  ⊕_assoc = Q.add_assoc;
  ⊕_zero = Q.add-zero;
  ⊕_neg = Q.add_neg;
  ⊖-is = λ x y. refl;
  ⊗_comm = Q.mul_comm;
  ⊗_assoc = Q.mul_assoc;
  ⊗-one = Q.mul-one;
  ⊗-⊕ = Q.mul-add;
  ⊘-is = λ x y. ap (mulℚ x) (sym (one-mul (invℚ y)));
  ⊗_inv = λ x h. ap (mulℚ x) (one-mul (invℚ x)) ∙ Q.mul_inv_pos x (above x h);
  pos_one = pos _ Q.pos_one;
  pos_⊕ = λ x y h k. pos _ (Q.pos_add x y (above x h) (above y k));
  pos_⊗ = λ x y h k. pos _ (Q.pos_mul x y (above x h) (above y k));
  pos_inv = λ x h. pos _ (subst Posℚ (sym (one-mul (invℚ x))) (Q.pos_inv x (above x h)));
}

-- The theorem at fractions.
pub exact-answer : (J : Job ℚ) → Checked (Pos rational) J
    → (u v : ℕ) → (u ≡ v → ⊥) → u ≤ J.last → v ≤ J.last → answer rational J u v ≡ textbook rational J u v
exact-answer = exactly rational rational_laws

-- ---- a job of doubles

abbrev Positive : Float → Type 0
Positive x = T (positive x)

kept : (J : Job Float) (es : List (Edge Float)) → All (Kept Positive J) es → All (Kept (Pos rational) (at_values J)) (map edge_at_value es)
kept J [] k = tt
kept J (e ∷ es) k =
    let h = k.0 in
    (record { ordered = h.ordered; inside = h.inside; reached = h.reached; passed = pos _ (value_pos e.factor h.passed) }, kept J es k.1)

other-ends : (e : Edge Float) (es : List (Edge Float)) → All (λ f. SameEnds e f → ⊥) es
    → All (λ f. SameEnds (edge_at_value e) f → ⊥) (map edge_at_value es)
other-ends e [] h = tt
other-ends e (f ∷ fs) h = (h.0, other-ends e fs h.1)

apart : (es : List (Edge Float)) → Apart es → Apart (map edge_at_value es)
apart [] h = tt
apart (e ∷ es) h = (other-ends e es h.0, apart es h.1)

pub checked-values : (J : Job Float) → Checked (λ x. T (positive x)) J → Checked (Pos rational) (at_values J)
checked-values J ok = record { window = ok.window; edges = kept J J.edges ok.edges; apart = apart J.edges ok.apart }

-- The theorem for a job of doubles.
pub exact_answer_of_doubles : (J : Job Float) → Checked (λ x. T (positive x)) J
    → (u v : ℕ) → (u ≡ v → ⊥) → u ≤ J.last → v ≤ J.last → answer rational (at_values J) u v ≡ textbook rational (at_values J) u v
exact_answer_of_doubles J ok = exact-answer (at_values J) (checked-values J ok)

-- The same where no step is taken at vertex 0.
pub literal_answer_of_doubles : (J : Job Float) → Checked (λ x. T (positive x)) J
    → (u v : ℕ) → (u ≡ v → ⊥) → u ≤ J.last → v ≤ J.last → literal_answer rational (at_values J) u v ≡ textbook rational (at_values J) u v
literal_answer_of_doubles J ok = exactly-literal rational (at_values J) rational_laws (checked-values J ok)

-- The ratio's sum of weights is above zero: the fractions' inverse of zero, which is zero, does not come in.
pub partition_sum_of_doubles : (J : Job Float) → Checked (λ x. T (positive x)) J → Posℚ (partition_sum rational (at_values J))
partition_sum_of_doubles J ok = above _ (partition_sum_positive rational rational_laws (at_values J) (checked-values J ok))

-- ---- examples, every factor 2: two vertices with an edge, window 1; and the square 2 by 2, its opposite corners

abbrev edge : ℕ → ℕ → Edge ℚ
edge a b = record { early = a; late = b; factor = frac 2 0 0 }

abbrev job : ℕ → ℕ → List (Edge ℚ) → Job ℚ
job last w es = record { last = last; window = w; edges = es; manner = per_element }

three_fifths : answer rational (job 1 1 (edge 0 1 ∷ [])) 0 1 ≡ frac 3 0 4
unfolding answer addℚ mulℚ negℚ invℚ posℚ
three_fifths = sound refl

three_fifths_textbook : textbook rational (job 1 1 (edge 0 1 ∷ [])) 0 1 ≡ frac 3 0 4
unfolding textbook addℚ mulℚ negℚ invℚ
three_fifths_textbook = sound refl

square : textbook rational (job 3 2 (edge 0 1 ∷ edge 0 2 ∷ edge 1 3 ∷ edge 2 3 ∷ [])) 0 3 ≡ frac 225 0 352
unfolding textbook addℚ mulℚ negℚ invℚ
square = sound refl
