-- A call that applies its checks in parts, each part after those before it: the graph's checks and one more, or a job's and its lists'.
use Rattle.std.specs.Prelude.{◌≡◌, refl, Bool, true, false, cond, not, ◌||◌, ◌&&◌, List, [], ◌∷◌, ◌++◌, ℕ, zero, suc, ◌<◌, eqb, Float}
use Rattle.std.proofs.Common.{sym, ap, ◌∙◌, arith, eq-eqb}
use Rattle.std.proofs.Math.Bool.{or-true}
use Rattle.list_laws.specs.Search.{some}
use Rattle.refusals.specs.Key.{Key, same, among}
use Rattle.refusals.specs.Request.{Request, graph_request, distance_request, outside}
use Rattle.refusals.specs.Refusal.{Check, checks, first, refusal, of_graph, of_graph_with_buffers, of_distance}
use Rattle.refusals.proofs.Laws.First.{Numbered, checks-numbered}

-- the first refusal, or the other where there is none
abbrev pub or_else : ℕ → ℕ → ℕ
or_else zero other = other
or_else (suc k) other = suc k

-- where neither part refuses
pub both-passed : (x y : ℕ) → or_else x y ≡ 0 → (x ≡ 0) × (y ≡ 0)
both-passed zero y h = (refl, h)
both-passed (suc x) y h = absurd (omega arith)

-- the refusal K' is K or, where there is none, that of the check j with the test t
pub record Then (K' K : ℕ) (t : Bool) (j : ℕ) : Type 0 where
  pub is : K' ≡ or_else K (cond t j 0)

-- ---- one part after another

-- no check of the list is among these
abbrev without : {A : Type 0} → List (Check A) → List Key → Bool
without [] front = true
without (c ∷ cs) front = not (among front c.key) && without cs front

-- behind a check that is among `back` none is among `front`
abbrev pub is_in_order : {A : Type 0} → List (Check A) → List Key → List Key → Bool
is_in_order [] front back = true
is_in_order (c ∷ cs) front back = (not (among back c.key) || without cs front) && is_in_order cs front back

-- a check that concerns the call answers this number
abbrev pub answerable : {A : Type 0} → List (Check A) → List Key → ℕ → Bool
answerable [] concerned k = false
answerable (c ∷ cs) concerned k = (among concerned c.key && eqb c.number k) || answerable cs concerned k

pub and-true : (a b : Bool) → (a && b) ≡ true → (a ≡ true) × (b ≡ true)
and-true true b h = (refl, h)
and-true false b h = absurd (let z : ◌≡◌ {A = ℕ} 0 1 = cc in omega arith)

among-both : (front back : List Key) (k : Key) → among (front ++ back) k ≡ (among front k || among back k)
among-both [] back k = refl
among-both (c ∷ front) back k = go (same c k) (among-both front back k)
  where
    go : (b : Bool) → among (front ++ back) k ≡ (among front k || among back k)
        → (b || among (front ++ back) k) ≡ ((b || among front k) || among back k)
    go true e = refl
    go false e = e

module _ {A : Type 0} (concerned : List Key) (r : A) where
  without-none : (cs : List (Check A)) → without cs concerned ≡ true → first cs concerned r ≡ 0
  without-none [] h = refl
  without-none (c ∷ cs) h = go (among concerned c.key) h (without-none cs)
    where
      go : (p : Bool) → (not p && without cs concerned) ≡ true → (without cs concerned ≡ true → first cs concerned r ≡ 0)
          → cond (p && c.fits r) c.number (first cs concerned r) ≡ 0
      go true h ih = absurd (let z : ◌≡◌ {A = ℕ} 0 1 = cc in omega arith)
      go false h ih = ih h

  -- the answer is the number of a check that concerns the call
  pub is_among : (cs : List (Check A)) → (first cs concerned r ≡ 0 → ⊥) → answerable cs concerned (first cs concerned r) ≡ true
  is_among [] h = absurd (h refl)
  is_among (c ∷ cs) h = go (among concerned c.key) (c.fits r) h (is_among cs)
    where
      go : (p t : Bool) → (cond (p && t) c.number (first cs concerned r) ≡ 0 → ⊥)
          → ((first cs concerned r ≡ 0 → ⊥) → answerable cs concerned (first cs concerned r) ≡ true)
          → ((p && eqb c.number (cond (p && t) c.number (first cs concerned r)))
          || answerable cs concerned (cond (p && t) c.number (first cs concerned r))) ≡ true
      go true true h ih = rw (eq-eqb c.number c.number refl)
      go true false h ih = rw (ih h, or-true (eqb c.number (first cs concerned r)))
      go false t h ih = ih h

-- the checks of `front`, and where none of them fits those of `back`
pub in_parts : {A : Type 0} (cs : List (Check A)) (front back : List Key) (r : A) → Numbered cs → is_in_order cs front back ≡ true
    → first cs (front ++ back) r ≡ or_else (first cs front r) (first cs back r)
in_parts [] front back r numbered h = refl
in_parts (c ∷ cs) front back r numbered h =
    let p = and-true _ (is_in_order cs front back) h in
    rw (among-both front back c.key)
    (go (among front c.key) (among back c.key) (c.fits r) c.number numbered.0 p.0
    (in_parts cs front back r numbered.1 p.1))
  where
    go : (p q t : Bool) (k : ℕ) → 0 < k → (not q || without cs front) ≡ true
        → first cs (front ++ back) r ≡ or_else (first cs front r) (first cs back r)
        → cond ((p || q) && t) k (first cs (front ++ back) r)
        ≡ or_else (cond (p && t) k (first cs front r)) (cond (q && t) k (first cs back r))
    go true q true zero l o e = absurd (omega arith)
    go true q true (suc k) l o e = refl
    go true true false k l o e = e
    go true false false k l o e = e
    go false true true k l o e = rw (without-none front r cs o)
    go false true false k l o e = e
    go false false t k l o e = e

-- of the checks of a job
pub refusal_in_parts : (front back : List Key) (r : Request) → is_in_order checks front back ≡ true
    → refusal (front ++ back) r ≡ or_else (refusal front r) (refusal back r)
refusal_in_parts front back r o = in_parts checks front back r checks-numbered o

-- ---- the graph's checks and one more

pub then-buffers : (n : ℕ) (a b : List ℕ) (m : List Float) (misfit : Bool)
    → Then (refusal of_graph_with_buffers (graph_request n a b m misfit)) (refusal of_graph (graph_request n a b m false)) misfit 12
then-buffers n a b m misfit = record { is = refusal_in_parts of_graph (Key.buffers ∷ []) (graph_request n a b m misfit) refl }

pub then-pair : (n : ℕ) (a b : List ℕ) (m : List Float) (u v : ℕ)
    → Then (refusal of_distance (distance_request n a b m u v)) (refusal of_graph (graph_request n a b m false)) (outside n u v) 8
unfolding some
then-pair n a b m u v = record { is = refusal_in_parts of_graph (Key.walk_ends ∷ []) (distance_request n a b m u v) refl }

-- ---- from the number r that the graph's checks gave

module _ {K' K : ℕ} {t : Bool} {j : ℕ} (T : Then K' K t j) (r : ℕ) (p : r ≡ K) where
  pub refused-before : (r ≡ 0 → ⊥) → r ≡ K'
  refused-before z = go K p ∙ sym T.is
    where
      go : (k : ℕ) → r ≡ k → r ≡ or_else k (cond t j 0)
      go zero q = absurd (z q)
      go (suc k) q = q

  after : r ≡ 0 → cond t j 0 ≡ K'
  after z = ap (λ k. or_else k (cond t j 0)) (sym z ∙ p) ∙ sym T.is

  pub refused_here : r ≡ 0 → t ≡ true → j ≡ K'
  refused_here z q = ap (λ b. cond b j 0) (sym q) ∙ after z

  pub refused_not : r ≡ 0 → t ≡ false → 0 ≡ K'
  refused_not z q = ap (λ b. cond b j 0) (sym q) ∙ after z

-- where neither refuses, the graph's checks do not
pub passed-before : {K' K : ℕ} {t : Bool} {j : ℕ} → Then K' K t j → K' ≡ 0 → K ≡ 0
passed-before {K = K} {t = t} {j = j} T z = go K (sym T.is ∙ z)
  where
    go : (k : ℕ) → or_else k (cond t j 0) ≡ 0 → k ≡ 0
    go zero q = refl
    go (suc k) q = absurd (omega arith)
