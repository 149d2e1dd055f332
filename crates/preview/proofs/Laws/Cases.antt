-- A preview by its cases, in the order of the checks.
use Rattle.std.specs.Prelude.{◌≡◌, refl, Bool, true, false, cond, List, ◌∷◌, ℕ, leb, Float, length}
use Rattle.std.proofs.Common.{sym, ap, ap₂, ◌∙◌}
use Rattle.transfer_matrix.specs.Room as Room
use Rattle.refusals.specs.Edges.{dropping}
use Rattle.refusals.specs.Request.{Request, job_request, bad_vertices, bad_lists}
use Rattle.refusals.specs.Key.{Key}
use Rattle.refusals.specs.Refusal.{refusal, of_kept}
use Rattle.preview.specs.Previewed.{figures_of, told, cost_of, preview_of}

-- the keys behind 24
abbrev behind : List Key
behind = Key.edge_ends ∷ Key.sizes ∷ Key.beta_order ∷ Key.parallel_edges ∷ of_kept

module _ (place : ℕ) (A : Room.Arrangement) (n floor : ℕ) (a b : List ℕ) (m : List Float) (us vs : List ℕ) (betas : List Float) where
  abbrev asked : Request
  asked = job_request n floor a b (dropping place m) us vs betas

  -- by what 1, 2 and 24 find; the copy's other checks stand behind them
  abbrev found : (one two none : Bool) → ℕ
  found one two none = cond one 1 (cond two 2 (cond none 24 (refusal behind asked)))

  -- the number is what they find
  preview_found : found (bad_vertices asked) (bad_lists asked) (leb (length a) place) ≡ (preview_of place A n floor a b m us vs betas).number
  preview_found = refl

  pub no_vertices : bad_vertices asked ≡ true → 1 ≡ (preview_of place A n floor a b m us vs betas).number
  no_vertices h = ap (λ (x : Bool). found x (bad_lists asked) (leb (length a) place)) (sym h) ∙ preview_found

  module _ (h : bad_vertices asked ≡ false) where
    pub misfit : bad_lists asked ≡ true → 2 ≡ (preview_of place A n floor a b m us vs betas).number
    misfit e = ap₂ (λ (x y : Bool). found x y (leb (length a) place)) (sym h) (sym e) ∙ preview_found

    module _ (e : bad_lists asked ≡ false) where
      at_place : (t : Bool) → leb (length a) place ≡ t → found false false t ≡ (preview_of place A n floor a b m us vs betas).number
      at_place t l = ap (found false false) (sym l) ∙ ap₂ (λ (x y : Bool). found x y (leb (length a) place)) (sym h) (sym e) ∙ preview_found

      pub no_edge : leb (length a) place ≡ true → 24 ≡ (preview_of place A n floor a b m us vs betas).number
      no_edge l = at_place true l

      -- of the copy 1 and 2 find the same
      pub an_edge : leb (length a) place ≡ false → cost_of A n floor a b (dropping place m) us vs betas ≡ preview_of place A n floor a b m us vs betas
      an_edge l =
          ap (λ (k : ℕ). told k (figures_of A n floor a b (dropping place m) us vs))
          (ap₂ (λ (x y : Bool). found x y false) h e ∙ at_place false l)
