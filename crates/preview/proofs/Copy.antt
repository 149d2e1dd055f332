-- What 02 says of a preview.
use Rattle.std.specs.Prelude.{◌≡◌, refl, Bool, true, false, cond, List, ℕ, ◌≤◌, ◌<◌, Float, length, get_or}
use Rattle.std.proofs.Common.{sym, ◌∙◌, arith, le-leb}
use Rattle.std.specs.Float.{nan}
use Rattle.std.proofs.lemmas.Bool.{lt-leb}
use Rattle.transfer_matrix.specs.Room as Room
use Rattle.refusals.specs.Edges.{is_zero, dropping}
use Rattle.refusals.specs.Request.{job_request, bad_vertices, bad_lists}
use Rattle.refusals.proofs.Laws.Dropping.{dropping-length, dropping-lists}
use Rattle.preview.specs.Previewed.{cost_of, preview_of}
use Rattle.preview.proofs.Laws.Zeros.{same_kept, same-sized}

module _ (place : ℕ) (A : Room.Arrangement) (n floor : ℕ) (a b : List ℕ) (m : List Float) (us vs : List ℕ) (betas : List Float) where
  -- The answer equals building a copy with that magnitude set to zero, refusals included.
  pub preview_is_copy : place < length a → preview_of place A n floor a b m us vs betas ≡ cost_of A n floor a b (dropping place m) us vs betas
  preview_is_copy h = rw (lt-leb (length a) place h)

  -- No edge at that place: 24, right after 1 and 2.
  pub no_edge_there : length a ≤ place
      → let q = job_request n floor a b m us vs betas in (preview_of place A n floor a b m us vs betas).number ≡ cond (bad_vertices q) 1 (cond (bad_lists q) 2 24)
  no_edge_there h =
      let q = job_request n floor a b m us vs betas in
      rw (le-leb (length a) place h) (go (bad_vertices q) _ (bad_lists q) (sym (dropping-lists place n floor a b m us vs betas)))
    where
      go : (x y z : Bool) → y ≡ z → ◌≡◌ {A = ℕ} (cond x 1 (cond y 2 24)) (cond x 1 (cond z 2 24))
      go true y z e = refl
      go false y true e = rw e
      go false y false e = rw e

  -- Previewing an edge whose magnitude is zero already gives the job's present figures or refusal.
  pub zero_already : place < length a → length m ≡ length a → is_zero (get_or m place nan) ≡ true
      → preview_of place A n floor a b m us vs betas ≡ cost_of A n floor a b m us vs betas
  zero_already h l z =
      let there : place < length m = omega (arith, l) in
      preview_is_copy h ∙ rw (same-sized m place there z, same_kept m place there z a b (length a), dropping-length place m)
