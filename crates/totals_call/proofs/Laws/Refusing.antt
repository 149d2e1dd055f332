-- The refusal of a call for totals in parts.
use Rattle.std.specs.Prelude.{◌≡◌, refl, Bool, false, cond, List, ℕ, Float, length}
use Rattle.refusals.specs.Edges.{kept}
use Rattle.refusals.specs.Request.{Request, Source, lent, house, enumerated, sampled, sweep_request, call_request, signed_factors}
use Rattle.refusals.specs.Refusal.{checks, refusal, of_job, of_enumeration_lists, of_sampling_lists, housed}
use Rattle.refusals.proofs.Laws.Later.{or_else, is_among}
use Rattle.refusals.specs.AcceptedTotals.{enumeration_lists, sampling_lists}
use Rattle.refusals.proofs.Laws.AcceptedTotals.{enumeration_in_parts, sampling_in_parts}
use Rattle.plan_layout.specs.Arrangements.{arrangement_of}
use Rattle.entry_correlations.proofs.Laws.Settling.{not_14}
use Rattle.totals_call.specs.Given.{Given, free, window}
use Rattle.totals_call.specs.Calls.{unsound_all, unsound_drawn, refused_all, refused_drawn, refused_all_by, refused_drawn_by}

-- A number by the checks of the job, then by those of the lists, then by what is found of every Z; no check before that answers 14.
pub record Parts (number : ℕ) : Type 0 where
  pub early : ℕ
  pub lists : ℕ
  pub bad : Bool
  pub whole : number ≡ or_else early (or_else lists (cond bad 14 0))
  pub early-other : early ≡ 14 → ⊥
  pub lists-other : lists ≡ 14 → ⊥

module _ (g : Given) where
  -- the refusal by the checks of the job
  abbrev pub refused_early : ℕ
  refused_early = refusal of_job (call_request g.caller g.n g.floor g.a g.b g.m g.us g.vs g.betas)

  pub early_not_14 : refused_early ≡ 14 → ⊥
  early_not_14 = not_14 of_job refused_early refl (is_among of_job (call_request g.caller g.n g.floor g.a g.b g.m g.us g.vs g.betas) checks)

  -- by the source of the factors, of this list of factors or couplings, which should have so many
  module _ (source : Source) (list : List Float) (count : ℕ) (misfit : Bool) (work : ℕ) where
    -- all configurations, of so many free edges at most
    abbrev pub lists_of_all_by : (most : ℕ) → ℕ
    lists_of_all_by most =
        enumeration_lists source g.caller (arrangement_of g.arrangement) g.n (window g) (length (kept g.a g.b g.m)) g.us g.vs list count (free g) most misfit work

    pub all_not_14 : (most : ℕ) → lists_of_all_by most ≡ 14 → ⊥
    all_not_14 most = go source
      where
        request : Request
        request =
            sweep_request g.caller (arrangement_of g.arrangement) g.n g.floor g.a g.b g.m g.us g.vs g.betas (enumerated (free g) most) list count misfit work false

        go : (s : Source) → enumeration_lists s g.caller (arrangement_of g.arrangement) g.n (window g) (length (kept g.a g.b g.m)) g.us g.vs list count (free g) most misfit work ≡ 14 → ⊥
        go lent = not_14 of_enumeration_lists _ refl (is_among of_enumeration_lists request checks)
        go house = not_14 (housed of_enumeration_lists) _ refl (is_among (housed of_enumeration_lists) request checks)

    abbrev pub all_parts_by : (most : ℕ) → Parts (refused_all_by g source list count most misfit work)
    all_parts_by most = record {
      early = refused_early;
      lists = lists_of_all_by most;
      bad = unsound_all g;
      whole = enumeration_in_parts g.caller (arrangement_of g.arrangement) g.n g.floor g.a g.b g.m g.us g.vs g.betas list count source (free g) most misfit work (unsound_all g);
      early-other = early_not_14;
      lists-other = all_not_14 most;
    }

    -- drawn ones
    module _ (seed from to samples : ℕ) where
      abbrev pub lists_of_drawn_by : ℕ
      lists_of_drawn_by =
          sampling_lists source (arrangement_of g.arrangement) g.n (window g) (length (kept g.a g.b g.m)) g.us g.vs list count from to samples misfit work

      pub drawn_not_14 : lists_of_drawn_by ≡ 14 → ⊥
      drawn_not_14 = go source
        where
          request : Request
          request =
              sweep_request g.caller (arrangement_of g.arrangement) g.n g.floor g.a g.b g.m g.us g.vs g.betas (sampled (free g) from to samples) list count misfit work false

          go : (s : Source) → sampling_lists s (arrangement_of g.arrangement) g.n (window g) (length (kept g.a g.b g.m)) g.us g.vs list count from to samples misfit work ≡ 14 → ⊥
          go lent = not_14 of_sampling_lists _ refl (is_among of_sampling_lists request checks)
          go house = not_14 (housed of_sampling_lists) _ refl (is_among (housed of_sampling_lists) request checks)

      abbrev pub drawn_parts_by : Parts (refused_drawn_by g source list count seed from to samples misfit work)
      drawn_parts_by = record {
        early = refused_early;
        lists = lists_of_drawn_by;
        bad = unsound_drawn g seed from to samples;
        whole = sampling_in_parts g.caller (arrangement_of g.arrangement) g.n g.floor g.a g.b g.m g.us g.vs g.betas list count source (free g) from to samples misfit work
            (unsound_drawn g seed from to samples);
        early-other = early_not_14;
        lists-other = drawn_not_14;
      }

  -- of lent factors: for each beta and kept edge two
  abbrev lent_count : ℕ
  lent_count = signed_factors (length g.betas) (length (kept g.a g.b g.m))

  abbrev pub lists_of_all : (misfit : Bool) (work most : ℕ) → ℕ
  lists_of_all = lists_of_all_by lent g.factors lent_count

  abbrev pub all_parts : (misfit : Bool) (work most : ℕ) → Parts (refused_all g most misfit work)
  all_parts = all_parts_by lent g.factors lent_count

  abbrev pub lists_of_drawn : (misfit : Bool) (work seed from to samples : ℕ) → ℕ
  lists_of_drawn = lists_of_drawn_by lent g.factors lent_count

  abbrev pub drawn_parts : (misfit : Bool) (work seed from to samples : ℕ) → Parts (refused_drawn g seed from to samples misfit work)
  drawn_parts = drawn_parts_by lent g.factors lent_count
