-- The powers and the patterns, one by one.
use native.Mathlib.Omega.{arith}
use Rattle.list_laws.proofs.Laws.Power.{pow_double}
use Rattle.step_runs.proofs.Laws.AtRun.{readable}
use Rattle.step_runs.proofs.runs.two_step_runs.Goals as goal

pub pattern_of-one-requires : goal.pattern_of-one-requires
pattern_of-one-requires c = let both = (let p = c.requires in readable p.2 p.1) in record { n_bound = both.0; by_index = both.1 }

pub pattern_of-low-requires : goal.pattern_of-low-requires
pattern_of-low-requires c = let both = (let p = c.requires in readable p.3 p.1) in record { n_bound = both.0; by_index = both.1 }

pub pattern_of-two-requires : goal.pattern_of-two-requires
pattern_of-two-requires c = let both = (let p = c.requires in readable p.3 p.1) in record { n_bound = both.0; by_index = both.1 }

pub returns : goal.returns
returns c =
    let s = c in
    let runs = c.runs_of-e.ensures in (
      record {
        first = record {
          few = s.requires.2.few;
          sparse = runs.2;
          some = runs.0;
          inside = runs.1;
          ends = c.pow2-end.ensures;
          length = c.pow2-size.ensures;
          odd = c.pattern_of-one.ensures.value;
        };
        few' = s.requires.3.few;
        second = runs.3;
        within = omega arith;
        whole = c.pow2-quarter.ensures;
        odd' = c.pattern_of-low.ensures.value;
        next' = c.pattern_of-two.ensures.value;
      },
      omega (arith, c.pow2-end.ensures, c.pow2-quarter.ensures, pow_double s.args.h (omega arith)),
    )
