-- Accepted calls of the four entries, each with what it was given and what it left; and the jobs that they work out.
use Rattle.std.specs.Prelude.{List, ℕ, ◌+◌, ◌*◌, ◌<◌, Float, length}
use Rattle.std.proofs.Common.{mul-le-mul_right, arith}
use Rattle.plan_layout.specs.declared.Arrangement.{Arrangement}
use Rattle.limits.specs.declared.Caller.{Caller}
use Rattle.transfer_matrix.specs.Job.{Job}
use Rattle.std.specs.declared.result.Result.TheVariants.{Ok}
use Rattle.entry_correlations.specs.Correlations.{job_given, Correlated}
use Rattle.entry_correlations.specs.declared.Manner.{Manner}
use Rattle.totals_call.specs.Given.{Given}
use Rattle.totals_call.specs.Calls.{Enumerated, EnumeratedEach, Sampled}
use Rattle.demands.proofs.Configurations.{free, configuration, drawn_configuration}

pub record CorrelationsCall : Type 0 where
  pub n : ℕ
  pub floor : ℕ
  pub a : List ℕ
  pub b : List ℕ
  pub m : List Float
  pub us : List ℕ
  pub vs : List ℕ
  pub factors : List Float
  pub manner : Manner
  pub arrangement : Arrangement
  pub caller : Caller
  pub results : List Float
  pub results' : List Float
  pub work : List Float
  pub work' : List Float
  pub call : Correlated n floor a b m us vs factors manner arrangement caller 0 results results' work work'

pub record ExhaustiveCall : Type 0 where
  pub given : Given
  pub count : ℕ
  pub squares : List Float
  pub squares' : List Float
  pub fourths : List Float
  pub fourths' : List Float
  pub work : List Float
  pub work' : List Float
  pub call : Enumerated given.n given.floor given.a given.b given.m given.us given.vs given.betas given.factors given.manner
      given.arrangement given.caller (Ok count) squares squares' fourths fourths' work work'

pub record StoringCall : Type 0 where
  pub given : Given
  pub count : ℕ
  pub stored : List Float
  pub stored' : List Float
  pub work : List Float
  pub work' : List Float
  pub call : EnumeratedEach given.n given.floor given.a given.b given.m given.us given.vs given.betas given.factors given.manner
      given.arrangement given.caller (Ok count) stored stored' work work'

pub record SampleCall : Type 0 where
  pub given : Given
  pub seed : ℕ
  pub from : ℕ
  pub to : ℕ
  pub samples : ℕ
  pub count : ℕ
  pub squares : List Float
  pub squares' : List Float
  pub fourths : List Float
  pub fourths' : List Float
  pub work : List Float
  pub work' : List Float
  pub call : Sampled given.n given.floor given.a given.b given.m given.us given.vs given.betas given.factors given.manner
      given.arrangement given.caller seed from to samples (Ok count) squares squares' fourths fourths' work work'

-- The job of a call of `correlations`; and of a call for totals: of a configuration and beta, and of a sample and beta.
abbrev pub job_of : CorrelationsCall → Job Float
job_of c = job_given c.n c.floor c.a c.b c.m c.factors c.manner

abbrev pub free_of : Given → ℕ
free_of g = free g.a g.b g.m

abbrev pub configuration_of : Given → ℕ → ℕ → Job Float
configuration_of g = configuration g.n g.floor g.a g.b g.m g.factors g.manner

abbrev pub drawn_of : Given → (seed chunk sample : ℕ) → ℕ → Job Float
drawn_of g = drawn_configuration g.n g.floor g.a g.b g.m g.factors g.manner

-- A beta and a pair of a call for totals; and where their totals stand.
pub record Place (g : Given) : Type 0 where
  pub beta : ℕ
  pub pair : ℕ
  pub beta-inside : beta < length g.betas
  pub pair_inside : pair < length g.us

abbrev pub number : {g : Given} → Place g → ℕ
number {g} at = at.beta * length g.us + at.pair

pub number-inside : {g : Given} (at : Place g) → number at < length g.betas * length g.us
number-inside {g} at = omega (arith, mul-le-mul_right (length g.us) at.beta-inside, at.pair_inside)
