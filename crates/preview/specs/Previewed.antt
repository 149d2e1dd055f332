-- What a job comes to, and what it would come to without one of its edges.
use Rattle.std.specs.Prelude.{Result, List, ℕ, Float, length}
use Rattle.transfer_matrix.specs.Room as Room
use Rattle.forest.specs.FreeEdges.{free_count}
use Rattle.refusals.specs.Edges.{kept, kept_early, kept_late, window_from, dropping}
use Rattle.refusals.specs.Request.{job_request, preview_request}
use Rattle.refusals.specs.declared.Refusal.{Refusal}
use Rattle.refusals.specs.Answers.{Answered}
use Rattle.refusals.specs.Refusal.{refusal, of_room, of_preview}
use Rattle.preview.specs.declared.answer.Figures.{Figures}

-- The window, the free edges and the room of a job, in the arrangement asked for.
abbrev pub figures_of : Room.Arrangement → (n floor : ℕ) → (a b : List ℕ) → List Float → (us vs : List ℕ) → Figures
figures_of A n floor a b m us vs = record {
  window = window_from floor a b m;
  free = free_count (kept_early a b m) (kept_late a b m);
  room = Room.room A n (window_from floor a b m) (length (kept a b m)) us vs;
}

-- The number of a job's refusal, 0 where it is accepted, and its figures.
pub record Cost : Type 0 where
  pub number : ℕ
  pub figures : Figures

abbrev pub told : ℕ → Figures → Cost
told k f = record { number = k; figures = f }

-- a call answers the figures, or the refusal of that number
abbrev pub Costs : Cost → Result Figures Refusal → Type 0
Costs c answer = Answered c.number c.figures answer

-- What a job comes to: its figures, or the first of the checks 1 to 8, 21 among them, that it meets.
abbrev pub cost_of : Room.Arrangement → (n floor : ℕ) → (a b : List ℕ) → List Float → (us vs : List ℕ) → List Float → Cost
cost_of A n floor a b m us vs betas = told (refusal of_room (job_request n floor a b m us vs betas)) (figures_of A n floor a b m us vs)

-- What it would come to with the magnitude at a place of the raw list set to zero: the same of that copy, and 24 right after 2 where no edge is there.
abbrev pub preview_of : (place : ℕ) → Room.Arrangement → (n floor : ℕ) → (a b : List ℕ) → List Float → (us vs : List ℕ) → List Float → Cost
preview_of place A n floor a b m us vs betas =
    told (refusal of_preview (preview_request place n floor a b (dropping place m) us vs betas)) (figures_of A n floor a b (dropping place m) us vs)
