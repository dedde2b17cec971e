-- A request of the code, and what it asks. Assumes nothing.
use Rattle.std.specs.Prelude.{ℕ, Bool, true, ◌&&◌, List, ◌==◌}
use Rattle.update.specs.declared.request.Request.{Request}
use Rattle.update.specs.declared.request.Request.TheVariants.{Put, Away}
use Rattle.update.specs.Answers.{ask_refusal, put_refusal}
use Rattle.update.specs.Putting.{room_for}
use Rattle.update.specs.Requests.{Asked, put, away}

abbrev pub asked : Request → Asked
asked (Put x c n) = put x.now c.now n
asked (Away x n) = away x.now n

-- the number with which the request is refused, or 0
abbrev pub refusal : List ℕ → Asked → ℕ
refusal d (put x c n) = put_refusal d x c
refusal d (away x n) = ask_refusal d x

-- whether there is room for it
abbrev pub roomy : List ℕ → Asked → Bool
roomy d (put x c n) = room_for d x c
roomy d (away x n) = true

-- whether it is begun: not refused, and with room
abbrev pub begun : List ℕ → Asked → Bool
begun d a = refusal d a == 0 && roomy d a
