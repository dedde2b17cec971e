-- The writes of a plan. Assumes nothing.
use Rattle.std.specs.Prelude.{◌≡◌, ℕ, zero, suc, ◌+◌, ◌*◌, ◌≤◌, true, false, List, [], ◌∷◌, ◌++◌, length, drop, Some, None, Ok, Err, Option, Result}
use Rattle.std.specs.Option.{option_to_list}
use Rattle.update.specs.declared.answer.Done.{Done}
use Rattle.update.specs.declared.plan.Plan.{Plan}
use Rattle.update.specs.declared.writes.Writes.{Writes}
use Rattle.update.specs.Listed.{listed}
use Rattle.update.specs.Writes.{Write}
use Rattle.update.specs.Putting.{data_writes, put_writes, room_for}
use Rattle.update.specs.Requests.{Asked, writes}
use Rattle.update.specs.Asking.{refusal, roomy, begun}
use Rattle.update.specs.Said.{Says}

-- the content's bytes into the blocks of the plan, and then its last write, if it has one
unfoldable pub plan_writes : Plan → List Write
plan_writes p = data_writes (listed p.blocks) p.content.now ++ option_to_list p.last

-- write k of a list, from 0
abbrev pub nth_write : List Write → ℕ → Option Write
nth_write [] k = None
nth_write (w ∷ ws) zero = Some w
nth_write (w ∷ ws) (suc k) = nth_write ws k

-- of a plan's writes, those that are left
abbrev pub writes_left : Writes → List Write
writes_left s = drop s.given (plan_writes s.plan.now)

-- each write is into a block of the disk
abbrev pub OnDisk : List ℕ → List Write → Type 0
OnDisk d ws = (k : ℕ) (w : Write) → Some w ≡ nth_write ws k → 64 * w.to + 64 ≤ length d

-- what planning a put answers: nothing where there is no room, else a plan of its writes
abbrev pub PutPlan : (disk name content : List ℕ) → Option Plan → Type 0
PutPlan d x c None = room_for d x c ≡ false
PutPlan d x c (Some p) = (room_for d x c ≡ true) × (plan_writes p ≡ put_writes d x c)

-- what planning a request answers: a plan of its writes where it is begun, else the request's own answer
abbrev pub PlanSays : List ℕ → Asked → Result Plan Done → Type 0
PlanSays d a (Ok p) = (begun d a ≡ true) × (plan_writes p ≡ writes d a)
PlanSays d a (Err r) = (begun d a ≡ false) × Says (refusal d a) d a (roomy d a) r d
