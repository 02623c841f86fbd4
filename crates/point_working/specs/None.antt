-- With no points the call is the call without: its answer, its three profiles, and the point profile as it was.
use Rattle.std.specs.Prelude.{ℕ, List, Result, Ok, Err}
use Rattle.balance_decision.specs.declared.Unworked.{Unworked}
use Rattle.working_outcome.specs.declared.Working.{Working}
use Rattle.working.specs.Working as working
use Rattle.point_working.specs.declared.PointWorking.{PointWorking}
use Rattle.point_working.specs.PointWorking.{none_blocked, answered, PointCalled, point_called}

-- a working that counts no point
abbrev pub uncounted : Result Working Unworked → Result PointWorking Unworked
uncounted (Err u) = Err u
uncounted (Ok w) = Ok (answered w none_blocked)

-- a call without points, told as one with
abbrev pub without : working.Called → List ℕ → PointCalled
without c q = point_called (uncounted c.answer) c.after q

-- the working beneath an answer with points
abbrev pub working_in : Result PointWorking Unworked → Result Working Unworked
working_in (Err u) = Err u
working_in (Ok w) = Ok w.working
