-- What a burst under way stands for.
use Rattle.engines.specs.declared.taken.Taken.{Taken}
use Rattle.engines.specs.declared.task.Task.{Task}

-- the burst as it was taken
abbrev pub task_burst : {R : Type 0} → Task R → Taken
task_burst t = record { burst = t.walk.burst; verdict = t.verdict }

-- what its answers so far join to
abbrev pub task_sum : {R : Type 0} → Task R → R
task_sum t = t.sum.sum
