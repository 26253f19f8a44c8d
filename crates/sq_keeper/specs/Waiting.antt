-- For how long a process may owe an answer.
use Rattle.std.specs.Prelude.{ℕ, ◌-◌, Bool, not, nat_lt}

-- for how many milliseconds a process may owe an answer
abbrev pub answer_time : ℕ
answer_time = 60000

-- whether so much time has passed between two moments
abbrev pub has_waited : ℕ → ℕ → Bool
has_waited since now = not (nat_lt (now - since) answer_time)
