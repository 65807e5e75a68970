-- What was read of standard input and is not yet used: the bytes `at` to `end` of a buffer.
use Rattle.std.specs.Prelude.{Bool, false, cond, ◌&&◌, List, [], ℕ, ◌+◌, ◌-◌, min, eqb, leb, ltb, get_or, length, take, drop}
use Rattle.feed.specs.declared.input.Flow.{Flow}
use Rattle.feed.specs.declared.input.Input.{Input}
use Rattle.feed.specs.declared.input.Span.{Span}

-- the bytes of a buffer from one place to another; none where it does not have them
abbrev pub bytes_of : Span → List ℕ → List ℕ
bytes_of s buffer = cond (leb s.from s.to && leb s.to (length buffer)) (take (s.to - s.from) (drop s.from buffer)) []

-- before a byte of it is read
abbrev pub unread : Input
unread = record { at = 0; end = 0; flow = Flow.Open }

-- how many bytes those are
abbrev pub held_in : Input → ℕ
held_in i = i.end - i.at

-- after n of them, or after all where there are fewer
abbrev pub past_bytes : Input → ℕ → Input
past_bytes i n = record { at = min (i.at + n) i.end; end = i.end; flow = i.flow }

-- where the next n bytes of a buffer of that length stand; none where it ends before
abbrev pub next_bytes : Input → ℕ → ℕ → Span
next_bytes i n len = cond (leb (i.at + n) len) record { from = i.at; to = i.at + n } record { from = 0; to = 0 }

-- a line feed stands behind the next n bytes
abbrev pub feed_behind : Input → ℕ → List ℕ → Bool
feed_behind i n buffer = cond (ltb n (held_in i)) (eqb (get_or buffer (i.at + n) 0) 10) false
