-- What callers say of the events of one time.
use Rattle.std.specs.Prelude.{ℕ, ◌-◌, ◌==◌, List, Option, filter, length, slice_get}
use Rattle.iddqd.specs.Contents.{items_without}
use Rattle.test_callers.specs.declared.items.Event.{Event}

-- the events of the time
abbrev pub of_time : ℕ → List Event → List Event
of_time time events = filter (λ e. time == e.at.time) events

-- the last of them
abbrev pub last_of_time : ℕ → List Event → Option Event
last_of_time time events = slice_get (of_time time events) (length (of_time time events) - 1)

-- all of other times
abbrev pub without_time : ℕ → List Event → List Event
without_time time events = items_without (λ e. e.at) (λ at. time == at.time) events

-- the event, once this much is taken off what it took
abbrev pub taken_off : ℕ → Event → Event
taken_off off e = record e { took = e.took - off }
