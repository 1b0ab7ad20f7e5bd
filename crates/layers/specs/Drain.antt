-- What the drain layer holds and means, and what its calls make of it.
use Rattle.std.specs.Prelude.{◌≡◌, ℕ, ◌+◌, cond, List, replicate, ℤ, pos, ◌==◌}
use Rattle.refusals.specs.Refusing.{unless}
use Rattle.units.specs.Meaning.{Meaning, Lawful, plus_each, cleared, add_check, added}
use Rattle.units.specs.declared.Unit as Unit
use Rattle.layers.specs.declared.draining.Drain.{Drain}
use Rattle.layers.specs.Layer.{Event, shown, after, unit_after}

-- the unit below, and what was moved up from it: the rows, and a sum for each column
pub record DrainState : Type 0 where
  pub below : Meaning
  pub rows : ℕ
  pub sums : List ℤ

-- a drain on a unit, with rows and sums of its own
abbrev pub drain_on : Meaning → ℕ → List ℤ → DrainState
drain_on below rows sums = record { below = below; rows = rows; sums = sums }

-- what a drain holds, by what a unit means
abbrev pub drain_holds : {U : Type 0} (unit : Unit.Ghosts U) → Drain U unit → DrainState
drain_holds unit d = drain_on (unit.meaning d.below) d.rows d.sums

-- a drain as it is made: on the unit cleared, with nothing moved up
abbrev pub drain_made : Meaning → DrainState
drain_made below = drain_on (cleared below) 0 (replicate 16 (pos 0))

-- its own rows and sums plus those below
abbrev pub drain_states : DrainState → Meaning
drain_states s = record { rows = s.rows + s.below.rows; limit = 65536; totals = plus_each s.below.totals s.sums; takes = s.below.takes }

-- what the drain means as a unit
abbrev pub drain : DrainState → Meaning
drain s = shown (drain_states s)

-- what a new drain means
abbrev pub fresh_drain : Meaning → Meaning
fresh_drain below = record { rows = 0; limit = 65536; totals = (cleared below).totals; takes = below.takes }

-- totals and rows moved up, and the unit below cleared
abbrev pub moved_up : DrainState → DrainState
moved_up s = drain_on (cleared s.below) (s.rows + s.below.rows) (plus_each s.sums s.below.totals)

-- the drain as an accepted add finds it: moved up where the unit below is at its limit
abbrev pub room_made : DrainState → DrainState
room_made s = cond (s.below.rows == s.below.limit) (moved_up s) s

-- the unit below with one row more
abbrev pub handed_down : DrainState → ℤ → List ℤ → DrainState
handed_down s a ws = drain_on (added s.below a ws) s.rows s.sums

-- what a call of add leaves
abbrev pub drain_add : DrainState → ℤ → List ℤ → DrainState
drain_add s a ws = unless (add_check (drain s) a ws) s (handed_down (room_made s) a ws)

-- what a call of clear leaves
abbrev pub drain_clear : DrainState → DrainState
drain_clear s = drain_made s.below

-- a drain made on a unit, after a list of events
abbrev pub drain_after : Meaning → List Event → DrainState
drain_after below events = after drain_add drain_clear (drain_made below) events

-- no list of calls makes a drain on a lawful unit show other than its own rows and sums plus those below
unfoldable pub DrainUnclamped : Type 0
DrainUnclamped = (below : Meaning) → Lawful below → (events : List Event) → drain (drain_after below events) ≡ drain_states (drain_after below events)

-- after every list of calls a drain on a lawful unit means what a single unit would that has room for 65,536 rows
unfoldable pub DrainSingle : Type 0
DrainSingle = (below : Meaning) → Lawful below → (events : List Event) → drain (drain_after below events) ≡ unit_after (fresh_drain below) events
