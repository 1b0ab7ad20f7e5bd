-- What the odd layer holds and means, and what its calls make of it.
use Rattle.std.specs.Prelude.{◌≡◌, ℕ, ◌+◌, max, List, map, ℤ, pos, ◌+ℤ◌, ◌-ℤ◌}
use Rattle.refusals.specs.Refusing.{unless}
use Rattle.units.specs.Meaning.{Meaning, Lawful, cleared, add_check, added}
use Rattle.units.specs.declared.Unit as Unit
use Rattle.layers.specs.declared.halving.Odd.{Odd}
use Rattle.layers.specs.Halving.{odd_of, half}
use Rattle.layers.specs.Layer.{Event, shown, after, unit_after}

-- the unit below, the rows added, and the sum of their aligned numbers
pub record OddState : Type 0 where
  pub below : Meaning
  pub rows : ℕ
  pub sum : ℤ

-- an odd layer on a unit, with rows and a sum of its own
abbrev pub odd_on : Meaning → ℕ → ℤ → OddState
odd_on below rows sum = record { below = below; rows = rows; sum = sum }

-- what an odd layer holds, by what a unit means
abbrev pub odd_holds : {U : Type 0} (unit : Unit.Ghosts U) → Odd U unit → OddState
odd_holds unit d = odd_on (unit.meaning d.below) d.rows d.sum

-- an odd layer as it is made: on the unit cleared, with no rows
abbrev pub odd_made : Meaning → OddState
odd_made below = odd_on (cleared below) 0 (pos 0)

-- a total below less the sum of the aligned numbers is twice the total; w is taken where 2w + 1 is taken below
abbrev pub odd_states : OddState → Meaning
odd_states s = record { rows = max s.rows s.below.rows; limit = s.below.limit; totals = map (λ t. half (t -ℤ s.sum)) s.below.totals; takes = λ w. s.below.takes (odd_of w) }

-- what the odd layer means as a unit
abbrev pub odd : OddState → Meaning
odd s = shown (odd_states s)

-- what a new odd layer means
abbrev pub fresh_odd : Meaning → Meaning
fresh_odd below = record { rows = 0; limit = below.limit; totals = (cleared below).totals; takes = λ w. below.takes (odd_of w) }

-- the unit below with one row more, of 2w + 1 for each weight w, and the number in the sum
abbrev pub odd_handed_down : OddState → ℤ → List ℤ → OddState
odd_handed_down s a ws = odd_on (added s.below a (map odd_of ws)) (s.rows + 1) (s.sum +ℤ a)

-- what a call of add leaves
abbrev pub odd_add : OddState → ℤ → List ℤ → OddState
odd_add s a ws = unless (add_check (odd s) a ws) s (odd_handed_down s a ws)

-- what a call of clear leaves
abbrev pub odd_clear : OddState → OddState
odd_clear s = odd_made s.below

-- an odd layer made on a unit, after a list of events
abbrev pub odd_after : Meaning → List Event → OddState
odd_after below events = after odd_add odd_clear (odd_made below) events

-- no list of calls makes an odd layer on a lawful unit show other than the larger row count and the halved totals
unfoldable pub OddUnclamped : Type 0
OddUnclamped = (below : Meaning) → Lawful below → (events : List Event) → odd (odd_after below events) ≡ odd_states (odd_after below events)

-- after every list of calls an odd layer on a lawful unit means what a single unit would that takes its weights itself
unfoldable pub OddSingle : Type 0
OddSingle = (below : Meaning) → Lawful below → (events : List Event) → odd (odd_after below events) ≡ unit_after (fresh_odd below) events
