-- What every layer has: it shows what it states within the laws of a unit, and events change it.
use Rattle.std.specs.Prelude.{ℕ, suc, min, List, [], ◌∷◌, map, ℤ, pos, negsuc, neg_ℤ}
use Rattle.units.specs.Meaning.{Meaning, reach, after_add, cleared}

-- a number, or the bound on its side where it lies past it
abbrev pub held : ℕ → ℤ → ℤ
held bound (pos n) = pos (min bound n)
held bound (negsuc n) = neg_ℤ (pos (min bound (suc n)))

-- rows and totals as they are stated, or the limit and the bound where they would pass them
abbrev pub shown : Meaning → Meaning
shown m = let rows = min m.limit m.rows in record m { rows = rows; totals = map (held (reach rows)) m.totals }

-- a call that can change a layer: an add, be it accepted or refused, or a clear
pub data Event : Type 0 where
  Add : ℤ → List ℤ → Event
  Clear : Event

-- what a list of events makes of a state, by what an add and a clear make of it
abbrev pub after : {S : Type 0} → (S → ℤ → List ℤ → S) → (S → S) → S → List Event → S
after add clear s [] = s
after add clear s (Add a ws ∷ events) = after add clear (add s a ws) events
after add clear s (Clear ∷ events) = after add clear (clear s) events

-- what a list of events makes of a unit with no layer
abbrev pub unit_after : Meaning → List Event → Meaning
unit_after = after after_add cleared
