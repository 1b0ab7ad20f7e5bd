-- What a layer shows: it keeps the laws, and within them it is what the layer states.
use Rattle.std.specs.Prelude.{◌≡◌, ℕ, suc, ◌≤◌, min, List, [], ◌∷◌, map, ℤ, pos, negsuc, neg_ℤ, unsigned_abs, refl}
use Rattle.std.proofs.Common.{ap, ◌∙◌, arith}
use Rattle.units.specs.Meaning.{Meaning, Bounded, reach}
use Rattle.layers.specs.Layer.{held, shown}

pub held_same : (n : ℕ) (z : ℤ) → unsigned_abs z ≤ n → held n z ≡ z
held_same n (pos k) h = ap pos (omega arith)
held_same n (negsuc k) h = ap (λ m. neg_ℤ (pos m)) (let e : min n (suc k) ≡ suc k = omega arith in e)

pub map_held : (n : ℕ) (ts : List ℤ) → Bounded n ts → map (held n) ts ≡ ts
map_held n [] b = refl
map_held n (t ∷ ts) b = ap (λ x. x ∷ map (held n) ts) (held_same n t (b 0)) ∙ ap (λ xs. t ∷ xs) (map_held n ts (λ c. b (suc c)))

pub shown_same : (m : Meaning) → m.rows ≤ m.limit → Bounded (reach m.rows) m.totals → shown m ≡ m
shown_same m within bounded =
    let with_rows : ℕ → Meaning = λ rows. record { rows = rows; limit = m.limit; totals = map (held (reach rows)) m.totals; takes = m.takes } in
    let with_totals : List ℤ → Meaning = λ ts. record { rows = m.rows; limit = m.limit; totals = ts; takes = m.takes } in
    let unclamped : min m.limit m.rows ≡ m.rows = omega arith in
    ap with_rows unclamped ∙ ap with_totals (map_held (reach m.rows) m.totals bounded)
