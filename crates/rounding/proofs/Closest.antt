-- `closest` in the words of a distance: no multiple of u is nearer to n than closest n u * u, and where another one is as near, closest n u is even.
use Rattle.std.proofs.Common.{◌≡◌, ℕ, suc, ◌+◌, ◌*◌, ◌/◌, ◌%◌, ◌<◌, ◌≤◌, not, T, ◌⊎◌, refl, ap, ◌∙◌, inl, inr, mul-le-mul_right, mod-lt, suc-mul, div-add-mod', arith, eqb→eq, leb→le}
use Prim.Native.Nat.{compare, Ordering}
use lib.Dec.{is_le, compare_is_eq, nleb→lt}
use lib.Ieee.{nearest}
use lib.Ieee.Fits.{eq→eqb}
use lib.Ieee.Nearest.{closest}
use Rattle.std.proofs.lemmas.Bool.{cases_lt, cases_order}
use Rattle.rounding.specs.Nearest.{distance}

-- Of the whole part a, with the rest b, and the number after a the one that is taken is q.
data Side (q a b u : ℕ) : Type 0 where
  lower : q ≡ a → b * 2 ≤ u → (b * 2 ≡ u → q % 2 ≡ 0) → Side q a b u
  upper : q ≡ suc a → u ≤ b * 2 → (b * 2 ≡ u → q % 2 ≡ 0) → Side q a b u

side : (n u : ℕ) → Side (closest n u) (n / u) (n % u) u
side n u = go (n / u) (n % u) (compare (n % u * 2) u) (leb→le (n % u * 2) u) (nleb→lt (n % u * 2) u) (eqb→eq (n % u * 2) u) eq→eqb
  where
    tie : (a b : ℕ) → b * 2 ≡ u → Side (a + a % 2) a b u
    tie a b e = elim (cases_lt (a % 2) 1) [ inl z ↦ lower (omega arith) (omega arith) (λ _. omega arith) | inr z ↦ upper (omega arith) (omega arith) (λ _. omega arith) ]

    go : (a b : ℕ) (o : Ordering) → (T (is_le o) → b * 2 ≤ u) → (T (not (is_le o)) → u < b * 2) → (T (compare_is_eq o) → b * 2 ≡ u) → (b * 2 ≡ u → T (compare_is_eq o)) → Side (nearest a o) a b u
    go a b Ordering.lt le gt eq same = lower refl (le tt) (λ e. absurd (same e))
    go a b Ordering.eq le gt eq same = tie a b (eq tt)
    go a b Ordering.gt le gt eq same = let g : u < b * 2 = gt tt in upper refl (omega arith) (λ e. omega arith)

module _ (n u c : ℕ) (some : 0 < u) where
  -- where the multiple c * u lies: at the whole part's, below it or above it
  data Lies : Type 0 where
    at : c * u ≡ n / u * u → Lies
    under : c * u + u ≤ n / u * u → Lies
    over : n / u * u + u ≤ c * u → Lies

  lies : Lies
  lies = elim (cases_order c (n / u)) [
    | inl e ↦ at (ap (λ (x : ℕ). x * u) e)
    | inr h ↦ elim h [
      | inl l ↦ under (rw (suc-mul c u) at (mul-le-mul_right u l))
      | inr g ↦ over (rw (suc-mul (n / u) u) at (mul-le-mul_right u g))
    ]
  ]

  -- the taken multiple, over that of the whole part
  taken : (q : ℕ) → q ≡ suc (n / u) → q * u ≡ n / u * u + u
  taken q e = ap (λ (x : ℕ). x * u) e ∙ suc-mul (n / u) u

  pub closest_least : distance (closest n u * u) n ≤ distance (c * u) n
  closest_least =
      let split : n / u * u + n % u ≡ n = div-add-mod' n u in
      let rest : n % u < u = mod-lt n some in
      elim (side n u) [
        | lower e h _ ↦ let q = ap (λ (x : ℕ). x * u) e in elim lies [ at p ↦ omega arith | under p ↦ omega arith | over p ↦ omega arith ]
        | upper e h _ ↦ let q = taken (closest n u) e in elim lies [ at p ↦ omega arith | under p ↦ omega arith | over p ↦ omega arith ]
      ]

  pub closest_even : distance (c * u) n ≡ distance (closest n u * u) n → (c * u ≡ closest n u * u) ⊎ (closest n u % 2 ≡ 0)
  closest_even same =
      let split : n / u * u + n % u ≡ n = div-add-mod' n u in
      let rest : n % u < u = mod-lt n some in
      elim (side n u) [
        | lower e h even ↦ let q = ap (λ (x : ℕ). x * u) e in elim lies [ at p ↦ inl (omega arith) | under p ↦ inl (omega arith) | over p ↦ inr (even (omega arith)) ]
        | upper e h even ↦ let q = taken (closest n u) e in elim lies [ at p ↦ inr (even (omega arith)) | under p ↦ inl (omega arith) | over p ↦ inl (omega arith) ]
      ]
