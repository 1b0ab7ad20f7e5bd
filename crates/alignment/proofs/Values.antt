-- A value cut to steps, from its significand and the distance to the shared exponent.
use Rattle.std.proofs.Common.{◌≡◌, ℕ, zero, suc, ◌+◌, ◌*◌, ◌/◌, ◌%◌, ◌^◌, ◌<◌, ◌≤◌, min, not, eqb, ℤ, pos, negsuc, ◌+ℤ◌, ◌-ℤ◌, ◌*ℤ◌, neg_ℤ, nat_abs, ◌≤ℤ◌, sym, refl, ap, ◌∙◌, subst, ⊎_elim, mod-eq_of_lt, mul_assoc, suc-mul, mul_comm, add-mul, mul-le-mul_left, one-mul, div-add-mod', mul_right_comm, arith, pow_pos, pow_mono, pow-add, w64, SFits}
use native.Mathlib.Nat.{mul-div-mul_right, div-eq_of_lt, zero-div}
use lib.Signed.{quot_z}
use Rattle.std.proofs.lemmas.Int.{ints, unsigned_abs-mul}
use Rattle.std.proofs.lemmas.Bool.{cases_lt, ne_eqb}
use Rattle.sums.specs.Terms.{value, cut, lost, step_of}
use Rattle.formats.specs.Coding.{Decoded}

-- ---- n × 2^e by 2^k, and n × 2^x by 2^b, where e + b is k + x
module _ (n e k x b : ℕ) (level : e + b ≡ k + x) where
  crossed : n * 2 ^ e * 2 ^ b ≡ n * 2 ^ x * 2 ^ k
  crossed =
      mul_assoc n (2 ^ e) (2 ^ b) ∙ ap (λ z. n * z) (sym (pow-add 2 e b) ∙ ap (λ z. 2 ^ z) level ∙ pow-add 2 k x ∙ mul_comm (2 ^ k) (2 ^ x))
      ∙ sym (mul_assoc n (2 ^ x) (2 ^ k))

  pub same_quotient : n * 2 ^ e / 2 ^ k ≡ n * 2 ^ x / 2 ^ b
  same_quotient =
      sym (mul-div-mul_right (n * 2 ^ e) (2 ^ k) (pow_pos b))
      ∙ ap (λ z. z / (2 ^ k * 2 ^ b)) crossed ∙ ap (λ z. n * 2 ^ x * 2 ^ k / z) (mul_comm (2 ^ k) (2 ^ b))
      ∙ mul-div-mul_right (n * 2 ^ x) (2 ^ b) (pow_pos k)

  rests : (n * 2 ^ e) % 2 ^ k * 2 ^ b ≡ (n * 2 ^ x) % 2 ^ b * 2 ^ k
  rests =
      let q = n * 2 ^ x / 2 ^ b in
      let one : (q * 2 ^ k + (n * 2 ^ e) % 2 ^ k) * 2 ^ b ≡ n * 2 ^ e * 2 ^ b =
      ap (λ z. z * 2 ^ b) (ap (λ z. z * 2 ^ k + (n * 2 ^ e) % 2 ^ k) (sym same_quotient) ∙ div-add-mod' (n * 2 ^ e) (2 ^ k)) in
      let two : (q * 2 ^ b + (n * 2 ^ x) % 2 ^ b) * 2 ^ k ≡ n * 2 ^ x * 2 ^ k = ap (λ z. z * 2 ^ k) (div-add-mod' (n * 2 ^ x) (2 ^ b)) in
      omega (arith, one, two, crossed, add-mul (q * 2 ^ k) ((n * 2 ^ e) % 2 ^ k) (2 ^ b), add-mul (q * 2 ^ b) ((n * 2 ^ x) % 2 ^ b) (2 ^ k), mul_right_comm q (2 ^ k) (2 ^ b))

  pub same_rest : eqb ((n * 2 ^ e) % 2 ^ k) 0 ≡ eqb ((n * 2 ^ x) % 2 ^ b) 0
  same_rest = alike ((n * 2 ^ e) % 2 ^ k) ((n * 2 ^ x) % 2 ^ b) (2 ^ b) (2 ^ k) (pow_pos b) (pow_pos k) rests
    where
      alike : (r t u v : ℕ) → 0 < u → 0 < v → r * u ≡ t * v → eqb r 0 ≡ eqb t 0
      alike zero zero u v p q h = refl
      alike zero (suc t) u v p q h = absurd (omega (arith, h, suc-mul t v))
      alike (suc r) zero u v p q h = absurd (omega (arith, h, suc-mul r u))
      alike (suc r) (suc t) u v p q h = ne_eqb (suc r) 0 (λ e. omega arith) ∙ sym (ne_eqb (suc t) 0 (λ e. omega arith))

-- ---- past 36 bits nothing is left
pub capped : (n b : ℕ) → n < 2 ^ 36 → (n / 2 ^ min b 36 ≡ n / 2 ^ b) × (n % 2 ^ min b 36 ≡ n % 2 ^ b)
capped n b h = ⊎_elim (λ k. small (omega (arith, k))) (λ k. large k) (cases_lt b 36)
  where
    small : min b 36 ≡ b → (n / 2 ^ min b 36 ≡ n / 2 ^ b) × (n % 2 ^ min b 36 ≡ n % 2 ^ b)
    small e = (ap (λ z. n / 2 ^ z) e, ap (λ z. n % 2 ^ z) e)

    large : 36 ≤ b → (n / 2 ^ min b 36 ≡ n / 2 ^ b) × (n % 2 ^ min b 36 ≡ n % 2 ^ b)
    large k =
        let e : min b 36 ≡ 36 = omega arith in
        let far : n < 2 ^ b = omega (arith, h, pow_mono k) in
        (ap (λ z. n / 2 ^ z) e ∙ div-eq_of_lt h ∙ sym (div-eq_of_lt far), ap (λ z. n % 2 ^ z) e ∙ mod-eq_of_lt h ∙ sym (mod-eq_of_lt far))

-- ---- signs
neg_quotient : (n k : ℕ) → quot_z (neg_ℤ (pos n)) (pos k) ≡ neg_ℤ (pos (n / k))
neg_quotient zero k = ap pos (zero-div k) ∙ sym (ap (λ z. neg_ℤ (pos z)) (zero-div k))
neg_quotient (suc n) k = refl

pub signed_quotient : (s : ℤ) (n k : ℕ) → nat_abs s ≡ 1 → quot_z (s *ℤ pos n) (pos k) ≡ s *ℤ pos (n / k)
signed_quotient (pos a) n k e = subst (λ (z : ℕ). quot_z (pos (z * n)) (pos k) ≡ pos (z * (n / k))) (sym e) (ap (λ z. pos (z / k)) (one-mul n) ∙ sym (ap pos (one-mul (n / k))))
signed_quotient (negsuc a) n k e = subst (λ (z : ℕ). quot_z (neg_ℤ (pos (z * n))) (pos k) ≡ neg_ℤ (pos (z * (n / k)))) (sym e) (ap (λ z. quot_z (neg_ℤ (pos z)) (pos k)) (one-mul n) ∙ neg_quotient n k ∙ sym (ap (λ z. neg_ℤ (pos z)) (one-mul (n / k))))

pub fits_small : (z : ℤ) → nat_abs z < 2 ^ 36 → SFits w64 z
fits_small (pos n) h = record { sfits = omega arith }
fits_small (negsuc n) h = record { sfits = omega arith }

-- ---- a word
-- the significand before the shift
pub scaled_small : (n x : ℕ) → n < 2 ^ 24 → x ≤ 12 → n * 2 ^ x < 2 ^ 36
scaled_small n x h k = let p : 2 ^ x ≤ 2 ^ 12 = pow_mono k in omega (arith, mul-le-mul_left n p)

module _ (d : Decoded) (shared : ℤ) (x : ℕ) (signed : nat_abs d.0 ≡ 1) (low : neg_ℤ (pos 400) ≤ℤ d.2) (under : d.2 ≤ℤ shared) (few : x ≤ 12) where
  level : nat_abs (d.2 +ℤ pos 412) + nat_abs (shared -ℤ d.2) ≡ nat_abs (shared -ℤ pos x +ℤ pos 412) + x
  level = omega (arith, ints)

  pub cut_is : d.0 *ℤ pos (d.1 * 2 ^ x / 2 ^ nat_abs (shared -ℤ d.2)) ≡ cut (step_of shared x) (value d)
  cut_is =
      ap (λ z. d.0 *ℤ pos z) (sym (same_quotient d.1 (nat_abs (d.2 +ℤ pos 412)) (nat_abs (shared -ℤ pos x +ℤ pos 412)) x (nat_abs (shared -ℤ d.2)) level))
      ∙ sym (signed_quotient d.0 (d.1 * 2 ^ nat_abs (d.2 +ℤ pos 412)) (step_of shared x) signed)

  pub lost_is : not (eqb ((d.1 * 2 ^ x) % 2 ^ nat_abs (shared -ℤ d.2)) 0) ≡ lost (step_of shared x) (value d)
  lost_is =
      let size : nat_abs (value d) ≡ d.1 * 2 ^ nat_abs (d.2 +ℤ pos 412) = unsigned_abs-mul d.0 (pos (d.1 * 2 ^ nat_abs (d.2 +ℤ pos 412))) ∙ ap (λ z. z * (d.1 * 2 ^ nat_abs (d.2 +ℤ pos 412))) signed ∙ one-mul _ in
      ap not (sym (same_rest d.1 (nat_abs (d.2 +ℤ pos 412)) (nat_abs (shared -ℤ pos x +ℤ pos 412)) x (nat_abs (shared -ℤ d.2)) level))
      ∙ sym (ap (λ z. not (eqb (z % step_of shared x) 0)) size)
