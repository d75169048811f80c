-- Quotients, remainders and bits. Assumes nothing.
use Prim.Native.Nat.{ℕ, zero, suc, ◌+◌, ◌*◌, ◌/◌, ◌%◌, ◌^◌, ◌-◌, ◌≤◌, ◌<◌}
use mathlib.Core.Logic.{◌⊎◌, inl, inr, ⊎_elim}
use mathlib.Core.Path.{◌≡◌, refl, ap, sym, ◌∙◌}
use native.Mathlib.Omega.{arith}
use native.Mathlib.Nat.{pow-suc, div-div-eq-div-mul, div-eq_of_lt, div-le_self, div-one, le_of_lt, mul-le-mul_left, mul-le-mul_right, mul-lt-mul_of_pos_right, pow-le-pow_right, le-div_iff_mul-le}
use native.Mathlib.Decide.{dec_lt}
use lib.Arith.{digits_div}
use lib.Dec.{eqb}
use lib.Count.{count_leading_zeros, leading_length}
use lib.Pow.{pow_pos, pow-add}
use Rattle.rules.specs.Sums.{only}
use Rattle.rules.proofs.Shares.{div_mono}
use Rattle.exact.specs.declared.Parts.{Parts}
use Rattle.exact.specs.Parts.{value, Of}

-- a number by which the divisor is no more than n is no more than n's quotient
pub quotient_fits : {n d m : ℕ} (q : ℕ) → n / d < m → 0 < d → q * d ≤ n → q < m
quotient_fits q fits h g = omega (arith, (le-div_iff_mul-le h).1 g)

-- one bit more of a
halves : (a k : ℕ) → 0 < k → a / 2 ^ (k - 1) ≡ 2 * (a / 2 ^ k) + a / 2 ^ (k - 1) % 2
halves a k h =
    let e : suc (k - 1) ≡ k = omega arith in
    let p : 2 ^ (k - 1) * 2 ≡ 2 ^ k = sym (pow-suc 2 (k - 1)) ∙ ap (λ j. 2 ^ j) e in
    omega (arith, div-div-eq-div-mul a (2 ^ (k - 1)) 2, ap (λ z. a / z) p)

-- the bit of a number, by what is added where it is set
only_bit : (x v : ℕ) → only (eqb (x % 2) 1) v ≡ x % 2 * v
unfolding only
only_bit x v = elim (dec_lt (x % 2) 1) [
  | yes l ↦ let e : x % 2 ≡ 0 = omega arith in rw e (omega arith)
  | no g ↦ let e : x % 2 ≡ 1 = omega arith in rw e (omega arith)
]

-- the front of a, times b: one bit more, and no more than all bits
module _ (a b k : ℕ) where
  pub front_more : (x y : ℕ) → 0 < k → x ≡ a / 2 ^ k * b → y ≡ b → 2 * x + only (eqb (a / 2 ^ (k - 1) % 2) 1) y ≡ a / 2 ^ (k - 1) * b
  front_more x y h e f =
      let bit = a / 2 ^ (k - 1) % 2 in
      omega (arith, only_bit (a / 2 ^ (k - 1)) y, ap (λ z. z * b) (halves a k h), ap (λ z. bit * z) f)

  pub front_le : a / 2 ^ k * b ≤ a * b
  front_le = mul-le-mul_right b (div-le_self a (2 ^ k))

  pub front_all : k ≡ 0 → a / 2 ^ k * b ≡ a * b
  front_all e = ap (λ z. z * b) (ap (λ j. a / 2 ^ j) e ∙ div-one a)

-- the quotient alone
pub quotient : (d x w r : ℕ) → r < d → w * d + r ≡ x → w ≡ x / d
quotient d x w r h e = sym (ap (λ z. z / d) (sym e) ∙ digits_div w h)

-- above its binary digits a number has none
pub front_none : (a : ℕ) → a < 2 ^ 64 → a / 2 ^ (64 - count_leading_zeros 64 a) ≡ 0
front_none a h =
    let p = leading_length 64 a h in
    ap (λ j. a / 2 ^ j) {x = 64 - count_leading_zeros 64 a} {y = p.0} (omega (arith, p.1)) ∙ div-eq_of_lt p.2

-- a product that fits, by the binary digits of its factors
pub product_fits : (a b : ℕ) → a < 2 ^ 64 → b < 2 ^ 64 → 64 ≤ count_leading_zeros 64 a + count_leading_zeros 64 b → a * b < 2 ^ 64
product_fits a b ha hb h =
    let p = leading_length 64 a ha in
    let q = leading_length 64 b hb in
    let few : p.0 + q.0 ≤ 64 = omega (arith, p.1, q.1) in
    let all : 2 ^ (p.0 + q.0) ≤ 2 ^ 64 = pow-le-pow_right {n = 2} (omega arith) few in
    omega (arith, all, pow-add 2 p.0 q.0, mul-le-mul_left a (le_of_lt q.2), mul-lt-mul_of_pos_right p.2 (pow_pos q.0))

-- a sum whose remainders pass the divisor
pub carried : (p q : Parts) (d : ℕ) → p.rest < d → q.rest < d → d ≤ p.rest + q.rest →
    Of d (value p d + value q d) (record { whole = p.whole + q.whole + 1; rest = p.rest - (d - q.rest) })
carried p q d h k g = record { small = omega arith; is = omega arith }

zero_or_one : (n : ℕ) → n < 2 → (n ≡ 1) ⊎ (n ≡ 0)
zero_or_one zero h = inr refl
zero_or_one (suc n) h = inl (omega arith)

-- twice a number x, and y more where the bit is set: what each of the two sums asks, and what they come to
module _ (x y bit d m : ℕ) (fits : (2 * x + bit * y) / d < m) where
  pub twice_fits : (x + x) / d < m
  twice_fits = omega (arith, div_mono {m = x + x} {n = 2 * x + bit * y} d (omega arith))

  set : (z : ℕ) → bit < 2 → (bit ≡ 0 → ⊥) → z ≡ x + x → z + y ≡ 2 * x + bit * y
  set z small on e =
      let one : bit ≡ 1 = ⊎_elim (λ h. h) (λ h. absurd (on h)) (zero_or_one bit small) in
      omega (arith, ap (λ b. b * y) one)

  pub more_fits : (z : ℕ) → bit < 2 → (bit ≡ 0 → ⊥) → z ≡ x + x → (z + y) / d < m
  more_fits z small on e = omega (arith, ap (λ n. n / d) (set z small on e))

  pub set_is : {p : Parts} (z : ℕ) → bit < 2 → (bit ≡ 0 → ⊥) → z ≡ x + x → Of d (z + y) p → Of d (2 * x + bit * y) p
  set_is z small on e of = record { small = of.small; is = of.is ∙ set z small on e }

  pub unset_is : {p : Parts} → bit ≡ 0 → Of d (x + x) p → Of d (2 * x + bit * y) p
  unset_is off of = record { small = of.small; is = omega (arith, of.is, ap (λ b. b * y) off) }

-- a front of a, times b, has no greater quotient than the whole
pub front_fits : (a b k d m x y : ℕ) → a * b / d < m → 0 < k → x ≡ a / 2 ^ k * b → y ≡ b → (2 * x + only (eqb (a / 2 ^ (k - 1) % 2) 1) y) / d < m
front_fits a b k d m x y fits g e f =
    let le = div_mono d (front_le a b (k - 1)) in
    omega (arith, ap (λ z. z / d) (front_more a b k x y g e f))
