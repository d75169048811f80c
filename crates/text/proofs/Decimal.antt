-- The laws of `decimal`: its digits one by one, that they are the library's, and how many there are. Assumes nothing.
use mathlib.Core.Path.{◌≡◌, refl, sym, ap, ◌∙◌}
use mathlib.Core.List.{List, [], ◌∷◌, ◌++◌}
use Prim.Native.Nat.{ℕ, zero, suc, ◌+◌, ◌*◌, ◌/◌, ◌%◌, ◌^◌, ◌≤◌, ◌<◌}
use native.Mathlib.Nat.{pow-suc, lt_of_lt_of_le}
use native.Mathlib.Decide.{dec_lt}
use native.Mathlib.Omega.{arith}
use borrow.Author.Tests.{lt-ltb, le-ltb}
use lib.Dec.{lit≤}
use lib.ListN.{length, length-append}
use Rattle.rules.specs.Text.{digits, decimal}
use Rattle.std.specs.Fmt.{decimal as plain}
use Rattle.std.proofs.lemmas.Fmt.{decimal_by_steps, length-decimal-le}

digits_one : (k n : ℕ) → n < 10 → digits k n ≡ (48 + n) ∷ []
unfolding digits
digits_one zero n h = refl
digits_one (suc k) n h = simp (lt-ltb n 10 h)

digits_more : (k n : ℕ) → 10 ≤ n → digits (suc k) n ≡ digits k (n / 10) ++ ((48 + n % 10) ∷ [])
unfolding digits
digits_more k n h = simp (le-ltb n 10 h)

-- how many more digits are allowed does not matter where they are enough
digits_enough : (k j n : ℕ) → n ≤ k → n ≤ j → digits k n ≡ digits j n
digits_enough zero j n h g = digits_one zero n (omega arith) ∙ sym (digits_one j n (omega arith))
digits_enough (suc k) zero n h g = digits_one (suc k) n (omega arith) ∙ sym (digits_one zero n (omega arith))
digits_enough (suc k) (suc j) n h g =
    elim (dec_lt n 10) [
      | yes lt ↦ digits_one (suc k) n lt ∙ sym (digits_one (suc j) n lt)
      | no ge ↦
          digits_more k n (omega arith)
          ∙ ap (λ (l : List ℕ). l ++ ((48 + n % 10) ∷ [])) (digits_enough k j (n / 10) (omega arith) (omega arith))
          ∙ sym (digits_more j n (omega arith))
    ]

pub decimal_one : (n : ℕ) → n < 10 → decimal n ≡ (48 + n) ∷ []
unfolding decimal
decimal_one n h = digits_one n n h

decimal_more : (n : ℕ) → 10 ≤ n → decimal n ≡ decimal (n / 10) ++ ((48 + n % 10) ∷ [])
unfolding decimal
decimal_more zero h = absurd (omega arith)
decimal_more (suc k) h =
    digits_more k (suc k) h ∙ ap (λ (l : List ℕ). l ++ ((48 + suc k % 10) ∷ [])) (digits_enough k (suc k / 10) (suc k / 10) (omega arith) (omega arith))

pub length_one : (n : ℕ) → n < 10 → length (decimal n) ≡ 1
length_one n h = ap length (decimal_one n h)

length_more : (n : ℕ) → 10 ≤ n → length (decimal n) ≡ length (decimal (n / 10)) + 1
length_more n h = ap length (decimal_more n h) ∙ length-append (decimal (n / 10)) _

-- by the powers of ten on either side
pub length_power : (k n : ℕ) → 10 ^ k ≤ n → n < 10 * 10 ^ k → length (decimal n) ≡ k + 1
length_power zero n h g = length_one n (omega arith)
length_power (suc k) n h g =
    let p : 10 ^ k * 10 ≤ n = rw (← pow-suc 10 k) h in
    let q : n < 10 * (10 ^ k * 10) = rw (← pow-suc 10 k) g in
    omega (arith, length_more n (omega arith), length_power k (n / 10) (omega arith) (omega arith))

-- the library's digits are the same
pub standard : (n : ℕ) → n < 2 ^ 64 → decimal n ≡ plain n
standard n h =
    decimal_by_steps
    (λ (m : ℕ) (ds : List ℕ). decimal m ≡ ds)
    decimal_one
    (λ (m : ℕ) (ds : List ℕ) (ten : 10 ≤ m) (front : decimal (m / 10) ≡ ds). decimal_more m ten ∙ ap (λ (l : List ℕ). l ++ ((48 + m % 10) ∷ [])) front)
    n
    h

-- a number below 2 to the power 64 has at most 20 digits
pub length_most : (n : ℕ) → n < 2 ^ 64 → length (decimal n) ≤ 20
length_most n h = rw (standard n h) (length-decimal-le 20 n (omega arith) (lt_of_lt_of_le h (lit≤ tt)) h)
