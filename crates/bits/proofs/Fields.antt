-- Laws of fields over a file's bytes: whole bytes are a field, and a field is the whole bytes that hold it, cut at both ends. Assumes nothing.
use Prim.Native.Nat.{ℕ, zero, suc, ◌+◌, ◌-◌, ◌*◌, ◌/◌, ◌%◌, ◌^◌, ◌≤◌}
use mathlib.Core.Path.{◌≡◌, sym, ◌∙◌, ap, ap₂}
use mathlib.Core.List.{List, [], ◌∷◌}
use native.Mathlib.Omega.{arith}
use lib.ListN.{get_or}
use lib.Pow.{field as digits, shl-shr, shr-shr}
use Rattle.rules.specs.Field.{field}
use Rattle.rules.proofs.Fields.{field_split, field_part}
use Rattle.std.proofs.Common.{Fits, w8, w64, rules}
use Rattle.std.specs.Int.{from_le_bytes, from_be_bytes, swap_bytes}
use Rattle.std.proofs.lemmas.Nat.{le_bytes_8}

-- a field of no bits
pub field_none : (b : List ℕ) (at : ℕ) {w : ℕ} → w ≡ 0 → 0 ≡ field b at w
unfolding field
field_none b at e = rw e

module _ (b : List ℕ) (bytes : (i : ℕ) → Fits w8 (get_or b i 0)) (k : ℕ) where
  -- the first n bits of a byte
  byte_front : (n : ℕ) → n ≤ 8 → field b (k * 8) n ≡ get_or b k 0 / 2 ^ (8 - n)
  unfolding field
  byte_front zero l = let h = (bytes k).fits in omega arith
  byte_front (suc n) l =
      let byte : (k * 8 + n) / 8 ≡ k = omega arith in
      let place : (k * 8 + n) % 8 ≡ n = omega arith in
      let before : 8 - n ≡ 7 - n + 1 = omega arith in
      let after : 8 - suc n ≡ 7 - n = omega arith in
      rw (byte_front n (omega arith), byte, place, before, ← shr-shr, after) (omega arith)

  field_byte : get_or b k 0 ≡ field b (k * 8) 8
  field_byte = sym (byte_front 8 (omega arith) ∙ omega arith)

module _ (b : List ℕ) (bytes : (i : ℕ) → Fits w8 (get_or b i 0)) (k : ℕ) where
  -- n bytes and one more
  pub field_more : (n : ℕ) {x : ℕ} → x ≡ field b (k * 8) (n * 8) → x * 256 + get_or b (k + n) 0 ≡ field b (k * 8) (n * 8 + 8)
  field_more n e =
      ap₂ (λ (u v : ℕ). u * 256 + v) e (field_byte b bytes (k + n) ∙ ap (λ (a : ℕ). field b a 8) (omega arith)) ∙ sym (field_split b (k * 8) (n * 8) 8)

  -- eight bytes, the first the most significant
  pub field_eight : {w : ℕ}
      → w ≡ get_or b k 0 * 2 ^ 56 + get_or b (k + 1) 0 * 2 ^ 48 + get_or b (k + 2) 0 * 2 ^ 40 + get_or b (k + 3) 0 * 2 ^ 32
      + get_or b (k + 4) 0 * 2 ^ 24 + get_or b (k + 5) 0 * 2 ^ 16 + get_or b (k + 6) 0 * 2 ^ 8 + get_or b (k + 7) 0
      → w ≡ field b (k * 8) 64
  field_eight {w} e =
      let two = field_more 1 (field_byte b bytes k) in
      let four = field_more 3 (field_more 2 two) in
      let six = field_more 5 (field_more 4 four) in
      let eight = field_more 7 (field_more 6 six) in
      omega (arith, e, eight)

-- eight bytes joined the least significant first, and then turned round
pub turned : {b0 b1 b2 b3 b4 b5 b6 b7 w v : ℕ} → Fits w8 b0 → Fits w8 b1 → Fits w8 b2 → Fits w8 b3 → Fits w8 b4 → Fits w8 b5 → Fits w8 b6 → Fits w8 b7
    → w ≡ from_le_bytes w64 (b0 ∷ b1 ∷ b2 ∷ b3 ∷ b4 ∷ b5 ∷ b6 ∷ b7 ∷ []) → v ≡ swap_bytes w64 w
    → v ≡ from_be_bytes w64 (b0 ∷ b1 ∷ b2 ∷ b3 ∷ b4 ∷ b5 ∷ b6 ∷ b7 ∷ [])
turned {b0} {b1} {b2} {b3} {b4} {b5} {b6} {b7} {w} f0 f1 f2 f3 f4 f5 f6 f7 e t =
    t ∙ ap (from_be_bytes w64) (le_bytes_8 (b0 ∷ b1 ∷ b2 ∷ b3 ∷ b4 ∷ b5 ∷ b6 ∷ b7 ∷ []) w (search rules) (search rules) e)

-- bits shifted out at the front, and then t at the end
shifted : (n skip w t : ℕ) → n * 2 ^ skip % 2 ^ (w + (skip + t)) / 2 ^ (skip + t) ≡ n / 2 ^ t % 2 ^ w
shifted n skip w t = rw (digits (n * 2 ^ skip) w (skip + t), ← shr-shr (n * 2 ^ skip) skip t, shl-shr)

-- a field of at most 57 bits, cut out of the eight bytes that hold it
pub field_of_eight : (b : List ℕ) (at w : ℕ) {eight : ℕ} → w ≤ 57 → eight ≡ field b (at / 8 * 8) 64
    → eight * 2 ^ (at % 8) % 2 ^ 64 / 2 ^ (64 - w) ≡ field b at w
field_of_eight b at w {eight} h e =
    ap₂ (λ (m n : ℕ). eight * 2 ^ (at % 8) % 2 ^ m / 2 ^ n) {x = 64} {y = w + (at % 8 + t)} {u = 64 - w} {v = at % 8 + t} (omega arith) (omega arith)
    ∙ shifted eight (at % 8) w t
    ∙ ap (λ (x : ℕ). x / 2 ^ t % 2 ^ w) (e ∙ ap (λ (n : ℕ). field b (at / 8 * 8) n) {x = 64} {y = at % 8 + w + t} (omega arith))
    ∙ field_part b (at / 8 * 8) (at % 8) w t ∙ ap (λ (a : ℕ). field b a w) (omega arith)
  where
    t : ℕ
    t = 64 - at % 8 - w
