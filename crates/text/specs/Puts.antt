-- The laws of what takes texts: one after another they are one text. A law that an impl proves may cite `specs` alone, so they stand here. Assumes nothing.
use mathlib.Core.Path.{◌≡◌, sym, ap, ◌∙◌}
use mathlib.Core.List.{List, ◌++◌, append_assoc}
use Prim.Native.Nat.{ℕ, ◌+◌, ◌≤◌}
use native.Mathlib.Omega.{arith}
use lib.ListN.{length, take, drop, set, length-append, length-set, take-append-drop}
use lib.Seq.{take_at, drop_at, drop-drop, length-take-le}
use Rattle.text.specs.Written.{Put, Taken}

-- two writes, the second where the first ended
pub put_then : {e m x s t : List ℕ} {at k end : ℕ} → Put e at s m k → Put m k t x end → Put e at (s ++ t) x end
put_then {e} {m} {x} {s} {t} {at} {k} {end} p q =
    let head = take at e ++ s in
    let fits : at ≤ length e = omega (arith, p.room, p.ends) in
    let size : length head ≡ k = length-append (take at e) s ∙ omega (arith, length-take-le at e fits, p.ends) in
    let front : take k m ≡ head = ap (take k) p.written ∙ take_at head (drop k e) k size in
    let back : drop k m ≡ drop k e = ap (drop k) p.written ∙ drop_at head (drop k e) k size in
    let last : drop end m ≡ drop end e =
    ap (λ (n : ℕ). drop n m) q.ends ∙ sym (drop-drop (length t) k m) ∙ ap (drop (length t)) back ∙ drop-drop (length t) k e ∙ ap (λ (n : ℕ). drop n e) (sym q.ends) in
    record {
      room = omega (arith, q.room, p.long);
      ends = omega (arith, q.ends, p.ends, length-append s t);
      long = q.long ∙ p.long;
      written = q.written ∙ rw (front, last) (simp append_assoc);
    }

-- a write by what stands before it and from it on
pub put_parts : (e x s : List ℕ) (at end : ℕ) → at + length s ≡ end → end ≤ length e → length x ≡ length e → take at x ≡ take at e → drop at x ≡ s ++ drop end e → Put e at s x end
put_parts e x s at end h room long before behind =
    record {
      room = room;
      ends = sym h;
      long = long;
      written = sym (take-append-drop at x) ∙ rw (before, behind) (sym (append_assoc (take at e) s (drop end e)));
    }

-- two lengths added are that of both texts
pub counts_on : (a b c : ℕ) (s t : List ℕ) → b ≡ a + length s → c ≡ b + length t → c ≡ a + length (s ++ t)
counts_on a b c s t p q = omega (arith, length-append s t)

-- whatever takes two texts one after another has taken one text
pub taken_then : {S : Type 0} {at end : S → ℕ} {takes : S → List ℕ → S → Type 0} {a b c : S} {s t : List ℕ} →
    ((a b c : S) (s t : List ℕ) → takes a s b → takes b t c → takes a (s ++ t) c) →
    Taken at end takes a s b →
    Taken at end takes b t c →
    Taken at end takes a (s ++ t) c
taken_then {S} {at} {end} {takes} {a} {b} {c} {s} {t} goes_on p q =
    record {
      further = omega (arith, p.further, q.further, length-append s t);
      as_far = q.as_far ∙ p.as_far;
      whole = goes_on a b c s t p.whole q.whole;
    }

-- what a sink's room is reckoned by
pub ruleset sizes = (length-append)
