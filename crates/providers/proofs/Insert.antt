-- Where an ascending list takes a number, and what it then is. Assumes nothing.
use Prim.Native.Nat.{ℕ, zero, suc, ◌+◌, ◌≤◌, ◌<◌}
use mathlib.Core.Path.{◌≡◌, refl, ap, sym, ◌∙◌}
use mathlib.Core.Logic.{⊎_elim}
use mathlib.Core.Bool.{false, true≢false}
use mathlib.Core.List.{List, [], ◌∷◌, ◌++◌}
use native.Mathlib.Omega.{arith}
use lib.ListN.{length, get_or, take, drop, length-drop, length-append, take-append-drop}
use lib.Seq.{drop-cons, length-take-le, get_or-drop, take_at}
use borrow.Author.Tests.{lt-ltb, le-ltb, eq-eqb, ne_eqb}
use Rattle.rules.specs.Lists.{Ascending, insert}
use Rattle.rules.proofs.Lists.{three, ascends, insert_ascends}
use Rattle.std.specs.Prelude.{Result, Ok, Err, IsOk, OnOk, OnErr, MatchResult, insert as insert_at}
use Rattle.std.specs.Result.{is_ok}
use Rattle.std.specs.List.{refill}
use Rattle.rules.specs.declared.Breach.{Breach}
use Rattle.rules.specs.declared.Breach.TheVariants.{TooManyProviders}
use Rattle.providers.specs.Listed.{Ascends, Placed}

-- a number goes past those below it
pub insert_past : (p r : ℕ) (xs : List ℕ) → ((k : ℕ) → k < r → get_or xs k 0 < p) → r ≤ length xs → insert p xs ≡ take r xs ++ insert p (drop r xs)
unfolding insert
insert_past p zero xs below h = refl
insert_past p (suc r) [] below h = absurd (omega arith)
insert_past p (suc r) (x ∷ xs) below h =
    let l : x < p = below 0 (omega arith) in
    simp (le-ltb p x (omega arith), ne_eqb p x (omega arith)) (ap (λ ys. x ∷ ys) (insert_past p r xs (λ k m. below (suc k) (omega arith)) (omega arith)))

-- before one that is not below it, unless it is that one
pub insert_here : (p : ℕ) (xs : List ℕ) → (0 < length xs → p < get_or xs 0 0) → insert p xs ≡ p ∷ xs
unfolding insert
insert_here p [] h = refl
insert_here p (x ∷ xs) h = simp (lt-ltb p x (h (omega arith)))

pub insert_there : (p : ℕ) (xs : List ℕ) → insert p (p ∷ xs) ≡ p ∷ xs
unfolding insert
insert_there p xs = simp (le-ltb p p (omega arith), eq-eqb p p refl)

-- a list never shortens
pub insert_longer : (p : ℕ) (xs : List ℕ) → length xs ≤ length (insert p xs)
unfolding insert
insert_longer p [] = omega arith
insert_longer p (x ∷ xs) =
    ⊎_elim (λ l. simp (lt-ltb p x l) (omega arith))
    (⊎_elim (λ e. simp (le-ltb p x (omega arith), eq-eqb p x e) (omega arith))
    (λ g. simp (le-ltb p x (omega arith), ne_eqb p x (omega arith)) (omega (arith, insert_longer p xs))))
    (three p x)

-- the place of p in a list
module _ (ps : List ℕ) (p at : ℕ) (placed : Placed ps (length ps) p at) where
  past : insert p ps ≡ take at ps ++ insert p (drop at ps)
  past = insert_past p at ps placed.below placed.within

  -- what stands at the place
  at_place : get_or (drop at ps) 0 0 ≡ get_or ps at 0
  at_place = get_or-drop at ps 0 0 ∙ ap (λ k. get_or ps k 0) {x = at + 0} {y = at} (omega arith)

  pub there : at < length ps → get_or ps at 0 ≡ p → ps ≡ insert p ps
  there h e =
      let cons : drop at ps ≡ p ∷ drop (suc at) ps = drop-cons ps at 0 h ∙ ap (λ x. x ∷ drop (suc at) ps) e in
      sym (past ∙ (ap (λ ys. take at ps ++ insert p ys) cons ∙ (ap (λ ys. take at ps ++ ys) (insert_there p (drop (suc at) ps) ∙ sym cons) ∙ take-append-drop at ps)))

  module _ (absent : at < length ps → get_or ps at 0 ≡ p → ⊥) where
    before : 0 < length (drop at ps) → p < get_or (drop at ps) 0 0
    before h =
        let l : at < length ps = omega (arith, length-drop at ps) in
        ⊎_elim (λ a. a) (⊎_elim (λ e. absurd (absent l (sym at_place ∙ sym e))) (λ g. absurd (omega (arith, at_place, placed.here l)))) (three p (get_or (drop at ps) 0 0))

    pub put : insert p ps ≡ take at ps ++ p ∷ drop at ps
    put = past ∙ ap (λ ys. take at ps ++ ys) (insert_here p (drop at ps) before)

    pub longer : length (insert p ps) ≡ length ps + 1
    longer = ap length put ∙ (length-append (take at ps) (p ∷ drop at ps) ∙ omega (arith, length-take-le at ps placed.within, length-drop at ps))

-- a list that ascends by its places does so by its elements, and after a number was put in
pub ascending_by : (low : ℕ) (xs : List ℕ) → (0 < length xs → low ≤ get_or xs 0 0) → Ascends xs (length xs) → Ascending low xs
ascending_by low [] h up = tt
ascending_by low (x ∷ xs) h up = (h (omega arith), ascending_by (suc x) xs (λ k. up 0 1 (omega arith) (omega arith)) (λ i j k m. up (suc i) (suc j) (omega arith) (omega arith)))

pub insert_kept : (p : ℕ) (xs : List ℕ) → Ascends xs (length xs) → Ascends (insert p xs) (length (insert p xs))
insert_kept p xs up = ascends 0 (insert p xs) (insert_ascends p 0 xs (omega arith) (ascending_by 0 xs (λ h. omega arith) up))

-- PUT BEHIND THE OTHERS AND BROUGHT DOWN, to the place of a number that is not there
module _ (before pushed numbers : List ℕ) (p at : ℕ) (placed : Placed before (length before) p at) (absent : at < length before → get_or before at 0 ≡ p → ⊥)
    (behind : pushed ≡ before ++ p ∷ []) (down : (front : List ℕ) (last : ℕ) → pushed ≡ front ++ last ∷ [] → numbers ≡ insert_at front at last) where
  put_down : numbers ≡ insert p before
  put_down = down before p behind ∙ sym (put before p at placed absent)

  pub put_in : refill (length pushed) pushed numbers ≡ insert p before
  put_in =
      let long : length numbers ≡ length pushed = ap length put_down ∙ longer before p at placed absent ∙ sym (ap length behind ∙ length-append before (p ∷ [])) in
      ap (λ (n : ℕ). take n (numbers ++ drop (length numbers) pushed)) (sym long) ∙ take_at numbers (drop (length numbers) pushed) (length numbers) refl ∙ put_down

-- what is said of a value holds where there is one
pub where_ok : {T E A : Type 0} (r : Result T E) → IsOk r → OnOk r A → A
where_ok (Ok x) is a = a
where_ok (Err e) is a = absurd (true≢false (sym is))

-- the library's error is told as the breach
pub told : {T E A : Type 0} (r : Result T E) (b : Breach) (Y : T → Type 0) (P : E → Type 0) → false ≡ is_ok r → OnErr r A → ((e : E) → P e → b ≡ TooManyProviders) → MatchResult r Y P → (b ≡ TooManyProviders) × A
told (Ok x) b Y P err full breach made = absurd (true≢false (sym err))
told (Err e) b Y P err full breach made = (breach e made, full)
