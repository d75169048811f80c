-- The numbers that the services give: none is 0, the report service refuses with no number over 14, and no report is under 52 bytes, so that
-- service's one number tells a length from a refusal. Assumes nothing.
use Prim.Native.Nat.{ℕ, zero, suc, ◌≤◌, ◌<◌}
use mathlib.Core.Path.{◌≡◌, refl}
use mathlib.Core.Logic.{◌↔◌, ◌⊎◌, inl, inr}
use mathlib.Core.List.{List, [], ◌∷◌}
use native.Mathlib.Omega.{arith}
use lib.ListN.{length}
use Rattle.rules.specs.declared.Breach.{Breach}
use Rattle.rules.specs.Numbered.{number_of}
use Rattle.rules.specs.Form.{form_at}
use Rattle.rules.specs.File.{decode}
use Rattle.rules.specs.Refusal.{first_or, refusal}
use Rattle.rules.specs.Lawful.{Lawful, First, here, past, NoBreach, FirstBreach}
use Rattle.rules.specs.Report.{report}
use Rattle.rules.specs.Services.{room_number, report_number, report_answer}
use Rattle.rules.proofs.Breaches.{Says, none_says, over_says, breach_says, breach_or, lawful_past, accepted_lawful}
use Rattle.rules.proofs.Sentences.{no_report_under_52}

-- every breach has a number: 0 is no breach's
pub positive : (breach : Breach) → 0 < number_of breach
positive breach = grind arith

-- A SERVICE'S NUMBER
-- 14, after the file's own, where what was lent has fewer elements than are wanted
pub room_says : (file : List ℕ) (room wanted : ℕ) → Says (first_or (refusal file ∷ []) (room_number room wanted)) (FirstBreach file (First (room < wanted) 14 NoBreach))
unfolding room_number
room_says file room wanted = breach_says (form_at file) file _ (over_says room wanted 14 0 none_says)

module _ {file : List ℕ} {Own : Type 0} {last : ℕ} where
  -- it is 0 exactly where the file is lawful and the service's own breach is not there
  pub none_free : {v : ℕ} → Says v (FirstBreach file (First Own last NoBreach)) → 1 ≤ last → (v ≡ 0) ↔ (Lawful file × ¬ Own)
  none_free says some =
      (λ e. go (breach_or (form_at file) file ((says 0).0 e)), λ x. (says 0).1 (lawful_past (form_at file) file x.0 (past x.1 refl)))
    where
      go : ((1 ≤ 0) × (0 ≤ 13)) ⊎ (Lawful file × First Own last NoBreach 0) → Lawful file × ¬ Own
      go (inl x) = absurd (omega (arith, x.0))
      go (inr (lawful, here own e)) = absurd (omega arith)
      go (inr (lawful, past free e)) = (lawful, free)

  -- and else at most the last
  pub number_most : {v : ℕ} → Says v (FirstBreach file (First Own last NoBreach)) → 13 ≤ last → v ≤ last
  number_most {v} says high = go (breach_or (form_at file) file ((says v).0 refl))
    where
      go : ((1 ≤ v) × (v ≤ 13)) ⊎ (Lawful file × First Own last NoBreach v) → v ≤ last
      go (inl x) = omega (arith, x.1)
      go (inr (lawful, here own e)) = omega arith
      go (inr (lawful, past free e)) = omega arith

-- THE REPORT SERVICE'S
module _ (file : List ℕ) (room : ℕ) where
  pub number_low : report_number file room ≤ 14
  unfolding report_number
  number_low = number_most (room_says file room (length (report (decode file)))) (omega arith)

  -- The answer is a refusal's number, or else the length of a report, from 52 on, that the room holds.
  pub told_apart : ((1 ≤ report_answer file room) × (report_answer file room ≤ 14)) ⊎ ((52 ≤ report_answer file room) × (report_answer file room ≤ room))
  unfolding report_answer report_number first_or
  told_apart = go (report_number file room) refl
    where
      go : (n : ℕ) → report_number file room ≡ n →
          ((1 ≤ first_or (n ∷ []) (length (report (decode file)))) × (first_or (n ∷ []) (length (report (decode file))) ≤ 14))
          ⊎ ((52 ≤ first_or (n ∷ []) (length (report (decode file)))) × (first_or (n ∷ []) (length (report (decode file))) ≤ room))
      go (suc n) e = inl (omega arith, omega (arith, e, number_low))
      go zero e =
          let free = (none_free (room_says file room (length (report (decode file)))) (omega arith)).0 e in
          inr (no_report_under_52 (form_at file) file ((accepted_lawful (form_at file) file).1 free.0), omega (arith, free.1))
