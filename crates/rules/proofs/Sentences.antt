-- Two sentences of document 01 beside demand 3: where V is 0 the volumetric fraction is 0 over 1; and no report is under 52 bytes, so that a
-- length and a refusal's number don't collide. Assumes nothing.
use Prim.Native.Nat.{ℕ, zero, suc, ◌+◌, ◌*◌, ◌/◌, ◌%◌, ◌^◌, ◌≤◌, ◌<◌}
use mathlib.Core.Bool.{Bool, true, false, cond}
use mathlib.Core.Path.{◌≡◌, ap, ◌∙◌}
use mathlib.Core.List.{List, [], ◌∷◌, ◌++◌}
use native.Mathlib.Nat.{zero-mul, mul-zero, pow-suc, one-le-pow, le-div_iff_mul-le}
use native.Mathlib.Omega.{arith}
use native.Mathlib.Decide.{dec_lt}
use lib.Dec.{ltb}
use lib.ListN.{length, length-append}
use borrow.Author.Tests.{le-ltb}
use Rattle.rules.specs.declared.Service.{Service}
use Rattle.rules.specs.declared.Service.TheVariants.{Water, Sewerage}
use Rattle.rules.specs.Sums.{over_days}
use Rattle.rules.specs.declared.Form.{Form}
use Rattle.rules.specs.File.{Point, Tariff, decode_in}
use Rattle.rules.specs.Charges.{over_charged, charged_from, charged_count, volume_on, volume, volumetric_charge}
use Rattle.rules.specs.Settlement.{over_providers, provider_on}
use Rattle.rules.specs.Text.{text, digits, decimal}
use Rattle.rules.specs.Report.{field, service_name, heading, report_of, report}
use Rattle.rules.specs.Promises.{AcceptedIn}
use Rattle.rules.proofs.Shares.{days_eq, days_none}
use Rattle.rules.proofs.Sums.{only_none}
use Rattle.rules.proofs.Kept.{accepted_good}

-- V IS 0
-- where a sum is 0, each day's part is
day_none : (from n : ℕ) (f : ℕ → ℕ) → over_days from n f ≡ 0 → (d : ℕ) → from ≤ d → d < from + n → f d ≡ 0
unfolding over_days
day_none from zero f z d a b = absurd (omega arith)
day_none from (suc n) f z d a b = go (dec_lt d (from + n)) (day_none from n f (omega arith) d a)
  where
    go : Dec (d < from + n) → (d < from + n → f d ≡ 0) → f d ≡ 0
    go (yes h) before = before h
    go (no h) before = let e : d ≡ from + n = omega arith in ap f e ∙ omega arith

-- whoever's days are summed, the sum is 0 and the divisor 1
pub no_volume : (tariff : Tariff) (point : Point) → volume tariff point.supply ≡ 0 → (test : ℕ → Bool) →
    (over_providers tariff point test (volumetric_charge tariff point.supply).weight ≡ 0) × ((volumetric_charge tariff point.supply).divisor ≡ 1)
unfolding volume over_charged over_providers volumetric_charge
no_volume tariff point z test =
    let supply = point.supply in
    let from = charged_from tariff supply in
    let n = charged_count tariff supply in
    (days_eq from n (λ d a b. simp (day_none from n (volume_on supply) z d a b, zero-mul, mul-zero) (only_none (test (provider_on point d)))) ∙ days_none from n, simp z)

-- LENGTHS
digits_some : (more n : ℕ) → 1 ≤ length (digits more n)
unfolding digits
digits_some zero n = omega arith
digits_some (suc more) n = pick (ltb n 10)
  where
    pick : (t : Bool) → 1 ≤ length (cond t ((48 + n) ∷ []) (digits more (n / 10) ++ (48 + n % 10) ∷ []))
    pick true = omega arith
    pick false = simp length-append (omega arith)

-- a number that is at least 10 to the power k has more than k digits
pub digits_long : (k more n : ℕ) → 10 ^ k ≤ n → k ≤ more → suc k ≤ length (digits more n)
unfolding digits
digits_long zero more n h m = digits_some more n
digits_long (suc k) zero n h m = absurd (omega arith)
digits_long (suc k) (suc more) n h m =
    let tenfold : 10 ^ k * 10 ≤ n = rw pow-suc at h in
    let some : 1 ≤ 10 ^ k = one-le-pow k 10 (omega arith) in
    let shorter = digits_long k more (n / 10) ((le-div_iff_mul-le {k = 10} (omega arith)).1 tenfold) (omega arith) in
    simp (le-ltb n 10 (omega arith), length-append) (omega arith)

service_long : (service : Service) → 5 ≤ length (service_name service)
unfolding service_name text
service_long Water = omega arith
service_long Sewerage = omega arith

pub no_report_under_52 : (form : Form) (bytes : List ℕ) → AcceptedIn form bytes → 52 ≤ length (report (decode_in form bytes))
unfolding report report_of heading field text decimal
no_report_under_52 form bytes h =
    let file = decode_in form bytes in
    let year : 2020 ≤ file.tariff.year = (accepted_good form bytes h).header.year_from in
    let four = digits_long 3 file.tariff.year file.tariff.year (omega arith) (omega arith) in
    simp length-append (omega (arith, service_long file.tariff.service))
