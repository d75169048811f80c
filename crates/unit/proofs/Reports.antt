-- What was written is within the space; and an accepted file's rows, what a report asks of them, and its report. Assumes nothing.
use Prim.Native.Nat.{ℕ, suc, ◌^◌, ◌≤◌, ◌<◌}
use native.Mathlib.Omega.{arith}
use mathlib.Core.Path.{◌≡◌, sym, ap, ◌∙◌}
use mathlib.Core.List.{List, [], ◌∷◌, ◌++◌, append-nil}
use Prim.{tt}
use Rattle.std.specs.Prelude.{Result, Ok, Err, IfOk, map}
use lib.ListN.{length, length-map, length-append, get_or, take, drop}
use Rattle.std.proofs.lemmas.List.{drop_all, length-take}
use Rattle.rules.specs.declared.Header.{Header}
use Rattle.rules.specs.declared.Breach.{Breach}
use Rattle.rules.specs.Numbered.{refusal_of, one_number}
use Rattle.rules.specs.declared.Row.{Row}
use Rattle.rules.specs.File.{Tariff, Point, File, decode, decode_in}
use Rattle.rules.specs.Lists.{All}
use Rattle.rules.specs.Refusal.{first_or}
use Rattle.rules.specs.Settlement.{rows, row_and, clear_row, providers_of}
use Rattle.rules.specs.Report.{report_of, report}
use Rattle.rules.specs.Services.{written, room_number, length_or, space_after}
use Rattle.rules.specs.Good.{Good}
use Rattle.report.specs.Once.{Numbers}
use Rattle.rules.specs.Fits.{Fits, AllFit}
use Rattle.rules.proofs.Lists.{all_map}
use Rattle.rules.proofs.Kept.{row_provider}
use Rattle.providers.specs.declared.Accepted.{Accepted}
use Rattle.records.proofs.Walk.{year_to_lem}
use Rattle.settle.proofs.Rows.{rows_fit}

numbered : (tariff : Tariff) (points : List Point) (list : List ℕ) → ((i : ℕ) → get_or list i 0 < 2 ^ 64) → All (λ row. row.provider < 2 ^ 64) (map (λ p. row_and tariff (clear_row p) points) list)
unfolding clear_row
numbered tariff points [] fits = tt
numbered tariff points (p ∷ ps) fits = (rw (row_provider tariff points (clear_row p)) (fits 0), numbered tariff points ps (λ i. fits (suc i)))

-- a text's length is within the space that it was written into
pub within : (text : List ℕ) (r : Result ℕ Breach) (space exit : List ℕ) → one_number r ≡ length_or (length space) text → refusal_of r ≡ room_number (length space) (length text) → exit ≡ space_after text space →
    IfOk r (λ n. n ≤ length exit)
unfolding length_or space_after first_or written
within text (Ok n) space exit a r x =
    let all = sym r in
    omega (arith, rw all at a, ap length (rw all at x), length-append text (drop (length text) space))
within text (Err breach) space exit a r x = tt

-- an accepted file's rows
module _ (accepted : Accepted) where
  abbrev b : List ℕ
  b = accepted.file.bytes.now

  abbrev file : File
  file = decode b

  good : Good b
  good = accepted.file.good

  -- there is a row for each provider
  pub sized_rows : length (rows file) ≡ length accepted.list.items
  unfolding rows
  sized_rows = length-map (providers_of file.tariff file.points) (λ p. row_and file.tariff (clear_row p) file.points) ∙ sym (ap length accepted.providers.is)

  pub few_rows : length (rows file) ≤ 64
  few_rows = omega (arith, sized_rows, accepted.providers.few)

  pub rows_all_fit : AllFit (rows file)
  unfolding rows
  rows_all_fit = all_map Fits (λ p. row_and file.tariff (clear_row p) file.points) (rows_fit b good) (providers_of file.tariff file.points)

  -- each row's provider is one of the file's, which fit
  pub rows_numbered : ((i : ℕ) → get_or accepted.list.items i 0 < 2 ^ 64) → Numbers accepted.file.head.year (rows file)
  unfolding rows
  rows_numbered fits =
      (omega (arith, year_to_lem b good (accepted.file.header, accepted.file.listed.0)), numbered file.tariff file.points (providers_of file.tariff file.points) (rw accepted.providers.is at fits))

  pub report_is : report file ≡ report_of accepted.file.head.service accepted.file.head.year (rows file)
  unfolding report decode_in
  report_is = ap (λ (head : Header). report_of head.service head.year (rows file)) (sym accepted.file.header)

-- a table of no more entries than the rows becomes the rows alone
pub only_rows : (n : ℕ) (xs table : List Row) → n ≤ length xs → written 0 xs (take n table) ≡ xs
unfolding written
only_rows n xs table h = ap (λ rest. xs ++ rest) (drop_all (length xs) (take n table) (omega (arith, length-take n table))) ∙ append-nil xs
