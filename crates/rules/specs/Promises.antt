-- Demands 1 and 3: what is refused, and that however a point passes between providers, nothing is gained or lost; and what P1 asks of the
-- versions. Here they are stated; `proofs/Refused`, `proofs/Kept` and `proofs/Forms` prove them of every file.
use Rattle.std.specs.Prelude.{ℕ, ◌+◌, ◌*◌, ◌≤◌, ◌<◌, ◌≡◌, ◌↔◌, ◌⊎◌, List, [], ◌∷◌, ◌++◌, map, eqb, length, get_or, drop}
use Rattle.rules.specs.declared.Row.{Row}
use Rattle.rules.specs.declared.Statement.{Statement}
use Rattle.rules.specs.declared.Transfer.{Transfer}
use Rattle.rules.specs.Sums.{over}
use Rattle.rules.specs.Lists.{All, Some, Lists, IsLatest}
use Rattle.rules.specs.Calendar.{april_first}
use Rattle.rules.specs.declared.Form.{Form}
use Rattle.rules.specs.Form.{form1, form2, version_at, form_at}
use Rattle.rules.specs.File.{Tariff, Supply, Point, File, prices_at, header_at, bands_at, decode_in, decode}
use Rattle.rules.specs.Refusal.{refusal_in, refusal}
use Rattle.rules.specs.Lawful.{Between, Sound, Lawful, First, NoBreach, FirstBreach}
use Rattle.rules.specs.Charges.{over_charged, Charge, charges}
use Rattle.rules.specs.Settlement.{amount, point_charge, statement, provider_on, over_providers, provider_charge, provider_at, providers_of, rows}
use Rattle.rules.specs.Report.{report}
use Rattle.rules.specs.Services.{rows_answer, rows_after, zero_statement, statement_answer, report_answer, report_after}

-- CHARGED DAYS
-- a charged day of a point: of the year, from its connection day, before its disconnection day
pub record ChargedDay (tariff : Tariff) (supply : Supply) (d : ℕ) : Type 0 where
  pub started : april_first tariff.year ≤ d
  pub ends : d < april_first (tariff.year + 1)
  pub connected : supply.connected ≤ d
  pub disconnected : d < supply.disconnected

-- THE PROVIDER OF A DAY
-- the transfer is the latest on or before the day
abbrev pub LatestTransfer : Point → ℕ → Transfer → Type 0
LatestTransfer point d t = IsLatest (λ u. u.day) point.transfers d t

-- A day belongs to the provider of the latest transfer on or before it, and there is one: no such day is without a provider.
pub record Owned (point : Point) (d : ℕ) : Type 0 where
  pub latest : (t : Transfer) → LatestTransfer point d t → provider_on point d ≡ t.provider
  pub some : (t : Transfer) × LatestTransfer point d t × (1 ≤ t.provider)

-- each charged day of a point is
abbrev pub DaysOwned : Tariff → Point → Type 0
DaysOwned tariff point = (d : ℕ) → ChargedDay tariff point.supply d → Owned point d

-- a charged day of the point belongs to the provider p
abbrev pub HasDay : Tariff → ℕ → Point → Type 0
HasDay tariff p point = (d : ℕ) × ChargedDay tariff point.supply d × (provider_on point d ≡ p)

-- the list has the providers with a charged day at one of the points
abbrev pub ListsProviders : Tariff → List Point → List ℕ → Type 0
ListsProviders tariff points ps = Lists (λ p. Some (HasDay tariff p) points) ps

-- DEMAND 1
-- A file that breaks a rule, a space too short or a point that is not there: the call returns the number of the first breach in the listed
-- order and changes nothing lent to it. Without a breach it never refuses.

-- of the rows service: 14 where the table has fewer entries than there are rows
pub record RowsNumbered (file : List ℕ) (table : List Row) : Type 0 where
  pub first : (n : ℕ) → ((rows_answer file (length table)).number ≡ n) ↔ FirstBreach file (First (length table < length (rows (decode file))) 14 NoBreach) n
  pub free : ((rows_answer file (length table)).number ≡ 0) ↔ (Lawful file × (length (rows (decode file)) ≤ length table))
  pub refused : ¬ ((rows_answer file (length table)).number ≡ 0) → ((rows_answer file (length table)).count ≡ 0) × (rows_after file table ≡ table)

-- of the statement service: 15 where there is no point at that place
pub record StatementNumbered (file : List ℕ) (place : ℕ) : Type 0 where
  pub first : (n : ℕ) → ((statement_answer file place).number ≡ n) ↔ FirstBreach file (First (length (decode file).points ≤ place) 15 NoBreach) n
  pub free : ((statement_answer file place).number ≡ 0) ↔ (Lawful file × (place < length (decode file).points))
  pub refused : ¬ ((statement_answer file place).number ≡ 0) → (statement_answer file place).statement ≡ zero_statement

-- of the report service, whose one number is a length from 52 on, and else a refusal's: 14 where the space is shorter than the report
pub record ReportNumbered (file space : List ℕ) : Type 0 where
  pub first : (n : ℕ) →
      ((report_answer file (length space) ≡ n) × (n < 52))
      ↔ (FirstBreach file (First (length space < length (report (decode file))) 14 NoBreach) n × (1 ≤ n))
  pub free : (52 ≤ report_answer file (length space)) ↔ (Lawful file × (length (report (decode file)) ≤ length space))
  pub refused : report_answer file (length space) < 52 → report_after file space ≡ space

-- What 13 counts: the providers with a charged day, each once. Where none of 1 to 12 is broken, each such day belongs to the provider of the
-- latest transfer on or before it.
pub record Counted (file : List ℕ) : Type 0 where
  pub providers : ListsProviders (decode file).tariff (decode file).points (providers_of (decode file).tariff (decode file).points)
  pub owned : Sound file → All (DaysOwned (decode file).tariff) (decode file).points

-- Demand 1 whole
pub record Demand1 : Type 0 where
  pub lawful : (file : List ℕ) → (refusal file ≡ 0) ↔ Lawful file
  pub first : (file : List ℕ) (n : ℕ) → (refusal file ≡ n) ↔ FirstBreach file NoBreach n
  pub counted : (file : List ℕ) → Counted file
  pub rows : (file : List ℕ) (table : List Row) → RowsNumbered file table
  pub statement : (file : List ℕ) (place : ℕ) → StatementNumbered file place
  pub report : (file space : List ℕ) → ReportNumbered file space

-- DEMAND 3
-- a file is accepted when it breaks none of 1 to 12, nor 13: read by a form, and by that of its own version
abbrev pub AcceptedIn : Form → List ℕ → Type 0
AcceptedIn form bytes = refusal_in form bytes ≡ 0

abbrev pub Accepted : List ℕ → Type 0
Accepted bytes = AcceptedIn (form_at bytes) bytes

-- a point's providers: those to whom a charged day belongs
abbrev pub providers_at : Tariff → Point → List ℕ
providers_at tariff point = providers_of tariff (point ∷ [])

-- NOTHING GAINED OR LOST
-- At a point the providers' days, litres and four charges add up to the statement's.
pub record Conserved (tariff : Tariff) (point : Point) : Type 0 where
  pub providers : ListsProviders tariff (point ∷ []) (providers_at tariff point)
  pub days : over (providers_at tariff point) (λ p. (provider_at tariff point p).days.0) ≡ (statement tariff point.supply).days.0
  pub litres : over (providers_at tariff point) (λ p. (provider_at tariff point p).litres.0) ≡ (statement tariff point.supply).litres.0
  pub charges : (i : ℕ) → over (providers_at tariff point) (λ p. amount (provider_at tariff point p).charges i) ≡ amount (statement tariff point.supply).charges i

-- NEARNESS
-- an amount is less than one centipenny above or below the exact fraction of a sum by a divisor, judged after multiplying by the divisor
pub record Near (amount sum divisor : ℕ) : Type 0 where
  pub exact : 0 < divisor
  pub above : amount * divisor < sum + divisor
  pub below : sum < amount * divisor + divisor

-- a provider's charge at a point, and the point's own, are near the fractions of the sums over their days
pub record ChargeNear (tariff : Tariff) (point : Point) (charge : Charge) : Type 0 where
  pub providers : (p : ℕ) → Near (provider_charge tariff point p charge).0 (over_providers tariff point (λ q. eqb q p) charge.weight) charge.divisor
  pub whole : Near (point_charge tariff point.supply charge).0 (over_charged tariff point.supply charge.weight) charge.divisor

-- each of the four charges is
abbrev pub AllNear : Tariff → Point → Type 0
AllNear tariff point = All (ChargeNear tariff point) (charges tariff point.supply)

-- ROWS
-- A row has the sums over the points of what its provider has at each.
pub record Summed (file : File) (row : Row) : Type 0 where
  pub days : row.days.0 ≡ over file.points (λ point. (provider_at file.tariff point row.provider).days.0)
  pub litres : row.litres.0 ≡ over file.points (λ point. (provider_at file.tariff point row.provider).litres.0)
  pub charges : (i : ℕ) → amount row.charges i ≡ over file.points (λ point. amount (provider_at file.tariff point row.provider).charges i)

-- There is a row for each provider with a charged day at a point, ascending and for no other, and each has the sums.
pub record RowsAreSums (file : File) : Type 0 where
  pub providers : ListsProviders file.tariff file.points (map (λ row. row.provider) (rows file))
  pub sums : All (Summed file) (rows file)

-- STATEMENTS
-- the points' statements, in the file's order
abbrev pub statements : File → List Statement
statements file = map (λ point. statement file.tariff point.supply) file.points

-- a file without its transfers
abbrev pub untraded : File → File
untraded file =
    record {
      mark = file.mark;
      version = file.version;
      tariff = file.tariff;
      points = map (λ point. record { number = point.number; supply = point.supply; transfers = [] }) file.points;
    }

-- two files are alike except in transfers: every field is equal but the points' transfer counts and the transfer records
abbrev pub Alike : File → File → Type 0
Alike a b = untraded a ≡ untraded b

-- Two accepted files alike except in transfers have the same statements, in all nine figures.
abbrev pub SameStatements : Type 0
SameStatements = (a b : List ℕ) → Accepted a → Accepted b → Alike (decode a) (decode b) →
    (place : ℕ) → statement_answer a place ≡ statement_answer b place

-- SERVICES
-- The rows are those that the rows service writes, the statements those that the statement service hands back, and the report that which the
-- report service writes: of every table with room and every point, with number 0, and of every space with room.
pub record Served (bytes : List ℕ) : Type 0 where
  pub rows : (table : List Row) → length (rows (decode bytes)) ≤ length table →
      (rows_answer bytes (length table) ≡ record { number = 0; count = length (rows (decode bytes)) })
      × (rows_after bytes table ≡ rows (decode bytes) ++ drop (length (rows (decode bytes))) table)
  pub statements : (place : ℕ) → place < length (decode bytes).points → statement_answer bytes place ≡ record { number = 0; statement = get_or (statements (decode bytes)) place zero_statement }
  pub report : (space : List ℕ) → length (report (decode bytes)) ≤ length space →
      (report_answer bytes (length space) ≡ length (report (decode bytes)))
      × (report_after bytes space ≡ report (decode bytes) ++ drop (length (report (decode bytes))) space)

-- what is promised of what one accepted file holds
pub record Promised (file : File) : Type 0 where
  pub owned : All (DaysOwned file.tariff) file.points
  pub conserved : All (Conserved file.tariff) file.points
  pub near : All (AllNear file.tariff) file.points
  pub rows : RowsAreSums file

-- Demand 3 whole. P1: "Conservation of days, litres and charges is to hold for either version, shown over the width of the count." It holds over
-- every form, whatever its width and its most points, and so for the file's own version, by which the services go (`served`, `alike`).
pub record Demand3 : Type 0 where
  pub kept : (form : Form) (bytes : List ℕ) → AcceptedIn form bytes → Promised (decode_in form bytes)
  pub same : (form : Form) (a b : List ℕ) → Alike (decode_in form a) (decode_in form b) →
      statements (decode_in form a) ≡ statements (decode_in form b)
  pub served : (bytes : List ℕ) → Accepted bytes → Served bytes
  pub alike : SameStatements

-- P1, VERSIONS
-- a file is read and refused by a form
pub record ReadBy (form : Form) (bytes : List ℕ) : Type 0 where
  pub file : decode bytes ≡ decode_in form bytes
  pub number : refusal bytes ≡ refusal_in form bytes

-- A file that is not too long and has the 14 bytes that a header takes in either version: 1 and 2 come before what the header says.
abbrev pub HasHeader : List ℕ → Type 0
HasHeader bytes = (length bytes ≤ 65536) × (14 ≤ length bytes)

-- the header's count of points is from 1 to a most: document 01's "points 7 (1 to 64)", P1's "9 bits (1 to 256)"
abbrev pub CountTo : ℕ → List ℕ → Type 0
CountTo most bytes = Between 1 most (header_at bytes).points

-- "Version 1 files are read as before", by the form that document 01 gives, and version 2 by its own. "Version 4-bit values other than 1 and 2 are
-- still number 3." "Later fields move by two bits": the prices and rates, and the bands, from which the points run on. A count outside its version's
-- range is 4, whatever its bits could hold.
pub record Versions : Type 0 where
  pub first : (bytes : List ℕ) → version_at bytes ≡ 1 → ReadBy form1 bytes
  pub second : (bytes : List ℕ) → version_at bytes ≡ 2 → ReadBy form2 bytes
  pub moved : (prices_at form2 ≡ prices_at form1 + 2) × (bands_at form2 ≡ bands_at form1 + 2)
  pub known : (bytes : List ℕ) → Accepted bytes → ((version_at bytes ≡ 1) × CountTo 64 bytes) ⊎ ((version_at bytes ≡ 2) × CountTo 256 bytes)
  pub others : (bytes : List ℕ) → HasHeader bytes → ¬ (version_at bytes ≡ 1) → ¬ (version_at bytes ≡ 2) → refusal bytes ≡ 3
  pub counts : (bytes : List ℕ) → HasHeader bytes → (header_at bytes).mark ≡ 0x5753 →
      ((version_at bytes ≡ 1) × ¬ CountTo 64 bytes) ⊎ ((version_at bytes ≡ 2) × ¬ CountTo 256 bytes) → refusal bytes ≡ 4
